-- The laws of the operators. Assumes nothing.
use Rattle.std.proofs.Common.{◌≡◌, ◌-◌, ◌/◌, ◌%◌, ℤ, pos, negsuc, Ok, refl, ap, ◌∙◌, arith, w64, SFits, of_z}
use lib.Signed.{quot_z, rem_z}
use Rattle.std.proofs.num.Quotients.{quotient_fits}
use Rattle.std.proofs.lemmas.Int.{ints, int_wrap_fits, quot-rem, rem_below}
use Rattle.std.specs.Int.{int_wrap}
use Rattle.value.specs.Binary.{integral}
use Rattle.value.specs.Laws.{Division, Dividing, Casting, SignOf, smallest}
use Rattle.value.specs.declared.values.Value.TheVariants.{Int}
use Rattle.value.proofs.Divides.{least, nonzero}

rest_sign : (a b : ℤ) → SignOf a (rem_z a b)
rest_sign (pos a) b = omega (arith, ints)
rest_sign (negsuc a) b = omega (arith, ints)

plain_division : (a b : ℤ) → SFits w64 a → SFits w64 b → (b ≡ pos 0 → ⊥) → (a ≡ smallest → b ≡ negsuc 0 → ⊥) → Division a b
plain_division a b fa fb nz least =
    let bits-nz : of_z w64 b ≡ 0 → ⊥ = λ e. nz (omega (arith, ints)) in
    let fq : SFits w64 (quot_z a b) = quotient_fits w64 a b fa fb (λ p q. least (omega (arith, ints)) (omega (arith, ints))) in
    record {
      quotient = quot_z a b;
      remainder = rem_z a b;
      divides = ap integral (nonzero b (int_wrap w64 (quot_z a b)) bits-nz ∙ ap Ok (int_wrap_fits w64 (quot_z a b) fq));
      leaves = ap integral (nonzero b (rem_z a b) bits-nz);
      whole = quot-rem a b;
      smaller = rem_below a b (omega (arith, ints));
      sign = rest_sign a b;
    }

pub dividing : Dividing
dividing = record {
  plain = plain_division;
  by_zero = λ a. refl;
  rest_by_zero = λ a. refl;
  wraps = ap (λ z. Ok (Int z)) least;
  rest_wraps = refl;
}

pub casting : Casting
casting (pos n) = record {
  byte = n % 256;
  cast = refl;
  small = omega arith;
  times = pos (n / 256);
  above = omega (arith, ints);
}
casting (negsuc n) = record {
  byte = 255 - n % 256;
  cast = refl;
  small = omega arith;
  times = negsuc (n / 256);
  above = omega (arith, ints);
}
