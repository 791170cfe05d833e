-- Division at 64 bits. Assumes nothing.
use Rattle.std.proofs.Common.{◌≡◌, zero, suc, ℤ, pos, negsuc, Ok, refl, w64, of_z}
use lib.Signed.{quot_z}
use Rattle.std.specs.Int.{int_wrap}
use Rattle.value.specs.Binary.{unless_zero}

pub nonzero : {A : Type 0} (b : ℤ) (z : A) → (of_z w64 b ≡ 0 → ⊥) → unless_zero b z ≡ Ok z
nonzero (pos zero) z h = absurd (h refl)
nonzero (pos (suc n)) z h = refl
nonzero (negsuc n) z h = refl

pub least : int_wrap w64 (quot_z (negsuc 9223372036854775807) (negsuc 0)) ≡ negsuc 9223372036854775807
unfolding int_wrap
least = refl
