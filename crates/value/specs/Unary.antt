-- The unary operators, by their codes: 1 ! · 2 + · 3 -; and casts. Assumes nothing.
use Rattle.std.specs.Prelude.{ℕ, cond, not, ℤ, pos, neg_ℤ, Ok, ◌==◌, unsigned_abs}
use Rattle.std.specs.Int.{int_rem_euclid, int_wrap, w64}
use Rattle.value.specs.Values.{Given, misfit, truth, with_int, with_bool}
use Rattle.value.specs.declared.kinds.Kind.{Kind}
use Rattle.value.specs.declared.kinds.Kind.TheVariants as kind
use Rattle.value.specs.declared.values.Value.{Value}
use Rattle.value.specs.declared.values.Value.TheVariants as value

abbrev pub applied : ℕ → Value → Given
applied code v =
    cond (code == 1) (with_bool v (λ b. truth (not b)))
    (cond (code == 2) (with_int v (λ n. Ok (value.Int n)))
    (cond (code == 3) (with_int v (λ n. Ok (value.Int (int_wrap w64 (neg_ℤ n)))))
    misfit))

-- a number modulo 256, never negative
abbrev pub low_byte : ℤ → ℕ
low_byte n = unsigned_abs (int_rem_euclid n (pos 256))

-- a number as a value of a kind
abbrev pub cast_of : Kind → ℤ → Given
cast_of kind.Char n = Ok (value.Char (low_byte n))
cast_of kind.Int n = Ok (value.Int n)
cast_of kind.Bool n = misfit
cast_of kind.Pointer n = Ok (value.Pointer n)

-- chars, ints and pointers can be cast
abbrev pub casted : Kind → Value → Given
casted k value.Nothing = misfit
casted k (value.Char c) = cast_of k (pos c)
casted k (value.Int n) = cast_of k n
casted k (value.Bool b) = misfit
casted k (value.Pointer n) = cast_of k n
