-- The binary operators, by their codes: 1 | · 2 & · 3 == · 4 != · 5 < · 6 > · 7 <= · 8 >= · 9 * · 10 / · 11 % · 12 + · 13 -.
-- Assumes nothing.
use Rattle.std.specs.Prelude.{ℕ, zero, suc, Bool, cond, not, ◌&&◌, ◌||◌, ℤ, pos, negsuc, ◌+ℤ◌, ◌-ℤ◌, ◌*ℤ◌, Ok, Err, Result, ◌==◌, int_div, int_le, int_lt, int_rem, nat_le}
use Rattle.std.specs.Int.{int_wrap, w64}
use Rattle.reason.specs.declared.faults.RunFault.TheVariants.{ZeroDivisor}
use Rattle.value.specs.Values.{Given, misfit, truth, bit, with_char, with_int, with_bool, with_pointer}
use Rattle.value.specs.declared.values.Stop.{Stop}
use Rattle.value.specs.declared.values.Stop.TheVariants.{Fault, Misfit}
use Rattle.value.specs.declared.values.Value.{Value}
use Rattle.value.specs.declared.values.Value.TheVariants as value

-- | and &: both sides are values already
abbrev pub connected : ℕ → Bool → Bool → Bool
connected code a b = cond (code == 1) (a || b) (a && b)

abbrev pub same_number : ℤ → ℤ → Bool
same_number a b = int_le a b && int_le b a

-- == and !=
abbrev pub equated : ℕ → ℤ → ℤ → Bool
equated code a b = cond (code == 3) (same_number a b) (not (same_number a b))

-- <, >, <= and >=
abbrev pub ordered : ℕ → ℤ → ℤ → Bool
ordered code a b = cond (code == 5) (int_lt a b) (cond (code == 6) (int_lt b a) (cond (code == 7) (int_le a b) (int_le b a)))

-- what a division gives, or the fault of a divisor of 0
abbrev pub unless_zero : {A : Type 0} → ℤ → A → Result A Stop
unless_zero (pos zero) z = Err (Fault ZeroDivisor)
unless_zero (pos (suc n)) z = Ok z
unless_zero (negsuc n) z = Ok z

-- a quotient and a remainder
abbrev pub divided : ℤ → ℤ → Result (ℤ × ℤ) Stop
divided a b = unless_zero b (int_wrap w64 (int_div a b), int_rem a b)

-- *, /, %, + and -: numbers wrap at 64 bits; a quotient drops its fraction towards zero, and a remainder has the dividend's sign
abbrev pub computed : ℕ → ℤ → ℤ → Result ℤ Stop
computed code a b =
    cond (code == 9) (Ok (int_wrap w64 (a *ℤ b)))
    (cond (code == 10) (unless_zero b (int_wrap w64 (int_div a b)))
    (cond (code == 11) (unless_zero b (int_rem a b))
    (cond (code == 12) (Ok (int_wrap w64 (a +ℤ b)))
    (Ok (int_wrap w64 (a -ℤ b))))))

-- the numbers of two values of one kind
abbrev pub numbers_of : Value → Value → Result (ℤ × ℤ) Stop
numbers_of value.Nothing r = Err Misfit
numbers_of (value.Char a) r = with_char r (λ b. Ok (pos a, pos b))
numbers_of (value.Int a) r = with_int r (λ b. Ok (a, b))
numbers_of (value.Bool a) r = with_bool r (λ b. Ok (bit a, bit b))
numbers_of (value.Pointer a) r = with_pointer r (λ b. Ok (a, b))

-- a test of two numbers
abbrev pub tested : (ℤ → ℤ → Bool) → Result (ℤ × ℤ) Stop → Given
tested f (Ok p) = truth (f p.0 p.1)
tested f (Err s) = Err s

-- two values of one kind, by their numbers
abbrev pub matched : (ℤ → ℤ → Bool) → Value → Value → Given
matched f l r = tested f (numbers_of l r)

-- the same, but for bools
abbrev pub compared : (ℤ → ℤ → Bool) → Value → Value → Given
compared f value.Nothing r = misfit
compared f (value.Char a) r = matched f (value.Char a) r
compared f (value.Int a) r = matched f (value.Int a) r
compared f (value.Bool a) r = misfit
compared f (value.Pointer a) r = matched f (value.Pointer a) r

abbrev pub integral : Result ℤ Stop → Given
integral (Ok z) = Ok (value.Int z)
integral (Err s) = Err s

-- the four groups of operators, by the kinds that they take
abbrev pub connective : ℕ → Value → Value → Given
connective code l r = with_bool l (λ a. with_bool r (λ b. truth (connected code a b)))

abbrev pub equality : ℕ → Value → Value → Given
equality code l r = matched (equated code) l r

abbrev pub comparison : ℕ → Value → Value → Given
comparison code l r = compared (ordered code) l r

abbrev pub arithmetic : ℕ → Value → Value → Given
arithmetic code l r = with_int l (λ a. with_int r (λ b. integral (computed code a b)))

-- what an operator gives, by the range that its code lies in
abbrev pub evaluated : ℕ → Value → Value → Given
evaluated code l r =
    cond (nat_le 1 code && nat_le code 2) (connective code l r)
    (cond (nat_le 3 code && nat_le code 4) (equality code l r)
    (cond (nat_le 5 code && nat_le code 8) (comparison code l r)
    (cond (nat_le 9 code && nat_le code 13) (arithmetic code l r)
    misfit)))
