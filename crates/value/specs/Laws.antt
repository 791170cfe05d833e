-- What holds of the operators, in the words of arithmetic. Assumes nothing.
use Rattle.std.specs.Prelude.{◌≡◌, ℕ, ◌<◌, ℤ, pos, negsuc, ◌+ℤ◌, ◌*ℤ◌, ◌≤ℤ◌, Ok, Err, FitsSigned, ◌≢◌, unsigned_abs}
use Rattle.std.specs.Int.{w64}
use Rattle.reason.specs.declared.faults.RunFault.TheVariants.{ZeroDivisor}
use Rattle.value.specs.Binary.{evaluated}
use Rattle.value.specs.Unary.{cast_of}
use Rattle.value.specs.declared.kinds.Kind.TheVariants as kind
use Rattle.value.specs.declared.values.Stop.TheVariants.{Fault}
use Rattle.value.specs.declared.values.Value.TheVariants.{Int, Char}

-- the smallest number of 64 bits, -2^63
abbrev pub smallest : ℤ
smallest = negsuc 9223372036854775807

-- a number is 0 or has the sign of another
abbrev pub SignOf : ℤ → ℤ → Type 0
SignOf (pos n) m = pos 0 ≤ℤ m
SignOf (negsuc n) m = m ≤ℤ pos 0

-- a number divided by another: quotient × divisor + remainder = dividend, the remainder is smaller in size than the divisor and has the
-- dividend's sign; so the quotient has lost its fraction towards zero
pub record Division (a b : ℤ) : Type 0 where
  pub quotient : ℤ
  pub remainder : ℤ
  pub divides : evaluated 10 (Int a) (Int b) ≡ Ok (Int quotient)
  pub leaves : evaluated 11 (Int a) (Int b) ≡ Ok (Int remainder)
  pub whole : quotient *ℤ b +ℤ remainder ≡ a
  pub smaller : unsigned_abs remainder < unsigned_abs b
  pub sign : SignOf a remainder

-- that holds of all numbers of 64 bits, but for a divisor of 0, which is a fault, and the smallest number over -1, which wraps
pub record Dividing : Type 0 where
  pub plain : (a b : ℤ) → FitsSigned w64 a → FitsSigned w64 b → (b ≢ pos 0) → (a ≡ smallest → b ≢ negsuc 0) → Division a b
  pub by_zero : (a : ℤ) → evaluated 10 (Int a) (Int (pos 0)) ≡ Err (Fault ZeroDivisor)
  pub rest_by_zero : (a : ℤ) → evaluated 11 (Int a) (Int (pos 0)) ≡ Err (Fault ZeroDivisor)
  pub wraps : evaluated 10 (Int smallest) (Int (negsuc 0)) ≡ Ok (Int smallest)
  pub rest_wraps : evaluated 11 (Int smallest) (Int (negsuc 0)) ≡ Ok (Int (pos 0))

-- a number cast to char: 0 to 255, and the number is that much above a multiple of 256
pub record CharOf (n : ℤ) : Type 0 where
  pub byte : ℕ
  pub cast : cast_of kind.Char n ≡ Ok (Char byte)
  pub small : byte < 256
  pub times : ℤ
  pub above : pos 256 *ℤ times +ℤ pos byte ≡ n

abbrev pub Casting : Type 0
Casting = (n : ℤ) → CharOf n
