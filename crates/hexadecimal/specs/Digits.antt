-- Hexadecimal digits. Assumes nothing.
use Rattle.std.specs.Prelude.{ℕ, ◌+◌, ◌-◌, ◌*◌, cond, ◌&&◌, Some, None, Option, nat_le, nat_lt}

-- the value of a digit: 0 to 9, a to f, A to F
abbrev pub digit_of : ℕ → Option ℕ
digit_of c =
    cond (nat_le 48 c && nat_le c 57) (Some (c - 48))
    (cond (nat_le 97 c && nat_le c 102) (Some (c - 97 + 10))
    (cond (nat_le 65 c && nat_le c 70) (Some (c - 65 + 10)) None))

abbrev pub byte_of : Option ℕ → Option ℕ → Option ℕ
byte_of None low = None
byte_of (Some h) None = None
byte_of (Some h) (Some l) = Some (16 * h + l)

-- the byte that two digits stand for
abbrev pub pair_of : ℕ → ℕ → Option ℕ
pair_of high low = byte_of (digit_of high) (digit_of low)

-- the digit, in lower case, of a value below 16
abbrev pub glyph_of : ℕ → ℕ
glyph_of n = cond (nat_lt n 10) (48 + n) (87 + n)
