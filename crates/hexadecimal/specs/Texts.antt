-- Byte strings as hexadecimal text. Assumes nothing.
use Rattle.std.specs.Prelude.{ℕ, ◌/◌, ◌%◌, List, [], ◌∷◌, Some, None, Option}
use Rattle.std.specs.List.{flat_map}
use Rattle.hexadecimal.specs.Digits.{pair_of, glyph_of}

abbrev pub before : Option ℕ → Option (List ℕ) → Option (List ℕ)
before None rest = None
before (Some b) None = None
before (Some b) (Some bs) = Some (b ∷ bs)

-- the bytes that a text stands for, two digits each
abbrev pub bytes_of : List ℕ → Option (List ℕ)
bytes_of [] = Some []
bytes_of (c ∷ []) = None
bytes_of (c ∷ (d ∷ text)) = before (pair_of c d) (bytes_of text)

-- a byte's two digits
abbrev pub digits_of : ℕ → List ℕ
digits_of b = glyph_of (b / 16) ∷ glyph_of (b % 16) ∷ []

abbrev pub text_of : List ℕ → List ℕ
text_of bs = flat_map digits_of bs
