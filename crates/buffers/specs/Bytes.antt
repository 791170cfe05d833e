-- Lists of bytes. Assumes nothing.
use Rattle.std.specs.Prelude.{ℕ, ◌<◌, cond, List, [], ◌∷◌, ◌++◌, length, Some, None, Option, nat_lt, slice_index}

-- each number is below m; past the end stands 0
abbrev pub Below : ℕ → List ℕ → Type 0
Below m xs = (k : ℕ) → slice_index xs k < m

abbrev pub Bytes : List ℕ → Type 0
Bytes bs = Below 256 bs

-- byte i, counted from 0 and absent exactly from the length on
abbrev pub byte_at : List ℕ → ℕ → Option ℕ
byte_at bs i = cond (nat_lt i (length bs)) (Some (slice_index bs i)) None

-- one byte more, where fewer than n are there
abbrev pub pushed : ℕ → List ℕ → ℕ → List ℕ
pushed n bs b = cond (nat_lt (length bs) n) (bs ++ b ∷ []) bs
