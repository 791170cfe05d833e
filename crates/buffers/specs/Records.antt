-- Records of 18 bytes, the form of cards and tapes. Assumes nothing.
use Rattle.std.specs.Prelude.{ℕ, zero, suc, ◌-◌, ◌*◌, ◌/◌, List, [], ◌∷◌, length, take, drop}

-- the first n records
abbrev pub records : ℕ → List ℕ → List (List ℕ)
records zero bs = []
records (suc n) bs = take 18 bs ∷ records n (drop 18 bs)

-- all whole records
abbrev pub records_of : List ℕ → List (List ℕ)
records_of bs = records (length bs / 18) bs

-- record k, counted from 1
abbrev pub record_at : List ℕ → ℕ → List ℕ
record_at bs k = take 18 (drop (18 * (k - 1)) bs)
