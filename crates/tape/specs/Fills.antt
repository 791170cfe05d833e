-- Fill: what follows the reply in an entry's frame. Assumes nothing.
use Rattle.std.specs.Prelude.{◌≡◌, ℕ, ◌+◌, ◌-◌, ◌*◌, ◌/◌, ◌%◌, ◌<◌, ◌≤◌, Bool, cond, List, map, length, nat_le, slice_index}
use Rattle.std.specs.List.{enumerate_from}
use Rattle.buffers.specs.Records.{record_at}
use Rattle.tape.specs.Entries.{reply_count}

-- two tapes differ only in fill: they are equally long, and in each entry the bytes up to the reply's end are the same
pub record OnlyFill (bs cs : List ℕ) : Type 0 where
  pub size : length bs ≡ length cs
  pub bytes : (k i : ℕ) → 1 ≤ k → k ≤ length bs / 18 → i < 18 → i < 11 + reply_count (record_at bs k) → slice_index (record_at bs k) i ≡ slice_index (record_at cs k) i

-- whether byte p of a tape is fill, by the count in the frame that it lies in
abbrev pub is_fill : List ℕ → ℕ → Bool
is_fill bs p = nat_le (11 + slice_index bs (18 * (p / 18) + 10)) (p % 18)

-- byte p of a tape whose fill is inverted
abbrev pub inverted_byte : List ℕ → ℕ → ℕ → ℕ
inverted_byte bs p x = cond (is_fill bs p) (255 - x) x

-- the same tape with every fill byte replaced by another, all its bits inverted
abbrev pub inverted : List ℕ → List ℕ
inverted bs = map (λ b. inverted_byte bs b.0 b.1) (enumerate_from 0 bs)
