-- The first row of dead cells that is long enough. Assumes nothing.
use Rattle.std.specs.Prelude.{ℕ, zero, suc, Bool, true, false, cond, ◌&&◌, List, length, Some, None, Option, slice_index_or}
use Rattle.value.specs.declared.kinds.Kind.TheVariants as kind
use Rattle.cells.specs.declared.cell.Cell.{Cell}
use Rattle.cells.specs.declared.cell.Cell.TheVariants as cell

abbrev pub is_dead : Cell → Bool
is_dead cell.Dead = true
is_dead (cell.Unwritten k) = false
is_dead (cell.Char c) = false
is_dead (cell.Int n) = false
is_dead (cell.Bool b) = false
is_dead (cell.Pointer n) = false

-- past the end no cell is dead
abbrev pub dead_at : List Cell → ℕ → Bool
dead_at cs i = is_dead (slice_index_or cs i (cell.Unwritten kind.Char))

-- n dead cells in a row from i on
unfoldable pub row : List Cell → ℕ → ℕ → Bool
row cs i zero = true
row cs i (suc n) = dead_at cs i && row cs (suc i) n

-- the first of d places from i on where such a row begins
unfoldable pub first_from : List Cell → ℕ → ℕ → ℕ → Option ℕ
first_from cs n i zero = None
first_from cs n i (suc d) = let r = first_from cs n (suc i) d in cond (row cs i n) (Some i) r

unfoldable pub first_row : List Cell → ℕ → Option ℕ
first_row cs n = first_from cs n 0 (length cs)
