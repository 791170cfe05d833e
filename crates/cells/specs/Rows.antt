-- Rows of cells in the table. Assumes nothing.
use Rattle.std.specs.Prelude.{ℕ, ◌+◌, List, [], ◌∷◌, slice_set}
use Rattle.cells.specs.declared.cell.Cell.{Cell}

-- the table with a row of cells put in from a place on
abbrev pub row_put : List Cell → ℕ → List Cell → List Cell
row_put cs at [] = cs
row_put cs at (x ∷ xs) = row_put (slice_set cs at x) (at + 1) xs
