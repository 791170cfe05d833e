-- Rows of kinds. Assumes nothing.
use Rattle.std.specs.Prelude.{ℕ, List, map, Option, slice_get}
use Rattle.value.specs.declared.kinds.Kind.{Kind}
use Rattle.cells.specs.declared.cell.Cell.{Cell}
use Rattle.cells.specs.declared.cell.Cell.TheVariants.{Unwritten}

-- the kind at i, counted from 0 and absent from the length on
abbrev pub kind_at : List Kind → ℕ → Option Kind
kind_at ks i = slice_get ks i

-- cells that have just come to life
abbrev pub fresh : List Kind → List Cell
fresh ks = map Unwritten ks
