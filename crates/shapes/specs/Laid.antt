-- A shape of a table as a layout. Assumes nothing.
use Rattle.std.specs.Prelude.{cond, List, length, Some, None, Option, nat_lt}
use Rattle.value.specs.declared.kinds.Kind.{Kind}
use Rattle.shapes.specs.Tables.{kinds_at}
use Rattle.shapes.specs.declared.laid.Laid.{Laid}

abbrev pub kinds_in : Laid → List Kind
kinds_in l = kinds_at l.table.now l.place

-- a row of at least one cell
abbrev pub laid_at : List Kind → Option (List Kind)
laid_at ks = cond (nat_lt 0 (length ks)) (Some ks) None
