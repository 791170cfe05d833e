-- Cells and what reading and writing one gives. Assumes nothing.
use Rattle.std.specs.Prelude.{ℕ, zero, suc, ◌+◌, Bool, false, cond, List, ℤ, pos, negsuc, Some, None, Ok, Err, Option, Result, ◌==◌, nat_lt, slice_index_or}
use Rattle.reason.specs.declared.faults.RunFault.TheVariants as runfault
use Rattle.value.specs.Values.{Given, kind_of}
use Rattle.value.specs.declared.kinds.Kind.{Kind}
use Rattle.value.specs.declared.kinds.Kind.TheVariants as kind
use Rattle.value.specs.declared.values.Stop.{Stop}
use Rattle.value.specs.declared.values.Stop.TheVariants.{Fault, Misfit}
use Rattle.value.specs.declared.values.Value.{Value}
use Rattle.value.specs.declared.values.Value.TheVariants as value
use Rattle.cells.specs.declared.cell.Cell.{Cell}
use Rattle.cells.specs.declared.cell.Cell.TheVariants as cell

-- the kind of a cell that is alive
abbrev pub kind_in : Cell → Option Kind
kind_in cell.Dead = None
kind_in (cell.Unwritten k) = Some k
kind_in (cell.Char c) = Some kind.Char
kind_in (cell.Int n) = Some kind.Int
kind_in (cell.Bool b) = Some kind.Bool
kind_in (cell.Pointer n) = Some kind.Pointer

abbrev pub rank : Kind → ℕ
rank kind.Char = 0
rank kind.Int = 1
rank kind.Bool = 2
rank kind.Pointer = 3

abbrev pub is_kind : Option Kind → Kind → Bool
is_kind None k = false
is_kind (Some j) k = rank j == rank k

-- the cell read or written is dead, absent or of another kind
abbrev pub no_cell : {X : Type 0} → Result X Stop
no_cell = Err (Fault runfault.NoCell)

-- what a cell that is alive holds, or that it was never written
abbrev pub contents_of : Cell → Given
contents_of cell.Dead = no_cell
contents_of (cell.Unwritten k) = Err (Fault runfault.Unwritten)
contents_of (cell.Char c) = Ok (value.Char c)
contents_of (cell.Int n) = Ok (value.Int n)
contents_of (cell.Bool b) = Ok (value.Bool b)
contents_of (cell.Pointer n) = Ok (value.Pointer n)

abbrev pub cell_of : Value → Cell
cell_of value.Nothing = cell.Dead
cell_of (value.Char c) = cell.Char c
cell_of (value.Int n) = cell.Int n
cell_of (value.Bool b) = cell.Bool b
cell_of (value.Pointer n) = cell.Pointer n

-- reading as a kind
abbrev pub read_cell : Kind → Cell → Given
read_cell k c = cond (is_kind (kind_in c) k) (contents_of c) no_cell

abbrev pub as_kind : Option Kind → Value → Cell → Result Cell Stop
as_kind None v c = Err Misfit
as_kind (Some k) v c = cond (is_kind (kind_in c) k) (Ok (cell_of v)) no_cell

-- the cell that writing a value makes of one
abbrev pub written_by : Value → Cell → Result Cell Stop
written_by v c = as_kind (kind_of v) v c

-- cells are numbered from 1 to 2,048
abbrev pub index_of : ℤ → Option ℕ
index_of (pos zero) = None
index_of (pos (suc n)) = cond (nat_lt n 2048) (Some n) None
index_of (negsuc n) = None

-- the number of the cell at a place
abbrev pub address_of : ℕ → ℤ
address_of i = pos (i + 1)

abbrev pub at : Option ℕ → List Cell → Cell
at None cs = cell.Dead
at (Some i) cs = slice_index_or cs i cell.Dead

-- the cell at an address; where there is none, a dead one
abbrev pub cell_at : List Cell → ℤ → Cell
cell_at cs a = at (index_of a) cs
