-- The memory of a run: cells, how many of them variables use, and the blocks of `new`. Assumes nothing.
use Rattle.std.specs.Prelude.{◌≡◌, ℕ, ◌+◌, ◌-◌, ◌≤◌, min, cond, ◌≢◌, List, [], ◌∷◌, length, drop, replicate, ℤ, pos, Some, None, Ok, Err, Option, Result, nat_le, slice_index_or, slice_set}
use Rattle.std.specs.List.{All}
use Rattle.reason.specs.declared.faults.RunFault.TheVariants as runfault
use Rattle.value.specs.Values.{kind_of}
use Rattle.value.specs.declared.kinds.Kind.{Kind}
use Rattle.value.specs.declared.values.Stop.{Stop}
use Rattle.value.specs.declared.values.Stop.TheVariants.{Fault, Misfit}
use Rattle.value.specs.declared.values.Value.{Value}
use Rattle.cells.specs.Cells.{index_of, cell_at, cell_of, written_by}
use Rattle.cells.specs.Fits.{first_row}
use Rattle.cells.specs.Layouts.{fresh}
use Rattle.cells.specs.Rows.{row_put}
use Rattle.cells.specs.declared.cell.Cell.{Cell}
use Rattle.cells.specs.declared.cell.Cell.TheVariants.{Dead}

pub record Memory : Type 0 where
  pub cells : List Cell
  pub used : ℕ
  -- at i the size of the block that begins at cell 1,025 + i, where one does
  pub blocks : List (Option ℕ)

-- every store has 2,048 cells, uses at most 1,024 of them for variables, and may have a block at each of the others, of a cell or more
pub record IsMemory (m : Memory) : Type 0 where
  pub cells : length m.cells ≡ 2048
  pub used : m.used ≤ 1024
  pub blocks : length m.blocks ≡ 1024
  pub some : All (λ b. b ≢ Some 0) m.blocks

-- every cell is dead
abbrev pub empty : Memory
empty = record { cells = replicate 2048 Dead; used = 0; blocks = replicate 1024 None }

abbrev pub with_cells : Memory → List Cell → Memory
with_cells m cs = record { cells = cs; used = m.used; blocks = m.blocks }

-- with a row of cells put in from a place on
abbrev pub row_in : ℕ → List Cell → Memory → Memory
row_in at row m = with_cells m (row_put m.cells at row)

-- an answer, and the memory then
abbrev pub After : Type 0 → Type 0
After X = Result X Stop × Memory

abbrev pub refuses : {X : Type 0} → Stop → Memory → After X
refuses s m = (Err s, m)

-- writing a value at an address
abbrev pub place : Option ℕ → Result Cell Stop → Memory → After Unit
place None (Ok c) m = (Ok tt, m)
place None (Err s) m = refuses s m
place (Some i) (Ok c) m = (Ok tt, with_cells m (slice_set m.cells i c))
place (Some i) (Err s) m = refuses s m

abbrev pub written : ℤ → Value → Memory → After Unit
written a v m = place (index_of a) (written_by v (cell_at m.cells a)) m

-- a row comes to life directly above what is in use; it may not pass cell 1,024
abbrev pub above : List Cell → Memory → After ℤ
above row m =
    cond (nat_le (m.used + length row) 1024)
    (Ok (pos (m.used + 1)), record { cells = row_put m.cells m.used row; used = m.used + length row; blocks = m.blocks })
    (refuses (Fault runfault.StackFull) m)

abbrev pub laid : List Kind → Memory → After ℤ
laid ks m = above (fresh ks) m

-- a parameter's cell comes to life written
abbrev pub laid_as : Option Kind → Value → Memory → After ℤ
laid_as None v m = refuses Misfit m
laid_as (Some k) v m = above (cell_of v ∷ []) m

abbrev pub laid_value : Value → Memory → After ℤ
laid_value v m = laid_as (kind_of v) v m

-- everything above a mark dies
abbrev pub given_up : ℕ → Memory → Memory
given_up mark m = record { cells = row_put m.cells mark (replicate (m.used - mark) Dead); used = min mark m.used; blocks = m.blocks }

-- the size of a block; a row of no cells is none
abbrev pub block_of : ℕ → Option ℕ
block_of n = cond (nat_le 1 n) (Some n) None

-- a block of `new` in the lowest row that is long enough
abbrev pub block_at : Option ℕ → List Kind → Memory → After ℤ
block_at None ks m = refuses (Fault runfault.HeapFull) m
block_at (Some i) ks m = (Ok (pos (1025 + i)), record { cells = row_put m.cells (1024 + i) (fresh ks); used = m.used; blocks = slice_set m.blocks i (block_of (length ks)) })

abbrev pub new_block : List Kind → Memory → After ℤ
new_block ks m = cond (nat_le (length ks) 1024) (block_at (first_row (drop 1024 m.cells) (length ks)) ks m) (refuses (Fault runfault.HeapFull) m)

-- the block that begins at a place dies; one of no cells is none
abbrev pub drop_block : ℕ → Option ℕ → Memory → After Unit
drop_block i None m = refuses (Fault runfault.NotABlock) m
drop_block i (Some n) m =
    cond (nat_le 1 n)
    (Ok tt, record { cells = row_put m.cells (1024 + i) (replicate n Dead); used = m.used; blocks = slice_set m.blocks i None })
    (refuses (Fault runfault.NotABlock) m)

abbrev pub deleted_at : Option ℕ → Memory → After Unit
deleted_at None m = refuses (Fault runfault.NotABlock) m
deleted_at (Some j) m = cond (nat_le 1024 j) (drop_block (j - 1024) (slice_index_or m.blocks (j - 1024) None) m) (refuses (Fault runfault.NotABlock) m)

abbrev pub deleted : ℤ → Memory → After Unit
deleted a m = deleted_at (index_of a) m
