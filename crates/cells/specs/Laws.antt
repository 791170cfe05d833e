-- What the calls on the memory leave as it was, and what `new` finds. Assumes nothing.
use Rattle.std.specs.Prelude.{◌≡◌, ℕ, ◌+◌, ◌<◌, ◌≤◌, List, map, length, take, drop, ℤ, pos, Some, None, Ok, Err, Option, Result, slice_index_or}
use Rattle.value.specs.declared.values.Stop.{Stop}
use Rattle.cells.specs.Cells.{cell_at, kind_in}
use Rattle.cells.specs.Memory.{Memory, deleted}
use Rattle.cells.specs.declared.cell.Cell.{Cell}
use Rattle.cells.specs.declared.cell.Cell.TheVariants.{Dead}

-- every cell has the kind that it had, or is as dead as it was
abbrev pub KeepsKinds : Memory → Memory → Type 0
KeepsKinds m m' = map kind_in m'.cells ≡ map kind_in m.cells

-- no cell of `new`, from 1,025 on, is changed
abbrev pub LeavesHeap : Memory → Memory → Type 0
LeavesHeap m m' = drop 1024 m'.cells ≡ drop 1024 m.cells

-- no cell of a variable, up to 1,024, is changed
abbrev pub LeavesVariables : Memory → Memory → Type 0
LeavesVariables m m' = (take 1024 m'.cells ≡ take 1024 m.cells) × (m'.used ≡ m.used)

-- the first n cells are as they were
abbrev pub KeepsFirst : ℕ → Memory → Memory → Type 0
KeepsFirst n m m' = take n m'.cells ≡ take n m.cells

-- n dead cells stand in a row from place i on
abbrev pub DeadRow : List Cell → ℕ → ℕ → Type 0
DeadRow cs i n = (i + n ≤ length cs) × ((k : ℕ) → k < n → slice_index_or cs (i + k) Dead ≡ Dead)

-- place i is the lowest at which they do; or there is none
abbrev pub Lowest : List Cell → ℕ → Option ℕ → Type 0
Lowest cs n (Some i) = DeadRow cs i n × ((j : ℕ) → j < i → DeadRow cs j n → ⊥)
Lowest cs n None = (j : ℕ) → DeadRow cs j n → ⊥

-- what `new` of n cells finds: the lowest row, numbered from 1,025, or that there is none
abbrev pub Finds : List Cell → ℕ → Result ℤ Stop → Type 0
Finds heap n (Ok a) = (i : ℕ) × (a ≡ pos (1025 + i)) × Lowest heap n (Some i)
Finds heap n (Err s) = Lowest heap n None

-- where `del` is no fault, the cell at the address is dead
abbrev pub Dies : ℤ → Result Unit Stop → Memory → Type 0
Dies a (Ok u) m = cell_at m.cells a ≡ Dead
Dies a (Err s) m = Unit

-- `del` of what `new` gave restores every cell
abbrev pub Restores : Memory → Result ℤ Stop → Memory → Type 0
Restores m (Ok a) m' = (deleted a m').1.cells ≡ m.cells
Restores m (Err s) m' = m' ≡ m
