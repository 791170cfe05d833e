-- What a store holds. Assumes nothing.
use Rattle.cells.specs.Memory.{Memory}
use Rattle.cells.specs.declared.stores.Store.TheInside.{Inside}

abbrev pub memory : Inside → Memory
memory s = record { cells = s.cells.items; used = s.used; blocks = s.blocks.items }
