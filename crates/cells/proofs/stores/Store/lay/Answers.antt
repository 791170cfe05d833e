use Rattle.std.proofs.Common.{◌+◌, arith}
use Rattle.cells.specs.Layouts.{fresh}
use Rattle.cells.specs.Memory.{IsMemory, Memory}
use Rattle.cells.proofs.Kept.{drop-row_put, take-row_put}
use Rattle.cells.proofs.Rows.{length-fresh, row_in_memory}
use Rattle.cells.proofs.stores.Store.lay.Goals as goal

pub returns-clause-heap : goal.returns-clause-heap
returns-clause-heap g c =
    let ks = g.L.Layout.kinds c.args.layout.now in
    rw (c.revive.ensures, ← c.self.view_is) (drop-row_put 1024 c.self.inside.cells.items c.self.inside.used (fresh ks) (omega (arith, length-fresh ks)))

pub returns-clause-first : goal.returns-clause-first
returns-clause-first g c = grind (arith, take-row_put)

pub returns-clause-memory : goal.returns-clause-memory
returns-clause-memory g c =
    let held = c.self.invariant in
    let m : Memory = record { cells = c.self.inside.cells.items; used = c.self.inside.used + c.size-size.result; blocks = c.self.inside.blocks.items } in
    let more : IsMemory m = record { cells = held.cells; used = omega (arith, c.size-size.ensures.value); blocks = held.blocks; some = held.some } in
    (rw (← c.self.view_is) held, rw c.revive.ensures (row_in_memory c.self.inside.used (fresh (g.L.Layout.kinds c.args.layout.now)) m more))
