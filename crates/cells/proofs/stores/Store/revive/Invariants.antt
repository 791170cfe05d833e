use Rattle.std.proofs.Common.{◌≡◌, ◌+◌, drop}
use Rattle.cells.specs.Layouts.{fresh}
use Rattle.cells.specs.Memory.{row_in}
use Rattle.cells.proofs.stores.Store.revive.Given as goal

abbrev pub invariant-loop-i : goal.invariant-loop-i
invariant-loop-i g l =
    let ks = g.L.Layout.kinds l.layout in
    row_in (l.at + l.i) (fresh (drop l.i ks)) l.self ≡ row_in l.at (fresh ks) l.initial.self
