use Rattle.std.proofs.Common.{◌-◌, replicate, arith}
use Rattle.std.proofs.lemmas.List.{length-replicate}
use Rattle.cells.specs.declared.cell.Cell.TheVariants.{Dead}
use Rattle.cells.proofs.Kept.{drop-row_put, take-row_put}
use Rattle.cells.proofs.stores.Store.give_up.Goals as goal

pub returns-then-mark-used-clause-heap : goal.returns-then-mark-used-clause-heap
returns-then-mark-used-clause-heap c =
    let n = c.self.inside.used - c.args.mark in
    rw (c.clear.ensures.after, ← c.self.view_is) (drop-row_put 1024 c.self.inside.cells.items c.args.mark (replicate n Dead) (omega (arith, c.self.invariant.used, length-replicate n Dead)))

pub returns-then-mark-used-clause-first : goal.returns-then-mark-used-clause-first
returns-then-mark-used-clause-first c = grind (arith, take-row_put)
