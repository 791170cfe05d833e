use Rattle.std.proofs.Common.{◌-◌, length, ap, arith}
use Rattle.std.proofs.lemmas.Grind.{common_steps}
use Rattle.cells.specs.declared.cell.Cell.TheVariants.{Dead}
use Rattle.cells.proofs.Rows.{row_past, row_filled}
use Rattle.cells.proofs.stores.Store.clear.Goals as goal

pub returns-then-at-end : goal.returns-then-at-end
returns-then-at-end c =
    let filled = row_filled c.deref_mut.result.now c.args.at (c.min-end.result - c.args.at) c.args.size Dead (omega (arith, ap length c.deref_mut.ensures.value)) in
    let dead = c.fill.ensures.after (λ y e. e) in
    grind (arith, common_steps, filled, dead)

pub returns-else-at-end : goal.returns-else-at-end
returns-else-at-end c = grind (arith, row_past)
