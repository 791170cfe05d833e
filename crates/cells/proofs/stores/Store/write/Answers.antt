use Rattle.std.proofs.Common.{sym, ap, ◌∙◌}
use Rattle.cells.specs.Cells.{at, kind_in}
use Rattle.cells.proofs.Kept.{set_same_kind, written_kind}
use Rattle.cells.proofs.stores.Store.write.Goals as goal

pub returns-in-Some-clause-kinds : goal.returns-in-Some-clause-kinds
returns-in-Some-clause-kinds c =
    let cs = c.args.self.now.cells in
    let old = c.cell.ensures.value ∙ ap (λ o. at o cs) (sym c.index_of.ensures.value ∙ c.in-Some.is) in
    let same = written_kind c.args.value c.cell.result c.in_ok-cell.cell (sym c.written.ensures ∙ c.in_ok-cell.was) in
    rw c.put.ensures.after (set_same_kind cs c.in-Some.place c.in_ok-cell.cell (same ∙ ap kind_in old))
