use Rattle.std.proofs.Common.{◌≡◌, ◌≤◌, get_or, replicate, Some, sym, refl, ap, ◌∙◌, arith, rules, w64}
use Rattle.std.proofs.lemmas.Int.{to_z-of_z}
use Rattle.cells.specs.Cells.{at, index_of}
use Rattle.cells.specs.declared.cell.Cell.TheVariants.{Dead}
use Rattle.cells.proofs.Kept.{take-row_put}
use Rattle.cells.proofs.Rows.{dead_first}
use Rattle.cells.proofs.stores.Store.delete.Goals as goal

pub returns-clause-variables : goal.returns-clause-variables
returns-clause-variables c =
    let above = rw c.in_ok-i.ensures.ok_part at c.checked_sub.ensures in
    rw (c.clear.ensures.after, ← c.self.view_is) (take-row_put 1024 c.self.inside.cells.items c.in_ok-place.place (replicate c.from.result Dead) (omega arith), refl)

pub returns-clause-dies : goal.returns-clause-dies
returns-clause-dies c =
    let place = c.in_ok-place.place in
    let there : Some place ≡ index_of c.args.address = sym c.in_ok-place.ensures.ok_part ∙ c.index_of.ensures.value ∙ ap index_of (to_z-of_z w64 c.args.address c.ranges.address) in
    let some : 1 ≤ c.from.result = search rules in
    ap (λ o. at o c.clear.new.self.cells) (sym there) ∙ ap (λ m. get_or m.cells place Dead) c.clear.ensures.after ∙ dead_first c.self.inside.cells.items place c.from.result some
