use Rattle.std.proofs.Common.{◌≡◌, ◌≢◌, ◌+◌, length, get_or, set, drop, pos, None, Some, Err, sym, refl, ap, ◌∙◌, subst, arith, rules, w64, SFits}
use Rattle.std.proofs.lemmas.Int.{to_z-of_z}
use Rattle.std.proofs.lemmas.List.{length-drop, length-set, get_or-set_same}
use Rattle.std.proofs.lemmas.List.Elements.{All-set}
use Rattle.reason.specs.declared.faults.RunFault.TheVariants.{HeapFull}
use Rattle.value.specs.declared.values.Stop.TheVariants.{Fault}
use Rattle.cells.specs.Laws.{Finds}
use Rattle.cells.specs.Layouts.{fresh}
use Rattle.cells.specs.Memory.{IsMemory, Memory}
use Rattle.cells.specs.Rows.{row_put}
use Rattle.cells.proofs.Found.{found_lowest}
use Rattle.cells.proofs.Kept.{take-row_put}
use Rattle.cells.proofs.Restored.{deleted_back}
use Rattle.cells.proofs.Rows.{length-fresh, row_in_memory, some_cells}
use Rattle.cells.proofs.stores.Store.new_block.Goals as goal

pub returns-then-size-len-clause-lowest : goal.returns-then-size-len-clause-lowest
returns-then-size-len-clause-lowest g c =
    λ j r. omega (arith, r.0, length-drop 1024 c.args.self.now.cells, ap (λ m. length m.cells) c.self.view_is, c.self.invariant.cells, c.self.invariant.blocks)

pub returns-in_err-i-clause-lowest : goal.returns-in_err-i-clause-lowest
returns-in_err-i-clause-lowest g c =
    let heap = drop 1024 c.args.self.now.cells in
    let n = length (g.L.Layout.kinds c.args.layout.now) in
    let refused : c.from_residual.result ≡ Err (Fault HeapFull) = search rules in
    subst (Finds heap n) (sym refused) (found_lowest heap _ n _ None (omega arith) c.heap.ensures.value c.size-size.ensures.value (sym c.in_err-i.ensures.ok_part ∙ c.first_fit.ensures.value))

pub returns-clause-lowest : goal.returns-clause-lowest
returns-clause-lowest g c =
    let i = c.in_ok-i.i in
    let fits : SFits w64 c.address_of.result = search rules in
    let next : 1024 + i + 1 ≡ 1025 + i = omega arith in
    (i, to_z-of_z w64 _ fits ∙ c.address_of.ensures.value ∙ ap pos next, found_lowest _ _ _ _ (Some i) (omega arith) c.heap.ensures.value c.size-size.ensures.value (sym c.in_ok-i.ensures.ok_part ∙ c.first_fit.ensures.value))

pub returns-clause-undone : goal.returns-clause-undone
returns-clause-undone g c =
    let m = c.args.self.now in
    let row = fresh (g.L.Layout.kinds c.args.layout.now) in
    let i = c.in_ok-i.i in
    let within = rw c.in_ok-i.ensures.ok_part at c.first_fit.ensures.within in
    let fits : SFits w64 c.address_of.result = search rules in
    let size : c.size-size.result ≡ length row = c.size-size.ensures.value ∙ sym (length-fresh (g.L.Layout.kinds c.args.layout.now)) in
    let held = ap (λ n. get_or n.blocks i None) c.revive.ensures ∙ get_or-set_same c.self.inside.blocks.items i (Some c.size-size.result) None (omega (arith, within, c.heap.ensures.long, c.self.invariant.blocks)) ∙ ap Some size in
    let put = ap (λ n. n.cells) c.revive.ensures ∙ ap (λ n. row_put n.cells (1024 + i) row) c.self.view_is in
    let lowest = found_lowest (drop 1024 m.cells) _ (length row) _ (Some i) (omega arith) c.heap.ensures.value size (sym c.in_ok-i.ensures.ok_part ∙ c.first_fit.ensures.value) in
    rw (to_z-of_z w64 c.address_of.result fits) (deleted_back m.cells row i c.address_of.result _ c.address_of.ensures.undone held put lowest.0)

pub returns-clause-variables : goal.returns-clause-variables
returns-clause-variables g c =
    rw (c.revive.ensures, ← c.self.view_is) (take-row_put 1024 c.self.inside.cells.items (1024 + c.in_ok-i.i) (fresh (g.L.Layout.kinds c.args.layout.now)) (omega arith), refl)

pub returns-clause-memory : goal.returns-clause-memory
returns-clause-memory g c =
    let held = c.self.invariant in
    let bs = c.self.inside.blocks.items in
    let i = c.in_ok-i.i in
    let some = All-set (λ b. b ≢ Some 0) bs i (Some c.size-size.result) (some_cells _ c.size-size.ensures.some) held.some in
    let m : Memory = record { cells = c.self.inside.cells.items; used = c.self.inside.used; blocks = set bs i (Some c.size-size.result) } in
    let more : IsMemory m = record { cells = held.cells; used = held.used; blocks = length-set bs i (Some c.size-size.result) ∙ held.blocks; some = some } in
    (rw (← c.self.view_is) held, rw c.revive.ensures (row_in_memory (1024 + i) (fresh (g.L.Layout.kinds c.args.layout.now)) m more))
