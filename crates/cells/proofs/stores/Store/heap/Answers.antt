use Rattle.std.proofs.Common.{◌-◌, length, drop, ap, ◌∙◌, arith}
use Rattle.std.proofs.lemmas.List.{take_all, length-drop}
use Rattle.cells.proofs.stores.Store.heap.Goals as goal

pub returns-clause-value : goal.returns-clause-value
returns-clause-value c =
    let all = take_all (length c.deref.result.now - 1024) (drop 1024 c.deref.result.now) (omega (arith, length-drop 1024 c.deref.result.now)) in
    all ∙ ap (drop 1024) c.deref.ensures.value ∙ ap (λ m. drop 1024 m.cells) c.self.view_is
