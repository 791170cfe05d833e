use Rattle.std.proofs.Common.{◌≡◌, ℕ, List, length, drop, replicate, sym, subst, arith, lit<}
use Rattle.std.proofs.lemmas.List.{length-append, length-drop, length-replicate, length-take}
use Rattle.buffers.specs.Bytes.{Below}
use Rattle.buffers.proofs.Bounds.{Below-append, Below-take, Below-drop, Below-replicate}
use Rattle.buffers.proofs.Buffer.prefix.Goals as goal

pub invariant_of-result-clause-room : goal.invariant_of-result-clause-room
invariant_of-result-clause-room g c =
    let len = c.min-len.result in
    let zeros : List ℕ = replicate g.row.N 0 in
    let all : length zeros ≡ g.row.N = length-replicate g.row.N 0 in
    omega (arith, length-append c.copy_from_slice.new.self (drop len zeros), length-drop len zeros, length-take len zeros)

pub invariant_of-result-clause-fits : goal.invariant_of-result-clause-fits
invariant_of-result-clause-fits g c =
    let kept = subst (Below 256) (sym c.copy_from_slice.ensures.after) (Below-take 256 (lit< tt) c.min-len.result c.args.source.now (λ k. (c.type_inv.source k).fits)) in
    Below-append 256 (lit< tt) _ _ kept (Below-drop 256 (lit< tt) c.min-len.result _ (Below-replicate 256 (lit< tt) g.row.N))
