use Rattle.std.proofs.Common.{◌≡◌, ◌+◌, ◌<◌, length, drop, ◌∙◌, arith}
use Rattle.cells.specs.Layouts.{fresh}
use Rattle.cells.specs.Memory.{row_in}
use Rattle.cells.proofs.Rows.{revive_more, kind_there}
use Rattle.cells.proofs.stores.Store.revive.Goals as goal
use Rattle.cells.proofs.stores.Store.revive.Goals.{in-Some, in_default}

pub loop-i-preserved : goal.loop-i-preserved
loop-i-preserved g c =
    let ks = g.L.Layout.kinds c.args.layout.now in
    let i = c.loop-i.i in
    let within : i < length ks = omega arith in
    let m = c.loop-i.self in
    let more : row_in (c.args.at + (i + 1)) (fresh (drop (i + 1) ks)) c.match-kind.self ≡ row_in (c.args.at + i) (fresh (drop i ks)) m = elim c.match-kind.branch [
      | in-Some w ↦ revive_more m _ c.args.at i ks w.in-Some.kind w.in-Some.ensures (w.self-is ∙ w.put.ensures.after)
      | in_default w ↦ absurd (kind_there ks i within w.in_default.ensures)
    ] in
    more ∙ c.loop-i.invariant
