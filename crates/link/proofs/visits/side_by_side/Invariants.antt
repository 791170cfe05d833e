use Rattle.std.proofs.Common.{◌≡◌, ◌+◌, map, drop, vec_items}
use Rattle.std.specs.Option.{option_or}
use Rattle.link.specs.Visits.{after_all, last_reply, first_difference}
use Rattle.link.proofs.visits.side_by_side.Given as goal

-- what is still to be sent leads from here to where all of it leads from the start
abbrev pub invariant-loop-i : goal.invariant-loop-i
invariant-loop-i g l =
    let left = g.X.Link.car in
    let right = g.Y.Link.car in
    let rest = map vec_items (drop l.i l.requests) in
    let all = map vec_items l.requests in
    record {
      first : option_or l.first (first_difference (l.i + 1) (left l.left) (right l.right) rest) ≡ first_difference 1 (left l.initial.left) (right l.initial.right) all;
      left_next : after_all (left l.left) rest ≡ after_all (left l.initial.left) all;
      left_shown : last_reply (g.X.Link.present l.left) (left l.left) rest ≡ last_reply (g.X.Link.present l.initial.left) (left l.initial.left) all;
      right_next : after_all (right l.right) rest ≡ after_all (right l.initial.right) all;
      right_shown : last_reply (g.Y.Link.present l.right) (right l.right) rest ≡ last_reply (g.Y.Link.present l.initial.right) (right l.initial.right) all;
    }
