use Rattle.std.proofs.Common.{◌≡◌, ◌+◌, not, ◌∷◌, map, drop, vec_items, sym, ap, ◌∙◌, subst}
use Rattle.std.specs.Bool.{then_some}
use Rattle.std.specs.Option.{option_or}
use Rattle.std.proofs.lemmas.List.{at_drop_more, drop_all}
use Rattle.link.specs.Visits.{answers, Differs}
use Rattle.link.proofs.Sides.{after_more, reply_more, first_more, after_end, reply_end, first_end, alike_never_differ, alike_after, alike_is, first_differs}
use Rattle.link.proofs.visits.side_by_side.Goals as goal

pub loop-i-preserved : goal.loop-i-preserved
loop-i-preserved g c =
    let rs = c.args.requests.now in
    let i = c.loop-i.i in
    let rest = map vec_items (drop (i + 1) rs) in
    let sent = c.send_both-same.ensures in
    let q = c.deref.result.now in
    let next = at_drop_more (map vec_items) rs i c.index-requests-i.result c.loop-i-test.true in
    let is : map vec_items (drop i rs) ≡ q ∷ rest = cc in
    let step : c.or-first.result ≡ option_or c.loop-i.first (then_some (not c.send_both-same.result) (i + 1)) = cc in
    record {
      first = first_more _ rest q is (i + 1) _ _ _ _ c.loop-i.first _ _ sent.left_next sent.right_next sent.same step ∙ c.loop-i.invariant.first;
      left_next = after_more _ rest q is _ _ sent.left_next ∙ c.loop-i.invariant.left_next;
      left_shown = reply_more _ rest q is _ _ (g.X.Link.present c.loop-i.left) _ sent.left_next sent.left_shown ∙ c.loop-i.invariant.left_shown;
      right_next = after_more _ rest q is _ _ sent.right_next ∙ c.loop-i.invariant.right_next;
      right_shown = reply_more _ rest q is _ _ (g.Y.Link.present c.loop-i.right) _ sent.right_next sent.right_shown ∙ c.loop-i.invariant.right_shown;
    }

pub returns : goal.returns
returns g c =
    let rs = c.args.requests.now in
    let left = g.X.Link.car c.args.left.now in
    let right = g.Y.Link.car c.args.right.now in
    let qs = map vec_items rs in
    let none = ap (map vec_items) (drop_all c.loop-i.i rs c.loop-i-test.false) in
    let first = sym (first_end _ none (c.loop-i.i + 1) _ _ c.loop-i.first) ∙ c.loop-i.invariant.first in
    let left-next = sym (after_end _ none _) ∙ c.loop-i.invariant.left_next in
    let left-shown = sym (reply_end _ none (g.X.Link.present c.loop-i.left) _) ∙ c.loop-i.invariant.left_shown in
    let right-next = sym (after_end _ none _) ∙ c.loop-i.invariant.right_next in
    let right-shown = sym (reply_end _ none (g.Y.Link.present c.loop-i.right) _) ∙ c.loop-i.invariant.right_shown in
    record {
      first = first;
      differs = subst (Differs 1 (answers left qs) (answers right qs)) (sym first) (first_differs 1 left right qs);
      left_next = left-next;
      left_shown = left-shown;
      right_next = right-next;
      right_shown = right-shown;
      alike = λ a. (first ∙ alike_never_differ 1 left right qs a.cars, alike_is _ _ _ _ _ _ _ _ left-next left-shown right-next right-shown (alike_after left right _ _ qs a));
    }
