use Rattle.std.proofs.Common.{◌≡◌, sym, subst, rules, tests}
use Rattle.std.proofs.lemmas.Iterator.{items_from_collect, YieldsList-from_map, YieldsList-from_slice}
use Rattle.std.proofs.lemmas.Iterator.Consumers.{YieldsList-from_enumerate}
use Rattle.std.proofs.lemmas.Result.{IfOk-weaker}
use Rattle.tape.specs.Fills.{OnlyFill, inverted}
use Rattle.tape.proofs.Inverted.{inverted_only}
use Rattle.tape.proofs.fills.invert_fill.Goals as goal

pub returns-clause-only : goal.returns-clause-only
returns-clause-only c =
    let bs = c.args.bytes.now in
    IfOk-weaker c.collect.result (λ v. v.items ≡ inverted bs) _ (λ v e. subst (OnlyFill bs) (sym e) (inverted_only bs))
    (items_from_collect _ c.collect.ensures.ran (YieldsList-from_map _ _ (YieldsList-from_enumerate (YieldsList-from_slice bs cc) cc) c.map.ensures.closure (λ x r q k. search (rules, tests))))
