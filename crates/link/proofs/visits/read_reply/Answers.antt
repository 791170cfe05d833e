use Rattle.std.proofs.Common.{◌≡◌, length, vec_items, IfOk, rules, tests, subst, arith}
use Rattle.std.proofs.lemmas.Iterator.{YieldsList-from_range, items_from_collect}
use Rattle.std.proofs.lemmas.Iterator.Consumers.{YieldsList-at, YieldsList-from_filter_map}
use Rattle.buffers.specs.Bytes.{byte_at}
use Rattle.link.proofs.Replies.{read_from}
use Rattle.link.proofs.visits.read_reply.Goals as goal

pub returns : goal.returns
returns g c =
    let p = g.L.Link.present c.args.link.now in
    let read =
    items_from_collect c.collect.result c.collect.ensures.ran
    (YieldsList-from_filter_map _ (byte_at p)
    (YieldsList-at c.filter_map.ensures.source (YieldsList-from_range 0 c.count.result (length p) (cc) (omega arith)))
    c.filter_map.ensures.closure (λ x r q k. search (rules, tests))) in
    subst (λ xs. IfOk c.collect.result (λ v. vec_items v ≡ xs)) (read_from p 0 (length p) (omega arith)) read
