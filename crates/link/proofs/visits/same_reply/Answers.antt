use Rattle.std.proofs.Common.{nat_eq, length, rules, tests, ◌∙◌, arith}
use Rattle.std.specs.Option.{option_eq}
use Rattle.std.proofs.lemmas.Iterator.{YieldsList-from_range}
use Rattle.std.proofs.lemmas.Iterator.Search.{all_from_yields_List}
use Rattle.buffers.specs.Bytes.{byte_at}
use Rattle.link.proofs.Replies.{same_from}
use Rattle.link.proofs.visits.same_reply.Goals as goal

pub returns-then-count : goal.returns-then-count
returns-then-count g c =
    let p = g.X.Link.present c.args.left.now in
    let q = g.Y.Link.present c.args.right.now in
    let compared =
    all_from_yields_List (λ k. option_eq nat_eq (byte_at p k) (byte_at q k)) _ _ c.all.result c.all.ensures.ran
    (YieldsList-from_range 0 c.count-then-count.result (length p) (cc) (omega arith))
    (λ x b h k. search (rules, tests)) in
    compared ∙ same_from p q 0 (length p) (omega arith) (omega arith)
