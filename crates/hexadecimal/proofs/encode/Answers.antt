use Rattle.std.proofs.lemmas.List.{take_all}
use Rattle.hexadecimal.proofs.Pairs.{text_again}
use Rattle.hexadecimal.proofs.encode.Goals as goal

pub returns-clause-again : goal.returns-clause-again
returns-clause-again c =
    let all = take_all c.loop-b.b-index c.args.bytes.now c.loop-b-test.false in
    let again = text_again c.args.bytes.now (λ k. (c.type_inv.bytes k).fits) in
    cc
