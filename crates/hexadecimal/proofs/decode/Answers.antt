use Rattle.std.proofs.Common.{◌≡◌, ◌/◌, length, vec_items, sym, ap, ◌∙◌, arith}
use Rattle.std.proofs.lemmas.Bool.Decides.{nat_tests}
use Rattle.hexadecimal.specs.Texts.{bytes_of}
use Rattle.hexadecimal.proofs.Pairs.{read, pair_bad, pair_more, pairs_end, read_even, odd_none}
use Rattle.hexadecimal.proofs.decode.Goals as goal

pub returns-then-not-is_empty : goal.returns-then-not-is_empty
returns-then-not-is_empty c = sym (odd_none (length c.args.text.now / 2) c.args.text.now (grind (arith, nat_tests)))

pub loop-high-init : goal.loop-high-init
loop-high-init c =
    let even = read_even (length c.args.text.now / 2) c.args.text.now (grind (arith, nat_tests)) in
    let all : read c.as_chunks.result.0.now ≡ bytes_of c.args.text.now = ap read c.as_chunks.ensures.front ∙ even in
    grind (arith)

pub returns-in_default : goal.returns-in_default
returns-in_default c = sym (pair_bad c.as_chunks.result.0.now c.loop-high.high-index (vec_items c.loop-high.bytes) c.loop-high-test.true c.in_default.ensures) ∙ c.loop-high.invariant

pub loop-high-preserved : goal.loop-high-preserved
loop-high-preserved c =
    let more = pair_more c.as_chunks.result.0.now c.loop-high.high-index (vec_items c.loop-high.bytes) c.in-Some.b c.loop-high-test.true c.in-Some.ensures in
    cc (c.in_ok-push.ensures.items)

pub returns : goal.returns
returns c = sym (pairs_end c.as_chunks.result.0.now c.loop-high.high-index (vec_items c.loop-high.bytes) c.loop-high-test.false) ∙ c.loop-high.invariant
