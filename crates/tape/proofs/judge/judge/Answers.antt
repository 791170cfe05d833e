use Rattle.std.proofs.Common.{◌+◌, ◌/◌, [], length, get_or, Err, sym, ap, ◌∙◌}
use Rattle.std.proofs.lemmas.List.{at_drop_more}
use Rattle.std.proofs.lemmas.Result.{err_from_is_err_and}
use Rattle.tape.specs.Judgement.{judged, wrong, unless}
use Rattle.tape.proofs.Judged.{wrong_first, right_first}
use Rattle.tape.proofs.judge.judge.Goals as goal

pub returns-in_err-judge_entry : goal.returns-in_err-judge_entry
returns-in_err-judge_entry c =
    let es = c.as_chunks.result.0.now in
    let i = c.loop-i.i in
    let p = err_from_is_err_and c.from_residual.result c.from_residual.ensures.1 in
    let step = at_drop_more (λ l. unless (length c.args.bytes.now / 18) (judged (i + 1) l)) es i [] c.loop-i-test.true in
    p.1 ∙ ap Err p.2 ∙ wrong_first _ (wrong (i + 1) (get_or es i [])) _ _ c.in_err-judge_entry.ensures ∙ sym step ∙ c.loop-i.invariant

pub loop-i-preserved : goal.loop-i-preserved
loop-i-preserved c =
    let es = c.as_chunks.result.0.now in
    let i = c.loop-i.i in
    let step = at_drop_more (λ l. unless (length c.args.bytes.now / 18) (judged (i + 1) l)) es i [] c.loop-i-test.true in
    sym (right_first _ (wrong (i + 1) (get_or es i [])) _ c.in_ok-judge_entry.ensures) ∙ sym step ∙ c.loop-i.invariant
