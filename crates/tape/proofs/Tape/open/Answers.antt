use Rattle.std.proofs.Common.{◌≡◌, ℕ, ◌/◌, List, [], length, vec_items, drop, map, get_or, Result, Err, sym, ap, ◌∙◌, subst, arith}
use Rattle.std.proofs.lemmas.List.{take_all}
use Rattle.std.proofs.lemmas.Result.{err_from_is_err_and}
use Rattle.buffers.specs.Records.{records_of}
use Rattle.refusal.specs.Refusals.{Refusal}
use Rattle.tape.specs.Entries.{Fit, exchange_of}
use Rattle.tape.specs.Fills.{OnlyFill}
use Rattle.tape.specs.Judgement.{refusal_of, verdict}
use Rattle.tape.specs.Plays.{Standing, Replays, opened, unless_refused}
use Rattle.tape.specs.Rules.{Judged}
use Rattle.tape.specs.Views.{exchange, standing}
use Rattle.tape.proofs.Faults.{verdict_judged}
use Rattle.tape.proofs.Frames.{verdict_same, opened_same, replays}
use Rattle.tape.proofs.Judged.{chunks-records, entry_fits, unless_err, unless_ok}
use Rattle.tape.proofs.Tape.open.Goals as goal

-- what an answer and a new standing owe beside what they are
owed : (bs : List ℕ) (s t : Standing) (r : Result ℕ Refusal) → r ≡ verdict bs → t ≡ opened bs s →
    Judged bs r × ((other : List ℕ) → OnlyFill bs other → (verdict other ≡ r) × (opened other s ≡ t)) × Replays t.left
owed bs s t r result after =
    (subst (Judged bs) (sym result) (verdict_judged bs), λ other only. (sym (verdict_same bs other only) ∙ sym result, sym (opened_same bs other only s) ∙ sym after), replays t.left)

-- a refusal leaves the tape as it was
pub returns-in_err-n : goal.returns-in_err-n
returns-in_err-n c =
    let bs = c.args.bytes.now in
    let s = standing c.args.self.now in
    let p = err_from_is_err_and c.from_residual.result c.from_residual.ensures.1 in
    let result : c.from_residual.result ≡ verdict bs = p.1 ∙ ap Err p.2 ∙ c.in_err-n.ensures in
    let refusal = unless_err _ (refusal_of bs) _ (sym c.in_err-n.ensures) in
    let after : s ≡ opened bs s = sym (ap (λ o. unless_refused o (map exchange_of (records_of bs)) s) refusal) in
    let o = owed bs s s _ result after in
    record { result = result; after = after; rules = o.0; fill = o.1; plays = o.2 }

pub decode-requires : goal.decode-requires
decode-requires c =
    let bs = c.args.bytes.now in
    let none = unless_ok _ (refusal_of bs) _ (sym c.in_ok-n.ensures) in
    let same = c.as_chunks.ensures.front ∙ chunks-records (length bs / 18) bs in
    subst (λ es. Fit (get_or es c.loop-entry.entry-index [])) (sym same) (entry_fits bs _ none (omega arith))

pub returns : goal.returns
returns c =
    let bs = c.args.bytes.now in
    let s = standing c.args.self.now in
    let none = unless_ok _ (refusal_of bs) _ (sym c.in_ok-n.ensures) in
    let same = c.as_chunks.ensures.front ∙ chunks-records (length bs / 18) bs in
    let first = ap (λ n. map exchange (drop n (vec_items c.loop-entry.self.entries))) c.loop-entry.invariant.0 in
    let left = first ∙ c.loop-entry.invariant.1 ∙ ap (map exchange_of) (take_all _ _ c.loop-entry-test.false ∙ same) in
    let taken : ◌≡◌ {A = Standing} (record { left = _; shown = _ }) (record { left = map exchange_of (records_of bs); shown = _ }) = λ t. record { left = left t; shown = c.new-self.ensures t } in
    let after = taken ∙ sym (ap (λ o. unless_refused o (map exchange_of (records_of bs)) s) none) in
    let o = owed bs s _ _ c.in_ok-n.ensures after in
    record { result = c.in_ok-n.ensures; after = after; rules = o.0; fill = o.1; plays = o.2 }
