-- Where the records of 18 bytes lie. Assumes nothing.
use Rattle.std.proofs.Common.{◌≡◌, ℕ, zero, suc, ◌+◌, ◌-◌, ◌*◌, ◌/◌, ◌<◌, ◌≤◌, List, [], length, get_or, take, drop, refl, ap, ◌∙◌, arith}
use Rattle.std.proofs.lemmas.List.{drop-drop, length-take, length-drop}
use Rattle.buffers.specs.Records.{records, record_at}

pub length-records : (n : ℕ) (bs : List ℕ) → length (records n bs) ≡ n
length-records zero bs = refl
length-records (suc n) bs = ap suc (length-records n (drop 18 bs))

pub record_from : (n : ℕ) (bs : List ℕ) (i : ℕ) → i < n → get_or (records n bs) i [] ≡ take 18 (drop (18 * i) bs)
record_from zero bs i h = absurd (omega arith)
record_from (suc n) bs zero h = refl
record_from (suc n) bs (suc i) h =
    let e : 18 + 18 * i ≡ 18 * suc i = omega arith in
    record_from n (drop 18 bs) i (omega arith) ∙ ap (take 18) (drop-drop (18 * i) 18 bs ∙ ap (λ k. drop k bs) e)

pub get_or-records : (n : ℕ) (bs : List ℕ) (i : ℕ) → i < n → get_or (records n bs) i [] ≡ record_at bs (i + 1)
get_or-records n bs i h =
    let e : 18 * i ≡ 18 * (i + 1 - 1) = omega arith in
    record_from n bs i h ∙ ap (λ k. take 18 (drop k bs)) e

pub length-record_at : (bs : List ℕ) (k : ℕ) → 1 ≤ k → k ≤ length bs / 18 → length (record_at bs k) ≡ 18
length-record_at bs k some within = simp (length-take, length-drop) (omega arith)
