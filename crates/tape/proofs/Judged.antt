-- The judgement of a tape's entries, one after the other. Assumes nothing.
use Rattle.std.proofs.Common.{◌≡◌, ℕ, zero, suc, ◌+◌, ◌/◌, ◌<◌, List, [], ◌∷◌, length, get_or, take, drop, Some, None, Ok, Err, Option, refl, ap, arith}
use Rattle.std.proofs.lemmas.Bool.Decides.{nat_tests}
use Rattle.std.specs.Simd.{first_chunks}
use Rattle.std.specs.Option.{option_or}
use Rattle.buffers.specs.Records.{records, records_of}
use Rattle.buffers.proofs.Cuts.{length-records}
use Rattle.refusal.specs.Refusals.{Refusal}
use Rattle.tape.specs.Entries.{Fit}
use Rattle.tape.specs.Judgement.{judged, wrong, unless, refusal_of}

-- the records are the chunks of 18 bytes
pub chunks-records : (n : ℕ) (bs : List ℕ) → first_chunks 18 n bs ≡ records n bs
chunks-records zero bs = refl
chunks-records (suc n) bs = ap (λ rs. take 18 bs ∷ rs) (chunks-records n (drop 18 bs))

-- the judgement of one entry, before that of the rest
pub wrong_first : (n : ℕ) (o p : Option Refusal) (x : Refusal) → Err x ≡ unless (tt {0}) o → Err x ≡ unless n (option_or o p)
wrong_first n o p x e = grind arith

pub right_first : (n : ℕ) (o p : Option Refusal) → Ok (tt {0}) ≡ unless (tt {0}) o → unless n (option_or o p) ≡ unless n p
right_first n o p e = grind arith

pub unless_err : (n : ℕ) (o : Option Refusal) (x : Refusal) → unless n o ≡ Err x → o ≡ Some x
unless_err n o x e = grind arith

pub unless_ok : (n : ℕ) (o : Option Refusal) (m : ℕ) → unless n o ≡ Ok m → o ≡ None
unless_ok n o m e = grind arith

-- No refusal: each entry has its lengths in range.
fit_at : (es : List (List ℕ)) (k i : ℕ) → judged k es ≡ None → i < length es → Fit (get_or es i [])
fit_at [] k i e h = absurd (omega arith)
fit_at (r ∷ es) k zero e h =
    let right : wrong k r ≡ None = grind arith in
    (grind (arith, nat_tests), grind (arith, nat_tests))
fit_at (r ∷ es) k (suc i) e h = fit_at es (k + 1) i (grind arith) (omega arith)

pub entry_fits : (bs : List ℕ) (i : ℕ) → refusal_of bs ≡ None → i < length bs / 18 → Fit (get_or (records_of bs) i [])
entry_fits bs i e h = fit_at (records_of bs) 1 i (grind arith) (omega (arith, length-records (length bs / 18) bs))
