-- The judgement of a tape tells the first rule that is broken. Assumes nothing.
use Rattle.std.proofs.Common.{◌≡◌, ℕ, zero, suc, ◌+◌, ◌-◌, ◌/◌, ◌%◌, ◌<◌, ◌≤◌, Bool, true, false, cond, ◌&&◌, eqb, leb, ◌⊎◌, List, [], ◌∷◌, length, get_or, take, drop, Some, None, Option, sym, refl, ap, ◌∙◌, subst, inl, inr, ⊎_elim, arith, lit≤}
use Rattle.std.proofs.lemmas.List.{get_or-take, get_or-drop, length-take, length-drop}
use Rattle.std.proofs.lemmas.Bool.{and_parts, and_cases, eqb-false}
use Rattle.std.proofs.lemmas.Bool.Decides.{nat_tests}
use Rattle.std.specs.Option.{option_or}
use Rattle.buffers.specs.Records.{records_of, record_at}
use Rattle.buffers.proofs.Cuts.{length-records, get_or-records}
use Rattle.reason.specs.Numbers.{reason_number}
use Rattle.refusal.specs.Refusals.{Refusal, refused}
use Rattle.reason.specs.declared.errors.LinkError.TheVariants.{Size, Mark, Padding, Range}
use Rattle.reason.specs.declared.reasons.Reason.TheVariants.{Link}
use Rattle.tape.specs.Entries.{marked, padded, sized, zeros, request_length, reply_count}
use Rattle.tape.specs.Judgement.{judged, wrong, verdict, unless}
use Rattle.tape.specs.Rules.{Faulty, mark, padding, request, reply, Broken, size, entry, Judged}

-- a row of zeros, and one that is none
zeros_all : (xs : List ℕ) → zeros xs ≡ true → (j : ℕ) → get_or xs j 0 ≡ 0
zeros_all [] e j = refl
zeros_all (x ∷ xs) e zero = grind (arith, nat_tests)
zeros_all (x ∷ xs) e (suc j) = grind (arith, nat_tests, zeros_all xs)

zeros_not : (xs : List ℕ) → zeros xs ≡ false → (j : ℕ) × (j < length xs) × (get_or xs j 0 ≡ 0 → ⊥)
zeros_not [] e = cc
zeros_not (x ∷ xs) e =
    ⊎_elim
    (λ here. (0, omega arith, eqb-false x 0 here))
    (λ later. let r = zeros_not xs later in (suc r.0, omega (arith, r.1), r.2))
    (and_cases _ _ e)

-- the tests of one entry decide its rules
module _ (e : List ℕ) where
  mark_kept : marked e ≡ true → (get_or e 0 0 ≡ 81 → get_or e 1 0 ≡ 65 → ⊥) → ⊥
  mark_kept t f = f (grind (arith, nat_tests)) (grind (arith, nat_tests))

  mark_broken : marked e ≡ false → Faulty e 2
  mark_broken t = mark (λ q a. grind (arith, nat_tests))

  request_byte : (j : ℕ) → request_length e + j < 7 → get_or (drop (request_length e) (take 7 (drop 3 e))) j 0 ≡ get_or e (3 + (request_length e + j)) 0
  request_byte j h = simp (get_or-drop, get_or-take)

  padding_kept : padded e ≡ true → (i : ℕ) → request_length e ≤ i → i < 7 → get_or e (3 + i) 0 ≡ 0
  padding_kept t i low high =
      let n = request_length e in
      let at : n + (i - n) ≡ i = omega arith in
      ap (λ k. get_or e (3 + k) 0) (sym at) ∙ sym (request_byte (i - n) (omega arith)) ∙ zeros_all _ t (i - n)

  padding_broken : padded e ≡ false → Faulty e 3
  padding_broken t =
      let n = request_length e in
      let r = zeros_not (drop n (take 7 (drop 3 e))) t in
      let within : n + r.0 < 7 = omega (arith, r.1, length-drop n (take 7 (drop 3 e)), length-take 7 (drop 3 e)) in
      padding (n + r.0) (omega arith) within (λ z. r.2 (request_byte r.0 within ∙ z))

sized_kept : (n : ℕ) → sized n ≡ true → (1 ≤ n → n ≤ 7 → ⊥) → ⊥
sized_kept n t f = f (grind (arith, nat_tests)) (grind (arith, nat_tests))

sized_broken : (n : ℕ) → sized n ≡ false → 1 ≤ n → n ≤ 7 → ⊥
sized_broken n t low high = grind (arith, nat_tests)

range_broken : (e : List ℕ) → (sized (request_length e) && sized (reply_count e)) ≡ false → Faulty e 6
range_broken e t = ⊎_elim (λ a. request (sized_broken _ a)) (λ b. reply (sized_broken _ b)) (and_cases _ _ t)

-- the least number of a broken rule, by what is kept
from_2 : {e : List ℕ} {m : ℕ} → Faulty e m → 2 ≤ m
from_2 (mark f) = lit≤ tt
from_2 (padding i l h f) = lit≤ tt
from_2 (request f) = lit≤ tt
from_2 (reply f) = lit≤ tt

from_3 : {e : List ℕ} {m : ℕ} → marked e ≡ true → Faulty e m → 3 ≤ m
from_3 {e} t (mark f) = absurd (mark_kept e t f)
from_3 t (padding i l h f) = lit≤ tt
from_3 t (request f) = lit≤ tt
from_3 t (reply f) = lit≤ tt

from_6 : {e : List ℕ} {m : ℕ} → marked e ≡ true → padded e ≡ true → Faulty e m → 6 ≤ m
from_6 {e} t p (mark f) = absurd (mark_kept e t f)
from_6 {e} t p (padding i l h f) = absurd (f (padding_kept e p i l h))
from_6 t p (request f) = lit≤ tt
from_6 t p (reply f) = lit≤ tt

none_left : {e : List ℕ} {m : ℕ} → marked e ≡ true → padded e ≡ true → (sized (request_length e) && sized (reply_count e)) ≡ true → Faulty e m → ⊥
none_left {e} t p s (mark f) = mark_kept e t f
none_left {e} t p s (padding i l h f) = f (padding_kept e p i l h)
none_left {e} t p s (request f) = sized_kept (request_length e) (and_parts _ _ s).0 f
none_left {e} t p s (reply f) = sized_kept (reply_count e) (and_parts _ _ s).1 f

-- what a verdict on entry k owes
abbrev Right : ℕ → List ℕ → Option Refusal → Type 0
Right k e None = (m : ℕ) → Faulty e m → ⊥
Right k e (Some x) = (x.at ≡ k) × Faulty e (reason_number x.cause) × ((m : ℕ) → Faulty e m → reason_number x.cause ≤ m)

by_tests : (k : ℕ) (e : List ℕ) (a b c : Bool) → marked e ≡ a → padded e ≡ b → (sized (request_length e) && sized (reply_count e)) ≡ c →
    Right k e (cond a (cond b (cond c None (Some (refused (Link Range) k))) (Some (refused (Link Padding) k))) (Some (refused (Link Mark) k)))
by_tests k e true true true p q r = λ m f. none_left p q r f
by_tests k e true true false p q r = (refl, range_broken e r, λ m f. from_6 p q f)
by_tests k e true false c p q r = (refl, padding_broken e q, λ m f. from_3 p f)
by_tests k e false b c p q r = (refl, mark_broken e p, λ m f. from_2 f)

wrong_right : (k : ℕ) (e : List ℕ) → Right k e (wrong k e)
wrong_right k e = by_tests k e (marked e) (padded e) (sized (request_length e) && sized (reply_count e)) refl refl refl

-- what a verdict on entries numbered from k owes
abbrev AllRight : ℕ → List (List ℕ) → Option Refusal → Type 0
AllRight k es None = (i m : ℕ) → i < length es → Faulty (get_or es i []) m → ⊥
AllRight k es (Some x) = (i : ℕ) × (i < length es) × (x.at ≡ k + i) × Faulty (get_or es i []) (reason_number x.cause)
    × ((j m : ℕ) → j < length es → Faulty (get_or es j []) m → (i < j) ⊎ ((i ≡ j) × (reason_number x.cause ≤ m)))

later_none : (k : ℕ) (e : List ℕ) (es : List (List ℕ)) → ((m : ℕ) → Faulty e m → ⊥) → ((i m : ℕ) → i < length es → Faulty (get_or es i []) m → ⊥) → (i m : ℕ) → i < suc (length es) → Faulty (get_or (e ∷ es) i []) m → ⊥
later_none k e es here rest zero m h f = here m f
later_none k e es here rest (suc i) m h f = rest i m (omega arith) f

here_first : (n : ℕ) (e : List ℕ) (es : List (List ℕ)) → ((m : ℕ) → Faulty e m → n ≤ m) → (j m : ℕ) → Faulty (get_or (e ∷ es) j []) m → (0 < j) ⊎ ((0 ≡ j) × (n ≤ m))
here_first n e es least zero m f = inr (refl, least m f)
here_first n e es least (suc j) m f = inl (omega arith)

later_first : (n i : ℕ) (e : List ℕ) (es : List (List ℕ)) → ((m : ℕ) → Faulty e m → ⊥) → ((j m : ℕ) → j < length es → Faulty (get_or es j []) m → (i < j) ⊎ ((i ≡ j) × (n ≤ m))) →
    (j m : ℕ) → j < suc (length es) → Faulty (get_or (e ∷ es) j []) m → (suc i < j) ⊎ ((suc i ≡ j) × (n ≤ m))
later_first n i e es none rest zero m h f = absurd (none m f)
later_first n i e es none rest (suc j) m h f = ⊎_elim (λ l. inl (omega arith)) (λ r. inr (ap suc r.0, r.1)) (rest j m (omega arith) f)

judged_step : (k : ℕ) (e : List ℕ) (es : List (List ℕ)) (o p : Option Refusal) → Right k e o → AllRight (k + 1) es p → AllRight k (e ∷ es) (option_or o p)
judged_step k e es (Some x) p r a =
    let at : x.at ≡ k + 0 = omega (arith, r.0) in
    (0, omega arith, at, r.1, λ j m h f. here_first (reason_number x.cause) e es r.2 j m f)
judged_step k e es None None r a = later_none k e es r a
judged_step k e es None (Some x) r a =
    let at : x.at ≡ k + suc a.0 = omega (arith, a.2) in
    (suc a.0, omega (arith, a.1), at, a.3, later_first (reason_number x.cause) a.0 e es r a.4)

judged_right : (k : ℕ) (es : List (List ℕ)) → AllRight k es (judged k es)
judged_right k [] = λ i m h f. absurd (omega arith)
judged_right k (e ∷ es) = judged_step k e es (wrong k e) (judged (k + 1) es) (wrong_right k e) (judged_right (k + 1) es)

module _ (bs : List ℕ) where
  record_of : (k : ℕ) → 1 ≤ k → k ≤ length bs / 18 → get_or (records_of bs) (k - 1) [] ≡ record_at bs k
  record_of k some within =
      let e : k - 1 + 1 ≡ k = omega arith in
      get_or-records (length bs / 18) bs (k - 1) (omega arith) ∙ ap (record_at bs) e

  faulty_at : {m : ℕ} (k : ℕ) → 1 ≤ k → k ≤ length bs / 18 → Faulty (record_at bs k) m → Faulty (get_or (records_of bs) (k - 1) []) m
  faulty_at {m} k some within f = subst (λ e. Faulty e m) (sym (record_of k some within)) f

  listed : (k : ℕ) → 1 ≤ k → k ≤ length bs / 18 → k - 1 < length (records_of bs)
  listed k some within = omega (arith, length-records (length bs / 18) bs)

  -- the wrong size goes before all else
  size_first : {j m : ℕ} → Broken bs j m → (0 < j) ⊎ ((0 ≡ j) × (1 ≤ m))
  size_first (size f) = inr (refl, lit≤ tt)
  size_first (entry k n some within f) = inl some

  module _ (sound : length bs % 18 ≡ 0) (few : length bs / 18 ≤ 2000) where
    none_broken : AllRight 1 (records_of bs) None → {j m : ℕ} → Broken bs j m → ⊥
    none_broken a (size f) = f sound few
    none_broken a (entry k n some within f) = a (k - 1) n (listed k some within) (faulty_at k some within f)

    before_all : (n i k : ℕ) → k ≡ 1 + i → ((j m : ℕ) → j < length (records_of bs) → Faulty (get_or (records_of bs) j []) m → (i < j) ⊎ ((i ≡ j) × (n ≤ m))) →
        {j m : ℕ} → Broken bs j m → (k < j) ⊎ ((k ≡ j) × (n ≤ m))
    before_all n i k e a (size f) = absurd (f sound few)
    before_all n i k e a (entry j m some within f) =
        ⊎_elim
        (λ l. inl (omega (arith, l)))
        (λ r. let same : k ≡ j = omega (arith, r.0) in inr (same, r.1))
        (a (j - 1) m (listed j some within) (faulty_at j some within f))

    entries_judged : (o : Option Refusal) → AllRight 1 (records_of bs) o → Judged bs (unless (length bs / 18) o)
    entries_judged None a = (refl, λ j m b. none_broken a b)
    entries_judged (Some x) a =
        let i = a.0 in
        let low : 1 ≤ x.at = omega (arith, a.2) in
        let high : x.at ≤ length bs / 18 = omega (arith, a.1, a.2, length-records (length bs / 18) bs) in
        let same : i ≡ x.at - 1 = omega (arith, a.2) in
        let f : Faulty (record_at bs x.at) (reason_number x.cause) = subst (λ e. Faulty e (reason_number x.cause)) (ap (λ k. get_or (records_of bs) k []) same ∙ record_of x.at low high) a.3 in
        (entry x.at (reason_number x.cause) low high f, λ j m b. before_all (reason_number x.cause) i x.at a.2 a.4 b)

  by_size : (whole : Bool) → (eqb (length bs % 18) 0 && leb (length bs / 18) 2000) ≡ whole →
      Judged bs (unless (length bs / 18) (cond whole (judged 1 (records_of bs)) (Some (refused (Link Size) 0))))
  by_size true e = entries_judged (grind (arith, nat_tests)) (grind (arith, nat_tests)) (judged 1 (records_of bs)) (judged_right 1 (records_of bs))
  by_size false e = (size (λ a b. grind (arith, nat_tests)), λ j m b. size_first b)

  pub verdict_judged : Judged bs (verdict bs)
  verdict_judged = by_size (eqb (length bs % 18) 0 && leb (length bs / 18) 2000) refl
