-- Fill plays no part in a tape, and a tape plays its entries. Assumes nothing.
use Rattle.std.proofs.Common.{◌≡◌, ℕ, suc, ◌+◌, ◌/◌, ◌%◌, ◌<◌, ◌≤◌, cond, ◌&&◌, eqb, leb, List, [], ◌∷◌, map, length, get_or, take, drop, Some, None, sym, refl, ap, ◌∙◌, subst, arith, lit<, lit≤}
use Rattle.std.proofs.lemmas.List.{ext_get_or, get_or-take, get_or-drop, length-take, length-drop, take-take}
use Rattle.std.proofs.lemmas.Slice.Eq.{bytes_eq-Decides}
use Rattle.std.specs.Option.{option_or}
use Rattle.buffers.specs.Records.{records_of, record_at}
use Rattle.buffers.proofs.Cuts.{length-records, get_or-records, length-record_at}
use Rattle.link.specs.Cars.{silence, reply}
use Rattle.link.specs.Visits.{answers}
use Rattle.refusal.specs.Refusals.{refused}
use Rattle.reason.specs.declared.errors.LinkError.TheVariants.{Size, Mark, Padding, Range}
use Rattle.reason.specs.declared.reasons.Reason.TheVariants.{Link}
use Rattle.tape.specs.Entries.{Exchange, exchange_of, zeros, sized, reply_count}
use Rattle.tape.specs.Judgement.{judged, wrong, refusal_of, verdict, unless}
use Rattle.tape.specs.Plays.{Standing, opened, unless_refused, tape_car, Replays}
use Rattle.tape.specs.Fills.{OnlyFill}

-- the first n of m bytes from a on, where two entries agree
module _ (e f : List ℕ) (long : length e ≡ length f) (a m n : ℕ) (same : (j : ℕ) → j < n → j < m → get_or e (a + j) 0 ≡ get_or f (a + j) 0) where
  get_or_part : (l : List ℕ) (j : ℕ) → j < n → j < m → get_or (take n (take m (drop a l))) j 0 ≡ get_or l (a + j) 0
  get_or_part l j p q = get_or-take n (take m (drop a l)) j 0 p ∙ get_or-take m (drop a l) j 0 q ∙ get_or-drop a l j 0

  parts_agree : take n (take m (drop a e)) ≡ take n (take m (drop a f))
  parts_agree =
      let le : length (take n (take m (drop a e))) ≡ length (take n (take m (drop a f))) = simp (length-take, length-drop) (omega arith) in
      ext_get_or 0 _ _ le (λ j h.
      let s : j < length (take n (take m (drop a e))) = h in
      let p : j < n = omega (arith, length-take n (take m (drop a e))) in
      let q : j < m = omega (arith, length-take n (take m (drop a e)), length-take m (drop a e)) in
      get_or_part e j p q ∙ same j p q ∙ sym (get_or_part f j p q))

-- two entries that differ only in fill are judged alike, and say the same
module _ (e f : List ℕ) (le : length e ≡ 18) (lf : length f ≡ 18) (same : (i : ℕ) → i < 18 → i < 11 + reply_count e → get_or e i 0 ≡ get_or f i 0) where
  head : (i : ℕ) → i < 11 → get_or e i 0 ≡ get_or f i 0
  head i h = same i (omega arith) (omega arith)

  requests : take 7 (drop 3 e) ≡ take 7 (drop 3 f)
  requests =
      sym (take-take 7 7 (drop 3 e) (lit≤ tt))
      ∙ parts_agree e f (le ∙ sym lf) 3 7 7 (λ j p q. head (3 + j) (omega arith))
      ∙ take-take 7 7 (drop 3 f) (lit≤ tt)

  replies : take (reply_count e) (take 7 (drop 11 e)) ≡ take (reply_count e) (take 7 (drop 11 f))
  replies = parts_agree e f (le ∙ sym lf) 11 7 (reply_count e) (λ j p q. same (11 + j) (omega arith) (omega arith))

  wrong_same : (k : ℕ) → wrong k e ≡ wrong k f
  wrong_same k =
      let m0 = head 0 (lit< tt) in
      let m1 = head 1 (lit< tt) in
      let asked = head 2 (lit< tt) in
      let given = head 10 (lit< tt) in
      λ t.
      cond (eqb (m0 t) 81 && eqb (m1 t) 65)
      (cond (zeros (drop (asked t) (requests t)))
      (cond (sized (asked t) && sized (given t)) None (Some (refused (Link Range) k)))
      (Some (refused (Link Padding) k)))
      (Some (refused (Link Mark) k))

  exchange_same : exchange_of e ≡ exchange_of f
  exchange_same =
      let asked = head 2 (lit< tt) in
      let given = head 10 (lit< tt) in
      let reply = replies ∙ ap (λ n. take n (take 7 (drop 11 f))) given in
      λ t. record { asked = take (asked t) (requests t); given = reply t }

-- and so are lists of them
pub record Same (e f : List ℕ) : Type 0 where
  pub wrongs : (k : ℕ) → wrong k e ≡ wrong k f
  pub exchanges : exchange_of e ≡ exchange_of f

lists_same : (es fs : List (List ℕ)) → length es ≡ length fs → ((i : ℕ) → i < length es → Same (get_or es i []) (get_or fs i [])) → ((k : ℕ) → judged k es ≡ judged k fs) × (map exchange_of es ≡ map exchange_of fs)
lists_same [] [] l s = (λ k. refl, refl)
lists_same [] (f ∷ fs) l s = absurd (omega arith)
lists_same (e ∷ es) [] l s = absurd (omega arith)
lists_same (e ∷ es) (f ∷ fs) l s =
    let here = s 0 (omega arith) in
    let rest = lists_same es fs (omega arith) (λ i h. s (suc i) (omega arith)) in
    (λ k t. option_or (here.wrongs k t) (rest.0 (k + 1) t), λ t. here.exchanges t ∷ rest.1 t)

module _ (bs cs : List ℕ) (only : OnlyFill bs cs) where
  as_many : length bs / 18 ≡ length cs / 18
  as_many = ap (λ n. n / 18) only.size

  lists_long : length (records_of bs) ≡ length (records_of cs)
  lists_long = length-records _ bs ∙ as_many ∙ sym (length-records _ cs)

  each_same : (i : ℕ) → i < length (records_of bs) → Same (get_or (records_of bs) i []) (get_or (records_of cs) i [])
  each_same i h =
      let n = length bs / 18 in
      let low : 1 ≤ i + 1 = omega arith in
      let high : i + 1 ≤ n = omega (arith, length-records n bs) in
      let high' : i + 1 ≤ length cs / 18 = omega (arith, as_many) in
      let e = record_at bs (i + 1) in
      let f = record_at cs (i + 1) in
      let le = length-record_at bs (i + 1) low high in
      let lf = length-record_at cs (i + 1) low high' in
      let same : (j : ℕ) → j < 18 → j < 11 + reply_count e → get_or e j 0 ≡ get_or f j 0 = λ j p q. only.bytes (i + 1) j low high p q in
      let s : Same e f = record { wrongs = wrong_same e f le lf same; exchanges = exchange_same e f le lf same } in
      let at = get_or-records n bs i (omega arith) in
      let at' = get_or-records (length cs / 18) cs i (omega arith) in
      subst (λ x. Same x (get_or (records_of cs) i [])) (sym at) (subst (Same e) (sym at') s)

  refusal_same : refusal_of bs ≡ refusal_of cs
  refusal_same =
      let j = (lists_same (records_of bs) (records_of cs) lists_long each_same).0 1 in
      λ t. cond (eqb (only.size t % 18) 0 && leb (only.size t / 18) 2000) (j t) (Some (refused (Link Size) 0))

  pub verdict_same : verdict bs ≡ verdict cs
  verdict_same = λ t. unless (only.size t / 18) (refusal_same t)

  pub opened_same : (s : Standing) → opened bs s ≡ opened cs s
  opened_same s =
      let x = (lists_same (records_of bs) (records_of cs) lists_long each_same).1 in
      λ t. unless_refused (refusal_same t) (x t) s

-- the requests of a tape, in order, get its replies, in order
pub replays : (es : List Exchange) → Replays es
replays [] = refl
replays (e ∷ es) =
    let due = (bytes_eq-Decides e.asked e.asked).1 refl in
    let rest = map (λ x. x.asked) es in
    (λ t. cond (due t) (reply e.given) silence ∷ answers (tape_car (cond (due t) es (e ∷ es))) rest) ∙ ap (λ l. reply e.given ∷ l) (replays es)
