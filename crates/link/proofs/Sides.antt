-- Two visits side by side. Assumes nothing.
use Rattle.std.proofs.Common.{◌≡◌, ℕ, suc, ◌+◌, ◌-◌, Bool, true, false, not, List, [], ◌∷◌, get_or, take, Some, None, Option, sym, refl, ap, ◌∙◌, subst, arith}
use Rattle.std.specs.Bool.{then_some}
use Rattle.std.specs.Option.{option_or}
use Rattle.std.proofs.lemmas.Slice.Eq.{bytes_eq-Decides}
use Rattle.link.specs.Cars.{Answer, silence, reply, Car, after, reply_of, Alike}
use Rattle.link.specs.Visits.{answers, after_all, last_reply, same_answer, first_difference, Differs}

first_assoc : (a b c : Option ℕ) → option_or (option_or a b) c ≡ option_or a (option_or b c)
first_assoc None b c = refl
first_assoc (Some x) b c = refl

first_none : (a : Option ℕ) → option_or a None ≡ a
first_none None = refl
first_none (Some x) = refl

-- one request more, of those that are left
module _ (qs rest : List (List ℕ)) (q : List ℕ) (is : qs ≡ q ∷ rest) where
  pub after_more : (car car' : Car) → car' ≡ after q car → after_all car' rest ≡ after_all car qs
  after_more car car' next = ap (λ k. after_all k rest) next ∙ sym (ap (after_all car) is)

  pub reply_more : (car car' : Car) (p p' : List ℕ) → car' ≡ after q car → p' ≡ reply_of (car [] q) → last_reply p' car' rest ≡ last_reply p car qs
  reply_more car car' p p' next shown = (λ k. last_reply (shown k) (next k) rest) ∙ sym (ap (last_reply p car) is)

  pub first_more : (k : ℕ) (l l' r r' : Car) (first first' : Option ℕ) (same : Bool) → l' ≡ after q l → r' ≡ after q r → same ≡ same_answer (l [] q) (r [] q) → first' ≡ option_or first (then_some (not same) k) →
      option_or first' (first_difference (k + 1) l' r' rest) ≡ option_or first (first_difference k l r qs)
  first_more k l l' r r' first first' same nl nr s f =
      let later = first_difference (k + 1) (after q l) (after q r) rest in
      (λ t. option_or (f t) (first_difference (k + 1) (nl t) (nr t) rest))
      ∙ first_assoc first (then_some (not same) k) later
      ∙ ap (λ b. option_or first (option_or (then_some (not b) k) later)) s
      ∙ sym (ap (λ xs. option_or first (first_difference k l r xs)) is)

-- none is left
module _ (qs : List (List ℕ)) (none : qs ≡ []) where
  pub after_end : (car : Car) → after_all car qs ≡ car
  after_end car = ap (after_all car) none

  pub reply_end : (p : List ℕ) (car : Car) → last_reply p car qs ≡ p
  reply_end p car = ap (last_reply p car) none

  pub first_end : (k : ℕ) (l r : Car) (first : Option ℕ) → option_or first (first_difference k l r qs) ≡ first
  first_end k l r first = ap (λ xs. option_or first (first_difference k l r xs)) none ∙ first_none first

same_refl : (a : Answer) → same_answer a a ≡ true
same_refl silence = refl
same_refl (reply a) = (bytes_eq-Decides a a).1 refl

same_true : (a b : Answer) → same_answer a b ≡ true → a ≡ b
same_true silence silence e = refl
same_true silence (reply b) e = cc
same_true (reply a) silence e = cc
same_true (reply a) (reply b) e = ap reply ((bytes_eq-Decides a b).0 e)

-- Links that are alike never differ, and stay alike.
pub alike_never_differ : (k : ℕ) (l r : Car) (qs : List (List ℕ)) → ((earlier : List (List ℕ)) (last : List ℕ) → l earlier last ≡ r earlier last) → first_difference k l r qs ≡ None
alike_never_differ k l r [] cars = refl
alike_never_differ k l r (q ∷ qs) cars =
    let same : same_answer (l [] q) (r [] q) ≡ true = ap (same_answer (l [] q)) (sym (cars [] q)) ∙ same_refl (l [] q) in
    ap (λ b. option_or (then_some (not b) k) (first_difference (k + 1) (after q l) (after q r) qs)) same
    ∙ alike_never_differ (k + 1) (after q l) (after q r) qs (λ earlier last. cars (q ∷ earlier) last)

pub alike_after : (l r : Car) (p s : List ℕ) (qs : List (List ℕ)) → Alike l p r s → Alike (after_all l qs) (last_reply p l qs) (after_all r qs) (last_reply s r qs)
alike_after l r p s [] a = a
alike_after l r p s (q ∷ qs) a =
    alike_after (after q l) (after q r) (reply_of (l [] q)) (reply_of (r [] q)) qs
    (record { cars = λ earlier last. a.cars (q ∷ earlier) last; replies = ap reply_of (a.cars [] q) })

pub alike_is : (l l' r r' : Car) (p p' s s' : List ℕ) → l' ≡ l → p' ≡ p → r' ≡ r → s' ≡ s → Alike l p r s → Alike l' p' r' s'
alike_is l l' r r' p p' s s' a b c d h = record {
  cars = λ earlier last. (λ t. a t earlier last) ∙ h.cars earlier last ∙ sym (λ t. c t earlier last);
  replies = b ∙ h.replies ∙ sym d;
}

-- The first difference is one, and there is none before it.
differs_later : (k : ℕ) (a b : Answer) (xs ys : List Answer) (o : Option ℕ) → a ≡ b → Differs (k + 1) xs ys o → Differs k (a ∷ xs) (b ∷ ys) o
differs_later k a b xs ys None e d = λ t. e t ∷ d t
differs_later k a b xs ys (Some j) e d =
    let m : j - k ≡ suc (j - (k + 1)) = omega (arith, d.0) in (
      omega (arith, d.0),
      omega (arith, d.1),
      subst (λ n. take n (a ∷ xs) ≡ take n (b ∷ ys)) (sym m) (λ t. e t ∷ d.2 t),
      subst (λ n. get_or (a ∷ xs) n silence ≡ get_or (b ∷ ys) n silence → ⊥) (sym m) d.3,
    )

differs_here : (k : ℕ) (a b : Answer) (xs ys : List Answer) → (a ≡ b → ⊥) → Differs k (a ∷ xs) (b ∷ ys) (Some k)
differs_here k a b xs ys ne =
    let m : k - k ≡ 0 = omega arith in (
      omega arith,
      omega arith,
      subst (λ n. take n (a ∷ xs) ≡ take n (b ∷ ys)) (sym m) refl,
      subst (λ n. get_or (a ∷ xs) n silence ≡ get_or (b ∷ ys) n silence → ⊥) (sym m) ne,
    )

differs_by : (k : ℕ) (a b : Answer) (xs ys : List Answer) (o : Option ℕ) (same : Bool) → same_answer a b ≡ same → Differs (k + 1) xs ys o → Differs k (a ∷ xs) (b ∷ ys) (option_or (then_some (not same) k) o)
differs_by k a b xs ys o true e d = differs_later k a b xs ys o (same_true a b e) d
differs_by k a b xs ys o false e d =
    differs_here k a b xs ys (λ is. let t : same_answer a b ≡ true = ap (same_answer a) (sym is) ∙ same_refl a in cc)

pub first_differs : (k : ℕ) (l r : Car) (qs : List (List ℕ)) → Differs k (answers l qs) (answers r qs) (first_difference k l r qs)
first_differs k l r [] = refl
first_differs k l r (q ∷ qs) = differs_by k (l [] q) (r [] q) _ _ _ (same_answer (l [] q) (r [] q)) refl (first_differs (k + 1) (after q l) (after q r) qs)
