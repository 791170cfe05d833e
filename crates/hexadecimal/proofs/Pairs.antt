-- Hexadecimal text, pair by pair. Assumes nothing.
use Rattle.std.proofs.Common.{◌≡◌, ℕ, zero, suc, ◌+◌, ◌*◌, ◌/◌, ◌%◌, ◌<◌, ◌≤◌, List, [], ◌∷◌, ◌++◌, length, get_or, drop, Some, None, Option, sym, refl, ap, ◌∙◌, arith}
use Rattle.std.specs.Simd.{first_chunks}
use Rattle.std.proofs.lemmas.List.{append_assoc, append-nil, at_drop_more, at_drop_all}
use Rattle.std.proofs.lemmas.Bool.Decides.{nat_tests}
use Rattle.buffers.specs.Bytes.{Bytes}
use Rattle.hexadecimal.specs.Digits.{digit_of, byte_of, pair_of, glyph_of}
use Rattle.hexadecimal.specs.Texts.{before, bytes_of, text_of}

-- bytes in front of what the rest stands for
abbrev pub after : List ℕ → Option (List ℕ) → Option (List ℕ)
after xs None = None
after xs (Some ys) = Some (xs ++ ys)

after_push : (xs : List ℕ) (b : ℕ) (o : Option (List ℕ)) → after (xs ++ b ∷ []) o ≡ after xs (before (Some b) o)
after_push xs b None = refl
after_push xs b (Some ys) = ap Some (append_assoc xs (b ∷ []) ys)

-- the bytes that pairs of digits stand for
abbrev pub read : List (List ℕ) → Option (List ℕ)
read [] = Some []
read (p ∷ ps) = before (pair_of (get_or p 0 0) (get_or p 1 0)) (read ps)

pub read_even : (n : ℕ) (text : List ℕ) → length text ≡ 2 * n → read (first_chunks 2 n text) ≡ bytes_of text
read_even zero [] h = refl
read_even zero (c ∷ text) h = absurd (omega arith)
read_even (suc n) [] h = absurd (omega arith)
read_even (suc n) (c ∷ []) h = absurd (omega arith)
read_even (suc n) (c ∷ (d ∷ text)) h = ap (before (pair_of c d)) (read_even n text (omega arith))

before_none : (o : Option ℕ) → before o None ≡ None
before_none None = refl
before_none (Some b) = refl

pub odd_none : (n : ℕ) (text : List ℕ) → length text ≡ 2 * n + 1 → bytes_of text ≡ None
odd_none n [] h = absurd (omega arith)
odd_none n (c ∷ []) h = refl
odd_none zero (c ∷ (d ∷ text)) h = absurd (omega arith)
odd_none (suc n) (c ∷ (d ∷ text)) h = ap (before (pair_of c d)) (odd_none n text (omega arith)) ∙ before_none (pair_of c d)

-- a pair that is no byte, one that is, and the end
module _ (pairs : List (List ℕ)) (i : ℕ) (xs : List ℕ) where
  pub pair_bad : i < length pairs → None ≡ pair_of (get_or (get_or pairs i []) 0 0) (get_or (get_or pairs i []) 1 0) → after xs (read (drop i pairs)) ≡ None
  pair_bad h e = at_drop_more (λ ps. after xs (read ps)) pairs i [] h ∙ ap (λ o. after xs (before o (read (drop (i + 1) pairs)))) (sym e)

  pub pair_more : (b : ℕ) → i < length pairs → Some b ≡ pair_of (get_or (get_or pairs i []) 0 0) (get_or (get_or pairs i []) 1 0) → after (xs ++ b ∷ []) (read (drop (i + 1) pairs)) ≡ after xs (read (drop i pairs))
  pair_more b h e =
      let rest = read (drop (i + 1) pairs) in
      after_push xs b rest ∙ ap (λ o. after xs (before o rest)) e ∙ sym (at_drop_more (λ ps. after xs (read ps)) pairs i [] h)

  pub pairs_end : length pairs ≤ i → after xs (read (drop i pairs)) ≡ Some xs
  pairs_end h = at_drop_all (λ ps. after xs (read ps)) pairs i h ∙ ap Some (append-nil xs)

-- a glyph is the digit of its value
glyph_digit : (n : ℕ) → n < 16 → digit_of (glyph_of n) ≡ Some n
glyph_digit n h = grind (arith, nat_tests)

byte_again : (b : ℕ) → b < 256 → pair_of (glyph_of (b / 16)) (glyph_of (b % 16)) ≡ Some b
byte_again b h =
    let high = glyph_digit (b / 16) (omega arith) in
    let low = glyph_digit (b % 16) (omega arith) in
    let whole : 16 * (b / 16) + b % 16 ≡ b = omega arith in
    (λ t. byte_of (high t) (low t)) ∙ ap Some whole

pub text_again : (bs : List ℕ) → Bytes bs → bytes_of (text_of bs) ≡ Some bs
text_again [] f = refl
text_again (b ∷ bs) f =
    let here = byte_again b (f 0) in
    let rest = text_again bs (λ k. f (suc k)) in
    λ t. before (here t) (rest t)
