-- A tape with another fill. Assumes nothing.
use Rattle.std.proofs.Common.{◌≡◌, ℕ, ◌+◌, ◌-◌, ◌*◌, ◌/◌, ◌%◌, ◌<◌, ◌≤◌, false, List, length, get_or, drop, sym, ap, ◌∙◌, zero-add, arith, lit<}
use Rattle.std.specs.List.{enumerate_from}
use Rattle.std.proofs.lemmas.List.{get_or-take, get_or-drop, get_or-map, length-map}
use Rattle.std.proofs.lemmas.List.FromFn.{length-enumerate_from, get_or-enumerate_from}
use Rattle.std.proofs.lemmas.Bool.{cond-false, lt-leb}
use Rattle.buffers.specs.Records.{record_at}
use Rattle.tape.specs.Entries.{reply_count}
use Rattle.tape.specs.Fills.{OnlyFill, is_fill, inverted_byte, inverted}

module _ (bs : List ℕ) where
  length-inverted : length (inverted bs) ≡ length bs
  length-inverted = length-map (enumerate_from 0 bs) _ ∙ length-enumerate_from 0 bs

  get_or-inverted : (p : ℕ) → p < length bs → get_or (inverted bs) p 0 ≡ inverted_byte bs p (get_or bs p 0)
  get_or-inverted p h =
      get_or-map (λ b. inverted_byte bs b.0 b.1) (enumerate_from 0 bs) p (0, 0) 0 (omega (arith, length-enumerate_from 0 bs))
      ∙ ap (λ b. inverted_byte bs b.0 b.1) (get_or-enumerate_from 0 bs p (0, 0) h)
      ∙ ap (λ n. inverted_byte bs n (get_or bs p 0)) (zero-add p)

  get_or-record_at : (l : List ℕ) (k i : ℕ) → i < 18 → get_or (record_at l k) i 0 ≡ get_or l (18 * (k - 1) + i) 0
  get_or-record_at l k i h = get_or-take 18 (drop (18 * (k - 1)) l) i 0 h ∙ get_or-drop (18 * (k - 1)) l i 0

  kept : (k i : ℕ) → i < 18 → i < 11 + reply_count (record_at bs k) → is_fill bs (18 * (k - 1) + i) ≡ false
  kept k i h c =
      let p = 18 * (k - 1) + i in
      let place : p % 18 ≡ i = omega arith in
      let frame : 18 * (p / 18) + 10 ≡ 18 * (k - 1) + 10 = omega arith in
      let count : get_or bs (18 * (p / 18) + 10) 0 ≡ reply_count (record_at bs k) = ap (λ n. get_or bs n 0) frame ∙ sym (get_or-record_at bs k 10 (lit< tt)) in
      lt-leb (11 + get_or bs (18 * (p / 18) + 10) 0) (p % 18) (omega (arith, place, count, c))

  kept_same : (k i : ℕ) → 1 ≤ k → k ≤ length bs / 18 → i < 18 → i < 11 + reply_count (record_at bs k) → get_or (record_at bs k) i 0 ≡ get_or (record_at (inverted bs) k) i 0
  kept_same k i some within h c =
      let p = 18 * (k - 1) + i in
      let same = get_or-inverted p (omega arith) ∙ cond-false _ _ _ (kept k i h c) in
      get_or-record_at bs k i h ∙ sym same ∙ sym (get_or-record_at (inverted bs) k i h)

  pub inverted_only : OnlyFill bs (inverted bs)
  inverted_only = record { size = sym length-inverted; bytes = kept_same }
