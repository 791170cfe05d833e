-- Codes in a row of 30, and the reply that lists them. Assumes nothing.
use Rattle.std.specs.Prelude.{◌≡◌, ℕ, zero, suc, ◌+◌, ◌-◌, ◌*◌, ◌/◌, ◌%◌, ◌<◌, ◌≤◌, List, [], ◌∷◌, ◌++◌, length, take, replicate, slice_index}
use Rattle.std.proofs.Common.{sym, ap, subst, ◌∙◌, arith, lit<, Fits}
use borrow.Rule.Slice.PartMut.{post_of}
use Rattle.std.specs.Int.{w16, to_be_bytes}
use Rattle.std.specs.List.{flat_map}
use Rattle.std.proofs.lemmas.List.{length-append, length-drop, length_push, length-take, take_more, append_assoc, flat_map_more}
use Rattle.std.proofs.lemmas.Bool.Decides.{nat_tests}
use Rattle.buffers.specs.Bytes.{Below, pushed}
use Rattle.buffers.proofs.Bounds.{Below-append, Below-drop, Below-replicate}
use Rattle.bench.specs.Cars.{listed, two_bytes}
use Rattle.bench.specs.Sounds.{length-two_bytes}

-- codes copied into the front of a row
module _ (cs ds : List ℕ) (same : ds ≡ cs) (few : length cs ≤ 30) where
  pub row_room : length (ds ++ post_of 0 (length cs - 0) (replicate 30 0)) ≡ 30
  row_room = length-append ds _ ∙ simp (same, length-drop) (omega arith)

  pub row_fits : ((k : ℕ) → Fits w16 (slice_index cs k)) → Below 65536 (ds ++ post_of 0 (length cs - 0) (replicate 30 0))
  row_fits f = Below-append 65536 (lit< tt) ds _ (subst (Below 65536) (sym same) (λ k. (f k).fits)) (Below-drop 65536 (lit< tt) (length cs - 0) (replicate 30 0) (Below-replicate 65536 (lit< tt) 30))

-- the reply once the first i codes are in it
abbrev pub Written : List ℕ → List ℕ → ℕ → Type 0
Written cs s i = s ≡ (0x43 ∷ length cs ∷ []) ++ flat_map two_bytes (take i cs)

-- one code more: there is room for its two bytes
pub written_more : (cs s s1 s2 bs : List ℕ) (i : ℕ) → length cs ≤ 30 → i < length cs → slice_index cs i < 65536 → Written cs s i
    → bs ≡ to_be_bytes w16 (slice_index cs i) → s1 ≡ pushed 64 s (slice_index bs 0) → s2 ≡ pushed 64 s1 (slice_index bs 1) → Written cs s2 (i + 1)
written_more cs s s1 s2 bs i few h fits w is p q =
    let c = slice_index cs i in
    let high : c / 256 % 256 ≡ c / 256 = omega arith in
    let long : length s ≡ 2 + 2 * i = ap length w ∙ omega (arith, length-two_bytes (take i cs), length-take i cs) in
    let first : s1 ≡ s ++ (c / 256) ∷ [] = grind (arith, nat_tests) in
    let longer : length s1 ≡ length s + 1 = ap length first ∙ length_push s (c / 256) in
    let second : s2 ≡ s1 ++ (c % 256) ∷ [] = grind (arith, nat_tests) in
    let both = append_assoc s ((c / 256) ∷ []) ((c % 256) ∷ []) in
    let more = flat_map_more two_bytes (0x43 ∷ length cs ∷ []) (take i cs) c in
    let step = take_more cs i 0 h in
    cc

code_at : (cs : List ℕ) (i : ℕ) → i < length cs → 256 * slice_index (flat_map two_bytes cs) (2 * i) + slice_index (flat_map two_bytes cs) (1 + 2 * i) ≡ slice_index cs i
code_at [] i h = absurd (omega arith)
code_at (c ∷ cs) zero h = omega arith
code_at (c ∷ cs) (suc i) h =
    let high : 2 * suc i ≡ suc (suc (2 * i)) = omega arith in
    let low : 1 + 2 * suc i ≡ suc (suc (1 + 2 * i)) = omega arith in
    let l = flat_map two_bytes (c ∷ cs) in
    (λ t. 256 * slice_index l (high t) + slice_index l (low t)) ∙ code_at cs i (omega arith)

pub listed_legible : (cs : List ℕ) (i : ℕ) → i < length cs → 256 * slice_index (listed cs) (2 + 2 * i) + slice_index (listed cs) (3 + 2 * i) ≡ slice_index cs i
listed_legible cs i h =
    let high : 2 + 2 * i ≡ suc (suc (2 * i)) = omega arith in
    let low : 3 + 2 * i ≡ suc (suc (1 + 2 * i)) = omega arith in
    (λ t. 256 * slice_index (listed cs) (high t) + slice_index (listed cs) (low t)) ∙ code_at cs i h
