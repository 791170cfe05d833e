-- Rows of cells put into the table. Assumes nothing.
use Rattle.std.proofs.Common.{◌≡◌, ◌≢◌, ℕ, zero, suc, ◌+◌, ◌<◌, ◌≤◌, min, List, [], ◌∷◌, ◌++◌, length, get_or, take, drop, set, replicate, Some, None, sym, refl, ap, ◌∙◌, arith}
use Rattle.std.proofs.lemmas.List.{append_assoc, drop-drop, drop-set-lt, drop_more, get_or-set_other, length-map, length-set, set_past, take-append-drop, take_more_set}
use Rattle.std.proofs.lemmas.Option.{get_or_from_slice_get, slice_get-get_or, slice_get_within}
use Rattle.value.specs.declared.kinds.Kind.TheVariants.{Char}
use Rattle.value.specs.declared.kinds.Kind.{Kind}
use Rattle.cells.specs.Layouts.{kind_at, fresh}
use Rattle.cells.specs.Memory.{IsMemory, Memory, row_in, with_cells}
use Rattle.cells.specs.Rows.{row_put}
use Rattle.cells.specs.declared.cell.Cell.{Cell}
use Rattle.cells.specs.declared.cell.Cell.TheVariants.{Dead, Unwritten}

pub length-fresh : (ks : List Kind) → length (fresh ks) ≡ length ks
length-fresh ks = length-map ks Unwritten

length-row_put : (cs : List Cell) (i : ℕ) (row : List Cell) → length (row_put cs i row) ≡ length cs
length-row_put cs i [] = refl
length-row_put cs i (x ∷ xs) = length-row_put (set cs i x) (i + 1) xs ∙ length-set cs i x

-- with a row put in, a memory is still one
pub row_in_memory : (at : ℕ) (row : List Cell) (m : Memory) → IsMemory m → IsMemory (row_in at row m)
row_in_memory at row m h = record { cells = length-row_put m.cells at row ∙ h.cells; used = h.used; blocks = h.blocks; some = h.some }

-- a row changes no cell below it
below_row : (cs : List Cell) (i : ℕ) (row : List Cell) (j : ℕ) → j < i → get_or (row_put cs i row) j Dead ≡ get_or cs j Dead
below_row cs i [] j h = refl
below_row cs i (x ∷ xs) j h = below_row (set cs i x) (i + 1) xs j (omega arith) ∙ get_or-set_other cs i j x Dead (λ e. omega (arith, e))

dead_set : (cs : List Cell) (i : ℕ) → get_or (set cs i Dead) i Dead ≡ Dead
dead_set [] i = refl
dead_set (c ∷ cs) zero = refl
dead_set (c ∷ cs) (suc i) = dead_set cs i

-- the first cell of a row that dies is dead
pub dead_first : (cs : List Cell) (i n : ℕ) → 1 ≤ n → get_or (row_put cs i (replicate n Dead)) i Dead ≡ Dead
dead_first cs i zero h = absurd (omega arith)
dead_first cs i (suc n) h = below_row (set cs i Dead) (i + 1) (replicate n Dead) i (omega arith) ∙ dead_set cs i

-- a block of a cell or more is not one of none
pub some_cells : (n : ℕ) → 1 ≤ n → Some n ≢ Some 0
some_cells n h e = grind (arith, e, h)

-- the kind at i comes before the rest
pub kind_first : (ks : List Kind) (i : ℕ) (k : Kind) → Some k ≡ kind_at ks i → drop i ks ≡ k ∷ drop (i + 1) ks
kind_first ks i k e = drop_more ks i k (slice_get_within ks i k (sym e)) ∙ ap (λ x. x ∷ drop (i + 1) ks) (get_or_from_slice_get ks i k k (sym e))

pub kind_there : (ks : List Kind) (i : ℕ) → i < length ks → None ≡ kind_at ks i → ⊥
kind_there ks i h e = let there = slice_get-get_or ks i Char h in cc

-- one cell more comes to life
pub revive_more : (m m' : Memory) (at i : ℕ) (ks : List Kind) (k : Kind) → Some k ≡ kind_at ks i → m' ≡ with_cells m (set m.cells (at + i) (Unwritten k)) →
    row_in (at + (i + 1)) (fresh (drop (i + 1) ks)) m' ≡ row_in (at + i) (fresh (drop i ks)) m
revive_more m m' at i ks k e p =
    let n : at + (i + 1) ≡ at + i + 1 = omega arith in
    (λ t. row_in (n t) (fresh (drop (i + 1) ks)) (p t)) ∙ sym (ap (λ l. row_in (at + i) (fresh l) m) (kind_first ks i k e))

-- a row of one cell changes nothing where no place of it is in the table
pub row_past : (cs : List Cell) (at size : ℕ) (c : Cell) → min (length cs) (at + size) ≤ at → row_put cs at (replicate size c) ≡ cs
row_past cs at zero c h = refl
row_past cs at (suc n) c h = ap (λ l. row_put l (at + 1) (replicate n c)) (set_past cs at c (omega arith)) ∙ row_past cs (at + 1) n c (omega arith)

-- a row of one cell, of which the first n places are in the table
pub row_filled : (cs : List Cell) (at n size : ℕ) (c : Cell) → at + n ≡ min (length cs) (at + size) → take at cs ++ (replicate n c ++ drop n (drop at cs)) ≡ row_put cs at (replicate size c)
row_filled cs at zero size c h = take-append-drop at cs ∙ sym (row_past cs at size c (omega arith))
row_filled cs at (suc n) zero c h = absurd (omega arith)
row_filled cs at (suc n) (suc m) c h =
    let far : drop (suc n) (drop at cs) ≡ drop n (drop (at + 1) cs) = drop-drop (suc n) at cs ∙ ap (λ i. drop i cs) (omega arith) ∙ sym (drop-drop n (at + 1) cs) in
    let rest = row_filled (set cs at c) (at + 1) n m c (omega (arith, length-set cs at c)) in
    rw far (rw (take_more_set cs at c (omega arith), drop-set-lt (at + 1) cs at c (omega arith), append_assoc) at rest)
