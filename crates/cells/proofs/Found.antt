-- The row that `new` finds, and the way back. Assumes nothing.
use Rattle.std.proofs.Common.{◌≡◌, ℕ, zero, suc, ◌+◌, ◌<◌, ◌≤◌, Bool, true, false, cond, List, [], ◌∷◌, length, get_or, set, replicate, Some, None, Option, sym, refl, ap, ◌∙◌, subst, ⊎_elim, arith, rules}
use Rattle.std.proofs.lemmas.List.{get_or_default, get_or_past, set_comm, set-get_or, set-set}
use Rattle.std.proofs.lemmas.Bool.{and_parts, and_from, both_ways, cases_lt}
use Rattle.value.specs.declared.kinds.Kind.TheVariants.{Char}
use Rattle.cells.specs.Fits.{is_dead, dead_at, row, first_from, first_row}
use Rattle.cells.specs.Laws.{DeadRow, Lowest}
use Rattle.cells.specs.Rows.{row_put}
use Rattle.cells.specs.declared.cell.Cell.{Cell}
use Rattle.cells.specs.declared.cell.Cell.TheVariants as cell

dead_is : (c : Cell) → is_dead c ≡ true → c ≡ cell.Dead
dead_is c e = search rules

-- a dead cell is one of the table
dead_within : (cs : List Cell) (i : ℕ) → dead_at cs i ≡ true → i < length cs
dead_within cs i e =
    ⊎_elim (λ h. h)
    (λ past. let gone : dead_at cs i ≡ false = ap is_dead (get_or_past cs i (cell.Unwritten Char) past) in absurd (both_ways (dead_at cs i) gone e))
    (cases_lt i (length cs))

dead_there : (cs : List Cell) (i : ℕ) → dead_at cs i ≡ true → get_or cs i cell.Dead ≡ cell.Dead
dead_there cs i e = get_or_default cs i cell.Dead (cell.Unwritten Char) (dead_within cs i e) ∙ dead_is _ e

there_dead : (cs : List Cell) (i : ℕ) → i < length cs → get_or cs i cell.Dead ≡ cell.Dead → dead_at cs i ≡ true
there_dead cs i h e = ap is_dead (get_or_default cs i (cell.Unwritten Char) cell.Dead h ∙ e)

-- a row by its test, and by its cells
row_cells : (cs : List Cell) (i n : ℕ) → i ≤ length cs → row cs i n ≡ true → DeadRow cs i n
unfolding row
row_cells cs i zero h e = (omega arith, λ k l. absurd (omega arith))
row_cells cs i (suc n) h e =
    let p = and_parts _ _ e in
    let within = dead_within cs i p.0 in
    let rest = row_cells cs (suc i) n (omega arith) p.1 in
    (omega (arith, rest.0), cells_of rest)
  where
    first : get_or cs (i + 0) cell.Dead ≡ cell.Dead
    first = let z : i + 0 ≡ i = omega arith in ap (λ j. get_or cs j cell.Dead) z ∙ dead_there cs i (and_parts _ _ e).0

    cells_of : DeadRow cs (suc i) n → (k : ℕ) → k < suc n → get_or cs (i + k) cell.Dead ≡ cell.Dead
    cells_of r zero l = first
    cells_of r (suc k) l = let z : i + suc k ≡ suc i + k = omega arith in ap (λ j. get_or cs j cell.Dead) z ∙ r.1 k (omega arith)

cells_row : (cs : List Cell) (i n : ℕ) → DeadRow cs i n → row cs i n ≡ true
unfolding row
cells_row cs i zero r = refl
cells_row cs i (suc n) r =
    let z : i + 0 ≡ i = omega arith in
    let here : dead_at cs i ≡ true = there_dead cs i (omega (arith, r.0)) (ap (λ j. get_or cs j cell.Dead) (sym z) ∙ r.1 0 (omega arith)) in
    let rest : DeadRow cs (suc i) n = (omega (arith, r.0), λ k l. let e : suc i + k ≡ i + suc k = omega arith in ap (λ j. get_or cs j cell.Dead) e ∙ r.1 (suc k) (omega arith)) in
    and_from _ _ here (cells_row cs (suc i) n rest)

-- the search from place i on, over the d places that are left
abbrev LowestFrom : List Cell → ℕ → ℕ → ℕ → Option ℕ → Type 0
LowestFrom cs n i d (Some k) = (i ≤ k) × (k < i + d) × DeadRow cs k n × ((j : ℕ) → i ≤ j → j < k → DeadRow cs j n → ⊥)
LowestFrom cs n i d None = (j : ℕ) → i ≤ j → j < i + d → DeadRow cs j n → ⊥

from_later : (cs : List Cell) (n i d : ℕ) (o : Option ℕ) → (DeadRow cs i n → ⊥) → LowestFrom cs n (suc i) d o → LowestFrom cs n i (suc d) o
from_later cs n i d (Some k) bad l = (
  omega (arith, l.0),
  omega (arith, l.1),
  l.2,
  λ j low high r. ⊎_elim (λ lt. l.3 j lt high r) (λ le. let e : j ≡ i = omega arith in bad (subst (λ x. DeadRow cs x n) e r)) (cases_lt i j),
)
from_later cs n i d None bad l =
    λ j low high r. ⊎_elim (λ lt. l j lt (omega arith) r) (λ le. let e : j ≡ i = omega arith in bad (subst (λ x. DeadRow cs x n) e r)) (cases_lt i j)

from_test : (cs : List Cell) (n i d : ℕ) (b : Bool) (o : Option ℕ) → i ≤ length cs → row cs i n ≡ b → LowestFrom cs n (suc i) d o → LowestFrom cs n i (suc d) (cond b (Some i) o)
from_test cs n i d true o h e l = (omega arith, omega arith, row_cells cs i n h e, λ j low high r. absurd (omega arith))
from_test cs n i d false o h e l = from_later cs n i d o (λ r. both_ways (row cs i n) e (cells_row cs i n r)) l

lowest_from : (cs : List Cell) (n i d : ℕ) → i + d ≤ length cs → LowestFrom cs n i d (first_from cs n i d)
unfolding first_from
lowest_from cs n i zero h = λ j low high r. absurd (omega arith)
lowest_from cs n i (suc d) h = from_test cs n i d (row cs i n) (first_from cs n (suc i) d) (omega arith) refl (lowest_from cs n (suc i) d (omega arith))

lowest_of : (cs : List Cell) (n : ℕ) (o : Option ℕ) → 1 ≤ n → LowestFrom cs n 0 (length cs) o → Lowest cs n o
lowest_of cs n (Some k) some l = (l.2, λ j high r. l.3 j (omega arith) high r)
lowest_of cs n None some l = λ j r. l j (omega arith) (omega (arith, r.0)) r

pub first_lowest : (cs : List Cell) (n : ℕ) → 1 ≤ n → Lowest cs n (first_row cs n)
unfolding first_row
first_lowest cs n some = lowest_of cs n (first_from cs n 0 (length cs)) some (lowest_from cs n 0 (length cs) (omega arith))

-- the search over the cells of a part, where it gave o
pub found_lowest : (cs part : List Cell) (n size : ℕ) (o : Option ℕ) → 1 ≤ n → part ≡ cs → size ≡ n → o ≡ first_row part size → Lowest cs n o
found_lowest cs part n size o some p s e = let found : o ≡ first_row cs n = cc in subst (Lowest cs n) (sym found) (first_lowest cs n some)

-- a row put over another of the same length, and one of dead cells over dead cells
set-row_put : (cs : List Cell) (i j : ℕ) (y : Cell) (row : List Cell) → j < i → set (row_put cs i row) j y ≡ row_put (set cs j y) i row
set-row_put cs i j y [] h = refl
set-row_put cs i j y (x ∷ xs) h = set-row_put (set cs i x) (i + 1) j y xs (omega arith) ∙ ap (λ l. row_put l (i + 1) xs) (set_comm cs i j x y (λ e. omega arith))

pub row_put_over : (cs : List Cell) (i : ℕ) (xs ys : List Cell) → length xs ≡ length ys → row_put (row_put cs i xs) i ys ≡ row_put cs i ys
row_put_over cs i [] [] l = refl
row_put_over cs i [] (y ∷ ys) l = absurd (omega arith)
row_put_over cs i (x ∷ xs) [] l = absurd (omega arith)
row_put_over cs i (x ∷ xs) (y ∷ ys) l =
    ap (λ t. row_put t (i + 1) ys) (set-row_put (set cs i x) (i + 1) i y xs (omega arith) ∙ ap (λ t. row_put t (i + 1) xs) (set-set cs i x y))
    ∙ row_put_over (set cs i y) (i + 1) xs ys (omega arith)

pub dead_over : (cs : List Cell) (i n : ℕ) → ((k : ℕ) → k < n → get_or cs (i + k) cell.Dead ≡ cell.Dead) → row_put cs i (replicate n cell.Dead) ≡ cs
dead_over cs i zero d = refl
dead_over cs i (suc n) d =
    let z : i + 0 ≡ i = omega arith in
    let here : set cs i cell.Dead ≡ cs = ap (set cs i) (sym (ap (λ j. get_or cs j cell.Dead) (sym z) ∙ d 0 (omega arith))) ∙ set-get_or cs i cell.Dead in
    ap (λ l. row_put l (i + 1) (replicate n cell.Dead)) here
    ∙ dead_over cs (i + 1) n (λ k h. let e : i + 1 + k ≡ i + suc k = omega arith in ap (λ j. get_or cs j cell.Dead) e ∙ d (suc k) (omega arith))
