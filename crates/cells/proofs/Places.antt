-- The search for a row. Assumes nothing.
use Rattle.std.proofs.Common.{◌≡◌, ℕ, suc, ◌+◌, ◌-◌, ◌<◌, ◌≤◌, Bool, true, false, cond, ◌&&◌, List, length, get_or, Some, None, Option, not, sym, rules, ap, ◌∙◌, arith}
use Rattle.value.specs.declared.kinds.Kind.TheVariants.{Char}
use Rattle.std.proofs.lemmas.List.{get_or_past, get_or_default}
use Rattle.cells.specs.declared.cell.Cell.{Cell}
use Rattle.cells.specs.contracts.cell.CellPartialEq.TheImpl as eq
use Rattle.cells.specs.declared.cell.Cell.TheVariants.{Dead, Unwritten}
use Rattle.cells.specs.Fits.{dead_at, is_dead, row, first_from}

-- one cell of a row
row_step : (cs : List Cell) (i n m : ℕ) (b : Bool) → n ≡ suc m → dead_at cs i ≡ b → row cs i n ≡ b && row cs (suc i) m
unfolding row
row_step cs i n m b e d = ap (row cs i) e ∙ ap (λ c. c && row cs (suc i) m) d

pub row_more : (cs : List Cell) (s i n : ℕ) → i < n → dead_at cs (s + i) ≡ true → row cs (s + i) (n - i) ≡ row cs (s + (i + 1)) (n - (i + 1))
row_more cs s i n h d =
    let p : n - i ≡ suc (n - (i + 1)) = omega arith in
    let q : suc (s + i) ≡ s + (i + 1) = omega arith in
    row_step cs (s + i) (n - i) (n - (i + 1)) true p d ∙ ap (λ j. row cs j (n - (i + 1))) q

pub row_ends : (cs : List Cell) (s i n : ℕ) → i < n → dead_at cs (s + i) ≡ false → row cs (s + i) (n - i) ≡ false
row_ends cs s i n h d =
    let p : n - i ≡ suc (n - (i + 1)) = omega arith in
    row_step cs (s + i) (n - i) (n - (i + 1)) false p d

pub row_none : (cs : List Cell) (j n : ℕ) → n ≡ 0 → row cs j n ≡ true
unfolding row
row_none cs j n e = ap (row cs j) e

pub dead_past : (cs : List Cell) (j : ℕ) → length cs ≤ j → dead_at cs j ≡ false
dead_past cs j h = ap is_dead (get_or_past cs j (Unwritten Char) h)

-- one start of the search
from_step : (cs : List Cell) (n i d e : ℕ) (b : Bool) → d ≡ suc e → row cs i n ≡ b → first_from cs n i d ≡ cond b (Some i) (first_from cs n (suc i) e)
unfolding first_from
from_step cs n i d e b p q = ap (first_from cs n i) p ∙ ap (λ c. cond c (Some i) (first_from cs n (suc i) e)) q

pub from_next : (cs : List Cell) (n i : ℕ) → i < length cs → row cs i n ≡ false → first_from cs n i (length cs - i) ≡ first_from cs n (i + 1) (length cs - (i + 1))
from_next cs n i h q =
    let p : length cs - i ≡ suc (length cs - (i + 1)) = omega arith in
    let r : suc i ≡ i + 1 = omega arith in
    from_step cs n i (length cs - i) (length cs - (i + 1)) false p q ∙ ap (λ j. first_from cs n j (length cs - (i + 1))) r

pub from_here : (cs : List Cell) (n i : ℕ) → i < length cs → row cs i n ≡ true → first_from cs n i (length cs - i) ≡ Some i
from_here cs n i h q =
    let p : length cs - i ≡ suc (length cs - (i + 1)) = omega arith in
    from_step cs n i (length cs - i) (length cs - (i + 1)) true p q

pub from_none : (cs : List Cell) (n i d : ℕ) → d ≡ 0 → first_from cs n i d ≡ None
unfolding first_from
from_none cs n i d e = ap (first_from cs n i) e

-- what a cell that was read says
same_dead : (c : Cell) → not (not (eq.ghosts.eq c Dead)) ≡ is_dead c
same_dead c = search rules

pub dead_read : (cs : List Cell) (j : ℕ) (d : Cell) (r b : Bool) → j < length cs → r ≡ not (eq.ghosts.eq (get_or cs j d) Dead) → r ≡ b → dead_at cs j ≡ not b
dead_read cs j d r b h e q = ap is_dead (get_or_default cs j (Unwritten Char) d h) ∙ sym (same_dead (get_or cs j d)) ∙ ap not (sym e ∙ q)

pub start_ends : (cs : List Cell) (s i n : ℕ) {r : Option ℕ} → s < length cs → i < n → row cs s n ≡ row cs (s + i) (n - i) → dead_at cs (s + i) ≡ false → first_from cs n s (length cs - s) ≡ r → first_from cs n (s + 1) (length cs - (s + 1)) ≡ r
start_ends cs s i n h k e d q = sym (from_next cs n s h (e ∙ row_ends cs s i n k d)) ∙ q
