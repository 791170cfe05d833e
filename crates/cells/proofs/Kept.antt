-- What the calls leave as it was. Assumes nothing.
use Rattle.std.proofs.Common.{◌≡◌, ℕ, zero, suc, ◌+◌, ◌≤◌, true, eqb, List, [], ◌∷◌, map, length, get_or, take, drop, set, None, Ok, sym, refl, ap, ◌∙◌, arith, rules}
use Rattle.std.proofs.lemmas.List.{map-set, set-get_or, take-set-le, drop-set-lt}
use Rattle.value.specs.declared.kinds.Kind.{Kind}
use Rattle.value.specs.declared.values.Value.{Value}
use Rattle.cells.specs.Cells.{kind_in, rank, written_by}
use Rattle.cells.specs.Rows.{row_put}
use Rattle.cells.specs.declared.cell.Cell.{Cell}
use Rattle.cells.specs.declared.cell.Cell.TheVariants as cell

-- a row leaves what lies below and above it
pub take-row_put : (n : ℕ) (cs : List Cell) (i : ℕ) (row : List Cell) → n ≤ i → take n (row_put cs i row) ≡ take n cs
take-row_put n cs i [] h = refl
take-row_put n cs i (x ∷ xs) h = take-row_put n (set cs i x) (i + 1) xs (omega arith) ∙ take-set-le n cs i x h

pub drop-row_put : (n : ℕ) (cs : List Cell) (i : ℕ) (row : List Cell) → i + length row ≤ n → drop n (row_put cs i row) ≡ drop n cs
drop-row_put n cs i [] h = refl
drop-row_put n cs i (x ∷ xs) h = drop-row_put n (set cs i x) (i + 1) xs (omega arith) ∙ drop-set-lt n cs i x (omega arith)

-- writing
rank_same : (j k : Kind) → eqb (rank j) (rank k) ≡ true → j ≡ k
rank_same j k e = search rules

pub written_kind : (v : Value) (c d : Cell) → written_by v c ≡ Ok d → kind_in d ≡ kind_in c
written_kind v c d e = search (rules, rank_same)

get_or-map-kind_in : (cs : List Cell) (i : ℕ) → get_or (map kind_in cs) i None ≡ kind_in (get_or cs i cell.Dead)
get_or-map-kind_in [] i = refl
get_or-map-kind_in (c ∷ cs) zero = refl
get_or-map-kind_in (c ∷ cs) (suc i) = get_or-map-kind_in cs i

pub set_same_kind : (cs : List Cell) (i : ℕ) (c : Cell) → kind_in c ≡ kind_in (get_or cs i cell.Dead) → map kind_in (set cs i c) ≡ map kind_in cs
set_same_kind cs i c e = map-set kind_in cs i c ∙ ap (set (map kind_in cs) i) (e ∙ sym (get_or-map-kind_in cs i)) ∙ set-get_or (map kind_in cs) i None
