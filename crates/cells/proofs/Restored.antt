-- `del` of a block that `new` gave. Assumes nothing.
use Rattle.std.proofs.Common.{◌≡◌, ℕ, ◌+◌, ◌-◌, List, [], ◌∷◌, length, get_or, drop, replicate, ℤ, Some, None, sym, ap, ◌∙◌, arith}
use Rattle.std.proofs.lemmas.List.{get_or-drop, length-replicate}
use Rattle.std.proofs.lemmas.Bool.{cond-true, le-leb}
use Rattle.cells.specs.Cells.{index_of}
use Rattle.cells.specs.Laws.{DeadRow}
use Rattle.cells.specs.Memory.{Memory, deleted, deleted_at, drop_block}
use Rattle.cells.specs.Rows.{row_put}
use Rattle.cells.specs.declared.cell.Cell.{Cell}
use Rattle.cells.specs.declared.cell.Cell.TheVariants.{Dead}
use Rattle.cells.proofs.Found.{dead_over, row_put_over}

-- the block that begins at place i dies
block_dies : (i n : ℕ) (a : ℤ) (m : Memory) → index_of a ≡ Some (1024 + i) → get_or m.blocks i None ≡ Some n → deleted a m ≡ drop_block i (Some n) m
block_dies i n a m at size =
    let back : 1024 + i - 1024 ≡ i = omega arith in
    ap (λ o. deleted_at o m) at
    ∙ cond-true _ _ _ (le-leb 1024 (1024 + i) (omega arith))
    ∙ ap (λ j. drop_block j (get_or m.blocks j None) m) back
    ∙ ap (λ s. drop_block i s m) size

-- a row that was dead, put into the table as a block, and deleted
pub deleted_back : (cs row : List Cell) (i : ℕ) (a : ℤ) (m : Memory) → index_of a ≡ Some (1024 + i) → get_or m.blocks i None ≡ Some (length row) → m.cells ≡ row_put cs (1024 + i) row → DeadRow (drop 1024 cs) i (length row) →
    (deleted a m).1.cells ≡ cs
deleted_back cs [] i a m at size put dead = ap (λ p. p.1.cells) (block_dies i 0 a m at size) ∙ put
deleted_back cs (x ∷ row) i a m at size put dead =
    let n = length (x ∷ row) in
    ap (λ p. p.1.cells) (block_dies i n a m at size ∙ cond-true _ _ _ (le-leb 1 n (omega arith)))
    ∙ ap (λ l. row_put l (1024 + i) (replicate n Dead)) put
    ∙ row_put_over cs (1024 + i) (x ∷ row) (replicate n Dead) (sym (length-replicate n Dead))
    ∙ dead_over cs (1024 + i) n
    (λ k h. let e : 1024 + i + k ≡ 1024 + (i + k) = omega arith in ap (λ j. get_or cs j Dead) e ∙ sym (get_or-drop 1024 cs (i + k) Dead) ∙ dead.1 k h)
