use Rattle.std.proofs.Common.{◌≡◌, ℕ, None, Some, Option, refl}
use Rattle.cells.proofs.stores.Store.new.Goals as goal

-- what no number is, is absent
absent : (P : Option ℕ → Type 0) → ((n : ℕ) → P (Some n) → ⊥) → (o : Option ℕ) → P o → o ≡ None
absent P f None p = refl
absent P f (Some n) p = absurd (f n p)

pub returns : goal.returns
returns c =
    λ t. record {
      cells = c.in_ok-cells.ensures.items_if_clones_equal (λ y e. e) t;
      used = 0;
      blocks = c.in_ok-blocks.ensures.items_if_clones_equal (absent _ (λ n e. e)) t;
    }
