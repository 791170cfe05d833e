-- What a table of shapes holds. Assumes nothing.
use Rattle.std.specs.Prelude.{◌≡◌, ℕ, ◌<◌, ◌≤◌, true, List, [], length, slice_index_or}
use Rattle.value.specs.declared.kinds.Kind.{Kind}
use Rattle.value.specs.declared.kinds.Kind.TheVariants.{Char}
use Rattle.shapes.specs.Forms.{kinds_of, refers_below, rows_of}
use Rattle.shapes.specs.declared.forms.Shape.{Shape}
use Rattle.shapes.specs.declared.forms.Shape.TheVariants.{Scalar}
use Rattle.shapes.specs.declared.tables.measured.Measured.{Measured}

-- the kinds of the shape at a place; none where there is no shape
abbrev pub kinds_at : List Shape → ℕ → List Kind
kinds_at ss i = slice_index_or (rows_of ss) i []

-- every table has at most 2,000 shapes, each of which names only earlier ones and has 1 to 1,024 cells
pub record IsTable (ss : List Shape) : Type 0 where
  pub few : length ss ≤ 2000
  pub below : (k : ℕ) → refers_below (slice_index_or ss k (Scalar Char)) k ≡ true
  pub some : (k : ℕ) → k < length ss → 1 ≤ length (kinds_at ss k)
  pub small : (k : ℕ) → length (kinds_at ss k) ≤ 1024

-- what a row says of the shape at its place
pub record RowAt (ss : List Shape) (place : ℕ) (row : Measured) : Type 0 where
  pub kinds : kinds_at ss place ≡ kinds_of (rows_of ss) row.shape
  pub size : row.size ≡ length (kinds_at ss place)
  pub below : refers_below row.shape place ≡ true
