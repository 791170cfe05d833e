-- What is true of the rows of each table. Assumes nothing.
use Rattle.std.specs.Prelude.{◌≡◌, ℕ, ◌≤◌, true, map, length, vec_len, vec_capacity, slice_index_or}
use Rattle.value.specs.declared.kinds.Kind.TheVariants.{Char}
use Rattle.shapes.specs.Forms.{refers_below, rows_of}
use Rattle.shapes.specs.Rows.{shapes_of, sizes_of}
use Rattle.shapes.specs.declared.forms.Shape.TheVariants.{Scalar}
use Rattle.shapes.specs.declared.tables.Shapes.TheInside.{Inside}

pub record Held (t : Inside) : Type 0 where
  pub few : vec_len t.rows ≤ 2000
  pub sized : sizes_of t.rows.items ≡ map length (rows_of (shapes_of t.rows.items))
  pub below : (k : ℕ) → refers_below (slice_index_or (shapes_of t.rows.items) k (Scalar Char)) k ≡ true
  pub room : 2000 ≤ vec_capacity t.rows
