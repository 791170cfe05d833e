-- How types lie in cells. Assumes nothing.
use Rattle.std.specs.Prelude.{◌≡◌, ℕ, zero, suc, ◌+◌, ◌*◌, Bool, true, cond, ◌&&◌, List, [], ◌∷◌, ◌++◌, length, Some, None, Option, nat_le, nat_lt, slice_index_or}
use Rattle.value.specs.declared.kinds.Kind.{Kind}
use Rattle.shapes.specs.declared.forms.Shape.{Shape}
use Rattle.shapes.specs.declared.forms.Shape.TheVariants.{Scalar, Array, Sequence}

abbrev pub refers_below : Shape → ℕ → Bool
refers_below (Scalar k) place = true
refers_below (Array n e) place = nat_lt e place
refers_below (Sequence a b) place = nat_lt a place && nat_lt b place

-- a row n times
abbrev pub repeated : ℕ → List Kind → List Kind
repeated zero ks = []
repeated (suc n) ks = ks ++ repeated n ks

-- the kinds of a shape's cells, from those of the shapes that it names
abbrev pub kinds_of : List (List Kind) → Shape → List Kind
kinds_of rows (Scalar k) = k ∷ []
kinds_of rows (Array n e) = repeated n (slice_index_or rows e [])
kinds_of rows (Sequence a b) = slice_index_or rows a [] ++ slice_index_or rows b []

-- the kinds of all shapes of a table, each from those before it
abbrev pub rows_from : List (List Kind) → List Shape → List (List Kind)
rows_from rows [] = rows
rows_from rows (s ∷ ss) = rows_from (rows ++ kinds_of rows s ∷ []) ss

abbrev pub rows_of : List Shape → List (List Kind)
rows_of ss = rows_from [] ss

-- a shape can be added to a table of fewer than 2,000, if it names only shapes of the table and has 1 to 1,024 cells
abbrev pub size_fits : ℕ → Bool
size_fits n = nat_le 1 n && nat_le n 1024

abbrev pub measured : ℕ → Option ℕ
measured n = cond (size_fits n) (Some n) None

abbrev pub fits_in : List Shape → Shape → Bool
fits_in ss s = nat_lt (length ss) 2000 && (refers_below s (length ss) && size_fits (length (kinds_of (rows_of ss) s)))

-- the place of a shape that was added, and the table then
abbrev pub added : Shape → List Shape → Option ℕ × List Shape
added s ss = cond (fits_in ss s) (Some (length ss), ss ++ s ∷ []) (None, ss)

-- a scalar is one cell; an array's size is its length times the size of its element, and a sequence's the sum of its parts' sizes
pub record Sizes : Type 0 where
  pub scalar : (rows : List (List Kind)) (k : Kind) → length (kinds_of rows (Scalar k)) ≡ 1
  pub array : (rows : List (List Kind)) (n e : ℕ) → length (kinds_of rows (Array n e)) ≡ n * length (slice_index_or rows e [])
  pub sequence : (rows : List (List Kind)) (a b : ℕ) → length (kinds_of rows (Sequence a b)) ≡ length (slice_index_or rows a []) + length (slice_index_or rows b [])
