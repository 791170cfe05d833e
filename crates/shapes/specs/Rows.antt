-- Shapes with their sizes. Assumes nothing.
use Rattle.std.specs.Prelude.{ℕ, List, map}
use Rattle.shapes.specs.declared.forms.Shape.{Shape}
use Rattle.shapes.specs.declared.tables.measured.Measured.{Measured}

abbrev pub shapes_of : List Measured → List Shape
shapes_of rows = map (λ r. r.shape) rows

abbrev pub sizes_of : List Measured → List ℕ
sizes_of rows = map (λ r. r.size) rows
