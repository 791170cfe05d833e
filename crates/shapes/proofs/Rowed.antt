-- The rows of a table of shapes. Assumes nothing.
use Rattle.std.proofs.Common.{◌≡◌, ℕ, zero, suc, ◌+◌, ◌-◌, ◌*◌, ◌%◌, ◌<◌, ◌≤◌, true, List, [], ◌∷◌, ◌++◌, map, length, get_or, take, drop, Some, None, Option, Bor, sym, refl, ap, ◌∙◌, inl, inr, ⊎_elim, mod-eq_of_lt, zero-mul, arith, lit≤}
use native.Mathlib.Nat.{add-mod_right}
use Rattle.std.proofs.Math.ListN.{get_or-map as get_or-map_all}
use Rattle.std.proofs.lemmas.List.{get_or_at, get_or_read, get_or_append_left, get_or_past, get_or_push, length-map, get_or-map, map_push, length-append, length_push, length-take-le, drop_more, take-append-drop}
use Rattle.std.proofs.lemmas.Bool.{and_parts, ltb-true, cases_lt}
use Rattle.std.specs.Prelude.{IfSome}
use Rattle.std.specs.Slice.{IsItemAt}
use Rattle.value.specs.declared.kinds.Kind.{Kind}
use Rattle.value.specs.declared.kinds.Kind.TheVariants.{Char}
use Rattle.cells.specs.Layouts.{kind_at}
use Rattle.shapes.specs.Forms.{Sizes, kinds_of, measured, refers_below, repeated, rows_from, rows_of}
use Rattle.shapes.specs.Rows.{shapes_of, sizes_of}
use Rattle.shapes.specs.declared.forms.Shape.{Shape}
use Rattle.shapes.specs.Held.{Held}
use Rattle.shapes.specs.Tables.{IsTable, RowAt}
use Rattle.shapes.specs.declared.tables.measured.Measured.{Measured}
use Rattle.shapes.specs.declared.tables.Shapes.TheInside.{Inside}
use Rattle.std.proofs.lemmas.Bool.Decides.{nat_tests}
use Rattle.shapes.specs.declared.forms.Shape.TheVariants.{Scalar, Array, Sequence}

-- one shape more
pub rows_push : (rows : List (List Kind)) (ss : List Shape) (s : Shape) → rows_from rows (ss ++ s ∷ []) ≡ rows_from rows ss ++ kinds_of (rows_from rows ss) s ∷ []
rows_push rows [] s = refl
rows_push rows (x ∷ ss) s = rows_push (rows ++ kinds_of rows x ∷ []) ss s

pub length-rows_from : (rows : List (List Kind)) (ss : List Shape) → length (rows_from rows ss) ≡ length rows + length ss
length-rows_from rows [] = omega arith
length-rows_from rows (s ∷ ss) = length-rows_from (rows ++ kinds_of rows s ∷ []) ss ∙ omega (arith, length_push rows (kinds_of rows s))

-- rows that are there stay
rows_stay : (rows : List (List Kind)) (ss : List Shape) (j : ℕ) → j < length rows → get_or (rows_from rows ss) j [] ≡ get_or rows j []
rows_stay rows [] j h = refl
rows_stay rows (s ∷ ss) j h =
    rows_stay (rows ++ kinds_of rows s ∷ []) ss j (omega (arith, length_push rows (kinds_of rows s))) ∙ get_or_append_left rows (kinds_of rows s ∷ []) [] j h

rows_join : (rows : List (List Kind)) (xs ys : List Shape) → rows_from rows (xs ++ ys) ≡ rows_from (rows_from rows xs) ys
rows_join rows [] ys = refl
rows_join rows (x ∷ xs) ys = rows_join (rows ++ kinds_of rows x ∷ []) xs ys

-- a shape's kinds depend on earlier rows only
kinds_same : (rows more : List (List Kind)) (s : Shape) (n : ℕ) → refers_below s n ≡ true → ((j : ℕ) → j < n → get_or more j [] ≡ get_or rows j []) → kinds_of more s ≡ kinds_of rows s
kinds_same rows more (Scalar k) n r same = refl
kinds_same rows more (Array c e) n r same = ap (repeated c) (same e (ltb-true e n r))
kinds_same rows more (Sequence a b) n r same =
    let p = and_parts _ _ r in
    let left = same a (ltb-true a n p.0) in
    let right = same b (ltb-true b n p.1) in
    λ t. left t ++ right t

pub row_at : (ss : List Shape) (i : ℕ) (s : Shape) → i < length ss → s ≡ get_or ss i s → refers_below s i ≡ true → get_or (rows_of ss) i [] ≡ kinds_of (rows_of ss) s
row_at ss i s h at below =
    let front = rows_of (take i ss) in
    let rest = drop (i + 1) ss in
    let long : length front ≡ i = length-rows_from [] (take i ss) ∙ omega (arith, length-take-le i ss (omega arith)) in
    let split : ss ≡ take i ss ++ s ∷ rest = sym (take-append-drop i ss) ∙ ap (λ l. take i ss ++ l) (drop_more ss i s h ∙ ap (λ x. x ∷ rest) (sym at)) in
    let all : rows_of ss ≡ rows_from (front ++ kinds_of front s ∷ []) rest = ap rows_of split ∙ rows_join [] (take i ss) (s ∷ rest) in
    let here : get_or (rows_of ss) i [] ≡ kinds_of front s =
    ap (λ l. get_or l i []) all ∙ rows_stay (front ++ kinds_of front s ∷ []) rest i (omega (arith, length_push front (kinds_of front s), long)) ∙ get_or_at front (kinds_of front s) [] [] i long in
    let earlier : (j : ℕ) → j < i → get_or (rows_of ss) j [] ≡ get_or front j [] = λ j l.
    ap (λ rs. get_or rs j []) all ∙ rows_stay (front ++ kinds_of front s ∷ []) rest j (omega (arith, length_push front (kinds_of front s), long)) ∙ get_or_append_left front (kinds_of front s ∷ []) [] j (omega (arith, long)) in
    here ∙ sym (kinds_same front (rows_of ss) s i below earlier)

-- lengths and kinds of rows that are put together
pub length-repeated : (n : ℕ) (ks : List Kind) → length (repeated n ks) ≡ n * length ks
length-repeated zero ks = sym (zero-mul (length ks))
length-repeated (suc n) ks = length-append ks (repeated n ks) ∙ ap (λ m. length ks + m) (length-repeated n ks) ∙ omega arith

pub kind_past : (ks : List Kind) (i : ℕ) → length ks ≤ i → kind_at ks i ≡ None
kind_past [] i h = refl
kind_past (k ∷ ks) zero h = absurd (omega arith)
kind_past (k ∷ ks) (suc i) h = kind_past ks i (omega arith)

pub kind_left : (xs ys : List Kind) (i : ℕ) → i < length xs → kind_at (xs ++ ys) i ≡ kind_at xs i
kind_left [] ys i h = absurd (omega arith)
kind_left (x ∷ xs) ys zero h = refl
kind_left (x ∷ xs) ys (suc i) h = kind_left xs ys i (omega arith)

pub kind_right : (xs ys : List Kind) (i : ℕ) → length xs ≤ i → kind_at (xs ++ ys) i ≡ kind_at ys (i - length xs)
kind_right [] ys i h = let e : i ≡ i - 0 = omega arith in ap (kind_at ys) e
kind_right (x ∷ xs) ys zero h = absurd (omega arith)
kind_right (x ∷ xs) ys (suc i) h = kind_right xs ys i (omega arith) ∙ ap (kind_at ys) (let e : i - length xs ≡ suc i - suc (length xs) = omega arith in e)

pub kind_repeated : (n : ℕ) (ks : List Kind) (i : ℕ) → i < length (repeated n ks) → kind_at (repeated n ks) i ≡ kind_at ks (i % length ks)
kind_repeated zero ks i h = absurd (omega arith)
kind_repeated (suc n) ks i h =
    ⊎_elim
    (λ left. kind_left ks (repeated n ks) i left ∙ ap (kind_at ks) (sym (mod-eq_of_lt left)))
    (λ right.
    let below : i - length ks < length (repeated n ks) = omega (arith, h, length-append ks (repeated n ks)) in
    let back : (i - length ks) % length ks ≡ i % length ks = sym (add-mod_right (i - length ks) (length ks)) ∙ ap (λ m. m % length ks) (let e : i - length ks + length ks ≡ i = omega arith in e) in
    kind_right ks (repeated n ks) i right ∙ kind_repeated n ks (i - length ks) below ∙ ap (kind_at ks) back)
    (cases_lt i (length ks))

pushed_below : (ss : List Shape) (s : Shape) → ((k : ℕ) → refers_below (get_or ss k (Scalar Char)) k ≡ true) → refers_below s (length ss) ≡ true → (k : ℕ) → refers_below (get_or (ss ++ s ∷ []) k (Scalar Char)) k ≡ true
pushed_below ss s f last k = elim (cases_lt k (length ss)) [
  | inl before ↦ rw get_or_append_left (f k)
  | inr after ↦ by_end (k - length ss) (omega arith)
]
  where
    by_end : (j : ℕ) → k ≡ length ss + j → refers_below (get_or (ss ++ s ∷ []) k (Scalar Char)) k ≡ true
    by_end zero e = let here : k ≡ length ss = omega arith in rw (get_or_push ss s (Scalar Char) k (sym here), here) last
    by_end (suc j) e = rw (get_or_past (ss ++ s ∷ []) k (Scalar Char) (omega (arith, length_push ss s)))

-- one shape more in a table
module _ (rows rows' : List Measured) (m : Measured) (more : rows' ≡ rows ++ m ∷ []) where
  shapes_more : shapes_of rows' ≡ shapes_of rows ++ m.shape ∷ []
  shapes_more = ap shapes_of more ∙ map_push (λ r. r.shape) rows m

  pub sized_more : sizes_of rows ≡ map length (rows_of (shapes_of rows)) → m.size ≡ length (kinds_of (rows_of (shapes_of rows)) m.shape) → sizes_of rows' ≡ map length (rows_of (shapes_of rows'))
  sized_more e size =
      let ss = shapes_of rows in
      ap sizes_of more ∙ map_push (λ r. r.size) rows m ∙ (λ t. e t ++ size t ∷ []) ∙ sym (map_push length (rows_of ss) (kinds_of (rows_of ss) m.shape)) ∙ ap (map length) (sym (rows_push [] ss m.shape)) ∙ ap (λ l. map length (rows_of l)) (sym shapes_more)

  pub below_more : ((k : ℕ) → refers_below (get_or (shapes_of rows) k (Scalar Char)) k ≡ true) → refers_below m.shape (length rows) ≡ true → (k : ℕ) → refers_below (get_or (shapes_of rows') k (Scalar Char)) k ≡ true
  below_more f last k = rw shapes_more (pushed_below (shapes_of rows) m.shape f (rw length-map last) k)

-- each row has a cell
some_cells : (rows : List Measured) (k : ℕ) → k < length rows → 1 ≤ get_or (sizes_of rows) k 0
some_cells [] k h = absurd (omega arith)
some_cells (m ∷ rows) zero h = m.some
some_cells (m ∷ rows) (suc k) h = some_cells rows k (omega arith)

-- and at most 1,024
few_cells : (rows : List Measured) (k : ℕ) → get_or (sizes_of rows) k 0 ≤ 1024
few_cells [] k = lit≤ tt
few_cells (m ∷ rows) zero = m.small
few_cells (m ∷ rows) (suc k) = few_cells rows k

-- what the invariant says of the shapes
pub table_of : (t : Inside) → Held t → (ss : List Shape) → shapes_of t.rows.items ≡ ss → IsTable ss
table_of t held ss same =
    let rows = t.rows.items in
    let long = length-map rows (λ m. m.shape) in
    let cells = λ (k : ℕ). (let size = ap (λ l. get_or l k 0) held.sized ∙ get_or-map_all length (rows_of (shapes_of rows)) k [] in size) in
    rw (← same) (record {
      few = omega (arith, held.few, long, t.rows.ok.0);
      below = held.below;
      some = λ k h. omega (arith, some_cells rows k (omega (arith, h, long)), cells k);
      small = λ k. omega (arith, few_cells rows k, cells k);
    })

-- the row that is found at a place
module _ (t : Inside) (held : Held t) (ss : List Shape) (same : shapes_of t.rows.items ≡ ss) (i : ℕ) (rows : List Measured) (e : rows ≡ t.rows.items) where
  pub row_found : (row : Option (Bor Measured)) → IsItemAt rows i row → IfSome row (λ r. RowAt ss i r.now)
  row_found None item = tt
  row_found (Some r) item =
      let row = r.now in
      let read : row ≡ get_or t.rows.items i row = item.1 ∙ ap (λ l. get_or l i row) e in
      let within : i < length t.rows.items = omega (arith, item.3.0, ap length e) in
      let inside : i < length (shapes_of t.rows.items) = omega (arith, within, length-map t.rows.items (λ m. m.shape)) in
      let shape : row.shape ≡ get_or (shapes_of t.rows.items) i row.shape = ap (λ m. m.shape) read ∙ sym (get_or-map (λ m. m.shape) t.rows.items i row row.shape within) in
      let below : refers_below row.shape i ≡ true = ap (λ x. refers_below x i) (get_or_read (shapes_of t.rows.items) i row.shape inside shape (Scalar Char)) ∙ held.below i in
      rw (← same) (record {
        kinds = row_at (shapes_of t.rows.items) i row.shape inside shape below;
        size = ap (λ m. m.size) read ∙ sym (get_or-map (λ m. m.size) t.rows.items i row 0 within) ∙ ap (λ l. get_or l i 0) held.sized ∙ get_or-map_all length (rows_of (shapes_of t.rows.items)) i [];
        below = below;
      })

pub measured_some : (m n : ℕ) → Some m ≡ measured n → (m ≡ n) × (m ≤ 1024)
measured_some m n e = (grind (arith, nat_tests), grind (arith, nat_tests))

pub sizes_hold : Sizes
sizes_hold = record {
  scalar = λ rows k. refl;
  array = λ rows n e. length-repeated n (get_or rows e []);
  sequence = λ rows a b. length-append (get_or rows a []) (get_or rows b []);
}
