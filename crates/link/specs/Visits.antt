-- A visit: requests sent one after the other. Assumes nothing.
use Rattle.std.specs.Prelude.{◌≡◌, ℕ, ◌+◌, ◌-◌, ◌<◌, ◌≤◌, Bool, true, false, not, List, [], ◌∷◌, length, take, Some, None, Option, ◌≢◌, slice_index_or}
use Rattle.std.specs.Bool.{then_some}
use Rattle.std.specs.Option.{option_or}
use Rattle.std.specs.Str.{bytes_eq}
use Rattle.link.specs.Cars.{Answer, silence, reply, Car, after, reply_of}

-- what each request gets, in order
abbrev pub answers : Car → List (List ℕ) → List Answer
answers car [] = []
answers car (q ∷ qs) = car [] q ∷ answers (after q car) qs

-- the car once all were sent
abbrev pub after_all : Car → List (List ℕ) → Car
after_all car [] = car
after_all car (q ∷ qs) = after_all (after q car) qs

-- the present reply once all were sent
abbrev pub last_reply : List ℕ → Car → List (List ℕ) → List ℕ
last_reply p car [] = p
last_reply p car (q ∷ qs) = last_reply (reply_of (car [] q)) (after q car) qs

abbrev pub same_answer : Answer → Answer → Bool
same_answer silence silence = true
same_answer silence (reply b) = false
same_answer (reply a) silence = false
same_answer (reply a) (reply b) = bytes_eq a b

-- the first request, counted from k, that gets another answer on the right than on the left
abbrev pub first_difference : ℕ → Car → Car → List (List ℕ) → Option ℕ
first_difference k left right [] = None
first_difference k left right (q ∷ qs) = option_or (then_some (not (same_answer (left [] q) (right [] q))) k) (first_difference (k + 1) (after q left) (after q right) qs)

-- requests are counted from k: nothing differs where all answers are the same; where request j differs, the answers before it are the same, and those to it are not
abbrev pub Differs : ℕ → List Answer → List Answer → Option ℕ → Type 0
Differs k xs ys None = xs ≡ ys
Differs k xs ys (Some j) = (k ≤ j) × (j < k + length xs) × (take (j - k) xs ≡ take (j - k) ys) × (slice_index_or xs (j - k) silence ≢ slice_index_or ys (j - k) silence)
