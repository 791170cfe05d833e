-- What a car says to requests. Assumes nothing.
use Rattle.std.specs.Prelude.{◌≡◌, ℕ, ◌≤◌, Bool, true, false, List, [], ◌∷◌, length}
use Rattle.buffers.specs.Bytes.{Bytes}

-- what one request gets
pub data Answer : Type 0 where
  silence : Answer
  reply : List ℕ → Answer

-- what the last of a nonempty list of requests gets: first the earlier ones, in order, then the last
abbrev pub Car : Type 0
Car = List (List ℕ) → List ℕ → Answer

-- the car once it was sent q: it says of a list what it said before of q followed by that list
abbrev pub after : List ℕ → Car → Car
after q car = λ earlier last. car (q ∷ earlier) last

-- a reply has 1 to 64 bytes
abbrev pub Proper : Answer → Type 0
Proper silence = Unit {0}
Proper (reply bs) = (1 ≤ length bs) × (length bs ≤ 64) × Bytes bs

abbrev pub Sound : Car → Type 0
Sound car = (earlier : List (List ℕ)) (last : List ℕ) → Proper (car earlier last)

-- a present reply has 0 to 64 bytes
abbrev pub Short : List ℕ → Type 0
Short bs = (length bs ≤ 64) × Bytes bs

-- whether there was a reply
abbrev pub answered : Answer → Bool
answered silence = false
answered (reply bs) = true

-- the reply, or nothing after silence
abbrev pub reply_of : Answer → List ℕ
reply_of silence = []
reply_of (reply bs) = bs

-- two links are alike: their cars say the same to every list of requests, and their present replies are equal
pub record Alike (c₁ : Car) (p₁ : List ℕ) (c₂ : Car) (p₂ : List ℕ) : Type 0 where
  pub cars : (earlier : List (List ℕ)) (last : List ℕ) → c₁ earlier last ≡ c₂ earlier last
  pub replies : p₁ ≡ p₂
