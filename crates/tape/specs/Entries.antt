-- A tape's entries, as bytes. Assumes nothing.
--
-- An entry has 18 bytes: 0 and 1 are the mark QA; 2 is the request's length, 3 to 9 hold the request and then 0s; 10 to 17 are
-- the frame: 10 is the count n of the reply, 11 to 10 + n hold the reply, and what follows is fill of any value.
use Rattle.std.specs.Prelude.{◌≡◌, ℕ, Bool, true, ◌&&◌, List, take, drop, ◌==◌, nat_le, slice_index}
use Rattle.std.specs.List.{list_all}

abbrev pub marked : List ℕ → Bool
marked e = slice_index e 0 == 81 && slice_index e 1 == 65

abbrev pub request_length : List ℕ → ℕ
request_length e = slice_index e 2

abbrev pub reply_count : List ℕ → ℕ
reply_count e = slice_index e 10

abbrev pub zeros : List ℕ → Bool
zeros bs = list_all (λ b. b == 0) bs

abbrev pub padded : List ℕ → Bool
padded e = zeros (drop (request_length e) (take 7 (drop 3 e)))

abbrev pub sized : ℕ → Bool
sized n = nat_le 1 n && nat_le n 7

-- both lengths are 1 to 7
abbrev pub Fit : List ℕ → Type 0
Fit e = (sized (request_length e) ≡ true) × (sized (reply_count e) ≡ true)

-- a request and the reply that it gets
pub record Exchange : Type 0 where
  pub asked : List ℕ
  pub given : List ℕ

abbrev pub exchange_of : List ℕ → Exchange
exchange_of e = record {
  asked = take (request_length e) (take 7 (drop 3 e));
  given = take (reply_count e) (take 7 (drop 11 e));
}
