-- The rules of a tape's format, one by one, and what a judgement owes them. Assumes nothing.
use Rattle.std.specs.Prelude.{◌≡◌, ℕ, ◌+◌, ◌/◌, ◌%◌, ◌<◌, ◌≤◌, ◌⊎◌, List, length, Ok, Err, Result, ◌≢◌, slice_index}
use Rattle.buffers.specs.Records.{record_at}
use Rattle.reason.specs.Numbers.{reason_number}
use Rattle.refusal.specs.Refusals.{Refusal}
use Rattle.tape.specs.Entries.{request_length, reply_count}

-- an entry breaks the rule of a number
pub data Faulty (e : List ℕ) : ℕ → Type 0 where
  -- its mark is not QA
  mark : (slice_index e 0 ≡ 81 → slice_index e 1 ≢ 65) → Faulty e 2
  -- one of its seven request bytes, from the request's length on, is not 0
  padding : (i : ℕ) → request_length e ≤ i → i < 7 → (slice_index e (3 + i) ≢ 0) → Faulty e 3
  -- its request has not 1 to 7 bytes
  request : (1 ≤ request_length e → request_length e ≤ 7 → ⊥) → Faulty e 6
  -- its reply has not 1 to 7 bytes
  reply : (1 ≤ reply_count e → reply_count e ≤ 7 → ⊥) → Faulty e 6

-- bytes break the rule of a number at a record
pub data Broken (bs : List ℕ) : ℕ → ℕ → Type 0 where
  -- a part of an entry, or over 2,000
  size : (length bs % 18 ≡ 0 → length bs / 18 ≤ 2000 → ⊥) → Broken bs 0 1
  -- an entry is faulty
  entry : (k n : ℕ) → 1 ≤ k → k ≤ length bs / 18 → Faulty (record_at bs k) n → Broken bs k n

-- the rule of number n at record k comes first: no other that is broken stands at a lower record, or there under a lower number
abbrev pub First : List ℕ → ℕ → ℕ → Type 0
First bs k n = Broken bs k n × ((j m : ℕ) → Broken bs j m → (k < j) ⊎ ((k ≡ j) × (n ≤ m)))

-- bytes are taken, with the count of their entries, exactly where no rule is broken; else the first that is broken is told
abbrev pub Judged : List ℕ → Result ℕ Refusal → Type 0
Judged bs (Ok n) = (n ≡ length bs / 18) × ((j m : ℕ) → Broken bs j m → ⊥)
Judged bs (Err x) = First bs x.at (reason_number x.cause)
