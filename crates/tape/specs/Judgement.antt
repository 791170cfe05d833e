-- Which bytes are a tape. Assumes nothing.
use Rattle.std.specs.Prelude.{ℕ, ◌+◌, ◌/◌, ◌%◌, cond, ◌&&◌, List, [], ◌∷◌, length, Some, None, Ok, Err, Option, Result, ◌==◌, nat_le}
use Rattle.std.specs.Option.{option_or}
use Rattle.refusal.specs.Refusals.{Refusal, refused}
use Rattle.reason.specs.declared.errors.LinkError.TheVariants.{Size, Mark, Padding, Range}
use Rattle.reason.specs.declared.reasons.Reason.TheVariants.{Link}
use Rattle.buffers.specs.Records.{records_of}
use Rattle.tape.specs.Entries.{marked, padded, sized, request_length, reply_count}

-- what is wrong with entry k
abbrev pub wrong : ℕ → List ℕ → Option Refusal
wrong k e =
    cond (marked e)
    (cond (padded e)
    (cond (sized (request_length e) && sized (reply_count e)) None (Some (refused (Link Range) k)))
    (Some (refused (Link Padding) k)))
    (Some (refused (Link Mark) k))

-- the first that is wrong, of entries numbered from k
abbrev pub judged : ℕ → List (List ℕ) → Option Refusal
judged k [] = None
judged k (e ∷ es) = option_or (wrong k e) (judged (k + 1) es)

-- why bytes are no tape
abbrev pub refusal_of : List ℕ → Option Refusal
refusal_of bs = cond (length bs % 18 == 0 && nat_le (length bs / 18) 2000) (judged 1 (records_of bs)) (Some (refused (Link Size) 0))

-- a value, unless there is a refusal
abbrev pub unless : {A : Type 0} → A → Option Refusal → Result A Refusal
unless a None = Ok a
unless a (Some x) = Err x

-- how many entries there are, or why bytes are no tape
abbrev pub verdict : List ℕ → Result ℕ Refusal
verdict bs = unless (length bs / 18) (refusal_of bs)
