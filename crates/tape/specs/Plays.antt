-- How a tape answers. Assumes nothing.
use Rattle.std.specs.Prelude.{◌≡◌, ℕ, cond, List, [], ◌∷◌, map, Some, None, Option}
use Rattle.std.specs.Str.{bytes_eq}
use Rattle.buffers.specs.Records.{records_of}
use Rattle.link.specs.Cars.{Answer, silence, reply, Car}
use Rattle.link.specs.Visits.{answers}
use Rattle.refusal.specs.Refusals.{Refusal}
use Rattle.tape.specs.Entries.{Exchange, exchange_of}
use Rattle.tape.specs.Judgement.{refusal_of}

-- the request of the entry that is due gets its reply; any other gets silence
abbrev pub answer_of : List Exchange → List ℕ → Answer
answer_of [] q = silence
answer_of (e ∷ es) q = cond (bytes_eq e.asked q) (reply e.given) silence

-- and moves the tape on; any other does not
abbrev pub moved : List Exchange → List ℕ → List Exchange
moved [] q = []
moved (e ∷ es) q = cond (bytes_eq e.asked q) es (e ∷ es)

-- the car of a tape of which these exchanges are left
abbrev pub tape_car : List Exchange → Car
tape_car es [] q = answer_of es q
tape_car es (p ∷ ps) q = tape_car (moved es p) ps q

-- sent the requests of its exchanges in order, a tape gives their replies in order
abbrev pub Replays : List Exchange → Type 0
Replays es = answers (tape_car es) (map (λ e. e.asked) es) ≡ map (λ e. reply e.given) es

-- how a tape stands: the exchanges that are left, and the present reply
pub record Standing : Type 0 where
  pub left : List Exchange
  pub shown : List ℕ

-- no entry and no reply
abbrev pub blank : Standing
blank = record { left = []; shown = [] }

-- a tape that was given new exchanges, unless they were refused: it stands before the first, with an empty present reply
abbrev pub unless_refused : Option Refusal → List Exchange → Standing → Standing
unless_refused None es s = record { left = es; shown = [] }
unless_refused (Some x) es s = s

-- a tape once it was opened on bytes
abbrev pub opened : List ℕ → Standing → Standing
opened bs s = unless_refused (refusal_of bs) (map exchange_of (records_of bs)) s
