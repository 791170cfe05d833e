use Rattle.std.proofs.Common.{◌≡◌, ◌+◌, ◌/◌, length, drop}
use Rattle.tape.specs.Judgement.{judged, verdict, unless}
use Rattle.tape.proofs.judge.judge.Given as goal

abbrev pub invariant-loop-i : goal.invariant-loop-i
invariant-loop-i l = unless (length l.bytes / 18) (judged (l.i + 1) (drop l.i l.entries)) ≡ verdict l.bytes
