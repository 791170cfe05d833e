-- A refusal as a reason and a record, and a run fault with its record. Assumes nothing.
use Rattle.std.specs.Prelude.{ℕ}
use Rattle.reason.specs.declared.faults.RunFault.{RunFault}
use Rattle.reason.specs.declared.reasons.Reason.{Reason}
use Rattle.refusal.specs.declared.refusals.At.{At}

abbrev pub Refusal : Type 0
Refusal = At Reason

abbrev pub FaultAt : Type 0
FaultAt = At RunFault

-- a cause and a record
abbrev pub blamed : {C : Type 0} → C → ℕ → At C
blamed why k = record { cause = why; at = k }

abbrev pub refused : Reason → ℕ → Refusal
refused why k = blamed why k

abbrev pub faulted : RunFault → ℕ → FaultAt
faulted what k = blamed what k
