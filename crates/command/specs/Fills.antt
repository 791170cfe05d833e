-- A visit beside the same visit with another fill. Assumes nothing.
use Rattle.std.specs.Prelude.{◌≡◌, ℕ, true, is_ok, None, Ok, Err, Option, Result}
use Rattle.refusal.specs.Refusals.{Refusal}
use Rattle.command.specs.declared.failures.Failure.{Failure}
use Rattle.command.specs.declared.failures.Failure.TheVariants.{Usage, NoFile, Refused, NotHex, NoMemory, NoOutput}

-- by the verdict on a tape: no request differs where the tape is taken; a refusal is the tape's own; memory may fail
abbrev pub NoneDiffers : Result ℕ Refusal → Result (Option ℕ) Failure → Type 0
NoneDiffers v (Ok first) = (is_ok v ≡ true) × (first ≡ None)
NoneDiffers v (Err (Refused x)) = v ≡ Err x
NoneDiffers v (Err NoMemory) = Unit {0}
NoneDiffers v (Err Usage) = ⊥
NoneDiffers v (Err NoFile) = ⊥
NoneDiffers v (Err (NotHex k)) = ⊥
NoneDiffers v (Err NoOutput) = ⊥
