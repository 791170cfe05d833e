-- Findings: at most 32 numbers. Assumes nothing.
use Rattle.std.specs.Prelude.{ℕ, cond, List, [], ◌∷◌, ◌++◌, length, ℤ, Ok, Err, Option, Result, nat_lt, slice_get}
use Rattle.reason.specs.declared.faults.RunFault.TheVariants.{FindingsFull}
use Rattle.value.specs.declared.values.Stop.{Stop}
use Rattle.value.specs.declared.values.Stop.TheVariants.{Fault}

-- one more, unless there are 32: the answer, and the findings then
abbrev pub added : ℤ → List ℤ → Result Unit Stop × List ℤ
added n fs = cond (nat_lt (length fs) 32) (Ok tt, fs ++ n ∷ []) (Err (Fault FindingsFull), fs)

-- finding k, counted from 0 and absent exactly from the count on
abbrev pub number_at : List ℤ → ℕ → Option ℤ
number_at fs k = slice_get fs k
