-- How a bench unit stands. Assumes nothing.
use Rattle.std.specs.Prelude.{ℕ, cond, List, [], length, Ok, Err, Result, nat_le}
use Rattle.refusal.specs.Refusals.{Refusal, refused}
use Rattle.reason.specs.declared.errors.LinkError.TheVariants.{Range}
use Rattle.reason.specs.declared.reasons.Reason.TheVariants.{Link}

-- the codes held and the present reply
pub record Standing : Type 0 where
  pub codes : List ℕ
  pub shown : List ℕ

-- a unit of at most 30 codes
abbrev pub bench_of : List ℕ → Result Standing Refusal
bench_of cs = cond (nat_le (length cs) 30) (Ok (record { codes = cs; shown = [] })) (Err (refused (Link Range) 0))
