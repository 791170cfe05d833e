-- How a bench unit stands, from what it holds. Assumes nothing.
use Rattle.std.specs.Prelude.{take, Ok, Err, Result}
use Rattle.buffers.specs.Held.{held as held_by}
use Rattle.refusal.specs.Refusals.{Refusal}
use Rattle.bench.specs.Standings.{Standing}
use Rattle.bench.specs.declared.BenchUnit.{BenchUnit}

abbrev pub standing : BenchUnit → Standing
standing u = record { codes = take u.held u.codes; shown = held_by u.present }

abbrev pub view : Result BenchUnit Refusal → Result Standing Refusal
view (Ok u) = Ok (standing u)
view (Err x) = Err x
