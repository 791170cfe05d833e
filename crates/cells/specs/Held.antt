-- What is true of all findings. Assumes nothing.
use Rattle.std.specs.Prelude.{◌≤◌, vec_len, vec_capacity}
use Rattle.cells.specs.declared.findings.Findings.TheInside.{Inside}

pub record Held (f : Inside) : Type 0 where
  pub few : vec_len f.numbers ≤ 32
  pub room : 32 ≤ vec_capacity f.numbers
