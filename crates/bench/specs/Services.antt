-- What a request asks of a bench unit. Assumes nothing.
use Rattle.std.specs.Prelude.{ℕ, cond, List, length, Some, None, Option, ◌==◌, slice_index}
use Rattle.bench.specs.declared.services.Service.{Service}
use Rattle.bench.specs.declared.services.Service.TheVariants.{ListCodes, ClearCodes}

-- one byte: 3 lists the codes, 4 clears them
abbrev pub by_code : ℕ → Option Service
by_code b = cond (b == 3) (Some ListCodes) (cond (b == 4) (Some ClearCodes) None)

abbrev pub service_of : List ℕ → Option Service
service_of q = cond (length q == 1) (by_code (slice_index q 0)) None
