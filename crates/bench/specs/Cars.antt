-- The car that a bench unit means. Assumes nothing.
use Rattle.std.specs.Prelude.{◌≡◌, ℕ, ◌+◌, ◌*◌, ◌/◌, ◌%◌, ◌<◌, List, [], ◌∷◌, ◌++◌, length, Some, None, Option, ◌≢◌, slice_index}
use Rattle.std.specs.List.{flat_map, AllByRecursion}
use Rattle.link.specs.Cars.{Answer, silence, reply, Car}
use Rattle.bench.specs.Services.{service_of}
use Rattle.bench.specs.declared.services.Service.{Service}
use Rattle.bench.specs.declared.services.Service.TheVariants.{ListCodes, ClearCodes}

-- a code, high byte first
abbrev pub two_bytes : ℕ → List ℕ
two_bytes c = c / 256 ∷ c % 256 ∷ []

-- 0x43, the count and the codes
abbrev pub listed : List ℕ → List ℕ
listed cs = (0x43 ∷ length cs ∷ []) ++ flat_map two_bytes cs

-- what a service gets of a unit with these codes
abbrev pub answer_to : Option Service → List ℕ → Answer
answer_to (Some ListCodes) cs = reply (listed cs)
answer_to (Some ClearCodes) cs = reply (0x44 ∷ [])
answer_to None cs = silence

-- and the codes that it leaves
abbrev pub codes_after : Option Service → List ℕ → List ℕ
codes_after (Some ListCodes) cs = cs
codes_after (Some ClearCodes) cs = []
codes_after None cs = cs

abbrev pub bench_car : List ℕ → Car
bench_car cs [] q = answer_to (service_of q) cs
bench_car cs (p ∷ ps) q = bench_car (codes_after (service_of p) cs) ps q

-- what a mechanic may count on, whatever was sent before
pub record Serves (cs : List ℕ) : Type 0 where
  -- until a request to clear, the codes are listed
  pub kept : (earlier : List (List ℕ)) → AllByRecursion (λ q. q ≢ 4 ∷ []) earlier → bench_car cs earlier (3 ∷ []) ≡ reply (listed cs)
  -- from then on, none
  pub dropped : (before later : List (List ℕ)) → bench_car cs (before ++ (4 ∷ []) ∷ later) (3 ∷ []) ≡ reply (0x43 ∷ 0 ∷ [])
  -- a request to clear is always answered
  pub clears : (earlier : List (List ℕ)) → bench_car cs earlier (4 ∷ []) ≡ reply (0x44 ∷ [])
  -- nothing else is
  pub silent : (earlier : List (List ℕ)) (last : List ℕ) → (last ≢ 3 ∷ []) → (last ≢ 4 ∷ []) → bench_car cs earlier last ≡ silence
  -- each code can be read off the list
  pub legible : (i : ℕ) → i < length cs → 256 * slice_index (listed cs) (2 + 2 * i) + slice_index (listed cs) (3 + 2 * i) ≡ slice_index cs i
