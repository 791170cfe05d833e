-- The cars of bench units are sound. Assumes nothing.
use Rattle.std.specs.Prelude.{◌≡◌, ℕ, zero, suc, ◌*◌, ◌<◌, ◌≤◌, List, [], ◌∷◌, length, take, Some, None, Option, refl}
use Rattle.std.proofs.Common.{arith, lit<, lit≤}
use Rattle.std.specs.List.{flat_map}
use Rattle.std.proofs.lemmas.List.{length-take}
use Rattle.buffers.specs.Bytes.{Below, Bytes}
use Rattle.buffers.proofs.Bounds.{Below-take}
use Rattle.link.specs.Cars.{Proper, Sound}
use Rattle.bench.specs.Services.{service_of}
use Rattle.bench.specs.Cars.{answer_to, bench_car, codes_after, listed, two_bytes}
use Rattle.bench.specs.declared.services.Service.{Service}
use Rattle.bench.specs.declared.services.Service.TheVariants.{ListCodes, ClearCodes}

pub length-two_bytes : (cs : List ℕ) → length (flat_map two_bytes cs) ≡ 2 * length cs
length-two_bytes [] = refl
length-two_bytes (c ∷ cs) = let r = length-two_bytes cs in omega arith

-- each byte of the list
two_bytes_below : (cs : List ℕ) → Below 65536 cs → Bytes (flat_map two_bytes cs)
two_bytes_below [] b k = lit< tt
two_bytes_below (c ∷ cs) b zero = omega (arith, b 0)
two_bytes_below (c ∷ cs) b (suc zero) = omega arith
two_bytes_below (c ∷ cs) b (suc (suc k)) = two_bytes_below cs (λ j. b (suc j)) k

pub listed_below : (cs : List ℕ) → Below 65536 cs → length cs ≤ 30 → Bytes (listed cs)
listed_below cs b few zero = lit< tt
listed_below cs b few (suc zero) = omega arith
listed_below cs b few (suc (suc k)) = two_bytes_below cs b k

-- replies have 1 to 64 bytes
abbrev Codes : List ℕ → Type 0
Codes cs = Below 65536 cs × (length cs ≤ 30)

one_byte : (b : ℕ) → b < 256 → Bytes (b ∷ [])
one_byte b h zero = h
one_byte b h (suc k) = lit< tt

answer_proper : (s : Option Service) (cs : List ℕ) → Codes cs → Proper (answer_to s cs)
answer_proper (Some ListCodes) cs h = (omega arith, omega (arith, length-two_bytes cs, h.1), listed_below cs h.0 h.1)
answer_proper (Some ClearCodes) cs h = (lit≤ tt, lit≤ tt, one_byte 0x44 (lit< tt))
answer_proper None cs h = tt

after_codes : (s : Option Service) (cs : List ℕ) → Codes cs → Codes (codes_after s cs)
after_codes (Some ListCodes) cs h = h
after_codes (Some ClearCodes) cs h = (λ k. lit< tt, omega arith)
after_codes None cs h = h

pub bench_sound : (cs : List ℕ) → Codes cs → Sound (bench_car cs)
bench_sound cs h [] q = answer_proper (service_of q) cs h
bench_sound cs h (p ∷ ps) q = bench_sound (codes_after (service_of p) cs) (after_codes (service_of p) cs h) ps q

-- of a unit, by the front of its row
pub row_sound : (n : ℕ) (row : List ℕ) → n ≤ 30 → Below 65536 row → Sound (bench_car (take n row))
row_sound n row few fits = bench_sound (take n row) (Below-take 65536 (lit< tt) n row fits, omega (arith, length-take n row))
