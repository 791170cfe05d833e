-- What a bench unit answers, over whole visits. Assumes nothing.
use Rattle.std.proofs.Common.{◌≡◌, ℕ, List, [], ◌∷◌, ◌++◌, Some, None, Option, refl, ap, ◌∙◌, arith}
use Rattle.std.specs.Prelude.{◌≢◌}
use Rattle.std.specs.List.{AllByRecursion}
use Rattle.std.proofs.lemmas.Bool.Decides.{nat_tests}
use Rattle.link.specs.Cars.{silence, reply}
use Rattle.bench.specs.Services.{service_of}
use Rattle.bench.specs.Cars.{Serves, answer_to, bench_car, codes_after, listed}
use Rattle.bench.specs.declared.services.Service.{Service}
use Rattle.bench.specs.declared.services.Service.TheVariants.{ListCodes, ClearCodes}
use Rattle.bench.proofs.Codes.{listed_legible}

-- a request that is neither of the two
unknown : (q : List ℕ) → (q ≢ 3 ∷ []) → (q ≢ 4 ∷ []) → service_of q ≡ None
unknown [] n3 n4 = refl
unknown (b ∷ []) n3 n4 = grind (arith, nat_tests, n3, n4)
unknown (b ∷ (c ∷ q)) n3 n4 = grind (arith, nat_tests)

-- only a request to clear clears
clears_only : (q : List ℕ) → service_of q ≡ Some ClearCodes → q ≡ 4 ∷ []
clears_only [] e = cc
clears_only (b ∷ []) e = grind (arith, nat_tests)
clears_only (b ∷ (c ∷ q)) e = grind (arith, nat_tests)

-- the codes stay under all but a request to clear
stay : (s : Option Service) (cs : List ℕ) → (s ≢ Some ClearCodes) → codes_after s cs ≡ cs
stay (Some ListCodes) cs n = refl
stay (Some ClearCodes) cs n = absurd (n refl)
stay None cs n = refl

kept_list : (cs : List ℕ) (earlier : List (List ℕ)) → AllByRecursion (λ q. q ≢ 4 ∷ []) earlier → bench_car cs earlier (3 ∷ []) ≡ reply (listed cs)
kept_list cs [] a = refl
kept_list cs (p ∷ ps) a = ap (λ l. bench_car l ps (3 ∷ [])) (stay (service_of p) cs (λ e. a.0 (clears_only p e))) ∙ kept_list cs ps a.1

empty_after : (s : Option Service) → codes_after s [] ≡ []
empty_after (Some ListCodes) = refl
empty_after (Some ClearCodes) = refl
empty_after None = refl

empty_list : (later : List (List ℕ)) → bench_car [] later (3 ∷ []) ≡ reply (0x43 ∷ 0 ∷ [])
empty_list [] = refl
empty_list (p ∷ ps) = ap (λ l. bench_car l ps (3 ∷ [])) (empty_after (service_of p)) ∙ empty_list ps

dropped_list : (cs : List ℕ) (before later : List (List ℕ)) → bench_car cs (before ++ (4 ∷ []) ∷ later) (3 ∷ []) ≡ reply (0x43 ∷ 0 ∷ [])
dropped_list cs [] later = empty_list later
dropped_list cs (p ∷ ps) later = dropped_list (codes_after (service_of p) cs) ps later

clear_answered : (cs : List ℕ) (earlier : List (List ℕ)) → bench_car cs earlier (4 ∷ []) ≡ reply (0x44 ∷ [])
clear_answered cs [] = refl
clear_answered cs (p ∷ ps) = clear_answered (codes_after (service_of p) cs) ps

other_silent : (cs : List ℕ) (earlier : List (List ℕ)) (last : List ℕ) → service_of last ≡ None → bench_car cs earlier last ≡ silence
other_silent cs [] last u = ap (λ s. answer_to s cs) u
other_silent cs (p ∷ ps) last u = other_silent (codes_after (service_of p) cs) ps last u

pub bench_serves : (cs : List ℕ) → Serves cs
bench_serves cs = record {
  kept = kept_list cs;
  dropped = dropped_list cs;
  clears = clear_answered cs;
  silent = λ earlier last n3 n4. other_silent cs earlier last (unknown last n3 n4);
  legible = listed_legible cs;
}
