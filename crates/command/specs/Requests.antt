-- How the words of a command line are read as requests. Assumes nothing.
use Rattle.std.specs.Prelude.{◌≡◌, ℕ, ◌+◌, cond, List, [], ◌∷◌, map, Some, None, Ok, Err, vec_items, codes, Option, Result, Vec}
use Rattle.std.specs.declared.alloc.Global.{Global}
use Rattle.std.specs.Str.{bytes_eq}
use Rattle.hexadecimal.specs.Texts.{bytes_of}
use Rattle.command.specs.declared.failures.Failure.{Failure}
use Rattle.command.specs.declared.failures.Failure.TheVariants.{Usage, NoFile, Refused, NotHex, NoMemory, NoOutput}

-- `-` is a request of no bytes
abbrev pub request_of : List ℕ → Option (List ℕ)
request_of word = cond (bytes_eq word (codes "-")) (Some []) (bytes_of word)

abbrev pub before : ℕ → Option (List ℕ) → Result (List (List ℕ)) ℕ → Result (List (List ℕ)) ℕ
before k None rest = Err k
before k (Some q) (Ok qs) = Ok (q ∷ qs)
before k (Some q) (Err j) = Err j

-- the requests that words, counted from k, stand for, or the number of the first that is none
abbrev pub requests_of : ℕ → List (List ℕ) → Result (List (List ℕ)) ℕ
requests_of k [] = Ok []
requests_of k (w ∷ ws) = before k (request_of w) (requests_of (k + 1) ws)

-- a reading gives those requests or that number, unless memory fails
abbrev pub Reads : List (List ℕ) → Result (Vec (Vec ℕ Global) Global) Failure → Type 0
Reads words (Ok v) = requests_of 1 words ≡ Ok (map vec_items (vec_items v))
Reads words (Err (NotHex k)) = requests_of 1 words ≡ Err k
Reads words (Err NoMemory) = Unit {0}
Reads words (Err Usage) = ⊥
Reads words (Err NoFile) = ⊥
Reads words (Err (Refused x)) = ⊥
Reads words (Err NoOutput) = ⊥
