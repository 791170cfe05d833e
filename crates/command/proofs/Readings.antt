-- Words read as requests, one after the other. Assumes nothing.
use Rattle.std.proofs.Common.{ℕ, List, ◌++◌, Ok, Err, Result}

-- requests in front of what the rest stands for
abbrev pub after : List (List ℕ) → Result (List (List ℕ)) ℕ → Result (List (List ℕ)) ℕ
after xs (Ok ys) = Ok (xs ++ ys)
after xs (Err k) = Err k
