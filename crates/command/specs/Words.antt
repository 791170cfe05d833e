-- The commands of the handheld. Assumes nothing.
use Rattle.std.specs.Prelude.{ℕ, cond, List, [], ◌∷◌, Some, None, codes, Option}
use Rattle.std.specs.Str.{bytes_eq}

-- what the handheld is told to do: to help, or to play a visit on the tape at a path with requests
pub data Told : Type 0 where
  help : Told
  visit : List ℕ → List (List ℕ) → Told

-- `--help` alone, or `visit` with a tape and any requests
abbrev pub command_of : List (List ℕ) → Option Told
command_of [] = None
command_of (word ∷ []) = cond (bytes_eq word (codes "--help")) (Some help) None
command_of (word ∷ (tape ∷ requests)) = cond (bytes_eq word (codes "visit")) (Some (visit tape requests)) None
