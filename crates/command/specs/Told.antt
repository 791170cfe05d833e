-- What a command tells, from what it holds. Assumes nothing.
use Rattle.std.specs.Prelude.{ℕ, List, map}
use Rattle.command.specs.Words.{Told, help, visit}
use Rattle.command.specs.declared.words.Command.{Command}
use Rattle.command.specs.declared.words.Command.TheVariants.{Help, Visit}

-- by the text of a word
abbrev pub told : {S : Type 0} → (S → List ℕ) → Command S → Told
told text Help = help
told text (Visit tape requests) = visit tape.now (map text requests.now)
