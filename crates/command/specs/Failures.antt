-- What the handheld says where it fails, and how requests are read. Assumes nothing.
use Rattle.std.specs.Prelude.{ℕ, List, ◌++◌, codes, decimal}
use Rattle.refusal.specs.Texts.{refusal_text}
use Rattle.command.specs.declared.failures.Failure.{Failure}
use Rattle.command.specs.declared.failures.Failure.TheVariants.{Usage, NoFile, Refused, NotHex, NoMemory, NoOutput}

abbrev pub failure_text : Failure → List ℕ
failure_text Usage = codes "no such command; try handheld --help"
failure_text NoFile = codes "the tape's file cannot be read"
failure_text (Refused x) = codes "the tape is refused: " ++ refusal_text x
failure_text (NotHex k) = codes "request #" ++ (decimal k ++ codes " is no hexadecimal text")
failure_text NoMemory = codes "there is no memory left"
failure_text NoOutput = codes "the output cannot be written"
