use Rattle.std.proofs.Common.{◌≡◌, drop, vec_items}
use Rattle.hexadecimal.specs.Texts.{bytes_of}
use Rattle.hexadecimal.proofs.Pairs.{after, read}
use Rattle.hexadecimal.proofs.decode.Given as goal

-- the bytes so far, and what the other pairs stand for
abbrev pub invariant-loop-high : goal.invariant-loop-high
invariant-loop-high l = after (vec_items l.bytes) (read (drop l.high-index l.pairs)) ≡ bytes_of l.text
