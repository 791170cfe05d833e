use Rattle.std.proofs.Common.{take}
use Rattle.buffers.specs.Held.{held}
use Rattle.bench.proofs.Codes.{Written}
use Rattle.bench.proofs.BenchUnit.list.Given as goal

abbrev pub invariant-loop-code : goal.invariant-loop-code
invariant-loop-code l = Written (take l.self.held l.self.codes) (held l.reply) l.code-index
