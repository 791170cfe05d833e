use Rattle.std.proofs.Common.{◌≡◌, ◌+◌, map, drop, vec_items}
use Rattle.command.specs.Requests.{requests_of}
use Rattle.command.proofs.Readings.{after}
use Rattle.command.proofs.requests.read_requests.Given as goal

abbrev pub invariant-loop-i : goal.invariant-loop-i
invariant-loop-i g l = after (map vec_items (vec_items l.requests)) (requests_of (l.i + 1) (map g.S.AsStr.text (drop l.i l.words))) ≡ requests_of 1 (map g.S.AsStr.text l.words)
