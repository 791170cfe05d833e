use Rattle.std.proofs.Common.{◌≤◌, length, take, arith}
use Rattle.std.proofs.lemmas.List.{length-take}
use Rattle.buffers.proofs.Bounds.{Below-take}
use Rattle.bench.proofs.Codes.{written_more}
use Rattle.bench.proofs.BenchUnit.list.Goals as goal

pub loop-code-preserved : goal.loop-code-preserved
loop-code-preserved c =
    let u = c.args.self.now in
    let i = c.loop-code.code-index in
    let few : length (take u.held u.codes) ≤ 30 = omega (arith, length-take u.held u.codes) in
    let fits = Below-take 65536 (omega arith) u.held u.codes u.fits i in
    written_more _ _ _ _ _ i few c.loop-code-test.true fits c.loop-code.invariant c.to_be_bytes.ensures c.push-in-loop-code.ensures.after c.push-in-loop-code-2.ensures.after
