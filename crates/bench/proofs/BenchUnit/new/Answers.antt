use Rattle.bench.proofs.Codes.{row_room, row_fits}
use Rattle.bench.proofs.Served.{bench_serves}
use Rattle.bench.proofs.BenchUnit.new.Goals as goal

pub invariant_of-result-clause-fits : goal.invariant_of-result-clause-fits
invariant_of-result-clause-fits c = row_fits c.args.codes.now c.copy_from_slice.new.self c.copy_from_slice.ensures.after c.if-codes-gt30.false c.type_inv.codes

pub invariant_of-result-clause-room : goal.invariant_of-result-clause-room
invariant_of-result-clause-room c = row_room c.args.codes.now c.copy_from_slice.new.self c.copy_from_slice.ensures.after c.if-codes-gt30.false

pub returns-clause-serves : goal.returns-clause-serves
returns-clause-serves c = bench_serves _
