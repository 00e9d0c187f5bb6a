-- `run_object::bench` meets its contract. Assumes nothing.
use Rattle.run_object.proofs.Runs.{made, bench_unread, bench_read}
use Rattle.run_object.proofs.bench.Goals as goal

pub returns-in-Some : goal.returns-in-Some
returns-in-Some c = bench_read c.args.object.now _ _ _ _ _ c.in-Some.ensures.is c.bench_read.ensures

pub returns-in-None : goal.returns-in-None
returns-in-None c = made c.not_run.ensures (bench_unread c.args.object.now _ _ _ _ c.in-None.ensures)
