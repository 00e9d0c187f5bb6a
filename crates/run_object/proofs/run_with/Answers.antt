-- `run_object::run_with` meets its contract. Assumes nothing.
use Rattle.check_object.proofs.Tells.{if_refused, if_accepted}
use Rattle.run_object.proofs.Runs.{made, run_not_checked, run_checked_lem}
use Rattle.run_object.proofs.run_with.Goals as goal

pub run_passed-requires : goal.run_passed-requires
run_passed-requires c = (c.args.object.now, (if_accepted c.args.object.now _ _ c.in-Ok.ensures).passes)

pub returns-in-Ok : goal.returns-in-Ok
returns-in-Ok c = run_checked_lem c.args.object.now _ _ _ _ _ _ (if_accepted c.args.object.now _ _ c.in-Ok.ensures) c.run_passed.ensures

pub returns-in-Err : goal.returns-in-Err
returns-in-Err c = made c.not_run.ensures (run_not_checked c.args.object.now _ _ _ _ _ (if_refused c.args.object.now _ _ c.in-Err.ensures))
