-- `take_code::emit_plan` meets its contract. Assumes nothing.
use Rattle.take_code.proofs.Then.{grows_none, grows_then, plan_full, plan_then}
use Rattle.take_code.proofs.emit_plan.Goals as goal

pub returns-in_err-m : goal.returns-in_err-m
returns-in_err-m c =
    (grows_none _ _ c.from_residual.ensures, plan_full c.emit.ensures.1 _ _ c.in_err-m.was c.from_residual.ensures)

pub end-requires : goal.end-requires
end-requires c = c.emit.ensures.0.fit _ c.in_ok-m.was

pub returns : goal.returns
returns c =
    (grows_then c.emit.ensures.0 c.in_ok-m.was c.end.ensures.0, plan_then c.emit.ensures.1 c.in_ok-m.was c.end.ensures.1)
