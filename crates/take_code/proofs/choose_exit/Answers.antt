-- `take_code::choose_exit` meets its contract. Assumes nothing.
use Rattle.take_code.proofs.Ends.{choose_full, choose_then}
use Rattle.take_code.proofs.Then.{grows_none, grows_then}
use Rattle.take_code.proofs.choose_exit.Goals as goal

pub returns-in_err-m : goal.returns-in_err-m
returns-in_err-m c =
    (grows_none 0 _ c.from_residual.ensures, choose_full c.requires.1 c.cell_name.ensures c.load.ensures.1 c.in_err-m.was c.from_residual.ensures)

pub choose-requires : goal.choose-requires
choose-requires c = c.load.ensures.0.fit _ c.in_ok-m.was

pub returns : goal.returns
returns c =
    (grows_then c.load.ensures.0 c.in_ok-m.was c.choose.ensures.0, choose_then c.requires.1 c.cell_name.ensures c.load.ensures.1 c.in_ok-m.was c.choose.ensures.1)
