-- `take_instructions::halt` meets its contract. Assumes nothing.
use Rattle.take_instructions.proofs.Ends.{halted}
use Rattle.take_instructions.proofs.halt.Goals as goal

pub returns : goal.returns
returns c =
    halted c.requires c.append.ensures
