-- `take_instructions::jump` meets its contract. Assumes nothing.
use Rattle.take_instructions.proofs.Ends.{jumped}
use Rattle.take_instructions.proofs.jump.Goals as goal

pub returns : goal.returns
returns c =
    jumped c.requires c.append.ensures
