-- `take_instructions::enter` meets its contract. Assumes nothing.
use native.Mathlib.Omega.{arith}
use Rattle.take_instructions.proofs.Ends.{entered, not_entered_lem}
use Rattle.take_instructions.proofs.enter.Goals as goal

pub returns-then-n-ge-CODE : goal.returns-then-n-ge-CODE
returns-then-n-ge-CODE c =
    not_entered_lem c.args.code.now c.args.n (omega arith)

pub returns : goal.returns
returns c =
    entered c.requires (omega arith) c.append.ensures
