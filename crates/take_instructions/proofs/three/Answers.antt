-- `take_instructions::three` meets its contract. Assumes nothing.
use native.Mathlib.Omega.{arith}
use Rattle.take_instructions.proofs.Ends.{branched, not_branched}
use Rattle.take_instructions.proofs.three.Goals as goal

pub returns-then-n-gt-EXITS : goal.returns-then-n-gt-EXITS
returns-then-n-gt-EXITS c =
    not_branched c.args.n c.args.code.now (omega arith)

pub returns : goal.returns
returns c =
    branched c.args.n c.requires (omega arith) c.append.ensures
