-- `take_cells::hide` meets its contract. Assumes nothing.
use Rattle.take_cells.proofs.Both.{no_hiding, hiding}
use Rattle.take_cells.proofs.hide.Goals as goal

pub returns-then-n-gt4094 : goal.returns-then-n-gt4094
returns-then-n-gt4094 c = no_hiding c.args.n c.if-n-gt4094.true

pub returns : goal.returns
returns c = hiding c.args.n c.if-n-gt4094.false
