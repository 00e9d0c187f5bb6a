-- `take_operands::refer` meets its contract. Assumes nothing.
use Rattle.take_operands.proofs.Operands.{referred, not_referred}
use Rattle.take_operands.proofs.refer.Goals as goal

pub returns-then-at-eq-ELEMENTS : goal.returns-then-at-eq-ELEMENTS
returns-then-at-eq-ELEMENTS c =
    not_referred c.args.n c.if-at-eq-ELEMENTS.true

pub returns : goal.returns
returns c =
    referred c.args.n c.requires.1 c.if-at-eq-ELEMENTS.false c.put_element.ensures c.append.ensures
