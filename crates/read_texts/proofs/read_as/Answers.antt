-- `read_texts::read_as` meets its contract. Assumes nothing.
use Rattle.read_texts.proofs.TextLaws.{as_star, as_itself}
use Rattle.read_texts.proofs.read_as.Goals as goal

pub returns-then-c-eq36 : goal.returns-then-c-eq36
returns-then-c-eq36 c =
    as_star c.args.c c.if-c-eq36.true

pub returns-else-c-eq36 : goal.returns-else-c-eq36
returns-else-c-eq36 c =
    as_itself c.args.c c.if-c-eq36.false
