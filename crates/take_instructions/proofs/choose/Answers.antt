-- `take_instructions::choose` meets its contract. Assumes nothing.
use Rattle.take_instructions.proofs.Ends.{chosen, not_chosen}
use Rattle.take_instructions.proofs.choose.Goals as goal

pub returns-then-n-count : goal.returns-then-n-count
returns-then-n-count c =
    not_chosen c.args.n c.args.code.now c.args.count c.if-n-count.true

pub returns : goal.returns
returns c =
    chosen c.args.n c.requires c.args.count c.if-n-count.false c.append.ensures
