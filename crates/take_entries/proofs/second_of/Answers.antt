-- `take_entries::second_of` meets its contract. Assumes nothing.
use Rattle.take_entries.proofs.Entered.{only_one, of_second}
use Rattle.take_entries.proofs.second_of.Goals as goal

pub returns-then-subscripts-eq1 : goal.returns-then-subscripts-eq1
returns-then-subscripts-eq1 c =
    only_one c.args.names.now.words.now c.args.names.now.count c.if-subscripts-eq1.true

pub returns : goal.returns
returns c =
    of_second c.args.names.now.words.now c.args.names.now.count c.if-subscripts-eq1.false c.linear_of.ensures
