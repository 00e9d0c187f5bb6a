-- `take_entries::put_element` meets its contract. Assumes nothing.
use Rattle.take_entries.proofs.Entered.{entered}
use Rattle.take_entries.proofs.put_element.Goals as goal

pub returns : goal.returns
returns c =
    entered c.args.names.now.words.now c.args.names.now.count c.args.n _ _ c.array_of-array.ensures c.max-columns.ensures c.linear_of-first.ensures c.second_of-second.ensures
    c.put_words.ensures
