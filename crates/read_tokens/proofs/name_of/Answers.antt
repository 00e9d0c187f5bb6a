-- `read_tokens::name_of` meets its contract. Assumes nothing.
use Rattle.read_tokens.proofs.Values.{name_is}
use Rattle.read_tokens.proofs.name_of.Goals as goal

pub returns : goal.returns
returns c =
    name_is c.args.name.now c.name_word.ensures c.name_word-2.ensures c.name_word-3.ensures c.name_word-4.ensures
