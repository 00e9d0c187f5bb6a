-- `take_entries::signed` meets its contract. Assumes nothing.
use Rattle.take_entries.proofs.Words.{signed_less}
use Rattle.take_entries.proofs.signed.Goals as goal

pub returns-else-minus-eq0 : goal.returns-else-minus-eq0
returns-else-minus-eq0 c = signed_less c.low-word.ensures c.if-minus-eq0.false c.wrapping_neg.ensures c.wrapping_neg.type_inv
