-- `take_parts::mark` meets its contract. Assumes nothing.
use mathlib.Core.Path.{refl}
use Rattle.take_parts.proofs.Marking.{marking}
use Rattle.take_parts.proofs.mark.Goals as goal

pub returns : goal.returns
returns c =
    marking c.put_jumps-top.ensures c.word.ensures c.set_of.ensures c.put_row.ensures refl
