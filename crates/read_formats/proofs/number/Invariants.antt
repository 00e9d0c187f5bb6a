-- `read_formats::number` meets its contract. Assumes nothing.
use Rattle.read_formats.proofs.NumberLaws.{Counting}
use Rattle.read_formats.proofs.number.Given as goal

abbrev pub invariant-loop-i : goal.invariant-loop-i
invariant-loop-i l = Counting l.columns l.at l.n l.v l.i
