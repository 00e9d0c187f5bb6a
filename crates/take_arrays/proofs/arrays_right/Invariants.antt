-- `take_arrays::arrays_right` meets its contract. Assumes nothing.
use Rattle.take_arrays.proofs.Judging.{Checking}
use Rattle.take_arrays.proofs.arrays_right.Given as goal

abbrev pub invariant-loop-i : goal.invariant-loop-i
invariant-loop-i l = Checking l.arrays l.names.words.now l.names.count l.i
