-- `take_arrays::ends_in_f` meets its contract. Assumes nothing.
use Rattle.take_arrays.proofs.Last.{Stripping}
use Rattle.take_arrays.proofs.ends_in_f.Given as goal

abbrev pub invariant-loop-word : goal.invariant-loop-word
invariant-loop-word l = Stripping l.initial.word l.word

abbrev pub decreases-loop-word : goal.decreases-loop-word
decreases-loop-word l = l.word
