-- `take_arrays::named` meets its contract. Assumes nothing.
use Rattle.take_arrays.proofs.News.{Hunting}
use Rattle.take_arrays.proofs.named.Given as goal

abbrev pub invariant-loop-i : goal.invariant-loop-i
invariant-loop-i l = Hunting l.name l.n l.arrays l.i
