-- `whole_numbers::resolve` meets its contract. Assumes nothing.
use lib.ListN.{length}
use Rattle.whole_numbers.proofs.Resolving.{Resolving}
use Rattle.whole_numbers.proofs.resolve.Given as goal

abbrev pub invariant-loop-k : goal.invariant-loop-k
invariant-loop-k l = Resolving l.numbers (length l.numbers) l.jumps (length l.jumps) l.places l.k
