-- `read_formats::repeat` meets its contract. Assumes nothing.
use Rattle.read_formats.proofs.PutLaws.{Copying}
use Rattle.read_formats.proofs.repeat.Given as goal

abbrev pub invariant-loop-k : goal.invariant-loop-k
invariant-loop-k l = Copying l.initial.words l.from l.top l.n l.many l.words l.k
