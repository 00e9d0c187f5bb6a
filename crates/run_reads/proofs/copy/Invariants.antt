-- `run_reads::copy` meets its contract. Assumes nothing.
use Rattle.run_reads.proofs.CopyLaws.{Copied}
use Rattle.run_reads.proofs.copy.Given as goal

abbrev pub invariant-loop-i : goal.invariant-loop-i
invariant-loop-i l = Copied l.from l.initial.to l.n l.to l.i
