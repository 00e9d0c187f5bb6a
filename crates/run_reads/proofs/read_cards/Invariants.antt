-- `run_reads::read_cards` meets its contract. Assumes nothing.
use Rattle.run_reads.proofs.ReadingLaws.{Reading}
use Rattle.run_reads.proofs.read_cards.Given as goal

abbrev pub invariant-loop-n : goal.invariant-loop-n
invariant-loop-n l = Reading l.o l.cards l.taken l.fn.start.word l.fn.start.list l.initial.store l.store l.n l.at.word l.at.list
