-- `run_reads::read_card` meets its contract. Assumes nothing.
use Prim.Native.Nat.{◌-◌}
use Rattle.run_reads.proofs.CardLaws.{Going}
use Rattle.run_reads.proofs.read_card.Given as goal

abbrev pub invariant-loop-again : goal.invariant-loop-again
invariant-loop-again l = Going l.o l.fn.start.word l.fn.start.list l.initial.store l.card l.store l.at.word l.at.list l.column

abbrev pub decreases-loop-again : goal.decreases-loop-again
decreases-loop-again l = l.o.layout.format_count - l.at.word
