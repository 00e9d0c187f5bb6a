-- `read_texts::put` meets its contract. Assumes nothing.
use Rattle.read_texts.proofs.TextLaws.{Putting}
use Rattle.read_texts.proofs.put.Given as goal

abbrev pub invariant-loop-card : goal.invariant-loop-card
invariant-loop-card l = Putting l.cards l.initial.raw l.raw l.n l.card-index
