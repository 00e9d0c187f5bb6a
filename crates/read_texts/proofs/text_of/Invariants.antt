-- `read_texts::text_of` meets its contract. Assumes nothing.
use Rattle.read_texts.proofs.TextLaws.{Writing}
use Rattle.read_texts.proofs.text_of.Given as goal

abbrev pub invariant-loop-c : goal.invariant-loop-c
invariant-loop-c l = Writing l.raw l.initial.text l.text l.n l.c-index
