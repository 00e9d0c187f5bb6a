-- `final_body::put_words` meets its contract: each word after those that are written. Assumes nothing.
use lib.ListN.{take}
use Rattle.final_body.specs.Bodies.{PutBody}
use Rattle.final_body.proofs.put_words.Given as goal

abbrev pub invariant-loop-word : goal.invariant-loop-word
invariant-loop-word l = PutBody l.initial.part 0 (take l.word-index l.words) l.part l.at
