-- `run_object::finish` meets its contract. Assumes nothing.
use Rattle.object_contents.specs.Book.{book_of}
use Rattle.run_object.proofs.Runs.{finished}
use Rattle.run_object.proofs.finish.Goals as goal

pub returns : goal.returns
returns c =
    let a = c.args in
    λ places store lines. finished (book_of a.o.now) a.q places store lines _ _ _ c.number.ensures (c.give_back.ensures places) c.sequence.ensures
