-- `run_lists::start_of` meets its contract. Assumes nothing.
use Rattle.object_contents.specs.Book.{book_of}
use Rattle.run_lists.proofs.Lists.{start_is, begins}
use Rattle.run_lists.proofs.start_of.Goals as goal

pub returns : goal.returns
returns c =
    let o = c.args.o.now in
    begins (book_of o) c.args.x c.requires.x_value _ (start_is o.layout o.bytes.now c.args.x _ _ _ c.requires.x_bound c.load.ensures c.load-2.ensures c.load-3.ensures)
