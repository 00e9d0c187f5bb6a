-- `run_entries::do_doi` meets its contract. Assumes nothing.
use borrow.Author.Rules.{rules}
use Rattle.object_contents.specs.Layout.{loop_at}
use Rattle.run_entries.proofs.do_doi.Goals as goal

pub returns : goal.returns
unfolding loop_at
returns c = search rules
