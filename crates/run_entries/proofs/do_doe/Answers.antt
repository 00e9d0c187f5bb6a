-- `run_entries::do_doe` meets its contract. Assumes nothing.
use borrow.Author.Rules.{rules}
use Rattle.rules_shared.specs.Choose.{turn}
use Rattle.object_contents.specs.Layout.{loop_at}
use Rattle.run_entries.proofs.do_doe.Goals as goal

pub returns-then-z-limit : goal.returns-then-z-limit
unfolding loop_at turn
returns-then-z-limit c = search rules

pub returns : goal.returns
unfolding loop_at turn
returns c = search rules
