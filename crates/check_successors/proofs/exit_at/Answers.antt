-- `check_successors::exit_at` meets its contract. Assumes nothing.
use mathlib.Core.Path.{sym, ◌∙◌}
use Rattle.object_contents.proofs.Entries.{exit_at_lem, exit_inside}
use Rattle.check_successors.proofs.exit_at.Goals as goal

pub load-requires : goal.load-requires
load-requires c =
    let e = c.args.e.now in
    let s = c.args.o.now in
    let i = c.args.i in
    exit_inside e s c.requires.0 i c.requires.1

pub returns : goal.returns
returns c =
    let e = c.args.e.now in
    let s = c.args.o.now in
    let i = c.args.i in
    c.load.ensures ∙ sym (exit_at_lem e s i c.requires.1)
