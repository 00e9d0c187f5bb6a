-- `run_guards::guard_again` meets its contract. Assumes nothing.
use Rattle.run_guards.proofs.Guards.{guard_past}
use Rattle.run_guards.proofs.guard_again.Goals as goal

pub returns-then-o-r : goal.returns-then-o-r
returns-then-o-r c =
    let o = c.args.o.now in
    (guard_past o.layout o.bytes.now c.args.r.index c.args.r.height c.if-o-r.true, c.requires.sees)
