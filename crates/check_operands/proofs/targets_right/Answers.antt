-- `check_operands::targets_right` meets its contract. Assumes nothing.
use mathlib.Core.Path.{sym, ◌∙◌}
use native.Mathlib.Omega.{arith}
use Rattle.check_operands.proofs.Exits.{led_is, led_more, led_stops}
use Rattle.check_operands.proofs.targets_right.Goals as goal

pub returns-then-load-e : goal.returns-then-load-e
returns-then-load-e c =
    sym (led_is _ _ c.args.at c.args.n ∙ c.loop-i.invariant ∙ led_stops _ _ c.loop-i.i _ c.loop-i-test.true c.requires.1 (omega (arith, c.load.ensures, c.if-load-e.true)))

pub loop-i-preserved : goal.loop-i-preserved
loop-i-preserved c =
    c.loop-i.invariant ∙ led_more _ _ c.loop-i.i _ c.loop-i-test.true c.requires.1 (omega (arith, c.load.ensures, c.if-load-e.false))
