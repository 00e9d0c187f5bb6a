-- `read_tokens::run` meets its contract. Assumes nothing.
use mathlib.Core.Path.{sym, ◌∙◌}
use native.Mathlib.Omega.{arith}
use Rattle.read_tokens.proofs.Runs.{run_end, run_stop, run_more}
use Rattle.read_tokens.proofs.run.Goals as goal

pub returns-then-not-test : goal.returns-then-not-test
returns-then-not-test g c t h =
    omega (arith, c.loop-i.invariant t h, run_stop t c.args.s.now c.loop-i.i c.loop-i-test.true (sym (h _ _ c.test.ensures) ∙ c.if-not-test.true))

pub loop-i-preserved : goal.loop-i-preserved
loop-i-preserved g c t h =
    omega (arith, c.loop-i.invariant t h, run_more t c.args.s.now c.loop-i.i c.loop-i-test.true (sym (h _ _ c.test.ensures) ∙ c.if-not-test.false))

pub returns : goal.returns
returns g c t h =
    omega (arith, c.loop-i.invariant t h, run_end t c.args.s.now c.loop-i.i c.loop-i-test.false)
