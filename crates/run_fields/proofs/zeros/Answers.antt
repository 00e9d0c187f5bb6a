-- `run_fields::zeros` meets its contract. Assumes nothing.
use mathlib.Core.Path.{sym, ◌∙◌}
use Rattle.run_fields.proofs.ReadLaws.{zeros_over}
use Rattle.run_fields.proofs.zeros.Goals as goal

pub returns-then-v-ceiling : goal.returns-then-v-ceiling
returns-then-v-ceiling c =
    let lp = c.loop-c in
    sym (lp.invariant.1 ∙ zeros_over c.args.ceiling c.args.columns.now lp.c-index lp.v c.loop-c-test.true c.if-c-ne32.false c.if-v-ceiling.true)
