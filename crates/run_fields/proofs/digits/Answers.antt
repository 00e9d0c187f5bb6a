-- `run_fields::digits` meets its contract. Assumes nothing.
use mathlib.Core.Path.{sym, ◌∙◌}
use native.Mathlib.Omega.{arith}
use Rattle.run_fields.proofs.ReadLaws.{digits_over}
use Rattle.run_fields.proofs.digits.Goals as goal

pub returns-then-v-ceiling : goal.returns-then-v-ceiling
returns-then-v-ceiling c =
    let lp = c.loop-i in
    sym (lp.invariant.1 ∙ digits_over c.args.ceiling c.args.columns.now lp.i lp.v c.loop-i-test.true (sym c.is_ascii_digit.ensures.value ∙ c.if-not-is_ascii_digit.false) (omega (arith, c.if-v-ceiling.true, c.from.ensures)))
