-- `run_fields::read_field` meets its contract. Assumes nothing.
use mathlib.Core.Path.{sym, ap, ◌∙◌}
use borrow.Author.Rules.{rules}
use Rattle.run_fields.proofs.ReadLaws.{negated, minus_value, field_blank, field_minus, field_plus, field_digits}
use Rattle.run_fields.proofs.read_field.Goals as goal

pub returns-in_err-magnitude-in-45 : goal.returns-in_err-magnitude-in-45
returns-in_err-magnitude-in-45 c =
    c.from_residual.ensures
    ∙ ap negated (sym c.in_err-magnitude-in-45.was ∙ c.magnitude.ensures)
    ∙ field_minus c.args.ceiling c.args.columns.now c.loop-i.i c.loop-i.invariant c.loop-i-test.true c.in-45.is

pub returns-in-45 : goal.returns-in-45
returns-in-45 c =
    let m = sym c.in_ok-magnitude-in-45.was ∙ c.magnitude.ensures in
    minus_value c.args.ceiling _ c.requires.1 (sym m)
    ∙ ap negated m
    ∙ field_minus c.args.ceiling c.args.columns.now c.loop-i.i c.loop-i.invariant c.loop-i-test.true c.in-45.is

pub returns-in-43 : goal.returns-in-43
returns-in-43 c =
    c.magnitude-in-43.ensures ∙ field_plus c.args.ceiling c.args.columns.now c.loop-i.i c.loop-i.invariant c.loop-i-test.true c.in-43.is

pub returns-in_default : goal.returns-in_default
returns-in_default c =
    c.magnitude-in_default.ensures
    ∙ field_digits c.args.ceiling c.args.columns.now c.loop-i.i c.loop-i.invariant c.loop-i-test.true (search rules) (search rules) (search rules)

pub returns : goal.returns
returns c = field_blank c.args.ceiling c.args.columns.now c.loop-i.i c.loop-i.invariant c.requires.0 c.loop-i-test.false
