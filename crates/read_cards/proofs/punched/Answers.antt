-- `read_cards::punched` meets its contract. Assumes nothing.
use mathlib.Core.Path.{sym, ◌∙◌}
use native.Mathlib.Omega.{arith}
use Rattle.read_cards.proofs.CardLaws.{punched_blank, punched_wrong, punched_zero, punched_number}
use Rattle.read_cards.proofs.punched.Goals as goal

pub returns-then-no_number : goal.returns-then-no_number
returns-then-no_number c =
    let s = c.args.card.now in
    punched_blank s (sym c.no_number.ensures ∙ c.if-no_number.true)

pub returns-in_err-value : goal.returns-in_err-value
returns-in_err-value c =
    let s = c.args.card.now in
    c.from_residual.ensures ∙ punched_wrong s (sym c.no_number.ensures ∙ c.if-no_number.false) (sym c.digits.ensures ∙ c.in_err-value.was)

pub returns-then-value-eq0 : goal.returns-then-value-eq0
returns-then-value-eq0 c =
    let s = c.args.card.now in
    punched_zero s _ (sym c.no_number.ensures ∙ c.if-no_number.false) (sym c.digits.ensures ∙ c.in_ok-value.was) (omega (arith, c.if-value-eq0.true))

pub returns : goal.returns
returns c =
    let s = c.args.card.now in
    punched_number s _ (sym c.no_number.ensures ∙ c.if-no_number.false) (sym c.digits.ensures ∙ c.in_ok-value.was) (omega (arith, c.if-value-eq0.false))
