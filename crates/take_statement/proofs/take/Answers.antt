-- `take_statement::take` meets its contract. Assumes nothing.
use mathlib.Core.Path.{◌≡◌, sym, ◌∙◌, subst}
use native.Mathlib.Omega.{arith}
use Rattle.std.proofs.Common.{rules}
use Rattle.std.specs.Prelude.{Err}
use Rattle.take_draft.specs.Kept.{words_of}
use Rattle.take_statement.specs.Taking.{Comes}
use Rattle.take_statement.proofs.Reading.{exits_in_lem, comes_low, comes_planned, planning}
use Rattle.take_statement.proofs.take.Goals as goal

pub of_statement-requires : goal.of_statement-requires
of_statement-requires c = exits_in_lem c.requires.reading

pub returns-in_err-of_statement : goal.returns-in_err-of_statement
returns-in_err-of_statement c =
    let e : c.from_residual.result ≡ Err c.in_err-of_statement.field-0.0 = search rules in
    λ D kept. subst (Comes c.args.s c.args.number.0 c.args.k c.args.items.now c.args.n.statements D (words_of c.args.t.now)) (sym e)
    (comes_low c.args.number.0 c.args.k c.args.n.statements c.in_err-of_statement.field-0.0 _ (sym c.of_statement.ensures ∙ c.in_err-of_statement.was))

pub take_planned-requires : goal.take_planned-requires
take_planned-requires c = planning c.requires (sym c.of_statement.ensures ∙ c.in_ok-of_statement.was) c.plan_of-p.auto.items c.plan_of-p.ensures c.put_first-top.ensures

pub returns : goal.returns
returns c =
    let h = c.requires in
    λ D kept. comes_planned c.args.number.0 c.args.k c.args.n.statements _ _ h.digits_some h.digits_few (sym c.of_statement.ensures ∙ c.in_ok-of_statement.was)
    (omega (arith, h.items_long)) c.plan_of-p.auto.items c.plan_of-p.ensures c.put_first-top.ensures (c.take_planned.ensures D kept)
