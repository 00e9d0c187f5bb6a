-- `check_object::check` meets its contract. Assumes nothing.
use mathlib.Core.Path.{refl, sym, ap, ◌∙◌}
use mathlib.Core.List.{List}
use Prim.Native.Nat.{ℕ}
use native.Mathlib.Omega.{arith}
use Rattle.std.specs.Prelude.{Result, Ok, Err}
use Rattle.std.specs.Result.{IsErrAnd}
use Rattle.refusals.specs.Answers.{refusal_of}
use Rattle.refusals.specs.declared.Refusal.{Refusal}
use Rattle.object_contents.specs.declared.placed.Object.{Object}
use Rattle.check_object.specs.Verdicts.{Says}
use Rattle.rules_object.specs.Calls.{Checked, refused}
use Rattle.object_contents.specs.Layout.{object_at}
use Rattle.check_object.proofs.Laws.{digits_low, rule_is, over_limit, unread, read}
use Rattle.check_object.proofs.check.Goals as goal

pub returns-in_default : goal.returns-in_default
returns-in_default c =
    record { is = ap refused (ap refusal_of c.of.ensures) ∙ unread c.args.bytes.now c.in_default.ensures; of_bytes = tt }

pub returns-then-not-limits_right : goal.returns-then-not-limits_right
returns-then-not-limits_right c =
    let s = c.args.bytes.now in
    let o = object_at c.in-Some.layout s in
    record { is = ap refused (ap refusal_of c.of-then-not-limits_right.ensures) ∙ over_limit o (sym (c.limits_right.ensures s) ∙ c.if-not-limits_right.true) ∙ read s o c.in-Some.ensures.is; of_bytes = tt }

pub of_digits-rule-requires : goal.of_digits-rule-requires
of_digits-rule-requires c =
    let s = c.args.bytes.now in
    omega (arith, digits_low c.in-Some.layout s c.in-Some.ensures.placed (sym (c.limits_right.ensures s) ∙ c.if-not-limits_right.false))

pub judge-requires-clause-right : goal.judge-requires-clause-right
judge-requires-clause-right c =
    sym (c.limits_right.ensures c.args.bytes.now) ∙ c.if-not-limits_right.false

pub invariant_of-object : goal.invariant_of-object
invariant_of-object c =
    record { placed = c.in-Some.ensures.placed; ruled = c.of_digits-rule.ensures ∙ rule_is c.in-Some.layout c.args.bytes.now }

-- a refusal that `?` hands on
passed_on : {s t : List ℕ} {d : Checked} (r : Result Object Refusal) (P : Refusal → Type 0) → IsErrAnd r P → ((e : Refusal) → P e → Says (Err e) s t d) → Says r s t d
passed_on (Err e) P h f = f e h
passed_on (Ok o) P h f = absurd h

pub returns-in_err-judge : goal.returns-in_err-judge
returns-in_err-judge c =
    passed_on _ _ c.from_residual.ensures.1 (λ e q. record { is = ap (λ r. refused (refusal_of r)) q ∙ c.in_err-judge.ensures.is ∙ read c.args.bytes.now _ c.in-Some.ensures.is; of_bytes = tt })

pub returns : goal.returns
returns c =
    record { is = c.in_ok-judge.ensures.is ∙ read c.args.bytes.now _ c.in-Some.ensures.is; of_bytes = refl }
