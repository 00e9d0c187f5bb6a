-- `read_forms::read_assignment` meets its contract. Assumes nothing.
use mathlib.Core.Path.{sym, ◌∙◌}
use native.Mathlib.Omega.{arith}
use Rattle.rules_text.specs.Grammar.{an_expression}
use Rattle.read_tokens.proofs.Chains.{took, refused}
use Rattle.read_items.proofs.Given as given
use Rattle.read_expressions.proofs.Going.{on_rest}
use Rattle.read_forms.proofs.Forms.{expr_within, assign_no_place, assign_no_equals, assign_inside, assign_no_expr, assign_more, assign_read}
use Rattle.read_forms.proofs.read_assignment.Goals as goal

pub returns-in_err-place : goal.returns-in_err-place
returns-in_err-place c =
    let s = c.args.text.now in
    rw c.from_residual.ensures (assign_no_place s (refused c.read_place.ensures c.in_err-place.was))

pub returns-then-byte-ne61 : goal.returns-then-byte-ne61
returns-then-byte-ne61 c =
    let p = took c.read_place.ensures c.in_ok-place.was in
    assign_no_equals p (λ z. c.if-byte-ne61.true (c.byte.ensures ∙ z))

pub overflow_add-from : goal.overflow_add-from
overflow_add-from c =
    let p = took c.read_place.ensures c.in_ok-place.was in
    let e = sym c.byte.ensures ∙ c.if-byte-ne61.false in
    let i = assign_inside p e in
    omega (arith, i)

pub slice_bounds-expression-count : goal.slice_bounds-expression-count
slice_bounds-expression-count c =
    let p = took c.read_place.ensures c.in_ok-place.was in
    let e = sym c.byte.ensures ∙ c.if-byte-ne61.false in
    let i = assign_inside p e in
    omega (arith, i)

pub slice_bounds-expression-start : goal.slice_bounds-expression-start
slice_bounds-expression-start c =
    let p = took c.read_place.ensures c.in_ok-place.was in
    let e = sym c.byte.ensures ∙ c.if-byte-ne61.false in
    let i = assign_inside p e in
    omega (arith, i)

pub returns-in_err-expression : goal.returns-in_err-expression
returns-in_err-expression c =
    let s = c.args.text.now in
    let p = took c.read_place.ensures c.in_ok-place.was in
    let e = sym c.byte.ensures ∙ c.if-byte-ne61.false in
    let h = on_rest an_expression s _ c.expression.ensures in
    rw c.from_residual-in_err-expression.ensures (assign_no_expr p e (given.refused h c.in_err-expression.was))

pub overflow_add-from-2 : goal.overflow_add-from-2
overflow_add-from-2 c =
    let s = c.args.text.now in
    let p = took c.read_place.ensures c.in_ok-place.was in
    let e = sym c.byte.ensures ∙ c.if-byte-ne61.false in
    let i = assign_inside p e in
    let h = on_rest an_expression s _ c.expression.ensures in
    let t = given.took h c.in_ok-expression.was in
    omega (arith, expr_within s _ i t)

pub returns-then-from-expression : goal.returns-then-from-expression
returns-then-from-expression c =
    let s = c.args.text.now in
    let p = took c.read_place.ensures c.in_ok-place.was in
    let e = sym c.byte.ensures ∙ c.if-byte-ne61.false in
    let h = on_rest an_expression s _ c.expression.ensures in
    let t = given.took h c.in_ok-expression.was in
    assign_more p e t c.if-from-expression.true

pub returns : goal.returns
returns c =
    let s = c.args.text.now in
    let p = took c.read_place.ensures c.in_ok-place.was in
    let e = sym c.byte.ensures ∙ c.if-byte-ne61.false in
    let h = on_rest an_expression s _ c.expression.ensures in
    let t = given.took h c.in_ok-expression.was in
    assign_read p e t c.if-from-expression.false c.join.ensures
