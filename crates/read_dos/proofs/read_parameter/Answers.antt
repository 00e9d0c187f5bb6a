-- `read_dos::read_parameter` meets its contract. Assumes nothing.
use mathlib.Core.Path.{sym, ◌∙◌}
use native.Mathlib.Omega.{arith}
use lib.ListN.{length-drop}
use Rattle.rules_text.specs.Grammar.{an_expression}
use Rattle.read_items.proofs.Given as given
use Rattle.read_expressions.proofs.Going.{on_rest}
use Rattle.read_dos.proofs.Loops.{parameter_plus, parameter_none, parameter_within, parameter_deep, parameter_constant, parameter_other, parameter_variable}
use Rattle.read_dos.proofs.read_parameter.Goals as goal

pub returns-then-byte-eq43 : goal.returns-then-byte-eq43
returns-then-byte-eq43 c =
    parameter_plus c.args.text.now c.args.from c.requires.0 (sym c.byte.ensures ∙ c.if-byte-eq43.true)

pub returns-in_err-expression : goal.returns-in_err-expression
returns-in_err-expression c =
    let s = c.args.text.now in
    let from = c.args.from in
    let le = c.requires.0 in
    let h = on_rest an_expression s from c.expression.ensures in
    rw c.from_residual.ensures (parameter_none s from le (λ z. c.if-byte-eq43.false (c.byte.ensures ∙ z)) (given.refused h c.in_err-expression.was))

pub returns-then-expression-ne0 : goal.returns-then-expression-ne0
returns-then-expression-ne0 c =
    let s = c.args.text.now in
    let from = c.args.from in
    let le = c.requires.0 in
    let h = on_rest an_expression s from c.expression.ensures in
    let t = given.took h c.in_ok-expression.was in
    parameter_deep s from le (λ z. c.if-byte-eq43.false (c.byte.ensures ∙ z)) t c.if-expression-ne0.true

pub overflow_add-at : goal.overflow_add-at
overflow_add-at c =
    let s = c.args.text.now in
    let from = c.args.from in
    let le = c.requires.0 in
    let h = on_rest an_expression s from c.expression.ensures in
    let t = given.took h c.in_ok-expression.was in
    omega (arith, parameter_within s from le (λ z. c.if-byte-eq43.false (c.byte.ensures ∙ z)) t)

pub bounds-items-1 : goal.bounds-items-1
bounds-items-1 c =
    let s = c.args.text.now in
    let from = c.args.from in
    let le = c.requires.0 in
    let h = on_rest an_expression s from c.expression.ensures in
    let t = given.took h c.in_ok-expression.was in
    omega (arith, t.top, t.few, t.within, length-drop from s, le, c.requires.1, c.in-2.is)

pub bounds-items-0 : goal.bounds-items-0
bounds-items-0 c =
    let s = c.args.text.now in
    let from = c.args.from in
    let le = c.requires.0 in
    let h = on_rest an_expression s from c.expression.ensures in
    let t = given.took h c.in_ok-expression.was in
    omega (arith, t.top, t.few, t.within, length-drop from s, le, c.requires.1, c.in-5.is)

pub name_at-requires : goal.name_at-requires
name_at-requires c =
    let s = c.args.text.now in
    let from = c.args.from in
    let le = c.requires.0 in
    let h = on_rest an_expression s from c.expression.ensures in
    let t = given.took h c.in_ok-expression.was in
    omega (arith, t.top, t.few, t.within, length-drop from s, le, c.requires.1, c.in-5.is)

pub returns-in-2 : goal.returns-in-2
returns-in-2 c =
    let s = c.args.text.now in
    let from = c.args.from in
    let le = c.requires.0 in
    let h = on_rest an_expression s from c.expression.ensures in
    let t = given.took h c.in_ok-expression.was in
    parameter_constant s from le (λ z. c.if-byte-eq43.false (c.byte.ensures ∙ z)) t c.if-expression-ne0.false c.in-2.is

pub returns-in-5 : goal.returns-in-5
returns-in-5 c =
    let s = c.args.text.now in
    let from = c.args.from in
    let le = c.requires.0 in
    let h = on_rest an_expression s from c.expression.ensures in
    let t = given.took h c.in_ok-expression.was in
    rw c.name_at.ensures (parameter_variable s from le (λ z. c.if-byte-eq43.false (c.byte.ensures ∙ z)) t c.if-expression-ne0.false c.in-5.is c.if-items-eq2.true)

pub returns-in_default : goal.returns-in_default
returns-in_default c =
    let s = c.args.text.now in
    let from = c.args.from in
    let le = c.requires.0 in
    let h = on_rest an_expression s from c.expression.ensures in
    let t = given.took h c.in_ok-expression.was in
    parameter_other s from le (λ z. c.if-byte-eq43.false (c.byte.ensures ∙ z)) t c.if-expression-ne0.false (λ f. omega (arith, c.in-5.is)) (λ f g. c.if-items-eq2.false g)

pub returns-in_default-2 : goal.returns-in_default-2
returns-in_default-2 c =
    let s = c.args.text.now in
    let from = c.args.from in
    let le = c.requires.0 in
    let h = on_rest an_expression s from c.expression.ensures in
    let t = given.took h c.in_ok-expression.was in
    parameter_other s from le (λ z. c.if-byte-eq43.false (c.byte.ensures ∙ z)) t c.if-expression-ne0.false (λ f. omega arith) (λ f g. omega arith)
