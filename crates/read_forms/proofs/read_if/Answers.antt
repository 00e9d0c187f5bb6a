-- `read_forms::read_if` meets its contract. Assumes nothing.
use mathlib.Core.Path.{sym, ◌∙◌}
use native.Mathlib.Omega.{arith}
use Rattle.rules_text.specs.Grammar.{an_expression}
use Rattle.read_items.proofs.Given as given
use Rattle.read_expressions.proofs.Going.{on_rest}
use Rattle.rules_text.specs.Tokens.{word_if}
use Rattle.read_tokens.proofs.Tokens.{starts_is_word}
use Rattle.read_forms.proofs.Forms.{if_no_word, if_not_opened, if_inside, if_no_expr, if_within, if_not_closed, if_closed, if_read}
use Rattle.read_forms.proofs.read_if.Goals as goal

pub returns-then-not-starts_with : goal.returns-then-not-starts_with
returns-then-not-starts_with c =
    let s = c.args.text.now in
    if_no_word s (sym (starts_is_word word_if s) ∙ sym c.starts_with.ensures.value ∙ c.if-not-starts_with.true)

pub returns-then-byte-ne40 : goal.returns-then-byte-ne40
returns-then-byte-ne40 c =
    let s = c.args.text.now in
    let w = sym (starts_is_word word_if s) ∙ sym c.starts_with.ensures.value ∙ c.if-not-starts_with.false in
    if_not_opened s w (λ z. c.if-byte-ne40.true (c.byte.ensures ∙ z))

pub slice_bounds-expression-count : goal.slice_bounds-expression-count
slice_bounds-expression-count c =
    let s = c.args.text.now in
    let w = sym (starts_is_word word_if s) ∙ sym c.starts_with.ensures.value ∙ c.if-not-starts_with.false in
    let o = sym c.byte.ensures ∙ c.if-byte-ne40.false in
    let i = if_inside s w o in
    omega (arith, i)

pub slice_bounds-expression-start : goal.slice_bounds-expression-start
slice_bounds-expression-start c =
    let s = c.args.text.now in
    let w = sym (starts_is_word word_if s) ∙ sym c.starts_with.ensures.value ∙ c.if-not-starts_with.false in
    let o = sym c.byte.ensures ∙ c.if-byte-ne40.false in
    let i = if_inside s w o in
    omega (arith, i)

pub returns-in_err-expression : goal.returns-in_err-expression
returns-in_err-expression c =
    let s = c.args.text.now in
    let w = sym (starts_is_word word_if s) ∙ sym c.starts_with.ensures.value ∙ c.if-not-starts_with.false in
    let o = sym c.byte.ensures ∙ c.if-byte-ne40.false in
    let h = on_rest an_expression s 3 c.expression.ensures in
    rw c.from_residual.ensures (if_no_expr s w o (given.refused h c.in_err-expression.was))

pub overflow_add-end : goal.overflow_add-end
overflow_add-end c =
    let s = c.args.text.now in
    let w = sym (starts_is_word word_if s) ∙ sym c.starts_with.ensures.value ∙ c.if-not-starts_with.false in
    let o = sym c.byte.ensures ∙ c.if-byte-ne40.false in
    let h = on_rest an_expression s 3 c.expression.ensures in
    let t = given.took h c.in_ok-expression.was in
    omega (arith, if_within s w o t)

pub returns-then-byte-ne41 : goal.returns-then-byte-ne41
returns-then-byte-ne41 c =
    let s = c.args.text.now in
    let w = sym (starts_is_word word_if s) ∙ sym c.starts_with.ensures.value ∙ c.if-not-starts_with.false in
    let o = sym c.byte.ensures ∙ c.if-byte-ne40.false in
    let h = on_rest an_expression s 3 c.expression.ensures in
    let t = given.took h c.in_ok-expression.was in
    if_not_closed s w o t (λ z. c.if-byte-ne41.true (c.byte-2.ensures ∙ z))

pub overflow_add-end-2 : goal.overflow_add-end-2
overflow_add-end-2 c =
    let s = c.args.text.now in
    let w = sym (starts_is_word word_if s) ∙ sym c.starts_with.ensures.value ∙ c.if-not-starts_with.false in
    let o = sym c.byte.ensures ∙ c.if-byte-ne40.false in
    let h = on_rest an_expression s 3 c.expression.ensures in
    let t = given.took h c.in_ok-expression.was in
    let cl = sym c.byte-2.ensures ∙ c.if-byte-ne41.false in
    omega (arith, if_closed s w o t cl)

pub read_exits-requires : goal.read_exits-requires
read_exits-requires c =
    let s = c.args.text.now in
    let w = sym (starts_is_word word_if s) ∙ sym c.starts_with.ensures.value ∙ c.if-not-starts_with.false in
    let o = sym c.byte.ensures ∙ c.if-byte-ne40.false in
    let h = on_rest an_expression s 3 c.expression.ensures in
    let t = given.took h c.in_ok-expression.was in
    let cl = sym c.byte-2.ensures ∙ c.if-byte-ne41.false in
    if_closed s w o t cl

pub returns : goal.returns
returns c =
    let s = c.args.text.now in
    let w = sym (starts_is_word word_if s) ∙ sym c.starts_with.ensures.value ∙ c.if-not-starts_with.false in
    let o = sym c.byte.ensures ∙ c.if-byte-ne40.false in
    let h = on_rest an_expression s 3 c.expression.ensures in
    let t = given.took h c.in_ok-expression.was in
    let cl = sym c.byte-2.ensures ∙ c.if-byte-ne41.false in
    if_read s w o t cl c.read_exits.ensures
