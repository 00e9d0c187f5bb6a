-- The three functions of `read_expressions` meet their contracts. Assumes nothing.
use Prim.Native.Nat.{ℕ, ◌+◌}
use mathlib.Core.Path.{◌≡◌, sym, ap, subst, ◌∙◌}
use native.Mathlib.Omega.{arith}
use borrow.Author.Rules.{rules}
use lib.ListN.{drop, get_or, length-drop}
use Rattle.rules_text.specs.Tokens.{bad}
use Rattle.rules_text.specs.Grammar.{an_expression, a_term, a_factor, more_terms, more_factors, parse, sum_op, product_op}
use Rattle.read_tokens.proofs.Tokens.{inside}
use Rattle.read_items.proofs.Given.{took, refused, front, refuse, accept, parsed_as}
use Rattle.read_operators.specs.Signs.{op_number, sign_len}
use Rattle.read_expressions.proofs.Going.{on_rest, op_inside, stop, stop_bad, go_on_lem}
use Rattle.read_expressions.proofs.Starts.{shorter, rebase, going_front, term_bad, term_starts, sign_le, expr_bad, neg_pos, sign_front, expr_starts, factor_operand, open_some, open_bad, open_other, open_levels, open_closed, next_factor, next_term, no_product, no_sum}
use Rattle.read_expressions.proofs.+expression_factor_term.Goals as goal

pub expression-slice_bounds-term-count : goal.expression-slice_bounds-term-count
expression-slice_bounds-term-count t c =
    let s = c.args.s.now in
    let x = c.sign_len-sign.result in
    let xe : x ≡ sign_len (get_or s 0 0) = c.sign_len-sign.ensures ∙ ap sign_len c.byte-c.ensures in
    let sl = sign_le s in
    omega (arith, xe, sl)

pub expression-slice_bounds-term-start : goal.expression-slice_bounds-term-start
expression-slice_bounds-term-start t c =
    let s = c.args.s.now in
    let x = c.sign_len-sign.result in
    let xe : x ≡ sign_len (get_or s 0 0) = c.sign_len-sign.ensures ∙ ap sign_len c.byte-c.ensures in
    let sl = sign_le s in
    omega (arith, xe, sl)

pub expression-returns-in_err-first : goal.expression-returns-in_err-first
expression-returns-in_err-first t c =
    let s = c.args.s.now in
    let x = c.sign_len-sign.result in
    let xe : x ≡ sign_len (get_or s 0 0) = c.sign_len-sign.ensures ∙ ap sign_len c.byte-c.ensures in
    let h = on_rest a_term s x c.term.ensures in
    let fr = front h (omega (arith, c.requires)) in
    rw c.from_residual.ensures (refuse (expr_bad s (subst (λ (y : ℕ). parse a_term (drop y s) ≡ bad) xe (refused h c.in_err-first.was))) fr)

pub expression-overflow_add-read : goal.expression-overflow_add-read
expression-overflow_add-read t c =
    let s = c.args.s.now in
    let x = c.sign_len-sign.result in
    let xe : x ≡ sign_len (get_or s 0 0) = c.sign_len-sign.ensures ∙ ap sign_len c.byte-c.ensures in
    let sl = sign_le s in
    let ld = length-drop x s in
    let h = on_rest a_term s x c.term.ensures in
    let tk = took h c.in_ok-first.was in
    omega (arith, c.requires, xe, sl, tk.within, ld)

pub expression-put_sign-requires : goal.expression-put_sign-requires
expression-put_sign-requires t c =
    let s = c.args.s.now in
    let x = c.sign_len-sign.result in
    let xe : x ≡ sign_len (get_or s 0 0) = c.sign_len-sign.ensures ∙ ap sign_len c.byte-c.ensures in
    let sl = sign_le s in
    let ld = length-drop x s in
    let h = on_rest a_term s x c.term.ensures in
    let tk = took h c.in_ok-first.was in
    λ z. omega (arith, c.requires, c.term.auto.items, xe, sl, tk.within, tk.few, tk.top, ld, neg_pos c.byte-c.result z)

pub expression-loop-op-init : goal.expression-loop-op-init
expression-loop-op-init t c =
    let s = c.args.s.now in
    let x = c.sign_len-sign.result in
    let xe : x ≡ sign_len (get_or s 0 0) = c.sign_len-sign.ensures ∙ ap sign_len c.byte-c.ensures in
    let sl = sign_le s in
    let ld = length-drop x s in
    let h = on_rest a_term s x c.term.ensures in
    let fr = front h (omega (arith, c.requires)) in
    let tk = took h c.in_ok-first.was in
    expr_starts c.byte-c.ensures c.sign_len-sign.ensures tk c.put_sign.ensures fr
    (λ z. omega (arith, c.requires, c.term.auto.items, xe, sl, tk.within, tk.few, tk.top, ld, neg_pos c.byte-c.result z))

pub expression-slice_bounds-term-count-in-Some : goal.expression-slice_bounds-term-count-in-Some
expression-slice_bounds-term-count-in-Some t c =
    let s = c.args.s.now in
    let lp = c.loop-op in
    let g = lp.invariant in
    let we = sym (c.sum_op.ensures ∙ ap (λ (y : ℕ). op_number (sum_op y)) c.byte.ensures) ∙ c.in-Some.is in
    let i = op_inside an_expression more_terms sum_op a_term next_term no_sum s _ lp.items c.args.n lp.read.at lp.read.value lp.read.sizes g we in
    omega (arith, i)

pub expression-slice_bounds-term-start-in-Some : goal.expression-slice_bounds-term-start-in-Some
expression-slice_bounds-term-start-in-Some t c =
    let s = c.args.s.now in
    let lp = c.loop-op in
    let g = lp.invariant in
    let we = sym (c.sum_op.ensures ∙ ap (λ (y : ℕ). op_number (sum_op y)) c.byte.ensures) ∙ c.in-Some.is in
    let i = op_inside an_expression more_terms sum_op a_term next_term no_sum s _ lp.items c.args.n lp.read.at lp.read.value lp.read.sizes g we in
    omega (arith, i)

pub expression-returns-in_err-next : goal.expression-returns-in_err-next
expression-returns-in_err-next t c =
    let s = c.args.s.now in
    let x = c.sign_len-sign.result in
    let h = on_rest a_term s x c.term.ensures in
    let fr = front h (omega (arith, c.requires)) in
    let tk = took h c.in_ok-first.was in
    let fr0 = sign_front _ _ _ c.args.n _ _ c.put_sign.ensures (omega (arith, tk.top)) ∙ fr in
    let lp = c.loop-op in
    let g = lp.invariant in
    let we = sym (c.sum_op.ensures ∙ ap (λ (y : ℕ). op_number (sum_op y)) c.byte.ensures) ∙ c.in-Some.is in
    let i = op_inside an_expression more_terms sum_op a_term next_term no_sum s _ lp.items c.args.n lp.read.at lp.read.value lp.read.sizes g we in
    let h2 = on_rest a_term s (lp.read.at + 1) c.term-in-Some.ensures in
    let fr2 = front h2 (omega (arith, c.requires, c.term.auto.items, c.put_sign.auto.items, g.within, g.few, g.top_is, g.kept, i)) in
    rw c.from_residual-in_err-next.ensures (refuse (stop_bad an_expression more_terms sum_op a_term next_term no_sum s _ lp.items c.args.n lp.read.at lp.read.value lp.read.sizes g we (refused h2 c.in_err-next.was))
    (shorter c.args.n lp.read.value _ _ (omega (arith, g.top_is)) fr2 ∙ going_front g (omega (arith, c.requires, c.term.auto.items, c.put_sign.auto.items)) ∙ fr0))

pub expression-offset_bounds-items-next : goal.expression-offset_bounds-items-next
expression-offset_bounds-items-next t c =
    let s = c.args.s.now in
    let lp = c.loop-op in
    let g = lp.invariant in
    let we = sym (c.sum_op.ensures ∙ ap (λ (y : ℕ). op_number (sum_op y)) c.byte.ensures) ∙ c.in-Some.is in
    let i = op_inside an_expression more_terms sum_op a_term next_term no_sum s _ lp.items c.args.n lp.read.at lp.read.value lp.read.sizes g we in
    let h2 = on_rest a_term s (lp.read.at + 1) c.term-in-Some.ensures in
    let ld2 = length-drop (lp.read.at + 1) s in
    let tk2 = took h2 c.in_ok-next.was in
    omega (arith, c.requires, c.term.auto.items, c.put_sign.auto.items, g.within, g.few, g.top_is, g.kept, c.term-in-Some.auto.items, tk2.within, tk2.few, tk2.top, ld2, i)

pub expression-bounds-items-next : goal.expression-bounds-items-next
expression-bounds-items-next t c =
    let s = c.args.s.now in
    let lp = c.loop-op in
    let g = lp.invariant in
    let we = sym (c.sum_op.ensures ∙ ap (λ (y : ℕ). op_number (sum_op y)) c.byte.ensures) ∙ c.in-Some.is in
    let i = op_inside an_expression more_terms sum_op a_term next_term no_sum s _ lp.items c.args.n lp.read.at lp.read.value lp.read.sizes g we in
    let h2 = on_rest a_term s (lp.read.at + 1) c.term-in-Some.ensures in
    let ld2 = length-drop (lp.read.at + 1) s in
    let tk2 = took h2 c.in_ok-next.was in
    omega (arith, c.requires, c.term.auto.items, c.put_sign.auto.items, g.within, g.few, g.top_is, g.kept, c.term-in-Some.auto.items, tk2.within, tk2.few, tk2.top, ld2, i)

pub expression-overflow_add-read-in-Some-3 : goal.expression-overflow_add-read-in-Some-3
expression-overflow_add-read-in-Some-3 t c =
    let s = c.args.s.now in
    let lp = c.loop-op in
    let g = lp.invariant in
    let we = sym (c.sum_op.ensures ∙ ap (λ (y : ℕ). op_number (sum_op y)) c.byte.ensures) ∙ c.in-Some.is in
    let i = op_inside an_expression more_terms sum_op a_term next_term no_sum s _ lp.items c.args.n lp.read.at lp.read.value lp.read.sizes g we in
    let h2 = on_rest a_term s (lp.read.at + 1) c.term-in-Some.ensures in
    let ld2 = length-drop (lp.read.at + 1) s in
    let tk2 = took h2 c.in_ok-next.was in
    omega (arith, c.requires, c.term.auto.items, c.put_sign.auto.items, g.within, g.few, g.top_is, g.kept, c.term-in-Some.auto.items, tk2.within, tk2.few, tk2.top, ld2, i)

pub expression-overflow_add-read-in-Some-4 : goal.expression-overflow_add-read-in-Some-4
expression-overflow_add-read-in-Some-4 t c =
    let s = c.args.s.now in
    let lp = c.loop-op in
    let g = lp.invariant in
    let we = sym (c.sum_op.ensures ∙ ap (λ (y : ℕ). op_number (sum_op y)) c.byte.ensures) ∙ c.in-Some.is in
    let i = op_inside an_expression more_terms sum_op a_term next_term no_sum s _ lp.items c.args.n lp.read.at lp.read.value lp.read.sizes g we in
    let h2 = on_rest a_term s (lp.read.at + 1) c.term-in-Some.ensures in
    let ld2 = length-drop (lp.read.at + 1) s in
    let tk2 = took h2 c.in_ok-next.was in
    omega (arith, c.requires, c.term.auto.items, c.put_sign.auto.items, g.within, g.few, g.top_is, g.kept, c.term-in-Some.auto.items, tk2.within, tk2.few, tk2.top, ld2, i)

pub expression-loop-op-smaller : goal.expression-loop-op-smaller
expression-loop-op-smaller t c =
    let s = c.args.s.now in
    let lp = c.loop-op in
    let g = lp.invariant in
    let we = sym (c.sum_op.ensures ∙ ap (λ (y : ℕ). op_number (sum_op y)) c.byte.ensures) ∙ c.in-Some.is in
    let i = op_inside an_expression more_terms sum_op a_term next_term no_sum s _ lp.items c.args.n lp.read.at lp.read.value lp.read.sizes g we in
    let h2 = on_rest a_term s (lp.read.at + 1) c.term-in-Some.ensures in
    let ld2 = length-drop (lp.read.at + 1) s in
    let tk2 = took h2 c.in_ok-next.was in
    omega (arith, tk2.within, ld2, i)

pub expression-loop-op-preserved : goal.expression-loop-op-preserved
expression-loop-op-preserved t c =
    let s = c.args.s.now in
    let lp = c.loop-op in
    let g = lp.invariant in
    let we = sym (c.sum_op.ensures ∙ ap (λ (y : ℕ). op_number (sum_op y)) c.byte.ensures) ∙ c.in-Some.is in
    let i = op_inside an_expression more_terms sum_op a_term next_term no_sum s _ lp.items c.args.n lp.read.at lp.read.value lp.read.sizes g we in
    let h2 = on_rest a_term s (lp.read.at + 1) c.term-in-Some.ensures in
    let ld2 = length-drop (lp.read.at + 1) s in
    let tk2 = took h2 c.in_ok-next.was in
    go_on_lem an_expression more_terms sum_op a_term next_term no_sum s _ lp.items c.args.n lp.read.at lp.read.value lp.read.sizes g we tk2
    (omega (arith, c.requires, c.term.auto.items, c.put_sign.auto.items, g.within, g.few, g.top_is, g.kept, c.term-in-Some.auto.items, tk2.within, tk2.few, tk2.top, ld2, i)) c.term-in-Some.auto.items c.join.ensures

pub expression-returns : goal.expression-returns
expression-returns t c =
    let s = c.args.s.now in
    let x = c.sign_len-sign.result in
    let h = on_rest a_term s x c.term.ensures in
    let fr = front h (omega (arith, c.requires)) in
    let tk = took h c.in_ok-first.was in
    let fr0 = sign_front _ _ _ c.args.n _ _ c.put_sign.ensures (omega (arith, tk.top)) ∙ fr in
    let lp = c.loop-op in
    let g = lp.invariant in
    let we = sym (c.sum_op.ensures ∙ ap (λ (y : ℕ). op_number (sum_op y)) c.byte.ensures) ∙ c.in_default.is in
    accept (rebase fr0 (stop an_expression more_terms sum_op a_term next_term no_sum s _ lp.items c.args.n lp.read.at lp.read.value lp.read.sizes g we))

pub factor-returns-then-byte-ne40 : goal.factor-returns-then-byte-ne40
factor-returns-then-byte-ne40 t c =
    let s = c.args.s.now in
    parsed_as (factor_operand s (λ z. omega (arith, c.byte.ensures))) c.operand.ensures

pub factor-slice_bounds-expression-count : goal.factor-slice_bounds-expression-count
factor-slice_bounds-expression-count t c =
    let s = c.args.s.now in
    let op : get_or s 0 0 ≡ 40 = sym c.byte.ensures ∙ c.if-byte-ne40.false in
    let os = open_some s op in
    omega (arith, os)

pub factor-slice_bounds-expression-start : goal.factor-slice_bounds-expression-start
factor-slice_bounds-expression-start t c =
    let s = c.args.s.now in
    let op : get_or s 0 0 ≡ 40 = sym c.byte.ensures ∙ c.if-byte-ne40.false in
    let os = open_some s op in
    omega (arith, os)

pub factor-expression-requires : goal.factor-expression-requires
factor-expression-requires t c =
    let os = open_some c.args.s.now (sym c.byte.ensures ∙ c.if-byte-ne40.false) in
    search rules

pub factor-returns-in_err-inner : goal.factor-returns-in_err-inner
factor-returns-in_err-inner t c =
    let s = c.args.s.now in
    let op : get_or s 0 0 ≡ 40 = sym c.byte.ensures ∙ c.if-byte-ne40.false in
    let h = on_rest an_expression s 1 c.expression.ensures in
    let fr = front h (omega (arith, c.requires)) in
    rw c.from_residual.ensures (refuse (open_bad s op (refused h c.in_err-inner.was)) fr)

pub factor-overflow_add-end : goal.factor-overflow_add-end
factor-overflow_add-end t c =
    let s = c.args.s.now in
    let op : get_or s 0 0 ≡ 40 = sym c.byte.ensures ∙ c.if-byte-ne40.false in
    let os = open_some s op in
    let h = on_rest an_expression s 1 c.expression.ensures in
    let tk = took h c.in_ok-inner.was in
    let ld = length-drop 1 s in
    omega (arith, tk.within, ld, os)

pub factor-returns-then-byte-ne41 : goal.factor-returns-then-byte-ne41
factor-returns-then-byte-ne41 t c =
    let s = c.args.s.now in
    let op : get_or s 0 0 ≡ 40 = sym c.byte.ensures ∙ c.if-byte-ne40.false in
    let h = on_rest an_expression s 1 c.expression.ensures in
    let fr = front h (omega (arith, c.requires)) in
    let tk = took h c.in_ok-inner.was in
    refuse (open_other s op tk (λ z. omega (arith, c.byte-2.ensures))) fr

pub factor-overflow_add-result-2 : goal.factor-overflow_add-result-2
factor-overflow_add-result-2 t c =
    let s = c.args.s.now in
    let op : get_or s 0 0 ≡ 40 = sym c.byte.ensures ∙ c.if-byte-ne40.false in
    let h = on_rest an_expression s 1 c.expression.ensures in
    let tk = took h c.in_ok-inner.was in
    let i = inside 41 (omega arith) s (c.in_ok-inner.inner.at + 1) (omega (arith, c.byte-2.ensures)) in
    omega (arith, i, tk.low, open_levels s op tk)

pub factor-returns : goal.factor-returns
factor-returns t c =
    let s = c.args.s.now in
    let op : get_or s 0 0 ≡ 40 = sym c.byte.ensures ∙ c.if-byte-ne40.false in
    let h = on_rest an_expression s 1 c.expression.ensures in
    let tk = took h c.in_ok-inner.was in
    accept (open_closed s op tk (omega (arith, c.byte-2.ensures)))

pub term-returns-in_err-read : goal.term-returns-in_err-read
term-returns-in_err-read t c =
    let s = c.args.s.now in
    let h = c.factor.ensures in
    let fr = front h (omega (arith, c.requires)) in
    rw c.from_residual.ensures (refuse (term_bad s (refused h c.in_err-read.was)) fr)

pub term-loop-op-init : goal.term-loop-op-init
term-loop-op-init t c =
    let h = c.factor.ensures in
    let tk = took h c.in_ok-read.was in
    let fr = front h (omega (arith, c.requires)) in
    term_starts tk fr

pub term-slice_bounds-factor-count : goal.term-slice_bounds-factor-count
term-slice_bounds-factor-count t c =
    let s = c.args.s.now in
    let lp = c.loop-op in
    let g = lp.invariant in
    let we = sym (c.product_op.ensures ∙ ap (λ (y : ℕ). op_number (product_op y)) c.byte.ensures) ∙ c.in-Some.is in
    let i = op_inside a_term more_factors product_op a_factor next_factor no_product s _ lp.items c.args.n lp.read.at lp.read.value lp.read.sizes g we in
    omega (arith, i)

pub term-slice_bounds-factor-start : goal.term-slice_bounds-factor-start
term-slice_bounds-factor-start t c =
    let s = c.args.s.now in
    let lp = c.loop-op in
    let g = lp.invariant in
    let we = sym (c.product_op.ensures ∙ ap (λ (y : ℕ). op_number (product_op y)) c.byte.ensures) ∙ c.in-Some.is in
    let i = op_inside a_term more_factors product_op a_factor next_factor no_product s _ lp.items c.args.n lp.read.at lp.read.value lp.read.sizes g we in
    omega (arith, i)

pub term-returns-in_err-next : goal.term-returns-in_err-next
term-returns-in_err-next t c =
    let s = c.args.s.now in
    let h = c.factor.ensures in
    let fr = front h (omega (arith, c.requires)) in
    let lp = c.loop-op in
    let g = lp.invariant in
    let we = sym (c.product_op.ensures ∙ ap (λ (y : ℕ). op_number (product_op y)) c.byte.ensures) ∙ c.in-Some.is in
    let i = op_inside a_term more_factors product_op a_factor next_factor no_product s _ lp.items c.args.n lp.read.at lp.read.value lp.read.sizes g we in
    let h2 = on_rest a_factor s (lp.read.at + 1) c.factor-in-Some.ensures in
    let fr2 = front h2 (omega (arith, c.requires, c.factor.auto.items, g.within, g.few, g.top_is, g.kept, i)) in
    rw c.from_residual-in_err-next.ensures (refuse (stop_bad a_term more_factors product_op a_factor next_factor no_product s _ lp.items c.args.n lp.read.at lp.read.value lp.read.sizes g we (refused h2 c.in_err-next.was))
    (shorter c.args.n lp.read.value _ _ (omega (arith, g.top_is)) fr2 ∙ going_front g (omega (arith, c.requires, c.factor.auto.items)) ∙ fr))

pub term-offset_bounds-items-next : goal.term-offset_bounds-items-next
term-offset_bounds-items-next t c =
    let s = c.args.s.now in
    let lp = c.loop-op in
    let g = lp.invariant in
    let we = sym (c.product_op.ensures ∙ ap (λ (y : ℕ). op_number (product_op y)) c.byte.ensures) ∙ c.in-Some.is in
    let i = op_inside a_term more_factors product_op a_factor next_factor no_product s _ lp.items c.args.n lp.read.at lp.read.value lp.read.sizes g we in
    let h2 = on_rest a_factor s (lp.read.at + 1) c.factor-in-Some.ensures in
    let ld2 = length-drop (lp.read.at + 1) s in
    let tk2 = took h2 c.in_ok-next.was in
    omega (arith, c.requires, c.factor.auto.items, g.within, g.few, g.top_is, g.kept, c.factor-in-Some.auto.items, tk2.within, tk2.few, tk2.top, ld2, i)

pub term-bounds-items-next : goal.term-bounds-items-next
term-bounds-items-next t c =
    let s = c.args.s.now in
    let lp = c.loop-op in
    let g = lp.invariant in
    let we = sym (c.product_op.ensures ∙ ap (λ (y : ℕ). op_number (product_op y)) c.byte.ensures) ∙ c.in-Some.is in
    let i = op_inside a_term more_factors product_op a_factor next_factor no_product s _ lp.items c.args.n lp.read.at lp.read.value lp.read.sizes g we in
    let h2 = on_rest a_factor s (lp.read.at + 1) c.factor-in-Some.ensures in
    let ld2 = length-drop (lp.read.at + 1) s in
    let tk2 = took h2 c.in_ok-next.was in
    omega (arith, c.requires, c.factor.auto.items, g.within, g.few, g.top_is, g.kept, c.factor-in-Some.auto.items, tk2.within, tk2.few, tk2.top, ld2, i)

pub term-overflow_add-read-in-Some-2 : goal.term-overflow_add-read-in-Some-2
term-overflow_add-read-in-Some-2 t c =
    let s = c.args.s.now in
    let lp = c.loop-op in
    let g = lp.invariant in
    let we = sym (c.product_op.ensures ∙ ap (λ (y : ℕ). op_number (product_op y)) c.byte.ensures) ∙ c.in-Some.is in
    let i = op_inside a_term more_factors product_op a_factor next_factor no_product s _ lp.items c.args.n lp.read.at lp.read.value lp.read.sizes g we in
    let h2 = on_rest a_factor s (lp.read.at + 1) c.factor-in-Some.ensures in
    let ld2 = length-drop (lp.read.at + 1) s in
    let tk2 = took h2 c.in_ok-next.was in
    omega (arith, c.requires, c.factor.auto.items, g.within, g.few, g.top_is, g.kept, c.factor-in-Some.auto.items, tk2.within, tk2.few, tk2.top, ld2, i)

pub term-overflow_add-read-in-Some-3 : goal.term-overflow_add-read-in-Some-3
term-overflow_add-read-in-Some-3 t c =
    let s = c.args.s.now in
    let lp = c.loop-op in
    let g = lp.invariant in
    let we = sym (c.product_op.ensures ∙ ap (λ (y : ℕ). op_number (product_op y)) c.byte.ensures) ∙ c.in-Some.is in
    let i = op_inside a_term more_factors product_op a_factor next_factor no_product s _ lp.items c.args.n lp.read.at lp.read.value lp.read.sizes g we in
    let h2 = on_rest a_factor s (lp.read.at + 1) c.factor-in-Some.ensures in
    let ld2 = length-drop (lp.read.at + 1) s in
    let tk2 = took h2 c.in_ok-next.was in
    omega (arith, c.requires, c.factor.auto.items, g.within, g.few, g.top_is, g.kept, c.factor-in-Some.auto.items, tk2.within, tk2.few, tk2.top, ld2, i)

pub term-loop-op-smaller : goal.term-loop-op-smaller
term-loop-op-smaller t c =
    let s = c.args.s.now in
    let lp = c.loop-op in
    let g = lp.invariant in
    let we = sym (c.product_op.ensures ∙ ap (λ (y : ℕ). op_number (product_op y)) c.byte.ensures) ∙ c.in-Some.is in
    let i = op_inside a_term more_factors product_op a_factor next_factor no_product s _ lp.items c.args.n lp.read.at lp.read.value lp.read.sizes g we in
    let h2 = on_rest a_factor s (lp.read.at + 1) c.factor-in-Some.ensures in
    let ld2 = length-drop (lp.read.at + 1) s in
    let tk2 = took h2 c.in_ok-next.was in
    omega (arith, tk2.within, ld2, i)

pub term-loop-op-preserved : goal.term-loop-op-preserved
term-loop-op-preserved t c =
    let s = c.args.s.now in
    let lp = c.loop-op in
    let g = lp.invariant in
    let we = sym (c.product_op.ensures ∙ ap (λ (y : ℕ). op_number (product_op y)) c.byte.ensures) ∙ c.in-Some.is in
    let i = op_inside a_term more_factors product_op a_factor next_factor no_product s _ lp.items c.args.n lp.read.at lp.read.value lp.read.sizes g we in
    let h2 = on_rest a_factor s (lp.read.at + 1) c.factor-in-Some.ensures in
    let ld2 = length-drop (lp.read.at + 1) s in
    let tk2 = took h2 c.in_ok-next.was in
    go_on_lem a_term more_factors product_op a_factor next_factor no_product s _ lp.items c.args.n lp.read.at lp.read.value lp.read.sizes g we tk2
    (omega (arith, c.requires, c.factor.auto.items, g.within, g.few, g.top_is, g.kept, c.factor-in-Some.auto.items, tk2.within, tk2.few, tk2.top, ld2, i)) c.factor-in-Some.auto.items c.join.ensures

pub term-returns : goal.term-returns
term-returns t c =
    let s = c.args.s.now in
    let h = c.factor.ensures in
    let fr = front h (omega (arith, c.requires)) in
    let lp = c.loop-op in
    let g = lp.invariant in
    let we = sym (c.product_op.ensures ∙ ap (λ (y : ℕ). op_number (product_op y)) c.byte.ensures) ∙ c.in_default.is in
    accept (rebase fr (stop a_term more_factors product_op a_factor next_factor no_product s _ lp.items c.args.n lp.read.at lp.read.value lp.read.sizes g we))
