-- `run_subscripts::element_place` meets its contract. Assumes nothing.
use mathlib.Core.Path.{refl, sym, ap, ◌∙◌}
use mathlib.Core.Option.{none, some}
use native.Mathlib.Omega.{arith}
use Rattle.refusals.specs.Answers.{maybe}
use Rattle.run_subscripts.proofs.Laws.{element_is, element_small}
use Rattle.run_subscripts.proofs.element_place.Goals as goal

pub returns-in_err-i : goal.returns-in_err-i
returns-in_err-i c =
    let a = c.args in
    ap (maybe (λ n. n)) c.from_residual.ensures
    ∙ element_is a.o.now a.b a.store.now _ _ c.load-rows.ensures c.load-columns.ensures none _ (sym (ap (maybe (λ n. n)) c.in_err-i.was) ∙ c.subscript.ensures) refl

pub returns-in_err-j : goal.returns-in_err-j
returns-in_err-j c =
    let a = c.args in
    let ei = sym (ap (maybe (λ n. n)) c.in_ok-i.was) ∙ c.subscript.ensures in
    ap (maybe (λ n. n)) c.from_residual-in_err-j.ensures
    ∙ element_is a.o.now a.b a.store.now _ _ c.load-rows.ensures c.load-columns.ensures (some c.in_ok-i.i) none ei (sym (ap (maybe (λ n. n)) c.in_err-j.was) ∙ c.subscript-2.ensures)

pub overflow_mul-result : goal.overflow_mul-result
overflow_mul-result c =
    let a = c.args in
    let ei = sym (ap (maybe (λ n. n)) c.in_ok-i.was) ∙ c.subscript.ensures in
    let ej = sym (ap (maybe (λ n. n)) c.in_ok-j.was) ∙ c.subscript-2.ensures in
    let e = element_is a.o.now a.b a.store.now _ _ c.load-rows.ensures c.load-columns.ensures (some c.in_ok-i.i) (some c.in_ok-j.j) ei ej in
    omega (arith, element_small a.o.now a.b a.store.now c.requires _ e)

pub overflow_add-result : goal.overflow_add-result
overflow_add-result c =
    let a = c.args in
    let ei = sym (ap (maybe (λ n. n)) c.in_ok-i.was) ∙ c.subscript.ensures in
    let ej = sym (ap (maybe (λ n. n)) c.in_ok-j.was) ∙ c.subscript-2.ensures in
    let e = element_is a.o.now a.b a.store.now _ _ c.load-rows.ensures c.load-columns.ensures (some c.in_ok-i.i) (some c.in_ok-j.j) ei ej in
    omega (arith, element_small a.o.now a.b a.store.now c.requires _ e)

pub returns : goal.returns
returns c =
    let a = c.args in
    let ei = sym (ap (maybe (λ n. n)) c.in_ok-i.was) ∙ c.subscript.ensures in
    let ej = sym (ap (maybe (λ n. n)) c.in_ok-j.was) ∙ c.subscript-2.ensures in
    element_is a.o.now a.b a.store.now _ _ c.load-rows.ensures c.load-columns.ensures (some c.in_ok-i.i) (some c.in_ok-j.j) ei ej
