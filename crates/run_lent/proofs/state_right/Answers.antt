-- `run_lent::state_right` meets its contract. Assumes nothing.
use mathlib.Core.Path.{sym, ap, ◌∙◌}
use mathlib.Core.Bool.{Bool, ◌&&◌}
use native.Mathlib.Omega.{arith}
use lib.Dec.{leb}
use lib.ListN.{take}
use mathlib.Core.Path.{refl}
use Rattle.run_lent.proofs.Lent.{fit_same, outside, too_high, other_height, at_height}
use Rattle.run_lent.proofs.state_right.Goals as goal

pub returns-then-e-index : goal.returns-then-e-index
returns-then-e-index c = let a = c.args in λ s q. outside a.e.now s a.table.now a.index a.height a.mark a.places.now c.if-e-index.true

pub returns-then-h : goal.returns-then-h
returns-then-h c = let a = c.args in λ s q. too_high a.e.now s a.table.now a.index a.height a.mark a.places.now c.if-e-index.false (omega (arith, c.from-h.ensures, c.if-h.true))

pub returns-then-height-h : goal.returns-then-height-h
returns-then-height-h c =
    let a = c.args in
    λ s q. other_height a.e.now s a.table.now a.index a.height a.mark a.places.now c.if-e-index.false (omega (arith, c.from-h.ensures, c.if-h.false)) (λ r. c.if-height-h.true (r ∙ sym c.from-h.ensures))

pub returns-then-not-fit : goal.returns-then-not-fit
returns-then-not-fit c =
    let a = c.args in
    λ s q. sym (at_height a.e.now s a.table.now a.index a.height a.mark a.places.now c.if-e-index.false (omega (arith, c.from-h.ensures, c.if-h.false)) (c.if-height-h.false ∙ c.from-h.ensures) _ _ refl (fit_same (take a.height a.places.now) c.fit.ensures q) ∙ ap (λ (b : Bool). b && leb a.mark a.e.now.code_count) c.if-not-fit.true)

pub returns : goal.returns
returns c =
    let a = c.args in
    λ s q. sym (at_height a.e.now s a.table.now a.index a.height a.mark a.places.now c.if-e-index.false (omega (arith, c.from-h.ensures, c.if-h.false)) (c.if-height-h.false ∙ c.from-h.ensures) _ _ refl (fit_same (take a.height a.places.now) c.fit.ensures q) ∙ ap (λ (b : Bool). b && leb a.mark a.e.now.code_count) c.if-not-fit.false)
