-- `run_lent::store_wrong` meets its contract. Assumes nothing.
use mathlib.Core.Path.{refl, sym, ap, ◌∙◌}
use mathlib.Core.Bool.{Bool}
use Rattle.rules_shared.specs.Refusals.{unless}
use lib.ListN.{take}
use Rattle.run_lent.proofs.Lent.{fit_same, store_short, store_fits}
use Rattle.run_lent.proofs.store_wrong.Goals as goal

pub returns-then-store-n : goal.returns-then-store-n
returns-then-store-n c = λ s q. store_short c.args.e.now s c.args.store.now c.if-store-n.true

pub returns-then-fit : goal.returns-then-fit
returns-then-fit c =
    let e = c.args.e.now in
    let store = c.args.store.now in
    λ s q. sym (store_fits e s store _ c.if-store-n.false refl _ (fit_same (take e.cells store) c.fit.ensures q) ∙ ap (λ (b : Bool). unless b 51) c.if-fit.true)

pub returns-else-fit : goal.returns-else-fit
returns-else-fit c =
    let e = c.args.e.now in
    let store = c.args.store.now in
    λ s q. sym (store_fits e s store _ c.if-store-n.false refl _ (fit_same (take e.cells store) c.fit.ensures q) ∙ ap (λ (b : Bool). unless b 51) c.if-fit.false)
