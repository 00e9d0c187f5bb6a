-- `run_lent::lent_wrong` meets its contract. Assumes nothing.
use mathlib.Core.Path.{sym, ap, ◌∙◌}
use mathlib.Core.Bool.{Bool}
use lib.ListN.{take}
use Rattle.rules_shared.specs.Refusals.{unless}
use Rattle.object_contents.specs.Layout.{object_at}
use Rattle.run_lent.specs.Lending.{lent, refused_by}
use Rattle.run_lent.proofs.Lent.{passed_on, first_store, then_state}
use Rattle.run_lent.proofs.lent_wrong.Goals as goal

pub returns-in_err-store_wrong : goal.returns-in_err-store_wrong
returns-in_err-store_wrong c =
    let e = c.args.e.now in
    let table = take e.code_count c.args.table.now in
    let l = lent c.args.index c.args.height c.args.mark c.args.places.now in
    λ s q. ap refused_by (passed_on _ _ c.from_residual.ensures.0 c.from_residual.ensures.1) ∙ first_store (object_at e s) table c.args.store.now l _ (sym (ap refused_by c.in_err-store_wrong.was) ∙ c.store_wrong.ensures s q)

pub returns-then-state_right : goal.returns-then-state_right
returns-then-state_right c =
    let e = c.args.e.now in
    let table = take e.code_count c.args.table.now in
    let l = lent c.args.index c.args.height c.args.mark c.args.places.now in
    λ s q. sym (then_state (object_at e s) table c.args.store.now l (sym (ap refused_by c.in_ok-store_wrong.was) ∙ c.store_wrong.ensures s q) ∙ ap (λ (b : Bool). unless b 52) (sym (c.state_right.ensures s q) ∙ c.if-state_right.true))

pub returns-else-state_right : goal.returns-else-state_right
returns-else-state_right c =
    let e = c.args.e.now in
    let table = take e.code_count c.args.table.now in
    let l = lent c.args.index c.args.height c.args.mark c.args.places.now in
    λ s q. sym (then_state (object_at e s) table c.args.store.now l (sym (ap refused_by c.in_ok-store_wrong.was) ∙ c.store_wrong.ensures s q) ∙ ap (λ (b : Bool). unless b 52) (sym (c.state_right.ensures s q) ∙ c.if-state_right.false))
