-- `take_references::right_place` meets its contract. Assumes nothing.
use mathlib.Core.Path.{sym, subst, ◌∙◌}
use mathlib.Core.Bool.{Bool, false≢true}
use Prim.Native.Nat.{◌+◌, ◌*◌}
use native.Mathlib.Omega.{arith}
use lib.ListN.{get_or}
use borrow.Author.Tests.{not-true, not-false}
use Rattle.take_references.specs.Rights.{RightPlace}
use Rattle.take_references.proofs.Rights.{counted_as, holds_as, first_as, place_none, place_count, place_first, place_last}
use Rattle.take_references.proofs.right_place.Goals.{then-items-names, else-items-names}
use Rattle.take_references.proofs.right_place.Goals as goal

pub returns-in_default : goal.returns-in_default
returns-in_default c = place_none _ _ _ _ (first_as _ _ _ c.name_at.ensures c.in_default.ensures) (omega arith)

pub returns-then-not-holds : goal.returns-then-not-holds
returns-then-not-holds c =
    let i = c.in-Some in
    elim c.if-items-names.branch [
      | then-items-names w ↦
          place_last _ _ _ i.i (first_as _ _ _ c.name_at.ensures i.ensures.1) i.ensures.0 (sym (counted_as (get_or c.args.items.now 5 0) (get_or c.args.names.now.words.now (7 * i.i + 6) 0)) ∙ w.if-items-names.true) w.holds.result c.holds-then-not-holds.result
          (holds_as w.name_at-then-items-names.ensures w.holds.ensures) (not-true _ (sym w.value-is ∙ c.if-not-holds.true)) (holds_as c.name_at-then-not-holds.ensures c.holds-then-not-holds.ensures)
      | else-items-names w ↦ absurd (false≢true (sym w.if-items-names.false ∙ sym w.value-is ∙ c.if-not-holds.true))
    ]

pub returns-else-not-holds : goal.returns-else-not-holds
returns-else-not-holds c =
    let i = c.in-Some in
    let a = c.args in
    subst (λ (b : Bool). RightPlace a.items.now a.names.now.words.now a.names.now.count b) (sym c.if-not-holds.false)
    (elim c.if-items-names.branch [
      | then-items-names w ↦
          place_first _ _ _ i.i (first_as _ _ _ c.name_at.ensures i.ensures.1) w.holds.result (holds_as w.name_at-then-items-names.ensures w.holds.ensures)
          (not-false _ (sym w.value-is ∙ c.if-not-holds.false))
      | else-items-names w ↦ place_count _ _ _ i.i (first_as _ _ _ c.name_at.ensures i.ensures.1) i.ensures.0 (sym (counted_as (get_or c.args.items.now 5 0) (get_or c.args.names.now.words.now (7 * i.i + 6) 0)) ∙ w.if-items-names.false)
    ])
