-- `take_arrays::is_new` meets its contract. Assumes nothing.
use mathlib.Core.Path.{sym, ap, subst, ◌∙◌}
use mathlib.Core.Bool.{Bool, not, false≢true}
use borrow.Author.Tests.{not-true, not-false}
use Rattle.take_arrays.specs.One.{IsNew}
use Rattle.take_arrays.proofs.News.{new_plain, new_array, new_last}
use Rattle.take_arrays.proofs.is_new.Goals.{then-not-holds, else-not-holds}
use Rattle.take_arrays.proofs.is_new.Goals as goal

pub returns-then-not-holds-2 : goal.returns-then-not-holds-2
returns-then-not-holds-2 c =
    let a = c.args in
    elim c.if-not-holds.branch [
      | then-not-holds w ↦
          new_last a.arrays.now a.i a.names.now.words.now a.names.now.count a.name c.holds.result w.holds-then-not-holds.result c.named.result c.holds.ensures w.if-not-holds.true
          w.holds-then-not-holds.ensures (not-true _ (sym w.value-is ∙ c.if-not-holds-2.true)) c.named.ensures
      | else-not-holds w ↦ absurd (false≢true (sym (ap not w.if-not-holds.false) ∙ sym w.value-is ∙ c.if-not-holds-2.true))
    ]

pub returns-else-not-holds-2 : goal.returns-else-not-holds-2
returns-else-not-holds-2 c =
    let a = c.args in
    subst (λ (b : Bool). IsNew a.arrays.now a.i a.names.now.words.now a.names.now.count a.name b) (sym c.if-not-holds-2.false)
    (elim c.if-not-holds.branch [
      | then-not-holds w ↦
          new_array a.arrays.now a.i a.names.now.words.now a.names.now.count a.name w.holds-then-not-holds.result w.holds-then-not-holds.ensures
          (not-false _ (sym w.value-is ∙ c.if-not-holds-2.false))
      | else-not-holds w ↦
          new_plain a.arrays.now a.i a.names.now.words.now a.names.now.count a.name c.holds.result c.holds.ensures w.if-not-holds.false
    ])
