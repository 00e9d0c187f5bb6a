-- `run_subscripts::subscript` meets its contract. Assumes nothing.
use mathlib.Core.Path.{ap, ◌∙◌}
use lib.IntN.{pos}
use Rattle.rules_object.specs.Bytes.{signed_of}
use Rattle.run_subscripts.proofs.Laws.{value_fits, value_is}
use Rattle.run_subscripts.proofs.subscript.Goals as goal

pub overflow_add-times : goal.overflow_add-times
overflow_add-times c =
    let a = c.args in
    value_fits a.o.now a.b a.store.now c.requires _ _ _ (c.from-times.ensures ∙ ap pos c.load.ensures) c.load-2.ensures (c.signed.ensures ∙ ap signed_of c.load-3.ensures)

pub returns : goal.returns
returns c =
    let a = c.args in
    c.within.ensures
    ∙ value_is a.o.now a.b a.store.now c.requires _ _ _ (c.from-times.ensures ∙ ap pos c.load.ensures) c.load-2.ensures (c.signed.ensures ∙ ap signed_of c.load-3.ensures) a.dimension
