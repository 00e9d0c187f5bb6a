-- `take_arrays::right_array` meets its contract. Assumes nothing.
use mathlib.Core.Path.{sym, subst, ◌∙◌}
use mathlib.Core.Bool.{Bool, false≢true}
use Rattle.take_arrays.specs.One.{RightArray}
use Rattle.take_arrays.proofs.Judging.{one_empty, one_seen, one_last}
use Rattle.take_arrays.proofs.right_array.Goals.{then-some_cells, else-some_cells}
use Rattle.take_arrays.proofs.right_array.Goals as goal

pub returns-then-is_new : goal.returns-then-is_new
returns-then-is_new c =
    let a = c.args in
    elim c.if-some_cells.branch [
      | then-some_cells w ↦
          one_last a.arrays.now a.i a.names.now.words.now a.names.now.count c.some_cells.result w.is_new.result c.ends_in_f.result c.name_at-name.ensures c.some_cells.ensures
          w.if-some_cells.true w.is_new.ensures (sym w.value-is ∙ c.if-is_new.true) c.ends_in_f.ensures
      | else-some_cells w ↦ absurd (false≢true (sym w.if-some_cells.false ∙ sym w.value-is ∙ c.if-is_new.true))
    ]

pub returns-else-is_new : goal.returns-else-is_new
returns-else-is_new c =
    let a = c.args in
    subst (λ (b : Bool). RightArray a.arrays.now a.i a.names.now.words.now a.names.now.count b) (sym c.if-is_new.false)
    (elim c.if-some_cells.branch [
      | then-some_cells w ↦
          one_seen a.arrays.now a.i a.names.now.words.now a.names.now.count w.is_new.result c.name_at-name.ensures w.is_new.ensures (sym w.value-is ∙ c.if-is_new.false)
      | else-some_cells w ↦
          one_empty a.arrays.now a.i a.names.now.words.now a.names.now.count c.some_cells.result c.some_cells.ensures w.if-some_cells.false
    ])
