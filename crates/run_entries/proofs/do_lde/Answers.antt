-- `run_entries::do_lde` meets its contract. Assumes nothing.
use mathlib.Core.Path.{ap, ◌∙◌}
use native.Mathlib.Omega.{arith}
use mir.Syntax.{w64}
use mir.Facts.{to_z-of_z}
use Rattle.run_subscripts.proofs.Laws.{element_below}
use Rattle.run_arithmetic.specs.Performed.{pushed}
use Rattle.run_entries.proofs.do_lde.Goals as goal

pub overflow_add-v : goal.overflow_add-v
overflow_add-v c = omega (arith, c.load.ensures, element_below _ _ _ c.requires.element_in _ c.in-Some.ensures, c.well_formed)

pub offset_bounds-store-load : goal.offset_bounds-store-load
offset_bounds-store-load c = omega (arith, c.load.ensures, element_below _ _ _ c.requires.element_in _ c.in-Some.ensures, c.well_formed)

pub bounds-store-load : goal.bounds-store-load
bounds-store-load c = omega (arith, c.load.ensures, element_below _ _ _ c.requires.element_in _ c.in-Some.ensures)

pub returns : goal.returns
returns c =
    let a = c.args in
    rw (← c.in-Some.ensures, ← c.load.ensures) (c.push.ensures a.store.now ∙ ap (pushed a.r a.stack.now a.store.now) (to_z-of_z {w = w64} (record { sfits = c.v-1.given })))
