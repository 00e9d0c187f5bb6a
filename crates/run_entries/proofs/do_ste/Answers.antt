-- `run_entries::do_ste` meets its contract. Assumes nothing.
use native.Mathlib.Omega.{arith}
use Rattle.run_subscripts.proofs.Laws.{element_below}
use Rattle.run_entries.proofs.do_ste.Goals as goal

pub overflow_add-a : goal.overflow_add-a
overflow_add-a c = omega (arith, c.load.ensures, element_below _ _ _ c.requires.element_in _ c.in-Some.ensures, c.well_formed)

pub store_top-requires : goal.store_top-requires
store_top-requires c =
    let h = c.requires.height_nonzero in
    (h.0, h.1, h.2, omega (arith, c.load.ensures, element_below _ _ _ c.requires.element_in _ c.in-Some.ensures))
