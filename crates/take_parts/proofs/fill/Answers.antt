-- `take_parts::fill` meets its contract. Assumes nothing.
use Rattle.take_parts.proofs.Filling.{onward_full, onward, emitting, cells_full, cells_then, fit_names}
use Rattle.take_parts.proofs.fill.Goals as goal

pub returns-in_err-grown : goal.returns-in_err-grown
returns-in_err-grown c =
    (onward_full _ _ c.from_residual.ensures, cells_full c.take_cells.ensures _ _ _ c.in_err-grown.was c.from_residual.ensures)

pub emit_plan-requires : goal.emit_plan-requires
emit_plan-requires c = emitting c.requires.0 (fit_names c.requires.1 c.in_ok-grown.grown.names_fit c.in_ok-grown.grown.cells_fit)

pub returns : goal.returns
returns c =
    (onward c.emit_plan.ensures.0, cells_then c.take_cells.ensures c.in_ok-grown.was c.emit_plan.ensures.1)
