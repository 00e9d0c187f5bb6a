-- `take_names::take_name` meets its contract. Assumes nothing.
use native.Mathlib.Omega.{arith}
use Rattle.take_names.proofs.Takes.{take_names, take_cells, take_new}
use Rattle.take_names.proofs.take_name.Goals.{then-n-eq-NAMES-via-then-n-eq-NAMES, then-n-eq-NAMES-via-else-n-eq-NAMES+then-n-eq-CELLS}
use Rattle.take_names.proofs.take_name.Goals as goal

pub returns-then-n-eq-NAMES : goal.returns-then-n-eq-NAMES
returns-then-n-eq-NAMES c =
    let a = c.args in
    elim c.then-n-eq-NAMES.branch [
      | then-n-eq-NAMES-via-then-n-eq-NAMES w ↦ take_names a.table.now a.n a.name c.holds.result c.holds.ensures c.if-holds.false w.if-n-eq-NAMES.true
      | then-n-eq-NAMES-via-else-n-eq-NAMES+then-n-eq-CELLS w ↦ take_cells a.table.now a.n a.name c.holds.result c.holds.ensures c.if-holds.false w.if-n-eq-CELLS.true
    ]

pub returns : goal.returns
returns c =
    let a = c.args in
    take_new a.table.now a.n a.name c.holds.result c.holds.ensures _ c.if-holds.false c.put_entry.ensures (omega arith) (omega arith)
