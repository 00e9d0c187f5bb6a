-- `take_arrays::take_array` meets its contract. Assumes nothing.
use mathlib.Core.Path.{◌∙◌}
use native.Mathlib.Omega.{arith}
use Rattle.take_arrays.proofs.Cells.{width_max, over_rows, over_columns, over_size, over_count, array_takes}
use Rattle.take_arrays.proofs.take_array.Goals.{then-rows-gt-CELLS-via-then-rows-gt-CELLS, then-rows-gt-CELLS-via-else-rows-gt-CELLS+then-columns-gt-CELLS, then-rows-gt-CELLS-via-else-rows-gt-CELLS+else-columns-gt-CELLS+then-n-eq-NAMES}
use Rattle.take_arrays.proofs.take_array.Goals as goal

pub returns-then-rows-gt-CELLS : goal.returns-then-rows-gt-CELLS
returns-then-rows-gt-CELLS c =
    let a = c.args in
    elim c.then-rows-gt-CELLS.branch [
      | then-rows-gt-CELLS-via-then-rows-gt-CELLS w ↦ over_rows a.table.now a.n a.name a.rows a.columns w.if-rows-gt-CELLS.true
      | then-rows-gt-CELLS-via-else-rows-gt-CELLS+then-columns-gt-CELLS w ↦ over_columns a.table.now a.n a.name a.rows a.columns w.if-columns-gt-CELLS.true
      | then-rows-gt-CELLS-via-else-rows-gt-CELLS+else-columns-gt-CELLS+then-n-eq-NAMES w ↦ over_count a.table.now a.n a.name a.rows a.columns w.if-n-eq-NAMES.true
    ]

pub returns-then-taken-gt-CELLS : goal.returns-then-taken-gt-CELLS
returns-then-taken-gt-CELLS c =
    let a = c.args in
    over_size a.table.now a.n a.name a.rows a.columns c.max.result c.if-rows-gt-CELLS.false c.if-columns-gt-CELLS.false (c.max.ensures ∙ width_max a.columns) c.if-taken-gt-CELLS.true

pub returns : goal.returns
returns c =
    let a = c.args in
    array_takes a.table.now a.n a.name a.rows a.columns _ c.max.result c.if-rows-gt-CELLS.false c.if-columns-gt-CELLS.false (c.max.ensures ∙ width_max a.columns)
    c.if-taken-gt-CELLS.false (omega arith) c.put_entry.ensures
