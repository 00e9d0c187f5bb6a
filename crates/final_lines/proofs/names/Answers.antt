-- `final_lines::names` meets its contract: the entries so far are the first of body 7. Assumes nothing.
use mathlib.Core.Path.{refl}
use native.Mathlib.Omega.{arith}
use Rattle.final_lines.proofs.Naming.{table_long, small_words, names_more, names_all}
use Rattle.final_lines.proofs.names.Goals as goal

pub offset_bounds-table-at : goal.offset_bounds-table-at
offset_bounds-table-at c = omega (arith, table_long c.requires.0.are)

pub bounds-table-at : goal.bounds-table-at
bounds-table-at c = omega (arith, table_long c.requires.0.are)

pub offset_bounds-table-at-in-loop-i : goal.offset_bounds-table-at-in-loop-i
offset_bounds-table-at-in-loop-i c = omega (arith, table_long c.requires.0.are)

pub bounds-table-at-in-loop-i : goal.bounds-table-at-in-loop-i
bounds-table-at-in-loop-i c = omega (arith, table_long c.requires.0.are)

pub offset_bounds-table-at-in-loop-i-2 : goal.offset_bounds-table-at-in-loop-i-2
offset_bounds-table-at-in-loop-i-2 c = omega (arith, table_long c.requires.0.are)

pub bounds-table-at-in-loop-i-2 : goal.bounds-table-at-in-loop-i-2
bounds-table-at-in-loop-i-2 c = omega (arith, table_long c.requires.0.are)

pub offset_bounds-table-at-in-loop-i-3 : goal.offset_bounds-table-at-in-loop-i-3
offset_bounds-table-at-in-loop-i-3 c = omega (arith, table_long c.requires.0.are)

pub bounds-table-at-in-loop-i-3 : goal.bounds-table-at-in-loop-i-3
bounds-table-at-in-loop-i-3 c = omega (arith, table_long c.requires.0.are)

pub overflow_cast-first : goal.overflow_cast-first
overflow_cast-first c = omega (arith, (small_words c.requires.0.are c.loop-i.i c.loop-i-test.true).0)

pub overflow_cast-rows : goal.overflow_cast-rows
overflow_cast-rows c = omega (arith, (small_words c.requires.0.are c.loop-i.i c.loop-i-test.true).1)

pub overflow_cast-columns : goal.overflow_cast-columns
overflow_cast-columns c = omega (arith, (small_words c.requires.0.are c.loop-i.i c.loop-i-test.true).2)

pub loop-i-preserved : goal.loop-i-preserved
loop-i-preserved c = λ house deck told. names_more told c.loop-i.i c.loop-i-test.true refl refl refl c.put_name.ensures (c.loop-i.invariant house deck told)

pub returns : goal.returns
returns c = λ house deck told. names_all told c.loop-i.out c.loop-i.i (omega arith) (c.loop-i.invariant house deck told)
