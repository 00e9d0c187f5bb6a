-- `final_lines::lines` meets its contract: the lines so far are those of the statements passed. Assumes nothing.
use mathlib.Core.Path.{refl}
use native.Mathlib.Omega.{arith}
use Prim.Native.Nat.{◌+◌, ◌*◌}
use lib.ListN.{get_or}
use Rattle.final_addresses.proofs.Told.{rows_long}
use Rattle.final_lines.proofs.Listing.{lines_put, lines_all, number_small, line_short}
use Rattle.final_lines.proofs.lines.Goals as goal

pub bounds-rows-i : goal.bounds-rows-i
bounds-rows-i c = omega (arith, rows_long c.requires.0.are)

pub bounds-rows-i-in-loop-i : goal.bounds-rows-i-in-loop-i
bounds-rows-i-in-loop-i c = omega (arith, rows_long c.requires.0.are)

pub overflow_cast-rows : goal.overflow_cast-rows
overflow_cast-rows c = omega (arith, number_small c.requires.0.are c.loop-i.i c.loop-i-test.true)

pub loop-i-preserved : goal.loop-i-preserved
loop-i-preserved c =
    let rows = c.args.rows.now in
    let i = c.loop-i.i in (
      omega (arith, line_short (get_or rows (5 * i + 1) 0) (i + 1) (get_or rows (5 * i) 0) (get_or c.args.starts.now i 0)),
      λ house deck told at. lines_put told at i c.loop-i-test.true refl c.put_statement-top.ensures (c.loop-i.invariant.1 house deck told at),
    )

pub returns : goal.returns
returns c = λ house deck told at. lines_all told at c.loop-i.i (omega arith) (c.loop-i.invariant.1 house deck told at)
