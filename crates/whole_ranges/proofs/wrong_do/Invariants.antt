-- `whole_ranges::wrong_do` meets its contract. Assumes nothing.
use mathlib.Core.Path.{◌≡◌}
use Prim.Native.Nat.{◌-◌}
use lib.ListN.{length}
use Rattle.whole_numbers.specs.Numbers.{first_from}
use Rattle.whole_tables.specs.Tables.{do_at}
use Rattle.whole_ranges.specs.Ranges.{do_right}
use Rattle.whole_ranges.proofs.wrong_do.Given as goal

abbrev pub invariant-loop-i : goal.invariant-loop-i
invariant-loop-i l = (first_from (do_right l.rows l.loops) (do_at l.loops) (length l.loops) 0 ≡ first_from (do_right l.rows l.loops) (do_at l.loops) (length l.loops - l.i) l.i)
