-- `whole_ranges::set_right` meets its contract. Assumes nothing.
use mathlib.Core.Path.{◌≡◌}
use Prim.Native.Nat.{◌-◌}
use lib.ListN.{length}
use Rattle.whole_numbers.specs.Numbers.{all_from}
use Rattle.whole_tables.specs.Tables.{do_at, last_at}
use Rattle.whole_range.specs.Range.{leaves}
use Rattle.whole_ranges.proofs.set_right.Given as goal

abbrev pub invariant-loop-range : goal.invariant-loop-range
invariant-loop-range l = (all_from (λ d. leaves l.rows (do_at l.loops d) (last_at l.loops d) l.at.0) (length l.loops) 0 ≡ all_from (λ d. leaves l.rows (do_at l.loops d) (last_at l.loops d) l.at.0) (length l.loops - l.range-index) l.range-index)
