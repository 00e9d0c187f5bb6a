-- `whole_ranges::wrong_jump` meets its contract. Assumes nothing.
use mathlib.Core.Path.{◌≡◌}
use Prim.Native.Nat.{suc, ◌-◌}
use Rattle.whole_numbers.specs.Numbers.{all_from, first_from}
use Rattle.whole_tables.specs.Rows.{start_of}
use Rattle.whole_ranges.specs.Ranges.{jump_stays, jumps_right}
use Rattle.whole_ranges.proofs.wrong_jump.Given as goal

abbrev pub invariant-loop-k : goal.invariant-loop-k
invariant-loop-k l = ((all_from (jump_stays l.loops l.places l.here.0) (l.end - l.at) l.at ≡ all_from (jump_stays l.loops l.places l.here.0) (l.end - l.k) l.k))

abbrev pub invariant-loop-q : goal.invariant-loop-q
invariant-loop-q l = ((l.at ≡ start_of l.rows l.q) × (first_from (jumps_right l.rows l.loops l.places) suc l.count 0 ≡ first_from (jumps_right l.rows l.loops l.places) suc (l.count - l.q) l.q))
