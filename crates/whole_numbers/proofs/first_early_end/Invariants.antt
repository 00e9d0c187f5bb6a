-- `whole_numbers::first_early_end` meets its contract. Assumes nothing.
use mathlib.Core.Path.{◌≡◌}
use Prim.Native.Nat.{suc, ◌-◌}
use Rattle.whole_numbers.specs.Numbers.{first_from, end_right}
use Rattle.whole_numbers.proofs.first_early_end.Given as goal

abbrev pub invariant-loop-q : goal.invariant-loop-q
invariant-loop-q l = (first_from (end_right l.rows l.count) suc l.count 0 ≡ first_from (end_right l.rows l.count) suc (l.count - l.q) l.q)
