-- `whole_ranges::wrong_set` meets its contract. Assumes nothing.
use mathlib.Core.Path.{◌≡◌}
use Prim.Native.Nat.{suc, ◌-◌}
use Rattle.whole_numbers.specs.Numbers.{first_from}
use Rattle.whole_ranges.specs.Ranges.{set_right}
use Rattle.whole_ranges.proofs.wrong_set.Given as goal

abbrev pub invariant-loop-q : goal.invariant-loop-q
invariant-loop-q l = (first_from (λ k. set_right l.rows l.loops (suc k)) suc l.count 0 ≡ first_from (λ k. set_right l.rows l.loops (suc k)) suc (l.count - l.q) l.q)
