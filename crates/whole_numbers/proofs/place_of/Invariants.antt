-- `whole_numbers::place_of` meets its contract. Assumes nothing.
use mathlib.Core.Path.{◌≡◌}
use Prim.Native.Nat.{suc, ◌-◌}
use lib.ListN.{length}
use Rattle.whole_numbers.specs.Numbers.{first_from, others}
use Rattle.whole_numbers.proofs.place_of.Given as goal

abbrev pub invariant-loop-q : goal.invariant-loop-q
invariant-loop-q l = (first_from (others l.numbers l.number.0) suc (length l.numbers) 0 ≡ first_from (others l.numbers l.number.0) suc (length l.numbers - l.q) l.q)
