-- `whole_numbers::misnumbered` meets its contract. Assumes nothing.
use mathlib.Core.Path.{◌≡◌}
use Prim.Native.Nat.{suc, ◌-◌}
use lib.ListN.{length}
use Rattle.whole_numbers.specs.Numbers.{first_from, number_right}
use Rattle.whole_numbers.proofs.misnumbered.Given as goal

abbrev pub invariant-loop-q : goal.invariant-loop-q
invariant-loop-q l = (first_from (number_right l.rows l.numbers (length l.numbers)) suc (length l.numbers) 0 ≡ first_from (number_right l.rows l.numbers (length l.numbers)) suc (length l.numbers - l.q) l.q)
