-- `whole_numbers::user_of` meets its contract. Assumes nothing.
use mathlib.Core.Path.{◌≡◌}
use Prim.Native.Nat.{suc, ◌-◌}
use Rattle.whole_tables.specs.Rows.{start_of}
use Rattle.whole_numbers.specs.Numbers.{first_from, past}
use Rattle.whole_numbers.proofs.user_of.Given as goal

abbrev pub invariant-loop-q : goal.invariant-loop-q
invariant-loop-q l = (l.end ≡ start_of l.rows l.q) × (first_from (past l.rows l.k) suc l.count 0 ≡ first_from (past l.rows l.k) suc (l.count - l.q) l.q)
