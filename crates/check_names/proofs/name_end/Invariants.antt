-- `check_names::name_end` meets its contract. Assumes nothing.
use mathlib.Core.Path.{◌≡◌}
use Prim.Native.Nat.{◌-◌}
use lib.ListN.{drop}
use Rattle.rules_object.specs.Check.{name_tail}
use Rattle.check_names.proofs.name_end.Given as goal

abbrev pub invariant-loop-k : goal.invariant-loop-k
invariant-loop-k l = name_tail 5 (drop 1 l.name) ≡ name_tail (6 - l.k) (drop l.k l.name)
