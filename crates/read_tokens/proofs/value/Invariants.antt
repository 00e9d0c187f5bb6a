-- `read_tokens::value` meets its contract. Assumes nothing.
use mathlib.Core.Path.{◌≡◌}
use Prim.Native.Nat.{◌≤◌, min}
use lib.ListN.{drop}
use Rattle.rules_text.specs.Trees.{value_from}
use Rattle.read_tokens.specs.Words.{most, capped}
use Rattle.read_tokens.proofs.value.Given as goal

abbrev pub invariant-loop-c : goal.invariant-loop-c
invariant-loop-c l = (l.v ≤ most) × (capped l.digits ≡ min (value_from l.v (drop l.c-index l.digits)) most)
