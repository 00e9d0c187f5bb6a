-- What is so of the names of a compiled deck, and bounds what is printed of them.
-- Assumes nothing.
use Rattle.std.specs.Prelude.{ℕ, ◌+◌, ◌≤◌, ◌≡◌, List, [], ◌∷◌}
use Rattle.std.proofs.Math.Option.{some}
use Rattle.std.proofs.Math.ListN.{get_elem?}
use Rattle.rules_shared.specs.Limits.{limits}
use Rattle.rules_object.specs.Object.{Named, Object}
use Rattle.rules_object.specs.Check.{span}
use Rattle.rules_object.specs.Bytes.{read_object}

-- how many values the names have together
abbrev pub values : List Named → ℕ
values [] = 0
values (n ∷ names) = span n.rows n.columns + values names

-- no more values than there may be cells, and each in such a cell
pub record Tidy (names : List Named) : Type 0 where
  pub few : values names ≤ limits.cells
  pub inside : (i : ℕ) (n : Named) → get_elem? names i ≡ some n → n.first + span n.rows n.columns ≤ limits.cells

-- the object that some bytes are has such names
pub record TidyObject (bytes : List ℕ) : Type 0 where
  pub names : (o : Object) → read_object bytes ≡ some o → Tidy o.names
