-- What rule 44 starts from, and its answer.
-- Assumes nothing.
use Rattle.std.specs.Prelude.{◌≡◌, Bool, true, false, List, ℕ, ◌<◌, length, get_or, take}
use Rattle.std.proofs.Math.Option.{Option, none, some}
use Rattle.rules_object.specs.Check.{right41}
use Rattle.rules_object.specs.Operations.{right43}
use Rattle.rules_object.specs.Filling.{Blank}
use Rattle.object_contents.specs.Layout.{Placed, object_at}
use Rattle.object_contents.specs.declared.Layout.{Layout}

-- an object that passed 40, 41 and 43
pub record Judged (e : Layout) (s : List ℕ) : Type 0 where
  pub placed : Placed e s
  pub right : right41 (object_at e s) ≡ true
  pub words : (a : ℕ) → a < e.code_count → right43 (object_at e s) (get_or (object_at e s).code a 0) ≡ true

-- a table as it is made: 4,096 entries, and all never
pub record Fresh (table : List ℕ) : Type 0 where
  pub blank : Blank table
  pub long : length table ≡ 4096

-- the table that the code leaves, an entry for each of n instructions, as the book's answer
unfoldable pub answered : ℕ → List ℕ → Bool → Option (List ℕ)
answered n table true = some (take n table)
answered n table false = none
