-- What any bytes are as an object: read, with the places of the bodies, or wrong by 40.
-- Assumes nothing.
use Rattle.std.specs.Prelude.{◌≡◌, ℕ, List, Option, Some, None}
use Rattle.std.proofs.Math.Option.{none, some}
use Rattle.rules_object.specs.Bytes.{read_object}
use Rattle.object_contents.specs.declared.Layout.{Layout}
use Rattle.object_contents.specs.Layout.{object_at, Placed}

pub record OpenedAt (s : List ℕ) (e : Layout) : Type 0 where
  pub is : read_object s ≡ some (object_at e s)
  pub placed : Placed e s

abbrev pub Opened : List ℕ → Option Layout → Type 0
Opened s (Some e) = OpenedAt s e
Opened s None = read_object s ≡ none
