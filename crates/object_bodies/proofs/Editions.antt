-- The kinds of an edition are the first of every kind.
-- Assumes nothing.
use mathlib.Core.Path.{◌≡◌, refl}
use Prim.Native.Nat.{ℕ}
use mathlib.Core.Bool.{Bool, true, false, cond}
use mathlib.Core.List.{List, []}
use lib.Dec.{eqb}
use lib.ListN.{length, take}
use Rattle.rules_object.specs.Kinds.{Kind, first_kinds, kinds_of, entry_sizes}
use Rattle.object_bodies.specs.Edition.{every_kind, sizes}

-- the kinds by the two tests
abbrev by : Bool → Bool → List Kind
by one two = cond one first_kinds (cond two every_kind [])

pub first_kinds_lem : (e : ℕ) → kinds_of e ≡ take (length (kinds_of e)) every_kind
first_kinds_lem e = go (eqb e 1) (eqb e 2)
  where
    go : (one two : Bool) → by one two ≡ take (length (by one two)) every_kind
    go true two = refl
    go false true = refl
    go false false = refl

pub first_sizes : (e : ℕ) → entry_sizes (kinds_of e) ≡ take (length (kinds_of e)) sizes
first_sizes e = go (eqb e 1) (eqb e 2)
  where
    go : (one two : Bool) → entry_sizes (by one two) ≡ take (length (by one two)) sizes
    go true two = refl
    go false true = refl
    go false false = refl
