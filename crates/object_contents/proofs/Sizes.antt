-- The table of entry sizes, and both sides of a test.
-- Assumes nothing.
use mathlib.Core.Path.{◌≡◌, refl}
use Prim.Native.Nat.{ℕ, zero, suc, ◌≤◌, ◌<◌}
use mathlib.Core.Bool.{Bool, true, false, ◌&&◌}
use mathlib.Core.List.{List, [], ◌∷◌}
use native.Mathlib.Omega.{arith}
use lib.Dec.{leb}
use lib.ListN.{length, get_or}
use borrow.Author.Tests.{leb-true}
use Rattle.rules_shared.specs.Lists.{all, Each, each_none, each_more}
use Rattle.object_bodies.specs.Edition.{most_kinds, sizes}

pub and_left : (s t : Bool) → (s && t) ≡ true → s ≡ true
and_left true t e = refl
and_left false t e = e

pub and_right : (s t : Bool) → (s && t) ≡ true → t ≡ true
and_right true t e = e
and_right false t e = cc

pub record Sized (z : ℕ) : Type 0 where
  pub some : 0 < z
  pub few : z ≤ 9

each_sized : (zs : List ℕ) → Each Sized zs → (k : ℕ) → k < length zs → Sized (get_or zs k 0)
each_sized [] h k l = absurd (omega arith)
each_sized (z ∷ zs) (each_more h hs) zero l = h
each_sized (z ∷ zs) (each_more h hs) (suc k) l = each_sized zs hs k (omega arith)

all_sized : (zs : List ℕ) → all (λ z. leb 1 z && leb z 9) zs ≡ true → Each Sized zs
all_sized [] e = each_none
all_sized (z ∷ zs) e =
    let t = and_left (leb 1 z && leb z 9) _ e in
    each_more (record { some = leb-true 1 z (and_left (leb 1 z) _ t); few = leb-true z 9 (and_right (leb 1 z) _ t) }) (all_sized zs (and_right (leb 1 z && leb z 9) _ e))

pub sized : (k : ℕ) → k < most_kinds → Sized (get_or sizes k 0)
sized = each_sized sizes (all_sized sizes refl)
