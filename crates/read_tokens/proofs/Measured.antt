-- The laws of sizes: those of two parts, of a constant and of a name.
-- Assumes nothing.
use mathlib.Core.Path.{◌≡◌, refl, sym}
use mathlib.Core.List.{List, [], ◌∷◌, ◌++◌}
use mathlib.Core.Bool.{Bool, true, false, ◌&&◌, ◌||◌, not}
use Prim.Native.Nat.{ℕ, max}
use native.Mathlib.Omega.{arith}
use lib.Dec.{leb}
use lib.ListN.{length}
use Rattle.rules_shared.specs.Lists.{all}
use Rattle.rules_text.specs.Trees.{Name, Digits}
use Rattle.rules_deck.specs.Judge.{starts_integer}
use Rattle.read_tokens.specs.declared.Sizes.{Sizes}
use Rattle.read_tokens.specs.Sizes.{largest, sizes_of, both}

pub same_sizes : {a c d a' c' d' : ℕ} {b b' : Bool} → a ≡ a' → b ≡ b' → c ≡ c' → d ≡ d'
    → ◌≡◌ {A = Sizes} (record { name = a; other = b; constant = c; levels = d }) (record { name = a'; other = b'; constant = c'; levels = d' })
same_sizes e f g h = cc

largest_append : {A : Type 0} (f : A → ℕ) (l m : List A) → largest f (l ++ m) ≡ max (largest f l) (largest f m)
unfolding largest
largest_append f [] m = omega arith
largest_append f (a ∷ l) m = let more = largest_append f l m in omega arith

all_append : {A : Type 0} (test : A → Bool) (l m : List A) → not (all test (l ++ m)) ≡ not (all test l) || not (all test m)
all_append test [] m = refl
all_append test (a ∷ l) m = go (test a) (all_append test l m)
  where
    go : (b : Bool) → not (all test (l ++ m)) ≡ not (all test l) || not (all test m) → not (b && all test (l ++ m)) ≡ not (b && all test l) || not (all test m)
    go true e = e
    go false e = refl

pub sizes_join : (n m : List Name) (c d : List Digits) (k l : ℕ) → both (sizes_of n c k) (sizes_of m d l) ≡ sizes_of (n ++ m) (c ++ d) (max k l)
unfolding both sizes_of
sizes_join n m c d k l =
    same_sizes (sym (largest_append length n m)) (sym (all_append starts_integer n m)) (sym (largest_append length c d)) refl

pub sizes_none : {z : Sizes} → (z.name ≡ 0) × ((z.other ≡ false) × ((z.constant ≡ 0) × (z.levels ≡ 0))) → z ≡ sizes_of [] [] 0
unfolding sizes_of largest
sizes_none e = same_sizes e.0 e.1.0 e.1.1.0 e.1.1.1

pub sizes_constant : (c : Digits) → sizes_of [] (c ∷ []) 0 ≡ record { name = 0; other = false; constant = length c; levels = 0 }
unfolding sizes_of largest
sizes_constant c = let e : max (length c) 0 ≡ length c = omega arith in same_sizes refl refl e refl

pub sizes_name : (v : Name) → sizes_of (v ∷ []) [] 0 ≡ record { name = length v; other = not (starts_integer v); constant = 0; levels = 0 }
unfolding sizes_of largest
sizes_name [] = refl
sizes_name (c ∷ v) =
    let e : max (length (c ∷ v)) 0 ≡ length (c ∷ v) = omega arith in
    same_sizes e (one (leb 73 c && leb c 78)) refl refl
  where
    one : (b : Bool) → not (b && true) ≡ not b
    one true = refl
    one false = refl
