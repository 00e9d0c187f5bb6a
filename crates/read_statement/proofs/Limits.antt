-- 11, 12 and 14 are tests of the sizes that the reader gives back.
-- Assumes nothing.
use mathlib.Core.Path.{◌≡◌, refl, sym, ap, ◌∙◌}
use mathlib.Core.List.{List, [], ◌∷◌}
use mathlib.Core.Bool.{Bool, true, false, ◌&&◌, not}
use Prim.Native.Nat.{ℕ, max}
use native.Mathlib.Omega.{arith}
use lib.Dec.{leb}
use lib.ListN.{length}
use borrow.Author.Tests.{leb-true, leb-false, le-leb, lt-leb}
use Rattle.rules_shared.specs.Limits.{limits}
use Rattle.rules_shared.specs.House.{House}
use Rattle.rules_shared.specs.Lists.{all}
use Rattle.rules_text.specs.Trees.{Name, Form, form_names, form_constants}
use Rattle.rules_deck.specs.Judge.{starts_integer, right11, right12, right14}
use Rattle.read_tokens.specs.Sizes.{largest, sizes_of}
use Rattle.read_forms.specs.Statements.{form_sizes}

both_le : (x y k : ℕ) → leb (max x y) k ≡ leb x k && leb y k
both_le x y k = go (leb x k) (leb y k) refl refl
  where
    go : (p q : Bool) → leb x k ≡ p → leb y k ≡ q → leb (max x y) k ≡ p && q
    go true true e f =
        let a = leb-true x k e in
        let b = leb-true y k f in
        le-leb (max x y) k (omega arith)
    go true false e f = let b = leb-false y k f in lt-leb (max x y) k (omega arith)
    go false q e f = let a = leb-false x k e in lt-leb (max x y) k (omega arith)

largest_le : {A : Type 0} (g : A → ℕ) (k : ℕ) (l : List A) → all (λ a. leb (g a) k) l ≡ leb (largest g l) k
unfolding largest
largest_le g k [] = sym (le-leb 0 k (omega arith))
largest_le g k (a ∷ l) = ap (λ (b : Bool). leb (g a) k && b) (largest_le g k l) ∙ sym (both_le (g a) (largest g l) k)

-- 12
pub sizes_12 : (house : House) (f : Form) → right12 house f ≡ leb (form_sizes f).constant house.digits
unfolding right12 form_sizes sizes_of
sizes_12 house f = largest_le length house.digits (form_constants f)

-- 14
pub sizes_14 : (f : Form) → right14 f ≡ leb (form_sizes f).levels limits.parentheses
unfolding right14 form_sizes sizes_of
sizes_14 f = refl

swap : (a b c d : Bool) → (a && b) && (c && d) ≡ (a && c) && (b && d)
swap true true true d = refl
swap true true false d = refl
swap true false true d = refl
swap true false false d = refl
swap false b c d = refl

both_all : (n : ℕ) (l : List Name) → all (λ v. leb (length v) n && starts_integer v) l ≡ all (λ v. leb (length v) n) l && all starts_integer l
both_all n [] = refl
both_all n (v ∷ l) =
    ap (λ (b : Bool). (leb (length v) n && starts_integer v) && b) (both_all n l)
    ∙ swap (leb (length v) n) (starts_integer v) (all (λ w. leb (length w) n) l) (all starts_integer l)

twice : (b : Bool) → b ≡ not (not b)
twice true = refl
twice false = refl

-- 11
pub sizes_11 : (house : House) (f : Form) → right11 house f ≡ leb (form_sizes f).name house.name_length && not (form_sizes f).other
unfolding right11 form_sizes sizes_of
sizes_11 house f =
    both_all house.name_length (form_names f)
    ∙ ap (λ (b : Bool). b && all starts_integer (form_names f)) (largest_le length house.name_length (form_names f))
    ∙ ap (λ (b : Bool). leb (largest length (form_names f)) house.name_length && b) (twice (all starts_integer (form_names f)))
