-- Tests joined, tests of lists, and words from a place on.
-- Assumes nothing.
use mathlib.Core.Path.{◌≡◌, refl, ap, ◌∙◌}
use Prim.Native.Nat.{ℕ}
use native.Mathlib.Nat.{add-zero}
use mathlib.Core.Bool.{Bool, true, false, ◌&&◌}
use mathlib.Core.List.{List, [], ◌∷◌, ◌++◌}
use lib.ListN.{get_or, drop}
use lib.Seq.{get_or-drop}
use Rattle.rules_shared.specs.Lists.{all}

pub and_true : (a b : Bool) → b ≡ true → (a && b) ≡ a
and_true true b e = e
and_true false b e = refl

pub and_false : (a b : Bool) → b ≡ false → (a && b) ≡ false
and_false true b e = e
and_false false b e = refl

pub all_both : {A : Type 0} (test : A → Bool) (xs ys : List A) → all test (xs ++ ys) ≡ all test xs && all test ys
all_both test [] ys = refl
all_both test (x ∷ xs) ys = go (test x) (all_both test xs ys)
  where
    go : (b : Bool) → all test (xs ++ ys) ≡ all test xs && all test ys → (b && all test (xs ++ ys)) ≡ (b && all test xs) && all test ys
    go true h = h
    go false h = refl

pub head_at : (t : List ℕ) (at : ℕ) → get_or (drop at t) 0 0 ≡ get_or t at 0
head_at t at = get_or-drop at t 0 0 ∙ ap (λ (j : ℕ). get_or t j 0) (add-zero at)
