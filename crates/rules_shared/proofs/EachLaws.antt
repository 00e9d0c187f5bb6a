-- Laws of a predicate of every element of a list.
-- Assumes nothing.
use Prim.Native.Nat.{ℕ}
use mathlib.Core.List.{List, [], ◌∷◌, ◌++◌}
use lib.ListN.{take, drop, take-append-drop}
use Rattle.rules_shared.specs.Lists.{Each, each_none, each_more}

module _ {A : Type 0} {P : A → Type 0} where
  pub each_head : {x : A} {xs : List A} → Each P (x ∷ xs) → P x
  each_head (each_more p ps) = p

  pub each_tail : {x : A} {xs : List A} → Each P (x ∷ xs) → Each P xs
  each_tail (each_more p ps) = ps

  pub each_one : {x : A} → P x → Each P (x ∷ [])
  each_one p = each_more p each_none

  pub each_of : ((x : A) → P x) → (xs : List A) → Each P xs
  each_of f [] = each_none
  each_of f (x ∷ xs) = each_more (f x) (each_of f xs)

  pub each_map : {Q : A → Type 0} {xs : List A} → ((x : A) → P x → Q x) → Each P xs → Each Q xs
  each_map f each_none = each_none
  each_map f (each_more {x} p ps) = each_more (f x p) (each_map f ps)

  pub each_append : {xs ys : List A} → Each P xs → Each P ys → Each P (xs ++ ys)
  each_append each_none qs = qs
  each_append (each_more p ps) qs = each_more p (each_append ps qs)

  pub each_left : (xs ys : List A) → Each P (xs ++ ys) → Each P xs
  each_left [] ys ps = each_none
  each_left (x ∷ xs) ys (each_more p ps) = each_more p (each_left xs ys ps)

  pub each_right : (xs ys : List A) → Each P (xs ++ ys) → Each P ys
  each_right [] ys ps = ps
  each_right (x ∷ xs) ys (each_more p ps) = each_right xs ys ps

  pub each_both : (xs : List A) {ys : List A} → Each P (xs ++ ys) → Each P xs × Each P ys
  each_both xs {ys} ps = (each_left xs ys ps, each_right xs ys ps)

  pub each_take : (n : ℕ) (xs : List A) → Each P xs → Each P (take n xs)
  each_take n xs ps = each_left (take n xs) (drop n xs) (rw (take-append-drop n xs) ps)

  pub each_drop : (n : ℕ) (xs : List A) → Each P xs → Each P (drop n xs)
  each_drop n xs ps = each_right (take n xs) (drop n xs) (rw (take-append-drop n xs) ps)
