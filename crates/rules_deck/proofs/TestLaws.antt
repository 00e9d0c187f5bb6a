-- What a test that is passed tells: of a list, of a deck position by position, and of refusals one after the other; lists and what is among them.
-- Assumes nothing.
use mathlib.Core.Path.{◌≡◌, refl, sym, subst}
use Prim.Native.Nat.{ℕ, zero, suc, ◌+◌, ◌≤◌, ◌<◌}
use native.Mathlib.Nat.{zero-add, add-zero}
use native.Mathlib.Omega.{arith}
use mathlib.Core.Logic.{◌⊎◌, inl, inr}
use mathlib.Core.Bool.{Bool, true, false, ◌&&◌, ◌||◌, not, cond, false≢true}
use mathlib.Core.List.{List, [], ◌∷◌, ◌++◌, map, reverse, reverse_aux}
use mathlib.Core.Option.{Option, none, some}
use lib.Dec.{eqb}
use lib.ListN.{length, get_elem?}
use borrow.Author.Tests.{eqb-true, eq-eqb, not-true}
use Rattle.rules_shared.specs.Refusals.{or_else}
use Rattle.rules_shared.specs.Lists.{all}
use Rattle.rules_text.specs.Trees.{Name, Statement}
use Rattle.rules_deck.specs.Deck.{same_name}
use Rattle.rules_deck.specs.Accepted.{Among, here, there}
use Rattle.rules_deck.specs.Judge.{wrong}
use Rattle.rules_deck.specs.Whole.{first_wrong, refused_at}
use Rattle.rules_text.proofs.CardsLaws.{and_both}

-- ---- one test

pub or_one : (a b : Bool) → (a || b) ≡ true → (a ≡ true) ⊎ (b ≡ true)
or_one true b e = inl refl
or_one false b e = inr e

pub or_right : (a b : Bool) → (a || b) ≡ true → a ≡ false → b ≡ true
or_right true b e f = absurd (false≢true (sym f))
or_right false b e f = e

pub or_neither : (a b : Bool) → (a || b) ≡ false → (a ≡ false) × (b ≡ false)
or_neither true b e = absurd (false≢true (sym e))
or_neither false b e = (refl, e)

pub or_either : (a b : Bool) → (a ≡ true) ⊎ (b ≡ true) → (a || b) ≡ true
or_either true b h = refl
or_either false b (inl e) = absurd (false≢true e)
or_either false b (inr e) = e

pub implies : (a b : Bool) → (not a || b) ≡ true → a ≡ true → b ≡ true
implies true b e f = e
implies false b e f = absurd (false≢true f)

pub not_both : (a b : Bool) → not (a && b) ≡ true → a ≡ true → b ≡ false
not_both true b e f = not-true b e
not_both false b e f = absurd (false≢true f)

pub both : (a b : Bool) → a ≡ true → b ≡ true → (a && b) ≡ true
both true b e f = f
both false b e f = e

-- ---- names

pub same_name_lem : (v w : Name) → same_name v w ≡ true → v ≡ w
same_name_lem [] [] e = refl
same_name_lem [] (c ∷ w) e = absurd (false≢true e)
same_name_lem (b ∷ v) [] e = absurd (false≢true e)
same_name_lem (b ∷ v) (c ∷ w) e =
    let h = and_both (eqb b c) (same_name v w) e in
    let first = eqb-true b c h.0 in
    let rest = same_name_lem v w h.1 in
    cc

pub name_same : (v : Name) → same_name v v ≡ true
name_same [] = refl
name_same (c ∷ v) = both (eqb c c) (same_name v v) (eq-eqb c c refl) (name_same v)

-- ---- refusals one after the other

pub clash : {A : Type 0} {a : A} → some a ≡ none → ⊥
clash e =
    let z : ◌≡◌ {A = ℕ} 0 1 = cc in
    omega arith

pub else_both : {A : Type 0} (a b : Option A) → or_else a b ≡ none → (a ≡ none) × (b ≡ none)
else_both none b e = (refl, e)
else_both (some a) b e = absurd (clash e)

pub not_wrong : (b : Bool) (number : ℕ) → wrong b number ≡ none → b ≡ true
not_wrong true number e = refl
not_wrong false number e = cc

pub not_refused : (number : ℕ) (o : Option ℕ) → refused_at number o ≡ none → o ≡ none
not_refused number none e = refl
not_refused number (some place) e = cc

pub cond_none : {A : Type 0} (b : Bool) (o : Option A) (a : A) → cond b o (some a) ≡ none → (b ≡ true) × (o ≡ none)
cond_none true o a e = (refl, e)
cond_none false o a e = absurd (clash e)

-- ---- lists

pub all_among : {A : Type 0} (test : A → Bool) {x : A} {xs : List A} → all test xs ≡ true → Among x xs → test x ≡ true
all_among test {x} e (here {xs}) = (and_both (test x) (all test xs) e).0
all_among test e (there {y} {xs} a) = all_among test (and_both (test y) (all test xs) e).1 a

pub among_none : {A : Type 0} {x : A} → Among x [] → ⊥
among_none = elim [ ]

pub only : {A : Type 0} {x y : A} → Among x (y ∷ []) → x ≡ y
only here = refl
only {A = A} {y = y} (there x4) = elim x4 [ ]

pub among_left : {A : Type 0} {x : A} {xs : List A} (ys : List A) → Among x xs → Among x (xs ++ ys)
among_left ys here = here
among_left ys (there a) = there (among_left ys a)

pub among_right : {A : Type 0} {x : A} (xs : List A) {ys : List A} → Among x ys → Among x (xs ++ ys)
among_right [] a = a
among_right (y ∷ xs) a = there (among_right xs a)

pub among_append : {A : Type 0} {x : A} (xs ys : List A) → Among x (xs ++ ys) → Among x xs ⊎ Among x ys
among_append [] ys a = inr a
among_append (x ∷ xs) ys here = inl here
among_append {x = x} (y ∷ xs) ys (there a) = go (among_append xs ys a)
  where
    go : Among x xs ⊎ Among x ys → Among x (y ∷ xs) ⊎ Among x ys
    go (inl b) = inl (there b)
    go (inr b) = inr b

pub among_map : {A B : Type 0} (f : A → B) (xs : List A) {y : B} → Among y (map f xs) → (x : A) × Among x xs × (y ≡ f x)
among_map f (x ∷ xs) here = (x, here, refl)
among_map f (x ∷ xs) (there a) = let h = among_map f xs a in (h.0, there h.1, h.2)
among_map {A = A} {B = B} f [] {y = y} x' = elim x' [ ]

turn : {A : Type 0} {x y : A} {xs ys : List A} → Among x xs ⊎ Among x (y ∷ ys) → Among x (y ∷ xs) ⊎ Among x ys
turn (inl b) = inl (there b)
turn (inr here) = inl here
turn (inr (there b)) = inr b

among_turned : {A : Type 0} {x : A} (xs ys : List A) → Among x (reverse_aux xs ys) → Among x xs ⊎ Among x ys
among_turned [] ys a = inr a
among_turned (y ∷ xs) ys a = turn (among_turned xs (y ∷ ys) a)

pub among_reverse : {A : Type 0} {x : A} (xs : List A) → Among x (reverse xs) → Among x xs
among_reverse {x = x} xs a = go (among_turned xs [] a)
  where
    go : Among x xs ⊎ Among x [] → Among x xs
    go (inl b) = b
    go (inr x'') = elim x'' [ ]

pub at_before : {A : Type 0} (xs : List A) (j : ℕ) {x : A} → get_elem? xs j ≡ some x → j < length xs
at_before [] j e = absurd (clash (sym e))
at_before (y ∷ xs) zero e = omega arith
at_before (y ∷ xs) (suc j) e = let h = at_before xs j e in omega arith

pub at_past : {A : Type 0} (xs : List A) (j : ℕ) → get_elem? xs j ≡ none → length xs ≤ j
at_past [] j e = omega arith
at_past (y ∷ xs) zero e = absurd (clash e)
at_past (y ∷ xs) (suc j) e = let h = at_past xs j e in omega arith

pub last_at_lem : {A : Type 0} (x : A) (xs : List A) → (y : A) × (get_elem? (x ∷ xs) (length xs) ≡ some y)
last_at_lem x [] = (x, refl)
last_at_lem x (y ∷ xs) = last_at_lem y xs

-- ---- a deck, position by position

wrong_from : (right : ℕ → Statement → Bool) (q : ℕ) (deck : List Statement) → first_wrong right q deck ≡ none →
    (j : ℕ) (s : Statement) → get_elem? deck j ≡ some s → right (q + j) s ≡ true
wrong_from right q [] e j s h = cc
wrong_from right q (x ∷ deck) e zero s h =
    let same : x ≡ s = cc in
    let r : right q x ≡ true = (cond_none (right q x) (first_wrong right (suc q) deck) (suc q) e).0 in
    rw (add-zero q, ← same) r
wrong_from right q (x ∷ deck) e (suc j) s h =
    let r = wrong_from right (suc q) deck (cond_none (right q x) (first_wrong right (suc q) deck) (suc q) e).1 j s h in
    let n : q + suc j ≡ suc q + j = omega arith in
    rw n r

-- where no position fails, each passes
pub each_right : (right : ℕ → Statement → Bool) (deck : List Statement) → first_wrong right 0 deck ≡ none →
    (j : ℕ) (s : Statement) → get_elem? deck j ≡ some s → right j s ≡ true
each_right right deck e j s h = subst (λ (n : ℕ). right n s ≡ true) (zero-add j) (wrong_from right 0 deck e j s h)
