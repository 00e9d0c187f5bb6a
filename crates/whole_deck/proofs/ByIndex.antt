-- The book's tests of one statement or DO after the other, by index.
-- Assumes nothing.
use mathlib.Core.Path.{◌≡◌, refl, sym, ap, ◌∙◌}
use Prim.Native.Nat.{ℕ, suc, ◌+◌, ◌<◌}
use native.Mathlib.Omega.{arith}
use mathlib.Core.Bool.{Bool, true, false, not, cond}
use mathlib.Core.List.{List, [], ◌∷◌, map}
use mathlib.Core.Option.{Option, none, some}
use lib.Dec.{eqb, ltb, leb-suc-suc}
use lib.ListN.{length, get_or}
use borrow.Author.Tests.{lt-ltb}
use Rattle.rules_shared.specs.Lists.{all}
use Rattle.rules_text.specs.Trees.{stop, Statement}
use Rattle.rules_deck.specs.Deck.{position_of, Do}
use Rattle.rules_deck.specs.Whole.{first_wrong, in_range, depth, right_do, first_wrong_do}
use Rattle.whole_numbers.specs.Numbers.{all_from, first_from, count_from}

-- what stands in for those outside a list
abbrev pub no_statement : Statement
no_statement = record { number = 0; form = stop }

abbrev pub no_do : Do
no_do = record { position = 0; last = 0; variable = [] }

-- what holds of the index i + k holds of the first and of the others
module _ {A : Type 0} (P : ℕ → A → Type 0) (a : A) (l : List A) (d : A) (i : ℕ) (h : (k : ℕ) → k < length (a ∷ l) → P (i + k) (get_or (a ∷ l) k d)) where
  pub at_first : P i a
  at_first =
      let z : i + 0 ≡ i = omega arith in
      rw z at (h 0 (omega arith))

  pub at_others : (k : ℕ) → k < length l → P (suc i + k) (get_or l k d)
  at_others k g =
      let z : i + suc k ≡ suc i + k = omega arith in
      rw z at (h (suc k) (omega arith))

pub all_by : {A : Type 0} (test : A → Bool) (l : List A) (d : A) (whole : ℕ → Bool) (i : ℕ) → ((k : ℕ) → k < length l → whole (i + k) ≡ test (get_or l k d))
    → all test l ≡ all_from whole (length l) i
all_by test [] d whole i h = refl
all_by test (a ∷ l) d whole i h =
    rw (at_first (λ n b. whole n ≡ test b) a l d i h, all_by test l d whole (suc i) (at_others (λ n b. whole n ≡ test b) a l d i h))

pub first_by : (right : ℕ → Statement → Bool) (deck : List Statement) (whole : ℕ → Bool) (i : ℕ) → ((k : ℕ) → k < length deck → whole (i + k) ≡ right (i + k) (get_or deck k no_statement))
    → first_wrong right i deck ≡ first_from whole suc (length deck) i
first_by right [] whole i h = refl
first_by right (s ∷ deck) whole i h =
    rw (at_first (λ n t. whole n ≡ right n t) s deck no_statement i h, first_by right deck whole (suc i) (at_others (λ n t. whole n ≡ right n t) s deck no_statement i h))

pub dos_by : (deck : List Statement) (ds : List Do) (whole : ℕ → Bool) (place : ℕ → ℕ) (i : ℕ) → ((k : ℕ) → k < length ds → whole (i + k) ≡ right_do deck (get_or ds k no_do))
    → ((k : ℕ) → k < length ds → place (i + k) ≡ suc (get_or ds k no_do).position) → first_wrong_do deck ds ≡ first_from whole place (length ds) i
dos_by deck [] whole place i h p = refl
dos_by deck (d ∷ ds) whole place i h p =
    rw (
      at_first (λ n e. whole n ≡ right_do deck e) d ds no_do i h,
      at_first (λ n e. place n ≡ suc e.position) d ds no_do i p,
      dos_by deck ds whole place (suc i) (at_others (λ n e. whole n ≡ right_do deck e) d ds no_do i h) (at_others (λ n e. place n ≡ suc e.position) d ds no_do i p),
    )

pub depth_by : (deck : List Statement) (ds : List Do) (j : ℕ) (whole : ℕ → Bool) (i : ℕ) → ((k : ℕ) → k < length ds → whole (i + k) ≡ in_range deck (get_or ds k no_do) j)
    → depth deck ds j ≡ count_from whole (length ds) i
depth_by deck [] j whole i h = refl
depth_by deck (d ∷ ds) j whole i h =
    rw (at_first (λ n e. whole n ≡ in_range deck e j) d ds no_do i h, depth_by deck ds j whole (suc i) (at_others (λ n e. whole n ≡ in_range deck e j) d ds no_do i h))

-- the place of the first with number n
abbrev pub placed : ℕ → ℕ → Option ℕ
placed position count = cond (ltb position count) (some (suc position)) none

pub place_by_lem : (deck : List Statement) (n : ℕ) (whole : ℕ → Bool) (i : ℕ) → ((k : ℕ) → k < length deck → whole (i + k) ≡ not (eqb (get_or deck k no_statement).number n))
    → first_from whole suc (length deck) i ≡ cond (ltb (position_of deck n) (length deck)) (some (suc (i + position_of deck n))) none
place_by_lem [] n whole i h = refl
place_by_lem (s ∷ deck) n whole i h =
    by (eqb s.number n) (at_first (λ m t. whole m ≡ not (eqb t.number n)) s deck no_statement i h)
    (place_by_lem deck n whole (suc i) (at_others (λ m t. whole m ≡ not (eqb t.number n)) s deck no_statement i h))
  where
    by : (b : Bool) → whole i ≡ not b → first_from whole suc (length deck) (suc i) ≡ cond (ltb (position_of deck n) (length deck)) (some (suc (suc i + position_of deck n))) none
        → cond (whole i) (first_from whole suc (length deck) (suc i)) (some (suc i))
        ≡ cond (ltb (cond b 0 (suc (position_of deck n))) (suc (length deck))) (some (suc (i + cond b 0 (suc (position_of deck n))))) none
    by true e r =
        let z : i + 0 ≡ i = omega arith in
        rw (e, lt-ltb 0 (suc (length deck)) (omega arith), z)
    by false e r =
        let z : suc i + position_of deck n ≡ i + suc (position_of deck n) = omega arith in
        rw e (r ∙ (rw (leb-suc-suc (suc (position_of deck n)) (length deck), z)))

pub all_map : {A B : Type 0} (test : B → Bool) (f : A → B) (l : List A) → all test (map f l) ≡ all (λ a. test (f a)) l
all_map test f [] = refl
all_map test f (a ∷ l) = rw (all_map test f l)

-- ---- from 0 on

from_none : (k : ℕ) → 0 + k ≡ k
from_none k = omega arith

pub all_zero : {A : Type 0} (test : A → Bool) (l : List A) (d : A) (whole : ℕ → Bool) → ((k : ℕ) → k < length l → whole k ≡ test (get_or l k d)) → all test l ≡ all_from whole (length l) 0
all_zero test l d whole h = all_by test l d whole 0 (λ k g. ap whole (from_none k) ∙ h k g)

pub first_zero : (right : ℕ → Statement → Bool) (deck : List Statement) (whole : ℕ → Bool) → ((k : ℕ) → k < length deck → whole k ≡ right k (get_or deck k no_statement))
    → first_wrong right 0 deck ≡ first_from whole suc (length deck) 0
first_zero right deck whole h = first_by right deck whole 0 (λ k g. ap whole (from_none k) ∙ h k g ∙ ap (λ (n : ℕ). right n (get_or deck k no_statement)) (sym (from_none k)))

pub dos_zero : (deck : List Statement) (ds : List Do) (whole : ℕ → Bool) (place : ℕ → ℕ) → ((k : ℕ) → k < length ds → whole k ≡ right_do deck (get_or ds k no_do))
    → ((k : ℕ) → k < length ds → place k ≡ suc (get_or ds k no_do).position) → first_wrong_do deck ds ≡ first_from whole place (length ds) 0
dos_zero deck ds whole place h p = dos_by deck ds whole place 0 (λ k g. ap whole (from_none k) ∙ h k g) (λ k g. ap place (from_none k) ∙ p k g)

pub depth_zero : (deck : List Statement) (ds : List Do) (j : ℕ) (whole : ℕ → Bool) → ((k : ℕ) → k < length ds → whole k ≡ in_range deck (get_or ds k no_do) j) → depth deck ds j ≡ count_from whole (length ds) 0
depth_zero deck ds j whole h = depth_by deck ds j whole 0 (λ k g. ap whole (from_none k) ∙ h k g)

pub place_zero : (deck : List Statement) (n : ℕ) (whole : ℕ → Bool) → ((k : ℕ) → k < length deck → whole k ≡ not (eqb (get_or deck k no_statement).number n))
    → first_from whole suc (length deck) 0 ≡ placed (position_of deck n) (length deck)
place_zero deck n whole h =
    place_by_lem deck n whole 0 (λ k g. ap whole (from_none k) ∙ h k g) ∙ ap (λ (p : ℕ). cond (ltb (position_of deck n) (length deck)) (some (suc p)) none) (from_none (position_of deck n))
