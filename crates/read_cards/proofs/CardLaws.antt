-- The laws of a card's columns, read one after the other: characters, blanks, and the number of columns 1-5.
-- Assumes nothing.
use Prim.Native.Nat.{ℕ, zero, suc, ◌+◌, ◌-◌, ◌*◌, ◌^◌, ◌≤◌, ◌<◌}
use mathlib.Core.Path.{◌≡◌, refl, sym, ap, ◌∙◌, subst}
use mathlib.Core.Bool.{Bool, true, false, ◌&&◌, ◌||◌, cond}
use mathlib.Core.List.{List, [], ◌∷◌}
use mathlib.Core.Logic.{◌⊎◌, inl, inr, ⊎_elim}
use native.Mathlib.Omega.{arith}
use native.Mathlib.Nat.{pow-suc, pow-le-pow_right, mul_assoc, mul_comm}
use lib.Dec.{T, leb, eqb}
use lib.ListN.{length, get_or, take, replicate, length-take, length-replicate}
use borrow.Author.Tests.{le-leb, lt-leb, ne_eqb, leb-true}
use Rattle.rules_object.specs.Check.{blanks, is_digit, character}
use Rattle.rules_text.specs.Trees.{value_from, value_of}
use Rattle.rules_text.specs.Cards.{number_columns, comment, first_card, characters, all_digits, without_blanks, number_of, right_number}
use Rattle.rules_text.proofs.CardsLaws.{and_both}
use Rattle.number.proofs.Table.{at}
use Rattle.std.specs.Prelude.{Option, Some, None}
use Rattle.std.specs.List.{list_all}
use Rattle.read_cards.specs.declared.Number.{Number}
use Rattle.read_cards.specs.Columns.{digits_of, punched_of}

-- ---- one column

-- within a list it is all one what stands past its end
same_past : (l : List ℕ) (i d e : ℕ) → i < length l → get_or l i d ≡ get_or l i e
same_past [] i d e h = absurd (omega arith)
same_past (x ∷ l) zero d e h = refl
same_past (x ∷ l) (suc i) d e h = same_past l i d e (omega arith)

pub comment_is : (card : List ℕ) → length card ≡ 80 → eqb (get_or card 0 0) 67 ≡ comment card
unfolding comment
comment_is card l = ap (λ (c : ℕ). eqb c 67) (same_past card 0 0 32 (omega arith))

first_is : (card : List ℕ) → length card ≡ 80 → first_card card ≡ (eqb (get_or card 5 0) 32 || eqb (get_or card 5 0) 48)
unfolding first_card
first_is card l = ap (λ (c : ℕ). eqb c 32 || eqb c 48) (same_past card 5 32 0 (omega arith))

pub first_blank : (card : List ℕ) → length card ≡ 80 → get_or card 5 0 ≡ 32 → true ≡ first_card card
first_blank card l h = sym (first_is card l ∙ simp h)

pub first_other : (card : List ℕ) → length card ≡ 80 → (get_or card 5 0 ≡ 32 → ⊥) → eqb (get_or card 5 0) 48 ≡ first_card card
first_other card l h = sym (first_is card l ∙ simp (ne_eqb _ _ h))

-- ---- characters

-- the characters once more, by their codes
abbrev pub coded : ℕ → Bool
coded c = eqb c 32 || (eqb c 36 || (eqb c 61 || ((leb 40 c && leb c 57) || (leb 65 c && leb c 90))))

same : Bool → Bool → Bool
same true b = b
same false true = false
same false false = true

same_true : (a b : Bool) → T (same a b) → a ≡ b
unfolding same
same_true true true t = refl
same_true true false t = absurd t
same_true false true t = absurd t
same_true false false t = refl

right : ℕ → ℕ → Bool
right c x = same (character c) (coded c)

pub by_code : (c : ℕ) → c < 256 → character c ≡ coded c
unfolding right same character
by_code c h =
    let l : length {A = ℕ} (replicate 256 0) ≡ 256 = length-replicate {A = ℕ} 256 0 in
    same_true (character c) (coded c) (at right (replicate 256 0) tt c (omega arith))

pub characters_are : (s : List ℕ) → characters s ≡ list_all character s
characters_are [] = refl
characters_are (c ∷ s) = ap (λ (b : Bool). character c && b) (characters_are s)

module _ (c : ℕ) (h : c < 256) where
  pub key : (c ≡ 32) ⊎ ((c ≡ 36) ⊎ (c ≡ 61)) → true ≡ character c
  unfolding character
  key = ⊎_elim (λ e. simp e) (⊎_elim (λ e. simp e) (λ e. simp e))

  pub middle : 40 ≤ c → c ≤ 57 → true ≡ character c
  middle a b = sym (by_code c h ∙ go (eqb c 32) (eqb c 36) (eqb c 61))
    where
      go : (x y z : Bool) → (x || (y || (z || ((leb 40 c && leb c 57) || (leb 65 c && leb c 90))))) ≡ true
      go true y z = refl
      go false true z = refl
      go false false true = refl
      go false false false = simp (le-leb _ _ a, le-leb _ _ b)

  pub capital : 57 < c → 65 ≤ c → c ≤ 90 → true ≡ character c
  capital m a b = sym (by_code c h ∙ go (eqb c 32) (eqb c 36) (eqb c 61))
    where
      go : (x y z : Bool) → (x || (y || (z || ((leb 40 c && leb c 57) || (leb 65 c && leb c 90))))) ≡ true
      go true y z = refl
      go false true z = refl
      go false false true = refl
      go false false false =
          let l : 40 ≤ c = omega arith in
          simp (le-leb _ _ l, lt-leb _ _ m, le-leb _ _ a, le-leb _ _ b)

  pub none : (((c ≡ 32) ⊎ ((c ≡ 36) ⊎ (c ≡ 61))) → ⊥) → (40 ≤ c → c ≤ 57 → ⊥) → (65 ≤ c → c ≤ 90 → ⊥) → false ≡ character c
  none k m l = sym (by_code c h ∙ simp (ne_eqb c 32 (λ e. k (inl e)), ne_eqb c 36 (λ e. k (inr (inl e))), ne_eqb c 61 (λ e. k (inr (inr e)))) (go (leb 40 c) (leb c 57) (leb 65 c) (leb c 90) refl refl refl refl))
    where
      go : (w x y z : Bool) → leb 40 c ≡ w → leb c 57 ≡ x → leb 65 c ≡ y → leb c 90 ≡ z → ((w && x) || (y && z)) ≡ false
      go true true y z p q r s = absurd (m (leb-true 40 c p) (leb-true c 57 q))
      go true false true true p q r s = absurd (l (leb-true 65 c r) (leb-true c 90 s))
      go true false true false p q r s = refl
      go true false false z p q r s = refl
      go false x true true p q r s = absurd (l (leb-true 65 c r) (leb-true c 90 s))
      go false x true false p q r s = refl
      go false x false z p q r s = refl

-- ---- the number of columns 1-5

-- what columns give after v
abbrev pub from : ℕ → List ℕ → Option ℕ
from v s = cond (all_digits (without_blanks s)) (Some (value_from v (without_blanks s))) None

pub from_start : (card : List ℕ) → digits_of card ≡ from 0 (take 5 card)
unfolding digits_of number_of value_of
from_start card = refl

no_digits : (s : List ℕ) → blanks s ≡ true → without_blanks s ≡ []
no_digits [] e = refl
no_digits (c ∷ s) e =
    let b = and_both (eqb c 32) (blanks s) e in
    ap (λ (t : Bool). cond t (without_blanks s) (c ∷ without_blanks s)) b.0 ∙ no_digits s b.1

-- the value of digits
below : (s : List ℕ) (v b : ℕ) → all_digits s ≡ true → v < b → value_from v s < b * 10 ^ length s
below [] v b e h = omega arith
below (c ∷ s) v b e h =
    let d = and_both (is_digit c) (all_digits s) e in
    let r = and_both (leb 48 c) (leb c 57) d.0 in
    let t : v * 10 + (c - 48) < b * 10 = omega (arith, leb-true 48 c r.0, leb-true c 57 r.1) in
    let p : b * 10 ^ suc (length s) ≡ b * 10 * 10 ^ length s = ap (λ (n : ℕ). b * n) (pow-suc 10 (length s) ∙ mul_comm (10 ^ length s) 10) ∙ sym (mul_assoc b 10 (10 ^ length s)) in
    subst (λ (n : ℕ). value_from (v * 10 + (c - 48)) s < n) (sym p) (below s (v * 10 + (c - 48)) (b * 10) d.1 t)

short : (s : List ℕ) → length (without_blanks s) ≤ length s
short [] = omega arith
short (c ∷ s) = go (eqb c 32) (short s)
  where
    go : (b : Bool) → length (without_blanks s) ≤ length s → length (cond b (without_blanks s) (c ∷ without_blanks s)) ≤ suc (length s)
    go true h = omega arith
    go false h = omega arith

five : (card : List ℕ) → all_digits (without_blanks (number_columns card)) ≡ true → number_of card ≤ 99999
unfolding number_of value_of
five card e =
    let s = without_blanks (take 5 card) in
    let l : length s ≤ 5 = omega (arith, short (take 5 card), length-take 5 card) in
    let p : 10 ^ length s ≤ 10 ^ 5 = pow-le-pow_right (omega arith) l in
    omega (arith, below s 0 1 e (omega arith))

module _ (card : List ℕ) where
  pub punched_blank : blanks (number_columns card) ≡ true → Some (record { 0 = 0 }) ≡ punched_of card
  unfolding punched_of right_number number_of value_of
  punched_blank e = sym (simp (e, no_digits (number_columns card) e))

  told : Bool → Option Number
  told b = cond (b && (leb 1 (number_of card) && leb (number_of card) 99999)) (Some (record { 0 = number_of card })) None

  not_blank : blanks (number_columns card) ≡ false → punched_of card ≡ told (all_digits (without_blanks (number_columns card)))
  unfolding told punched_of right_number
  not_blank e = simp e

  pub punched_wrong : blanks (number_columns card) ≡ false → digits_of card ≡ None → None ≡ punched_of card
  unfolding told digits_of
  punched_wrong e w = sym (not_blank e ∙ go (all_digits (without_blanks (number_columns card))) w)
    where
      go : (b : Bool) → cond b (Some (number_of card)) None ≡ None → told b ≡ None
      go true h = cc
      go false h = refl

  -- the value is the number
  pub value_is : (v : ℕ) → digits_of card ≡ Some v → (all_digits (without_blanks (number_columns card)) ≡ true) × (number_of card ≡ v)
  unfolding digits_of
  value_is v w = go (all_digits (without_blanks (number_columns card))) w
    where
      go : (b : Bool) → cond b (Some (number_of card)) None ≡ Some v → (b ≡ true) × (number_of card ≡ v)
      go true h = (refl, cc)
      go false h = (cc, cc)

  pub punched_zero : (v : ℕ) → blanks (number_columns card) ≡ false → digits_of card ≡ Some v → v < 1 → None ≡ punched_of card
  unfolding told
  punched_zero v e w z =
      let i = value_is v w in
      let n : number_of card < 1 = omega arith in
      sym (not_blank e ∙ simp (i.0, lt-leb _ _ n))

  pub punched_number : (v : ℕ) → blanks (number_columns card) ≡ false → digits_of card ≡ Some v → 1 ≤ v → Some (record { 0 = v }) ≡ punched_of card
  unfolding told
  punched_number v e w o =
      let i = value_is v w in
      let m : v ≤ 99999 = omega (arith, five card i.0) in
      sym (not_blank e ∙ simp (i.0, i.1, le-leb _ _ o, le-leb _ _ m))
