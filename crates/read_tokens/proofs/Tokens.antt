-- What the book's readers find, told by the runs and bytes that the code reads.
-- Assumes nothing.
use mathlib.Core.Path.{◌≡◌, refl, sym, ap, ap₂, ◌∙◌}
use mathlib.Core.List.{List, [], ◌∷◌}
use mathlib.Core.Bool.{Bool, true, false, ◌&&◌, cond}
use Prim.Native.Nat.{ℕ, zero, suc, ◌+◌, ◌-◌, ◌≤◌, ◌<◌}
use native.Mathlib.Omega.{arith}
use native.Mathlib.Numerals.{add-one}
use lib.Dec.{eqb, ltb, leb}
use lib.ListN.{length, take, drop, get_or, length-drop, drop_of_length-le, get_or-eq_default}
use lib.Seq.{drop-cons, take_all, length-take-le}
use borrow.Author.Tests.{eq-eqb, ne_eqb, eqb-true, eqb-false, ltb-true, ltb-false}
use Rattle.std.specs.List.{starts_with}
use Rattle.rules_object.specs.Check.{is_letter, is_digit}
use Rattle.rules_text.specs.Tokens.{is_letter_or_digit, Found, found, bad, Reader, ahead, after, after_word, starts, starts_digit, run, digit_run, name_run, taken, number, name}
use Rattle.rules_deck.specs.Judge.{starts_integer}
use Rattle.rules_text.proofs.Readers.{run_le}
use Rattle.rules_text.proofs.Found.{ahead_none, ahead_ahead}
use Rattle.read_tokens.specs.Words.{starts_word}

-- ---- runs

taken_some : (k : ℕ) (s : List ℕ) → (k ≡ 0 → ⊥) → taken k s ≡ found (take k s) k
unfolding taken
taken_some zero s h = absurd (h refl)
taken_some (suc k) s h = refl

module _ (s : List ℕ) where
  pub number_none : digit_run s ≡ 0 → number s ≡ bad
  unfolding number taken
  number_none e = ap (λ (k : ℕ). taken k s) e

  pub number_some : (digit_run s ≡ 0 → ⊥) → number s ≡ found (take (digit_run s) s) (digit_run s)
  unfolding number
  number_some h = taken_some (digit_run s) s h

  pub name_none : name_run s ≡ 0 → name s ≡ bad
  unfolding name taken
  name_none e = ap (λ (k : ℕ). taken k s) e

  pub name_some : (name_run s ≡ 0 → ⊥) → name s ≡ found (take (name_run s) s) (name_run s)
  unfolding name
  name_some h = taken_some (name_run s) s h

  pub digits_le : digit_run s ≤ length s
  unfolding digit_run
  digits_le = run_le is_digit s

pub name_le : (s : List ℕ) → name_run s ≤ length s
unfolding name_run
name_le [] = omega arith
name_le (c ∷ s) = go (is_letter c)
  where
    go : (b : Bool) → cond b (suc (run is_letter_or_digit s)) 0 ≤ suc (length s)
    go true = omega (arith, run_le is_letter_or_digit s)
    go false = omega arith

pub no_digit : (s : List ℕ) → digit_run s ≡ 0 → starts_digit s ≡ false
unfolding digit_run run starts_digit
no_digit [] e = refl
no_digit (c ∷ s) e = go (is_digit c) e
  where
    go : (b : Bool) → cond b (suc (run is_digit s)) 0 ≡ 0 → b ≡ false
    go true e = absurd (omega arith)
    go false e = refl

pub a_digit_lem : (s : List ℕ) → (digit_run s ≡ 0 → ⊥) → starts_digit s ≡ true
unfolding digit_run run starts_digit
a_digit_lem [] h = absurd (h refl)
a_digit_lem (c ∷ s) h = go (is_digit c) h
  where
    go : (b : Bool) → (cond b (suc (run is_digit s)) 0 ≡ 0 → ⊥) → b ≡ true
    go true h = refl
    go false h = absurd (h refl)

-- what was taken is as long as it says, and starts with the byte that stands there
pub part_length : (s : List ℕ) (a k : ℕ) → k ≤ length (drop a s) → length (take k (drop a s)) ≡ k
part_length s a k h = length-take-le k (drop a s) h

pub part_first : (s : List ℕ) (k : ℕ) → (k ≡ 0 → ⊥) → starts_integer (take k s) ≡ starts_integer s
part_first s zero h = absurd (h refl)
part_first [] (suc k) h = refl
part_first (c ∷ s) (suc k) h = refl

pub integer_byte : (s : List ℕ) (a : ℕ) → starts_integer (drop a s) ≡ leb 73 (get_or s a 0) && leb (get_or s a 0) 78
integer_byte [] zero = refl
integer_byte [] (suc a) = refl
integer_byte (c ∷ s) zero = refl
integer_byte (c ∷ s) (suc a) = integer_byte s a

-- a part of the text from a place to its end is what is left there
pub part_all : (s : List ℕ) (k : ℕ) → take (length s - k) (drop k s) ≡ drop k s
part_all s k = take_all (length s - k) (drop k s) (omega (arith, length-drop k s))

-- ---- bytes

module _ (c : ℕ) (some : 0 < c) (s : List ℕ) (a : ℕ) where
  pub starts_is : starts c (drop a s) ≡ eqb (get_or s a 0) c
  unfolding starts
  starts_is = go (ltb a (length s)) refl
    where
      go : (b : Bool) → ltb a (length s) ≡ b → starts c (drop a s) ≡ eqb (get_or s a 0) c
      go true e = ap (starts c) (drop-cons s a 0 (ltb-true a (length s) e))
      go false e =
          let past = ltb-false a (length s) e in
          ap (starts c) (drop_of_length-le s past) ∙ sym (ap (λ (x : ℕ). eqb x c) (get_or-eq_default s 0 past) ∙ ne_eqb 0 c (λ z. omega arith))

  pub after_is : {A : Type 0} (r : Reader A) → after c r (drop a s) ≡ cond (eqb (get_or s a 0) c) (ahead 1 (r (drop (a + 1) s))) bad
  unfolding after
  after_is {A} r = go (ltb a (length s)) refl
    where
      go : (b : Bool) → ltb a (length s) ≡ b → after c r (drop a s) ≡ cond (eqb (get_or s a 0) c) (ahead 1 (r (drop (a + 1) s))) bad
      go true e =
          ap (after c r) (drop-cons s a 0 (ltb-true a (length s) e))
          ∙ ap (λ (k : ℕ). cond (eqb (get_or s a 0) c) (ahead 1 (r (drop k s))) bad) (sym (add-one a))
      go false e =
          let past = ltb-false a (length s) e in
          ap (after c r) (drop_of_length-le s past)
          ∙ sym (ap (λ (b : Bool). cond b (ahead 1 (r (drop (a + 1) s))) bad) (ap (λ (x : ℕ). eqb x c) (get_or-eq_default s 0 past) ∙ ne_eqb 0 c (λ z. omega arith)))

  pub after_some : {A : Type 0} (r : Reader A) → get_or s a 0 ≡ c → after c r (drop a s) ≡ ahead 1 (r (drop (a + 1) s))
  after_some r e = after_is r ∙ ap (λ (b : Bool). cond b (ahead 1 (r (drop (a + 1) s))) bad) (eq-eqb (get_or s a 0) c e)

  pub after_none : {A : Type 0} (r : Reader A) → (get_or s a 0 ≡ c → ⊥) → after c r (drop a s) ≡ bad
  after_none r h = after_is r ∙ ap (λ (b : Bool). cond b (ahead 1 (r (drop (a + 1) s))) bad) (ne_eqb (get_or s a 0) c h)

  -- a byte that is not 0 stands in the text
  pub inside : get_or s a 0 ≡ c → a < length s
  inside e = go (ltb a (length s)) refl
    where
      go : (b : Bool) → ltb a (length s) ≡ b → a < length s
      go true q = ltb-true a (length s) q
      go false q =
          let z = get_or-eq_default s 0 (ltb-false a (length s) q) in
          absurd (omega arith)

-- ---- words

same_byte : (a b : ℕ) → eqb a b ≡ eqb b a
same_byte a b = go (eqb b a) refl
  where
    go : (x : Bool) → eqb b a ≡ x → eqb a b ≡ x
    go true e = eq-eqb a b (sym (eqb-true b a e))
    go false e = ne_eqb a b (λ q. eqb-false b a e (sym q))

pub starts_is_word : (w s : List ℕ) → starts_with eqb s w ≡ starts_word w s
unfolding starts_word
starts_is_word [] s = refl
starts_is_word (c ∷ w) [] = refl
starts_is_word (c ∷ w) (x ∷ s) = ap₂ (λ (a b : Bool). a && b) (same_byte c x) (starts_is_word w s)

pub word_is : {A : Type 0} (w : List ℕ) (r : Reader A) (s : List ℕ) → after_word w r s ≡ cond (starts_word w s) (ahead (length w) (r (drop (length w) s))) bad
unfolding after_word starts_word after ahead
word_is [] r s = sym (ahead_none (r s))
word_is (c ∷ w) r [] = refl
word_is {A} (c ∷ w) r (x ∷ s) = ap (λ (o : Found A). cond (eqb x c) (ahead 1 o) bad) (word_is w r s) ∙ go (eqb x c) (starts_word w s)
  where
    open_ahead : (n : ℕ) → 1 + n ≡ suc n
    open_ahead n = omega arith

    go : (p q : Bool) → cond p (ahead 1 (cond q (ahead (length w) (r (drop (length w) s))) bad)) bad ≡ cond (p && q) (ahead (suc (length w)) (r (drop (length w) s))) bad
    go true true = ahead_ahead 1 (length w) (r (drop (length w) s)) ∙ ap (λ (n : ℕ). ahead n (r (drop (length w) s))) (open_ahead (length w))
    go true false = refl
    go false q = refl

pub word_some : {A : Type 0} (w : List ℕ) (r : Reader A) (s : List ℕ) → starts_word w s ≡ true → after_word w r s ≡ ahead (length w) (r (drop (length w) s))
word_some w r s e = word_is w r s ∙ ap (λ (b : Bool). cond b (ahead (length w) (r (drop (length w) s))) bad) e

pub word_none : {A : Type 0} (w : List ℕ) (r : Reader A) (s : List ℕ) → starts_word w s ≡ false → after_word w r s ≡ bad
word_none w r s e = word_is w r s ∙ ap (λ (b : Bool). cond b (ahead (length w) (r (drop (length w) s))) bad) e

pub word_fits : (w s : List ℕ) → starts_word w s ≡ true → length w ≤ length s
unfolding starts_word
word_fits [] s e = omega arith
word_fits (c ∷ w) [] e = let z : ◌≡◌ {A = ℕ} 0 1 = cc in absurd (omega arith)
word_fits (c ∷ w) (x ∷ s) e = go (eqb x c) e (word_fits w s)
  where
    go : (b : Bool) → b && starts_word w s ≡ true → (starts_word w s ≡ true → length w ≤ length s) → suc (length w) ≤ suc (length s)
    go true q more = let l = more q in omega arith
    go false q more = let z : ◌≡◌ {A = ℕ} 0 1 = cc in absurd (omega arith)

-- ---- whether a number starts here

pub number_digit : (s : List ℕ) → number s ≡ bad → starts_digit s ≡ false
unfolding number taken
number_digit s e = go (digit_run s) refl e
  where
    go : (k : ℕ) → digit_run s ≡ k → taken k s ≡ bad → starts_digit s ≡ false
    go zero q f = no_digit s q
    go (suc k) q f = let z : ◌≡◌ {A = ℕ} 0 1 = cc in absurd (omega arith)

pub digit_number : (s : List ℕ) {c : List ℕ} {k : ℕ} → number s ≡ found c k → starts_digit s ≡ true
digit_number s {c} {k} e = a_digit_lem s (λ q. let b = number_none s q in let z : ◌≡◌ {A = ℕ} 0 1 = cc in omega arith)
