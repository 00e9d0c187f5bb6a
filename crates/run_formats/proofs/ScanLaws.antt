-- The words of a FORMAT, one by one.
-- Assumes nothing.
use mathlib.Core.Path.{◌≡◌, refl, sym, ap, ◌∙◌, subst}
use Prim.Native.Nat.{ℕ, zero, suc, ◌+◌, ◌-◌, ◌≤◌, ◌<◌}
use native.Mathlib.Omega.{arith}
use native.Mathlib.Numerals.{add-one}
use mathlib.Core.Bool.{Bool, true, false, cond, ◌&&◌, ◌||◌}
use mathlib.Core.List.{List, [], ◌∷◌}
use lib.Dec.{eqb, ltb, leb}
use lib.ListN.{length, drop}
use lib.Seq.{drop-cons}
use borrow.Author.Tests.{eq-eqb, ne_eqb, eqb-true, eqb-false, leb-true, ltb-true}
use Rattle.rules_shared.specs.Lists.{all}
use Rattle.rules_formats.specs.Format.{Field, I, X, H, new_record}
use Rattle.rules_formats.specs.Words.{word_kind, word_operand, is_end, field_of, word_field, fields_of, field_words, end_operand}
use Rattle.rules_object.specs.Check.{is_letter, is_digit, among, others, character, right_field}
use Rattle.rules_object.proofs.Passed.{both}
use Rattle.run_formats.specs.Scan.{fields_at, again_at, scan_at, word_of, Scanning, Along, FieldAt, EndAt}

-- ---- a word by its kind

apart : true ≡ false → ⊥
apart e = subst (λ (b : Bool). cond b (Unit {0}) ⊥) e tt

both_ways : (b : Bool) → b ≡ true → b ≡ false → ⊥
both_ways b t f = apart (sym t ∙ f)

pub is_end_lem : (w : ℕ) → word_kind w ≡ 5 → is_end w ≡ true
unfolding is_end
is_end_lem w e = eq-eqb (word_kind w) 5 e

pub no_end : (w : ℕ) → (word_kind w ≡ 5 → ⊥) → is_end w ≡ false
unfolding is_end
no_end w n = ne_eqb (word_kind w) 5 n

pub kind_1 : (kind n : ℕ) → kind ≡ 1 → field_of kind n ≡ I n
unfolding field_of
kind_1 kind n e = ap (λ (b : Bool). cond b (I n) (cond (eqb kind 2) (X n) (cond (eqb kind 3) (H n) new_record))) (eq-eqb kind 1 e)

module _ (kind n : ℕ) (no-1 : kind ≡ 1 → ⊥) where
  past_1 : field_of kind n ≡ cond (eqb kind 2) (X n) (cond (eqb kind 3) (H n) new_record)
  unfolding field_of
  past_1 = ap (λ (b : Bool). cond b (I n) (cond (eqb kind 2) (X n) (cond (eqb kind 3) (H n) new_record))) (ne_eqb kind 1 no-1)

  pub kind_2 : kind ≡ 2 → field_of kind n ≡ X n
  kind_2 e = past_1 ∙ ap (λ (b : Bool). cond b (X n) (cond (eqb kind 3) (H n) new_record)) (eq-eqb kind 2 e)

  module _ (no-2 : kind ≡ 2 → ⊥) where
    past_2 : field_of kind n ≡ cond (eqb kind 3) (H n) new_record
    past_2 = past_1 ∙ ap (λ (b : Bool). cond b (X n) (cond (eqb kind 3) (H n) new_record)) (ne_eqb kind 2 no-2)

    pub kind_3 : kind ≡ 3 → field_of kind n ≡ H n
    kind_3 e = past_2 ∙ ap (λ (b : Bool). cond b (H n) new_record) (eq-eqb kind 3 e)

    pub kind_4 : (kind ≡ 3 → ⊥) → field_of kind n ≡ new_record
    kind_4 no-3 = past_2 ∙ ap (λ (b : Bool). cond b (H n) new_record) (ne_eqb kind 3 no-3)

-- ---- a character is a byte

among_small : (c : ℕ) (xs : List ℕ) → all (λ x. ltb x 256) xs ≡ true → among c xs ≡ true → c < 256
among_small c [] a e = absurd (apart (sym e))
among_small c (x ∷ xs) a e = by (eqb c x) refl e (λ r. among_small c xs (both (ltb x 256) (all (λ x. ltb x 256) xs) a).1 r)
  where
    by : (d : Bool) → eqb c x ≡ d → (d || among c xs) ≡ true → (among c xs ≡ true → c < 256) → c < 256
    by true q t more = omega (arith, ltb-true x 256 (both (ltb x 256) (all (λ x. ltb x 256) xs) a).0, eqb-true c x q)
    by false q t more = more t

pub character_small : (c : ℕ) → character c ≡ true → c < 256
unfolding character
character_small c e = blank (eqb c 32) refl e
  where
    sign : (b : Bool) → is_digit c ≡ b → (b || among c others) ≡ true → c < 256
    sign true p q = digit_small (leb 48 c) p
      where
        digit_small : (b : Bool) → (b && leb c 57) ≡ true → c < 256
        digit_small true t = omega (arith, leb-true c 57 t)
        digit_small false t = absurd (apart (sym t))
    sign false p q = among_small c others refl q

    letter : (b : Bool) → is_letter c ≡ b → (b || (is_digit c || among c others)) ≡ true → c < 256
    letter true p q = letter_small (leb 65 c) p
      where
        letter_small : (b : Bool) → (b && leb c 90) ≡ true → c < 256
        letter_small true t = omega (arith, leb-true c 90 t)
        letter_small false t = absurd (apart (sym t))
    letter false p q = sign (is_digit c) refl q

    blank : (b : Bool) → eqb c 32 ≡ b → (b || (is_letter c || (is_digit c || among c others))) ≡ true → c < 256
    blank true p q = omega (arith, eqb-true c 32 p)
    blank false p q = letter (is_letter c) refl q

-- ---- the words from one on

module _ (words : List ℕ) (j : ℕ) (h : j < length words) where
  pub field_here : is_end (word_of words j) ≡ false → fields_at words j ≡ word_field (word_of words j) ∷ fields_at words (suc j)
  unfolding fields_at fields_of
  field_here n =
      ap (λ (l : List ℕ). fields_of (field_words l)) (drop-cons words j 0 h)
      ∙ ap (λ (b : Bool). fields_of (cond b [] (word_of words j ∷ field_words (drop (suc j) words)))) n

  pub none_here : is_end (word_of words j) ≡ true → fields_at words j ≡ []
  unfolding fields_at fields_of
  none_here n =
      ap (λ (l : List ℕ). fields_of (field_words l)) (drop-cons words j 0 h)
      ∙ ap (λ (b : Bool). fields_of (cond b [] (word_of words j ∷ field_words (drop (suc j) words)))) n

  pub again_here : is_end (word_of words j) ≡ true → again_at words j ≡ word_operand (word_of words j)
  unfolding again_at
  again_here n =
      ap end_operand (drop-cons words j 0 h)
      ∙ ap (λ (b : Bool). cond b (word_operand (word_of words j)) (end_operand (drop (suc j) words))) n

  pub again_on : is_end (word_of words j) ≡ false → again_at words j ≡ again_at words (suc j)
  unfolding again_at
  again_on n =
      ap end_operand (drop-cons words j 0 h)
      ∙ ap (λ (b : Bool). cond b (word_operand (word_of words j)) (end_operand (drop (suc j) words))) n

module _ (words : List ℕ) where
  -- another word of the same FORMAT
  abbrev pub moved : (i j : ℕ) (s : Scanning words i) → s.first ≤ j → j ≤ s.end → Scanning words j
  moved i j s f t =
      record {
        first = s.first;
        end = s.end;
        from = f;
        to = t;
        inside = s.inside;
        ends = s.ends;
        plain = s.plain;
        right = s.right;
        back = s.back;
        before = s.before;
      }

  again_from_lem : (n j : ℕ) (s : Scanning words j) → s.end ≡ j + n → again_at words j ≡ word_operand (word_of words s.end)
  again_from_lem zero j s e =
      let there : s.end ≡ j = omega arith in
      again_here words j (omega (arith, s.inside)) (subst (λ (k : ℕ). is_end (word_of words k) ≡ true) there s.ends)
      ∙ ap (λ (k : ℕ). word_operand (word_of words k)) (sym there)
  again_from_lem (suc n) j s e =
      again_on words j (omega (arith, s.inside)) (s.plain j s.from (omega arith))
      ∙ again_from_lem n (suc j) (moved j (suc j) s (omega (arith, s.from)) (omega arith)) (omega arith)

  pub again_is : (j : ℕ) (s : Scanning words j) → again_at words j ≡ word_operand (word_of words s.end)
  again_is j s = rest s.end s.to refl
    where
      rest : (k : ℕ) → j ≤ k → s.end ≡ k → again_at words j ≡ word_operand (word_of words s.end)
      rest k l e = again_from_lem (k - j) j s (omega arith)

  pub one_again : (i j : ℕ) (s : Scanning words i) (f : s.first ≤ j) (t : j ≤ s.end) → again_at words j ≡ again_at words i
  one_again i j s f t = again_is j (moved i j s f t) ∙ sym (again_is i s)

  pub fields_on : (n j : ℕ) (s : Scanning words j) → j + n ≤ s.end → drop n (fields_at words j) ≡ fields_at words (j + n)
  fields_on zero j s h = let e : j ≡ j + zero = omega arith in ap (fields_at words) e
  fields_on (suc n) j s h =
      let e : suc j + n ≡ j + suc n = omega arith in
      ap (drop (suc n)) (field_here words j (omega (arith, s.inside)) (s.plain j s.from (omega arith)))
      ∙ fields_on n (suc j) (moved j (suc j) s (omega (arith, s.from)) (omega arith)) (omega arith)
      ∙ ap (fields_at words) e

  pub along_here : (j : ℕ) → Scanning words j → Along words j j
  along_here j s = record { scanning = s; same = refl }

  pub farther : {i j k : ℕ} → Along words i j → Along words j k → Along words i k
  farther a b = record { scanning = b.scanning; same = b.same ∙ a.same }

  -- ---- what the code finds

  module _ (j : ℕ) (s : Scanning words j) (w kind n : ℕ) (ew : w ≡ word_of words j) (ek : kind ≡ word_kind w) (en : n ≡ word_operand w) where
    kind_is : kind ≡ word_kind (word_of words j)
    kind_is = ek ∙ ap word_kind ew

    operand_is : n ≡ word_operand (word_of words j)
    operand_is = en ∙ ap word_operand ew

    inside : j < length words
    inside = omega (arith, s.inside, s.to)

    pub end_found : kind ≡ 5 → EndAt words j n
    unfolding scan_at
    end_found e =
        let last = is_end_lem (word_of words j) (sym kind_is ∙ e) in
        let again = again_here words j inside last ∙ sym operand_is in
        let k = again_is j s in
        let low : s.first ≤ n = omega (arith, s.back) in
        let high : n ≤ s.end = omega (arith, s.before) in
        record {
          is = none_here words j inside last;
          scan = ap (fields_at words) again;
          next = record { scanning = moved j n s low high; same = one_again j n s low high };
        }

    module _ (no : kind ≡ 5 → ⊥) where
      going : is_end (word_of words j) ≡ false
      going = no_end (word_of words j) (λ e. no (kind_is ∙ e))

      below : j < s.end
      below = by (eqb j s.end) refl
        where
          by : (b : Bool) → eqb j s.end ≡ b → j < s.end
          by true e = absurd (both_ways (is_end (word_of words j)) (subst (λ (k : ℕ). is_end (word_of words k) ≡ true) (sym (eqb-true j s.end e)) s.ends) going)
          by false e = omega (arith, s.to, eqb-false j s.end e)

      pub right_here : right_field kind n ≡ true
      right_here = subst (λ (k : ℕ). right_field k n ≡ true) (sym kind_is) (subst (λ (m : ℕ). right_field (word_kind (word_of words j)) m ≡ true) (sym operand_is) (s.right j s.from below))

      pub field_found : (f : Field) → field_of kind n ≡ f → FieldAt words j f
      unfolding word_field
      field_found f e =
          let low : s.first ≤ j + 1 = omega (arith, s.from) in
          let high : j + 1 ≤ s.end = omega (arith, below) in
          let word : word_field (word_of words j) ≡ f = ap (λ (k : ℕ). field_of k (word_operand (word_of words j))) (sym kind_is) ∙ ap (field_of kind) (sym operand_is) ∙ e in
          record {
            is = field_here words j inside going ∙ ap (λ (g : Field). g ∷ fields_at words (suc j)) word ∙ ap (λ (k : ℕ). f ∷ fields_at words k) (sym (add-one j));
            next = record { scanning = moved j (j + 1) s low high; same = one_again j (j + 1) s low high };
          }

      pub text_small : kind ≡ 3 → n < 256
      unfolding right_field
      text_small e = character_small n (subst (λ (k : ℕ). right_field k n ≡ true) e right_here)
