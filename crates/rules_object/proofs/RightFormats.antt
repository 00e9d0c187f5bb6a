-- A FORMAT whose words are right: fields and an end, which leads to one of these fields.
-- Assumes nothing.
use mathlib.Core.Path.{◌≡◌, refl, sym, ap, ◌∙◌, subst}
use mathlib.Core.Bool.{Bool, true, false, ◌&&◌, ◌||◌, cond}
use mathlib.Core.List.{List, [], ◌∷◌}
use Prim.Native.Nat.{ℕ, zero, suc, ◌+◌, ◌-◌, ◌≤◌, ◌<◌}
use native.Mathlib.Omega.{arith}
use lib.Dec.{ltb, leb, eqb}
use lib.ListN.{length, drop, length-map}
use lib.Seq.{drop-cons}
use borrow.Author.Tests.{ltb-true, leb-true, eqb-true}
use Rattle.rules_shared.specs.Lists.{Each, each_none, each_more}
use Rattle.rules_formats.specs.Words.{word_kind, word_operand, is_end, word_field, fields_of, field_words, end_operand, format_from}
use Rattle.rules_object.specs.Object.{Transfer, Object}
use Rattle.rules_object.specs.Check.{right_field, format_word, format_start, right_format, right_transfer}
use Rattle.rules_object.specs.Operations.{format_at, format_right, transfer_at, transfer_right}
use Rattle.rules_object.proofs.Passed.{both}

-- the words from the index i on, of the FORMAT that begins at `first`
pub record RightFormat (o : Object) (first i : ℕ) (words : List ℕ) : Type 0 where
  pub fields : Each (λ w. right_field (word_kind w) (word_operand w) ≡ true) (field_words words)
  -- the end is one of the object's words
  pub inside : i + length (field_words words) < length o.formats
  pub ends : is_end (format_word o (i + length (field_words words))) ≡ true
  -- it leads to a word of the FORMAT before it
  pub leads : end_operand words ≡ word_operand (format_word o (i + length (field_words words)))
  pub low : first ≤ end_operand words
  pub high : end_operand words < i + length (field_words words)

module _ (o : Object) (first : ℕ) where
  -- the words after a field
  field_right : (i : ℕ) (words : List ℕ) → is_end (format_word o i) ≡ false → right_field (word_kind (format_word o i)) (word_operand (format_word o i)) ≡ true
      → RightFormat o first (suc i) words → RightFormat o first i (format_word o i ∷ words)
  field_right i words e q r =
      let f : field_words (format_word o i ∷ words) ≡ format_word o i ∷ field_words words = ap (λ (b : Bool). cond b [] (format_word o i ∷ field_words words)) e in
      let d : end_operand (format_word o i ∷ words) ≡ end_operand words = ap (λ (b : Bool). cond b (word_operand (format_word o i)) (end_operand words)) e in
      let n : suc i + length (field_words words) ≡ i + length (field_words (format_word o i ∷ words)) = omega (arith, ap length f) in
      record {
        fields = subst (Each (λ w. right_field (word_kind w) (word_operand w) ≡ true)) (sym f) (each_more q r.fields);
        inside = let z = r.inside in omega arith;
        ends = subst (λ (k : ℕ). is_end (format_word o k) ≡ true) n r.ends;
        leads = d ∙ r.leads ∙ ap (λ (k : ℕ). word_operand (format_word o k)) n;
        low = let z = r.low in omega arith;
        high = let z = r.high in omega arith;
      }

  -- the end alone
  end_right_lem : (i : ℕ) (words : List ℕ) → i < length o.formats → is_end (format_word o i) ≡ true → first ≤ word_operand (format_word o i) → word_operand (format_word o i) < i
      → RightFormat o first i (format_word o i ∷ words)
  end_right_lem i words l e low high =
      let f : field_words (format_word o i ∷ words) ≡ [] = ap (λ (b : Bool). cond b [] (format_word o i ∷ field_words words)) e in
      let d : end_operand (format_word o i ∷ words) ≡ word_operand (format_word o i) = ap (λ (b : Bool). cond b (word_operand (format_word o i)) (end_operand words)) e in
      let n : i ≡ i + length (field_words (format_word o i ∷ words)) = omega (arith, ap length f) in
      record {
        fields = subst (Each (λ w. right_field (word_kind w) (word_operand w) ≡ true)) (sym f) each_none;
        inside = omega arith;
        ends = subst (λ (k : ℕ). is_end (format_word o k) ≡ true) n e;
        leads = d ∙ ap (λ (k : ℕ). word_operand (format_word o k)) n;
        low = omega arith;
        high = omega arith;
      }

  -- n words are left from the index i on
  words_from : (n i : ℕ) → i + n ≡ length o.formats → i < length o.formats → format_start o i ≡ first → format_right o i (drop i o.formats) ≡ true
      → RightFormat o first i (drop i o.formats)
  unfolding right_format
  words_from zero i e l s h = absurd (omega arith)
  words_from (suc n) i e l s h =
      let c = drop-cons o.formats i 0 l in
      let r = both (right_format o i) _ (subst (λ words. format_right o i words ≡ true) c h) in
      subst (RightFormat o first i) (sym c) (by (is_end (format_word o i)) refl r.0 r.1 (words_from n (suc i) (omega arith)))
    where
      by : (b : Bool) → is_end (format_word o i) ≡ b
          → cond b (leb (format_start o i) (word_operand (format_word o i)) && ltb (word_operand (format_word o i)) i)
          (right_field (word_kind (format_word o i)) (word_operand (format_word o i)) && ltb (suc i) (length o.formats)) ≡ true
          → (b || format_right o (suc i) (drop (suc i) o.formats)) ≡ true
          → (suc i < length o.formats → format_start o (suc i) ≡ first → format_right o (suc i) (drop (suc i) o.formats) ≡ true → RightFormat o first (suc i) (drop (suc i) o.formats))
          → RightFormat o first i (format_word o i ∷ drop (suc i) o.formats)
      by true q r more ih =
          let t = both (leb (format_start o i) (word_operand (format_word o i))) _ r in
          let low : format_start o i ≤ word_operand (format_word o i) = leb-true _ _ t.0 in
          end_right_lem i (drop (suc i) o.formats) l q (subst (λ (k : ℕ). k ≤ word_operand (format_word o i)) s low) (ltb-true _ _ t.1)
      by false q r more ih =
          let t = both (right_field (word_kind (format_word o i)) (word_operand (format_word o i))) _ r in
          let start : format_start o (suc i) ≡ first = ap (λ (b : Bool). cond b (suc i) (format_start o i)) q ∙ s in
          field_right i (drop (suc i) o.formats) q t.0 (ih (ltb-true _ _ t.1) start more)

-- a FORMAT by its first word
pub first_right : (o : Object) (first : ℕ) → first < length o.formats → format_start o first ≡ first → format_right o first (drop first o.formats) ≡ true
    → RightFormat o first first (drop first o.formats)
first_right o first l s h = words_from o first (length o.formats - first) first (omega arith) l s h

-- the FORMAT of a transfer that may be used
pub format_right_lem : (o : Object) (x : ℕ) → transfer_right o x ≡ true → RightFormat o (transfer_at o x).format (transfer_at o x).format (drop (transfer_at o x).format o.formats)
unfolding right_transfer
format_right_lem o x e =
    let t : Transfer = transfer_at o x in
    let r = both (right_transfer o t) _ e in
    let inside = both (ltb t.format (length o.formats)) _ r.0 in
    let start = both (eqb (format_start o t.format) t.format) _ inside.1 in
    let words = both (format_right o t.format (drop t.format o.formats)) _ r.1 in
    let l : t.format < length o.formats = ltb-true _ _ inside.0 in
    first_right o t.format l (eqb-true _ _ start.0) words.0

-- a new scan has a field at least
pub again_inside : (o : Object) (x : ℕ) → transfer_right o x ≡ true → (format_at o (transfer_at o x).format).again < length (format_at o (transfer_at o x).format).fields
unfolding format_from fields_of
again_inside o x e =
    let r = format_right_lem o x e in
    let low = r.low in
    let high = r.high in
    omega (arith, length-map (field_words (drop (transfer_at o x).format o.formats)) word_field)
