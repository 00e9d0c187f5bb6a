-- Every FORMAT of an object that passes the check is the writing-out of some FORMAT's text, with characters that a deck can hold. Readings 1.5 of 02.
-- Assumes nothing.
use mathlib.Core.Path.{◌≡◌, refl, sym, ap, ◌∙◌}
use mathlib.Core.Bool.{Bool, true, false, ◌&&◌, ◌||◌, cond}
use mathlib.Core.List.{List, [], ◌∷◌, ◌++◌, map, append_assoc}
use mathlib.Core.Option.{some}
use Prim.Native.Nat.{ℕ, zero, suc, ◌+◌, ◌*◌, ◌-◌, ◌/◌, ◌%◌, ◌^◌, ◌≤◌, ◌<◌}
use native.Mathlib.Omega.{arith}
use lib.Dec.{leb, eqb}
use lib.ListN.{length, take, drop, length-map, length-drop}
use lib.Seq.{drop-cons, drop-drop}
use borrow.Author.Tests.{leb-true, eqb-true, le-leb}
use Rattle.rules_shared.specs.Lists.{Each, each_none, each_more}
use Rattle.rules_shared.proofs.EachLaws.{each_one, each_append, each_take, each_drop}
use Rattle.rules_formats.specs.Format.{Format, close, number, skip, text, slash, group, Field, I, X, H, new_record, flat}
use Rattle.rules_formats.specs.Fields.{digit, numeral_from, numeral}
use Rattle.rules_formats.specs.Punched.{right_number, format_of}
use Rattle.rules_formats.specs.Spelled.{IsNumber, NotEmpty, parted, punch_list, punch, PunchableList, Punchable}
use Rattle.rules_formats.specs.Words.{field_word, end_word, format_words, word_kind, word_operand, is_end, field_of, word_field, fields_of, field_words, end_operand, format_from}
use Rattle.rules_formats.proofs.WritingOut.{listed, every_flat}
use Rattle.rules_formats.proofs.WritingOut as writing
use Rattle.rules_formats.proofs.PunchedExactly.{punch_read}
use Rattle.rules_object.specs.Object.{Object}
use Rattle.rules_object.specs.Check.{is_letter, is_digit, others, among, character, right_field, format_word, format_start}
use Rattle.rules_object.specs.Operations.{format_at}
use Rattle.rules_object.specs.Passed.{Passed}
use Rattle.rules_object.proofs.Passed.{both}
use Rattle.rules_object.proofs.RightTransfers.{or_true, words_right}
use Rattle.rules_object.proofs.RightFormats.{RightFormat, first_right}

-- the columns of a FORMAT, and the words from its first one on
pub record WrittenOut (o : Object) (first : ℕ) : Type 0 where
  pub columns : List ℕ
  pub held : Each (λ c. character c ≡ true) columns
  pub format : Format
  pub read : format_of columns ≡ some format
  pub rest : List ℕ
  pub are : drop first o.formats ≡ format_words first (flat format) ++ rest

-- ---- a word and its field

-- what a FORMAT's text can have
abbrev HeldField : Field → Type 0
HeldField (I w) = IsNumber w
HeldField (X n) = IsNumber n
HeldField (H c) = character c ≡ true
HeldField new_record = Unit {0}

number_held : (n : ℕ) → right_number n ≡ true → IsNumber n
number_held n e = let t = both (leb 1 n) _ e in record { least = leb-true _ _ t.0; most = leb-true _ _ t.1 }

field_back : (kind n : ℕ) → right_field kind n ≡ true → HeldField (field_of kind n) × (field_word (field_of kind n) ≡ kind * 2 ^ 24 + n)
unfolding right_field field_of
field_back kind n e = by (eqb kind 1) (eqb kind 2) (eqb kind 3) refl refl refl e
  where
    by : (a b c : Bool) → eqb kind 1 ≡ a → eqb kind 2 ≡ b → eqb kind 3 ≡ c
        → cond a (right_number n) (cond b (right_number n) (cond c (character n) (eqb kind 4 && eqb n 0))) ≡ true
        → HeldField (cond a (I n) (cond b (X n) (cond c (H n) new_record))) × (field_word (cond a (I n) (cond b (X n) (cond c (H n) new_record))) ≡ kind * 2 ^ 24 + n)
    by true b c p q r e = (number_held n e, let z = eqb-true kind 1 p in omega arith)
    by false true c p q r e = (number_held n e, let z = eqb-true kind 2 q in omega arith)
    by false false true p q r e = (e, let z = eqb-true kind 3 r in omega arith)
    by false false false p q r e =
        let t = both (eqb kind 4) _ e in
        (tt, let z = eqb-true kind 4 t.0 in let y = eqb-true n 0 t.1 in omega arith)

word_back : (w : ℕ) → right_field (word_kind w) (word_operand w) ≡ true → HeldField (word_field w) × (field_word (word_field w) ≡ w)
unfolding word_field
word_back w e =
    let t = field_back (word_kind w) (word_operand w) e in
    let z : w / 2 ^ 24 * 2 ^ 24 + w % 2 ^ 24 ≡ w = omega arith in
    (t.0, t.1 ∙ z)

fields_held : (words : List ℕ) → Each (λ w. right_field (word_kind w) (word_operand w) ≡ true) words → Each HeldField (fields_of words)
unfolding fields_of
fields_held [] h = each_none
fields_held (w ∷ words) (each_more e h) = each_more (word_back w e).0 (fields_held words h)

fields_back : (words : List ℕ) → Each (λ w. right_field (word_kind w) (word_operand w) ≡ true) words → map field_word (fields_of words) ≡ words
unfolding fields_of
fields_back [] h = refl
fields_back (w ∷ words) (each_more e h) = rw ((word_back w e).1, fields_back words h) refl

-- ---- a FORMAT's words

fields_first : (words : List ℕ) → field_words words ++ drop (length (field_words words)) words ≡ words
fields_first [] = refl
fields_first (w ∷ words) = by (is_end w) (fields_first words)
  where
    by : (b : Bool) → field_words words ++ drop (length (field_words words)) words ≡ words
        → cond b [] (w ∷ field_words words) ++ drop (length (cond b [] (w ∷ field_words words))) (w ∷ words) ≡ w ∷ words
    by true ih = refl
    by false ih = ap (λ l. w ∷ l) ih

module _ (o : Object) (first : ℕ) (r : RightFormat o first first (drop first o.formats)) where
  abbrev words : List ℕ
  words = drop first o.formats

  abbrev ending : ℕ
  ending = first + length (field_words words)

  end_back : end_word (first + (end_operand words - first)) ≡ format_word o ending
  unfolding is_end
  end_back =
      let e : format_word o ending / 2 ^ 24 ≡ 5 = eqb-true _ _ r.ends in
      let l = r.leads in
      let low = r.low in
      omega arith

  words_are : words ≡ format_words first (format_at o first) ++ drop (suc ending) o.formats
  unfolding format_words format_from
  words_are =
      sym (fields_first words)
      ∙ ap (λ l. field_words words ++ l) (drop-drop (length (field_words words)) first o.formats ∙ drop-cons o.formats ending 0 r.inside)
      ∙ rw (fields_back (field_words words) r.fields, end_back) (sym (append_assoc (field_words words) (format_word o ending ∷ []) (drop (suc ending) o.formats)))

  again_low : (format_at o first).again < length (format_at o first).fields
  unfolding format_from fields_of
  again_low =
      let low = r.low in
      let high = r.high in
      omega (arith, length-map (field_words words) word_field)

-- ---- the text

listed_some : (fs : List Field) (f : Format) → NotEmpty f → NotEmpty (listed fs f)
listed_some [] f h = h
listed_some (I w ∷ fs) f h = tt
listed_some (X n ∷ fs) f h = tt
listed_some (H c ∷ fs) f h = tt
listed_some (new_record ∷ fs) f h = tt

fields_some : (fs : List Field) → 0 < length fs → NotEmpty (listed fs close)
fields_some [] l = absurd (omega arith)
fields_some (I w ∷ fs) l = tt
fields_some (X n ∷ fs) l = tt
fields_some (H c ∷ fs) l = tt
fields_some (new_record ∷ fs) l = tt

one_is : IsNumber 1
one_is = record { least = omega arith; most = omega arith }

listed_punchable : (fs : List Field) (f : Format) → Each HeldField fs → PunchableList f → PunchableList (listed fs f)
listed_punchable [] f h p = p
listed_punchable (I w ∷ fs) f (each_more e h) p = (one_is, e, listed_punchable fs f h p)
listed_punchable (X n ∷ fs) f (each_more e h) p = (e, listed_punchable fs f h p)
listed_punchable (H c ∷ fs) f (each_more e h) p = (one_is, listed_punchable fs f h p)
listed_punchable (new_record ∷ fs) f (each_more e h) p = listed_punchable fs f h p

format_punchable : (fs : List Field) (at : ℕ) → at < length fs → Each HeldField fs → Punchable (writing.format_of fs at)
format_punchable fs at l h =
    record {
      some = listed_some (take at fs) (group 1 (listed (drop at fs) close) close) tt;
      list =
          listed_punchable (take at fs) (group 1 (listed (drop at fs) close) close) (each_take at fs h)
          (one_is, fields_some (drop at fs) (omega (arith, length-drop at fs)), listed_punchable (drop at fs) close (each_drop at fs h) tt, tt);
    }

-- ---- its characters

abbrev Held : List ℕ → Type 0
Held columns = Each (λ c. character c ≡ true) columns

digit_held : (d : ℕ) → d ≤ 9 → character (digit d) ≡ true
unfolding character
digit_held d l =
    let q : is_digit (digit d) ≡ true = rw (le-leb 48 (digit d) (omega arith), le-leb (digit d) 57 (omega arith)) refl in
    or_true (eqb (digit d) 32) _ (or_true (is_letter (digit d)) _ (ap (λ (b : Bool). b || among (digit d) others) q))

numeral_held : (n : ℕ) → Held (numeral n)
unfolding numeral
numeral_held n = from n (n / 10) n refl (omega arith)
  where
    from : (more q n : ℕ) → q ≡ n / 10 → n ≤ more → Held (numeral_from more q n)
    from zero q n e l = each_one (digit_held n (omega arith))
    from (suc more) zero n e l = each_one (digit_held n (omega arith))
    from (suc more) (suc q) n e l = each_append (from more (suc q / 10) (suc q) refl (omega arith)) (each_one (digit_held (n % 10) (omega arith)))

parted_held : (f : Format) (t : List ℕ) → Held t → Held (parted f t)
unfolding character
parted_held close t h = h
parted_held (number r w f) t h = each_more refl h
parted_held (skip n f) t h = each_more refl h
parted_held (text cs f) t h = each_more refl h
parted_held (slash f) t h = h
parted_held (group r inner f) t h = each_more refl h

-- the characters of its H fields are held
abbrev HeldTexts : Format → Type 0
HeldTexts close = Unit {0}
HeldTexts (number r w f) = HeldTexts f
HeldTexts (skip n f) = HeldTexts f
HeldTexts (text cs f) = Held cs × HeldTexts f
HeldTexts (slash f) = HeldTexts f
HeldTexts (group r inner f) = HeldTexts inner × HeldTexts f

list_held : (f : Format) → HeldTexts f → Held (punch_list f)
unfolding character
list_held close h = each_one refl
list_held (number r w f) h = each_append (numeral_held r) (each_more refl (each_append (numeral_held w) (parted_held f (punch_list f) (list_held f h))))
list_held (skip n f) h = each_append (numeral_held n) (each_more refl (parted_held f (punch_list f) (list_held f h)))
list_held (text cs f) h = each_append (numeral_held (length cs)) (each_more refl (each_append h.0 (parted_held f (punch_list f) (list_held f h.1))))
list_held (slash f) h = each_more refl (list_held f h)
list_held (group r inner f) h = each_append (numeral_held r) (each_more refl (each_append (list_held inner h.0) (parted_held f (punch_list f) (list_held f h.1))))

punch_held : (f : Format) → HeldTexts f → Held (punch f)
unfolding punch character
punch_held f h = each_more refl (each_more refl (each_more refl (each_more refl (each_more refl (each_more refl (each_more refl (list_held f h)))))))

listed_held : (fs : List Field) (f : Format) → Each HeldField fs → HeldTexts f → HeldTexts (listed fs f)
listed_held [] f h t = t
listed_held (I w ∷ fs) f (each_more e h) t = listed_held fs f h t
listed_held (X n ∷ fs) f (each_more e h) t = listed_held fs f h t
listed_held (H c ∷ fs) f (each_more e h) t = (each_one e, listed_held fs f h t)
listed_held (new_record ∷ fs) f (each_more e h) t = listed_held fs f h t

format_held : (fs : List Field) (at : ℕ) → Each HeldField fs → HeldTexts (writing.format_of fs at)
format_held fs at h = listed_held (take at fs) (group 1 (listed (drop at fs) close) close) (each_take at fs h) (listed_held (drop at fs) close (each_drop at fs h) tt, tt)

-- ---- the law

pub format_written : {bytes : List ℕ} {o : Object} {table : List ℕ} → Passed bytes o table → (first : ℕ) → first < length o.formats → format_start o first ≡ first → WrittenOut o first
unfolding format_from
format_written {o = o} p first l s =
    let r = first_right o first l s (words_right o p.formats first (drop first o.formats) (omega (arith, length-drop first o.formats))) in
    let fs : List Field = (format_at o first).fields in
    let at : ℕ = (format_at o first).again in
    let h : Each HeldField fs = fields_held (field_words (drop first o.formats)) r.fields in
    let low = again_low o first r in
    let f : Format = writing.format_of fs at in
    record {
      columns = punch f;
      held = punch_held f (format_held fs at h);
      format = f;
      read = punch_read f (format_punchable fs at low h);
      rest = drop (suc (first + length (field_words (drop first o.formats)))) o.formats;
      are = words_are o first r ∙ ap (λ x. format_words first x ++ drop (suc (first + length (field_words (drop first o.formats)))) o.formats) (sym (every_flat fs at (omega arith)));
    }
