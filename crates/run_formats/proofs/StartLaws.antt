-- A transfer that is right begins at the first word of a FORMAT, which the book reads as its fields and its new scan.
-- Assumes nothing.
use mathlib.Core.Path.{◌≡◌, refl, ap, ◌∙◌, subst}
use Prim.Native.Nat.{ℕ, zero, suc, ◌+◌, ◌-◌, ◌≤◌, ◌<◌}
use native.Mathlib.Omega.{arith}
use mathlib.Core.Bool.{Bool, true, false, cond}
use mathlib.Core.List.{List, [], ◌∷◌}
use lib.ListN.{length, drop}
use lib.Seq.{get_or-drop}
use Rattle.rules_shared.specs.Lists.{Each, each_more}
use Rattle.rules_formats.specs.Format.{new_scan}
use Rattle.rules_formats.specs.Words.{word_kind, word_operand, is_end, field_words, format_from}
use Rattle.rules_object.specs.Object.{Object}
use Rattle.rules_object.specs.Check.{right_field}
use Rattle.rules_object.specs.Operations.{transfer_at, format_at, transfer_right}
use Rattle.rules_object.proofs.RightFormats.{format_right_lem}
use Rattle.run_formats.specs.Scan.{fields_at, again_at, scan_at, word_of, Scanning}
use Rattle.run_formats.proofs.ScanLaws.{fields_on}

abbrev Right : ℕ → Type 0
Right w = right_field (word_kind w) (word_operand w) ≡ true

-- a word before a FORMAT's end
field_word_lem : (words : List ℕ) (i : ℕ) → i < length (field_words words) → Each Right (field_words words) → (is_end (word_of words i) ≡ false) × Right (word_of words i)
field_word_lem [] i h r = absurd (omega arith)
field_word_lem (w ∷ words) i h r = by (is_end w) refl i h r (λ k. field_word_lem words k)
  where
    by : (b : Bool) → is_end w ≡ b → (i : ℕ) → i < length (cond b [] (w ∷ field_words words)) → Each Right (cond b [] (w ∷ field_words words))
        → ((k : ℕ) → k < length (field_words words) → Each Right (field_words words) → (is_end (word_of words k) ≡ false) × Right (word_of words k))
        → (is_end (word_of (w ∷ words) i) ≡ false) × Right (word_of (w ∷ words) i)
    by true e i h r more = absurd (omega arith)
    by false e zero h (each_more q r) more = (e, q)
    by false e (suc i) h (each_more q r) more = more i (omega arith) r

module _ (o : Object) (x : ℕ) (right : transfer_right o x ≡ true) where
  abbrev first : ℕ
  first = (transfer_at o x).format

  abbrev words : List ℕ
  words = drop first o.formats

  field_at : (m : ℕ) → first ≤ m → m < first + length (field_words words) → (is_end (word_of o.formats m) ≡ false) × Right (word_of o.formats m)
  field_at m l h =
      let e : first + (m - first) ≡ m = omega arith in
      subst (λ (w : ℕ). (is_end w ≡ false) × Right w) (get_or-drop first o.formats (m - first) 0 ∙ ap (word_of o.formats) e)
      (field_word_lem words (m - first) (omega arith) (format_right_lem o x right).fields)

  abbrev whole : Scanning o.formats first
  whole =
      let r = format_right_lem o x right in
      record {
        first = first;
        end = first + length (field_words words);
        from = omega arith;
        to = omega arith;
        inside = r.inside;
        ends = r.ends;
        plain = λ m l h. (field_at m l h).0;
        right = λ m l h. (field_at m l h).1;
        back = let low = r.low in omega (arith, r.leads);
        before = let high = r.high in omega (arith, r.leads);
      }

  pub starts : Scanning o.formats first
  starts = whole

  pub starts_again : new_scan (format_at o first) ≡ scan_at o.formats first
  unfolding new_scan format_from scan_at fields_at again_at
  starts_again =
      let r = format_right_lem o x right in
      let low : first ≤ again_at o.formats first = r.low in
      let high : again_at o.formats first < first + length (field_words words) = r.high in
      let sum : first + (again_at o.formats first - first) ≡ again_at o.formats first = omega arith in
      fields_on o.formats (again_at o.formats first - first) first whole (omega arith) ∙ ap (fields_at o.formats) sum

  pub fields_are : (format_at o first).fields ≡ fields_at o.formats first
  unfolding format_from fields_at
  fields_are = refl
