-- A FORMAT word by word, as code goes: the fields from a word on, where a new scan begins, and what the check of an object has settled.
-- Assumes nothing.
use Rattle.std.specs.Prelude.{◌≡◌, ℕ, ◌+◌, ◌≤◌, ◌<◌, true, false, List, [], ◌∷◌, length, get_or, drop}
use Rattle.rules_formats.specs.Format.{I, X, H, new_record}
use Rattle.rules_formats.specs.Format as book
use Rattle.rules_formats.specs.Words.{word_kind, word_operand, is_end, fields_of, field_words, end_operand}
use Rattle.rules_object.specs.Check.{right_field}
use Rattle.run_formats.specs.declared.Field.{Field}
use Rattle.run_formats.specs.declared.Field.TheVariants.{Number, Skip, Text, Slash}
use Rattle.run_formats.specs.declared.Word.{Word}
use Rattle.run_formats.specs.declared.Word.TheVariants.{Of, End}

-- the fields from the word at j to the FORMAT's end
unfoldable pub fields_at : List ℕ → ℕ → List book.Field
fields_at words j = fields_of (field_words (drop j words))

-- the word where a new scan begins, and the fields of such a scan
unfoldable pub again_at : List ℕ → ℕ → ℕ
again_at words j = end_operand (drop j words)

unfoldable pub scan_at : List ℕ → ℕ → List book.Field
scan_at words j = fields_at words (again_at words j)

abbrev pub word_of : List ℕ → ℕ → ℕ
word_of words j = get_or words j 0

-- The word at j is one of a FORMAT from `first` to `end`, whose end leads back to a word of it.
pub record Scanning (words : List ℕ) (j : ℕ) : Type 0 where
  pub first : ℕ
  pub end : ℕ
  pub from : first ≤ j
  pub to : j ≤ end
  pub inside : end < length words
  pub ends : is_end (word_of words end) ≡ true
  pub plain : (m : ℕ) → first ≤ m → m < end → is_end (word_of words m) ≡ false
  pub right : (m : ℕ) → first ≤ m → m < end → right_field (word_kind (word_of words m)) (word_operand (word_of words m)) ≡ true
  pub back : first ≤ word_operand (word_of words end)
  pub before : word_operand (word_of words end) < end

-- the word at j is one of the FORMAT that the word at i is of
pub record Along (words : List ℕ) (i j : ℕ) : Type 0 where
  pub scanning : Scanning words j
  pub same : again_at words j ≡ again_at words i

-- ---- what the code finds at a word

abbrev pub field_of : Field → book.Field
field_of (Number w) = I w
field_of (Skip n) = X n
field_of (Text c) = H c
field_of Slash = new_record

pub record FieldAt (words : List ℕ) (j : ℕ) (f : book.Field) : Type 0 where
  pub is : fields_at words j ≡ f ∷ fields_at words (j + 1)
  pub next : Along words j (j + 1)

pub record EndAt (words : List ℕ) (j again : ℕ) : Type 0 where
  pub is : fields_at words j ≡ []
  pub scan : scan_at words j ≡ fields_at words again
  pub next : Along words j again

abbrev pub Says : List ℕ → ℕ → Word → Type 0
Says words j (Of f) = FieldAt words j (field_of f)
Says words j (End again) = EndAt words j again
