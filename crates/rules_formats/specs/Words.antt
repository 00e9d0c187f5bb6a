-- A FORMAT as words of body 8: the kind in the top eight bits, the operand in the others. 02.
-- Assumes nothing.
use Rattle.std.specs.Prelude.{Bool, cond, List, [], ◌∷◌, ◌++◌, map, ℕ, ◌+◌, ◌-◌, ◌*◌, ◌/◌, ◌%◌, ◌^◌, eqb}
use Rattle.rules_shared.specs.Limits.{limits}
use Rattle.rules_formats.specs.Format.{Field, I, X, H, new_record, Flat}

-- as many as an object has at most
abbrev pub most_words : ℕ
most_words = limits.format_words

-- ---- written

abbrev pub field_word : Field → ℕ
field_word (I w) = 1 * 2 ^ 24 + w
field_word (X n) = 2 * 2 ^ 24 + n
field_word (H c) = 3 * 2 ^ 24 + c
field_word new_record = 4 * 2 ^ 24

-- a FORMAT's end: the index of the word where a new scan begins
abbrev pub end_word : ℕ → ℕ
end_word at = 5 * 2 ^ 24 + at

-- the words of a FORMAT whose first word is at an index of the body
unfoldable pub format_words : ℕ → Flat → List ℕ
format_words first f = map field_word f.fields ++ (end_word (first + f.again) ∷ [])

-- ---- read

abbrev pub word_kind : ℕ → ℕ
word_kind w = w / 2 ^ 24

abbrev pub word_operand : ℕ → ℕ
word_operand w = w % 2 ^ 24

unfoldable pub is_end : ℕ → Bool
is_end w = eqb (word_kind w) 5

unfoldable pub field_of : ℕ → ℕ → Field
field_of kind n = cond (eqb kind 1) (I n) (cond (eqb kind 2) (X n) (cond (eqb kind 3) (H n) new_record))

unfoldable pub word_field : ℕ → Field
word_field w = field_of (word_kind w) (word_operand w)

unfoldable pub fields_of : List ℕ → List Field
fields_of words = map word_field words

-- the words of a FORMAT before its end
abbrev pub field_words : List ℕ → List ℕ
field_words [] = []
field_words (w ∷ words) = cond (is_end w) [] (w ∷ field_words words)

-- where its end says that a new scan begins
abbrev pub end_operand : List ℕ → ℕ
end_operand [] = 0
end_operand (w ∷ words) = cond (is_end w) (word_operand w) (end_operand words)

-- the FORMAT whose first word is at an index of the body, and whose words, with others after them, are these
unfoldable pub format_from : ℕ → List ℕ → Flat
format_from first words = record { fields = fields_of (field_words words); again = end_operand words - first }
