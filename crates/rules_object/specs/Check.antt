-- What the checker judges of the numbers and of the entries of an object: 41 and 42. 01 "Refusal numbers", 2026-01.
-- Assumes nothing.
use Rattle.std.specs.Prelude.{ℕ, zero, suc, ◌+◌, ◌*◌, Bool, true, false, ◌&&◌, ◌||◌, not, cond, List, [], ◌∷◌, map, ltb, leb, eqb, length, get_or, drop, pos}
use Rattle.number.specs.Number.{fits}
use Rattle.rules_shared.specs.Limits.{limits}
use Rattle.rules_formats.specs.Punched.{right_number}
use Rattle.rules_formats.specs.Words.{word_kind, word_operand, is_end}
use Rattle.rules_object.specs.Object.{SubscriptEntry, Element, Loop, Line, Named, ListItem, Transfer, Object, rule_of}
use Rattle.rules_object.specs.Kinds.{Kind, kinds_of}
use Rattle.rules_object.specs.Bytes.{bodies}

-- ---- 41: k not 1-9; cells or a table over its limit

-- of each kind no more entries than it may have
abbrev pub counts_within : List Kind → List ℕ → Bool
counts_within [] counts = true
counts_within (k ∷ kinds) [] = true
counts_within (k ∷ kinds) (n ∷ counts) = leb n k.most && counts_within kinds counts

unfoldable pub right41 : Object → Bool
right41 o = leb 1 o.digits && (leb o.digits limits.digits && (leb o.cells limits.cells && counts_within (kinds_of o.edition) (map length (bodies o))))

-- ---- 42: entries

abbrev pub in_code : Object → ℕ → Bool
in_code o a = ltb a (length o.code)

abbrev pub in_cells : Object → ℕ → Bool
in_cells o a = ltb a o.cells

unfoldable pub right_constant : Object → ℕ → Bool
right_constant o c = fits (rule_of o) (pos c)

abbrev pub right_subscript : Object → SubscriptEntry → Bool
right_subscript o s = fits (rule_of o) (pos s.times) && (fits (rule_of o) s.plus && in_cells o s.cell)

unfoldable pub right_element : Object → Element → Bool
right_element o e =
    leb 1 e.rows && (leb 1 e.columns && (leb (e.base + e.rows * e.columns) o.cells && (right_subscript o e.first && right_subscript o e.second)))

unfoldable pub right_loop : Object → Loop → Bool
right_loop o d = in_cells o d.variable && (in_cells o d.limit && (in_cells o d.step && in_code o d.body))

unfoldable pub right_line : Object → Line → Bool
right_line o l = in_code o l.address

-- the bytes are blanks
abbrev pub blanks : List ℕ → Bool
blanks [] = true
blanks (c ∷ s) = eqb c 32 && blanks s

abbrev pub is_letter : ℕ → Bool
is_letter c = leb 65 c && leb c 90

abbrev pub is_digit : ℕ → Bool
is_digit c = leb 48 c && leb c 57

-- at most n letters or digits, then blanks
abbrev pub name_tail : ℕ → List ℕ → Bool
name_tail zero s = blanks s
name_tail (suc n) [] = true
name_tail (suc n) (c ∷ s) = cond (is_letter c || is_digit c) (name_tail n s) (blanks (c ∷ s))

-- a letter I-N, up to five letters or digits, blank-filled
abbrev pub right_name : List ℕ → Bool
right_name [] = false
right_name (c ∷ s) = leb 73 c && (leb c 78 && name_tail 5 s)

-- how many cells: one for a plain name
abbrev pub span : ℕ → ℕ → ℕ
span zero columns = 1
span (suc r) zero = suc r
span (suc r) (suc c) = suc r * suc c

unfoldable pub right_named : Object → Named → Bool
right_named o n = right_name n.name && ((leb 1 n.rows || eqb n.columns 0) && leb (n.first + span n.rows n.columns) o.cells)

-- ---- 42 of FORMATs, lists and transfers

-- . ) + $ * - / , ( =
abbrev pub others : List ℕ
others = 46 ∷ 41 ∷ 43 ∷ 36 ∷ 42 ∷ 45 ∷ 47 ∷ 44 ∷ 40 ∷ 61 ∷ []

abbrev pub among : ℕ → List ℕ → Bool
among c [] = false
among c (x ∷ xs) = eqb c x || among c xs

-- what a deck can hold
unfoldable pub character : ℕ → Bool
character c = eqb c 32 || (is_letter c || (is_digit c || among c others))

-- by kind: I and X have a number of a FORMAT, H a character, a slash nothing
unfoldable pub right_field : ℕ → ℕ → Bool
right_field kind n = cond (eqb kind 1) (right_number n) (cond (eqb kind 2) (right_number n) (cond (eqb kind 3) (character n) (eqb kind 4 && eqb n 0)))

abbrev pub format_word : Object → ℕ → ℕ
format_word o i = get_or o.formats i 0

-- where the FORMAT begins that has the word at i: after the end before it
abbrev pub format_start : Object → ℕ → ℕ
format_start o zero = 0
format_start o (suc i) = cond (is_end (format_word o i)) (suc i) (format_start o i)

-- The word at i: an end leads back to a word of its own FORMAT before it; any other word is a field, and not the last word of all.
unfoldable pub right_format : Object → ℕ → Bool
right_format o i =
    cond (is_end (format_word o i)) (leb (format_start o i) (word_operand (format_word o i)) && ltb (word_operand (format_word o i)) i)
    (right_field (word_kind (format_word o i)) (word_operand (format_word o i)) && ltb (suc i) (length o.formats))

unfoldable pub right_item : Object → ListItem → Bool
right_item o i = cond (eqb i.count 0) (ltb i.first (length o.elements)) (leb (i.first + i.count) o.cells)

-- an I stands before the FORMAT's end
abbrev pub has_number : List ℕ → Bool
has_number [] = false
has_number (w ∷ words) = not (is_end w) && (eqb (word_kind w) 1 || has_number words)

-- the first word of a FORMAT, items of the table, and an I in the FORMAT if there are any
unfoldable pub right_transfer : Object → Transfer → Bool
right_transfer o t =
    ltb t.format (length o.formats) && (eqb (format_start o t.format) t.format && (leb (t.first + t.count) (length o.items) &&
    (eqb t.count 0 || has_number (drop t.format o.formats))))
