-- What the code's parts of reading a FORMAT answer.
-- Assumes nothing.
use Rattle.std.specs.Prelude.{◌≡◌, Bool, ◌||◌, cond, Option, Some, None, List, ◌++◌, map, ℕ, ◌+◌, ◌≤◌, ◌<◌, length, drop}
use Rattle.std.proofs.Math.Option as book
use Rattle.rules_formats.specs.Format.{Format, close, Field, written_out, again_from, has_number}
use Rattle.rules_formats.specs.Words.{most_words, field_word}
use Rattle.rules_formats.specs.Punched.{Mark, a_blank, a_comma, a_stroke, a_left, a_right, an_i, an_x, an_h, other, a_digit, Found, found, bad, before as followed, grown, number_from, most_number, right_number, Place, first, after_comma, after_slash, after_field, counted, group_of, after_count, list, without_blanks, alone}
use Rattle.read_formats.specs.Puts.{Puts}
use Rattle.read_formats.specs.declared.Place.{Place as Placed}
use Rattle.read_formats.specs.declared.Place.TheVariants.{First, AfterComma, AfterSlash, AfterField}
use Rattle.read_formats.specs.declared.Sofar.{Sofar}
use Rattle.read_formats.specs.declared.Run.{Run}
use Rattle.read_formats.specs.declared.Step.{Step}
use Rattle.read_formats.specs.declared.Step.TheVariants.{Closes, Next, Opens}

abbrev pub place_of : Placed → Place
place_of First = first
place_of AfterComma = after_comma
place_of AfterSlash = after_slash
place_of AfterField = after_field

-- ---- numbers

-- a number as code counts it: all that are over the most are one
pub data Capped (v n : ℕ) : Type 0 where
  exact : v ≤ most_number → n ≡ v → Capped v n
  large : most_number < v → n ≡ most_number + 1 → Capped v n

-- one column more of the run
pub record Grown (n c r : ℕ) : Type 0 where
  pub low : r ≤ most_number + 1
  pub is : (v : ℕ) → Capped v n → Capped (grown v c) r

-- a number from 1 to 99999, and the column after its run
abbrev pub run_of : ℕ → ℕ → Option Run
run_of v at = cond (right_number v) (Some (record { value = v; at = at })) None

-- the book's number v, if it is one from 1 to 99999, and the column after its run
pub record Counts (columns : List ℕ) (at n : ℕ) (r : Option Run) : Type 0 where
  pub v : ℕ
  pub end : ℕ
  pub is : number_from n (drop at columns) ≡ found v (drop end columns)
  pub onward : at ≤ end
  pub within : end ≤ length columns
  pub told : r ≡ run_of v end

-- ---- one step

-- reading stands in the columns, and its words in the table or at one more than it has
pub record Ready (columns words : List ℕ) (s : Sofar) : Type 0 where
  pub within : s.at ≤ length columns
  pub sized : length words ≡ most_words
  pub top : s.top ≤ most_words + 1
  pub again : s.again ≤ most_words + 1

-- in a field: its count is known, and the column after what was read
pub record Ahead (columns words : List ℕ) (s : Sofar) (at n : ℕ) : Type 0 where
  pub ready : Ready columns words s
  pub onward : s.at < at
  pub inside : at ≤ length columns
  pub least : 1 ≤ n
  pub most : n ≤ most_number

-- a field that may stand there, from its first column on
abbrev pub field_at : Mark → List ℕ → Found Format
field_at an_i cs = counted list 1 an_i cs
field_at a_left cs = counted list 1 a_left cs
field_at (a_digit d) cs = after_count list (number_from d cs)
field_at a_blank cs = bad
field_at a_comma cs = bad
field_at a_stroke cs = bad
field_at a_right cs = bad
field_at an_x cs = bad
field_at an_h cs = bad
field_at other cs = bad

-- nothing was put, and reading is some columns further
pub record Same (columns before after : List ℕ) (s t : Sofar) : Type 0 where
  pub words : after ≡ before
  pub top : t.top ≡ s.top
  pub again : t.again ≡ s.again
  pub numbers : t.numbers ≡ s.numbers
  pub onward : s.at < t.at
  pub within : t.at ≤ length columns

-- the list goes on: some fields stand before what follows
pub record Goes (columns before after : List ℕ) (s : Sofar) (o : Found Format) (t : Sofar) (p : Place) : Type 0 where
  pub make : Format → Format
  pub fields : List Field
  pub is : o ≡ followed make (list p (drop t.at columns))
  pub written : (f : Format) → written_out (make f) ≡ fields ++ written_out f
  pub scan : (found before : ℕ) (f : Format) → again_from found before (make f) ≡ again_from found (before + length fields) f
  pub numbered : (f : Format) → (t.numbers || has_number f) ≡ (s.numbers || has_number (make f))
  pub puts : Puts (map field_word fields) before after s.top t.top
  pub again : t.again ≡ s.again
  pub onward : s.at < t.at
  pub within : t.at ≤ length columns

-- what one field or mark answers, where o is the book's reading from it on
abbrev pub StepsSo : List ℕ → List ℕ → List ℕ → Sofar → Found Format → Option Step → Type 0
StepsSo columns a b s o None = o ≡ bad
StepsSo columns a b s o (Some (Closes t)) = (o ≡ found close (drop t.at columns)) × Same columns a b s t
StepsSo columns a b s o (Some (Next t p)) = Goes columns a b s o t (place_of p)
StepsSo columns a b s o (Some (Opens t n)) = (o ≡ group_of list n (list first (drop t.at columns))) × Same columns a b s t × (1 ≤ n) × (n ≤ most_number)

pub record Steps (columns before after : List ℕ) (s : Sofar) (o : Found Format) (r : Option Step) : Type 0 where
  pub so : StepsSo columns before after s o r

-- ---- a list, and what surrounds it

-- a FORMAT was found: its fields are put, and a new scan begins at its last group, or where it did before
pub record Gets (columns before after : List ℕ) (s : Sofar) (o : Found Format) (t : Sofar) : Type 0 where
  pub f : Format
  pub is : o ≡ found f (drop t.at columns)
  pub puts : Puts (map field_word (written_out f)) before after s.top t.top
  pub again : t.top ≤ most_words → t.again ≡ again_from s.again s.top f
  pub low : t.again ≤ most_words + 1
  pub numbers : t.numbers ≡ (s.numbers || has_number f)
  pub onward : s.at ≤ t.at
  pub within : t.at ≤ length columns

-- what a list answers, o being the book's reading of it
abbrev pub ReadsSo : List ℕ → List ℕ → List ℕ → Sofar → Found Format → Option Sofar → Type 0
ReadsSo columns a b s o None = o ≡ bad
ReadsSo columns a b s o (Some t) = Gets columns a b s o t

pub record Reads (columns before after : List ℕ) (s : Sofar) (o : Found Format) (r : Option Sofar) : Type 0 where
  pub so : ReadsSo columns before after s o r

-- the columns after a character or word, o, begin at a column
abbrev pub StoodSo : List ℕ → book.Option (List ℕ) → Option ℕ → Type 0
StoodSo columns o None = o ≡ book.none
StoodSo columns o (Some i) = (o ≡ book.some (drop i columns)) × (i ≤ length columns)

pub record Stood (columns : List ℕ) (o : book.Option (List ℕ)) (r : Option ℕ) : Type 0 where
  pub so : StoodSo columns o r

-- whether a list that ends before these columns stands alone
pub record Alone (rest : List ℕ) (r : Bool) : Type 0 where
  pub is : (f : Format) → alone f (without_blanks rest) ≡ cond r (book.some f) book.none
