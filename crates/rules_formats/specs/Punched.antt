-- A FORMAT read from its columns: what is punched in columns 7-72 of a statement's cards, one card after the other, blanks and all. 02, 004 and, for
-- repetition, 001. `none` is refused 17.
-- Blanks vanish everywhere but in the n columns after nH, which are taken as they are. `$` reads as `*` elsewhere, and a FORMAT has neither there.
-- Assumes nothing.
use Rattle.std.specs.Prelude.{ℕ, zero, suc, ◌+◌, ◌-◌, ◌*◌, Bool, true, false, ◌&&◌, ◌||◌, cond, List, [], ◌∷◌, leb, eqb, length, take, drop}
use Rattle.std.proofs.Math.Option.{Option, none, some}
use Rattle.rules_formats.specs.Format.{Format, close, number, skip, text, slash, group}
use Rattle.rules_formats.specs.Fields.{is_blank, is_digit}

-- ---- characters: ( ) , / I X H

abbrev pub left_paren : ℕ
left_paren = 40

abbrev pub right_paren : ℕ
right_paren = 41

abbrev pub comma : ℕ
comma = 44

abbrev pub stroke : ℕ
stroke = 47

abbrev pub letter_i : ℕ
letter_i = 73

abbrev pub letter_x : ℕ
letter_x = 88

abbrev pub letter_h : ℕ
letter_h = 72

-- FORMAT(
abbrev pub opening : List ℕ
opening = 70 ∷ 79 ∷ 82 ∷ 77 ∷ 65 ∷ 84 ∷ left_paren ∷ []

-- what a column is to a FORMAT
pub data Mark : Type 0 where
  a_blank a_comma a_stroke a_left a_right an_i an_x an_h other : Mark
  a_digit : ℕ → Mark

abbrev pub mark_of : ℕ → Mark
mark_of c =
    cond (is_digit c) (a_digit (c - 48))
    (cond (is_blank c) a_blank
    (cond (eqb c comma) a_comma
    (cond (eqb c stroke) a_stroke
    (cond (eqb c left_paren) a_left
    (cond (eqb c right_paren) a_right
    (cond (eqb c letter_i) an_i
    (cond (eqb c letter_x) an_x
    (cond (eqb c letter_h) an_h other))))))))

abbrev pub without_blanks : List ℕ → List ℕ
without_blanks [] = []
without_blanks (c ∷ cs) = cond (is_blank c) (without_blanks cs) (c ∷ without_blanks cs)

-- ---- readers

-- what stands at the start of the columns, and the columns after it; or that they do not start so
pub data Found (A : Type 0) : Type 0 where
  found : A → List ℕ → Found A
  bad : Found A

abbrev pub provided : {A : Type 0} → Bool → Found A → Found A
provided true o = o
provided false o = bad

-- ---- numbers

-- the number with one digit more; a blank leaves it as it is
abbrev pub grown : ℕ → ℕ → ℕ
grown n c = cond (is_blank c) n (n * 10 + (c - 48))

-- A number as far as digits go, n being what the digits before make. Blanks in it and after it are taken too.
abbrev pub number_from : ℕ → List ℕ → Found ℕ
number_from n [] = found n []
number_from n (c ∷ cs) = cond (is_blank c || is_digit c) (number_from (grown n c) cs) (found n (c ∷ cs))

abbrev pub most_number : ℕ
most_number = 99999

-- a count or a width, by value: leading zeros are free
abbrev pub right_number : ℕ → Bool
right_number n = leb 1 n && leb n most_number

-- ---- lists
-- A list: fields, any two with one comma or one or more slashes between; slashes also first and last; at least one field or slash.
-- A field: Iw, rIw, nX, nH and n columns, (list), r(list). X and H need their number and take no count. Groups nest to any depth (001).

-- where in a list: at its beginning, or after what
pub data Place : Type 0 where
  first after_comma after_slash after_field : Place

-- a comma parts two fields, and nothing else
abbrev pub may_field : Place → Bool
may_field first = true
may_field after_comma = true
may_field after_slash = true
may_field after_field = false

abbrev pub may_comma : Place → Bool
may_comma first = false
may_comma after_comma = false
may_comma after_slash = false
may_comma after_field = true

abbrev pub may_slash : Place → Bool
may_slash first = true
may_slash after_comma = false
may_slash after_slash = true
may_slash after_field = true

-- at least one field or slash
abbrev pub may_close : Place → Bool
may_close first = false
may_close after_comma = false
may_close after_slash = true
may_close after_field = true

-- a field or slash, before what was found after it
abbrev pub before : (Format → Format) → Found Format → Found Format
before make (found f rest) = found (make f) rest
before make bad = bad

module _ (go : Place → List ℕ → Found Format) where
  -- the width after rI
  abbrev pub width_of : ℕ → Found ℕ → Found Format
  width_of r (found w rest) = provided (right_number w) (before (number r w) (go after_field rest))
  width_of r bad = bad

  -- what stands after r(, and after its closing parenthesis
  abbrev pub group_of : ℕ → Found Format → Found Format
  group_of r (found inner rest) = before (group r inner) (go after_field rest)
  group_of r bad = bad

  -- after a number: rI and its width, nX, nH and its columns, r(
  abbrev pub counted : ℕ → Mark → List ℕ → Found Format
  counted n an_i cs = width_of n (number_from 0 cs)
  counted n an_x cs = before (skip n) (go after_field cs)
  counted n an_h cs = provided (leb n (length cs)) (before (text (take n cs)) (go after_field (drop n cs)))
  counted n a_left cs = group_of n (go first cs)
  counted n a_blank cs = bad
  counted n a_comma cs = bad
  counted n a_stroke cs = bad
  counted n a_right cs = bad
  counted n other cs = bad
  counted n (a_digit d) cs = bad

  abbrev pub after_count : Found ℕ → Found Format
  after_count (found n (c ∷ cs)) = provided (right_number n) (counted n (mark_of c) cs)
  after_count (found n []) = bad
  after_count bad = bad

  -- A column of a list, and what follows to the list's closing parenthesis. `go` reads what follows.
  abbrev pub column : Place → Mark → List ℕ → Found Format
  column p a_blank cs = go p cs
  column p a_comma cs = provided (may_comma p) (go after_comma cs)
  column p a_stroke cs = provided (may_slash p) (before slash (go after_slash cs))
  column p a_right cs = provided (may_close p) (found close cs)
  column p an_i cs = provided (may_field p) (width_of 1 (number_from 0 cs))
  column p a_left cs = provided (may_field p) (group_of 1 (go first cs))
  column p (a_digit d) cs = provided (may_field p) (after_count (number_from d cs))
  column p an_x cs = bad
  column p an_h cs = bad
  column p other cs = bad

-- The list to its closing parenthesis, of so many columns at most. `list` closes the recursion by a number that is always enough:
-- `list p (c ∷ cs) ≡ column list p (mark_of c) cs`.
abbrev pub list_up_to : ℕ → Place → List ℕ → Found Format
list_up_to zero p cs = bad
list_up_to (suc n) p [] = bad
list_up_to (suc n) p (c ∷ cs) = column (list_up_to n) p (mark_of c) cs

unfoldable pub list : Place → List ℕ → Found Format
list p cs = list_up_to (length cs) p cs

-- ---- the statement

-- the columns after a character, with blanks before it
abbrev pub after : ℕ → List ℕ → Option (List ℕ)
after w [] = none
after w (c ∷ cs) = cond (is_blank c) (after w cs) (cond (eqb c w) (some cs) none)

abbrev pub after_word : List ℕ → Option (List ℕ) → Option (List ℕ)
after_word [] at = at
after_word (w ∷ word) none = none
after_word (w ∷ word) (some cs) = after_word word (after w cs)

abbrev pub alone : Format → List ℕ → Option Format
alone f [] = some f
alone f (c ∷ cs) = none

-- blanks only after the closing parenthesis
abbrev pub ended : Found Format → Option Format
ended (found f rest) = alone f (without_blanks rest)
ended bad = none

abbrev pub opened : Option (List ℕ) → Option Format
opened (some cs) = ended (list first cs)
opened none = none

unfoldable pub format_of : List ℕ → Option Format
format_of cs = opened (after_word opening (some cs))
