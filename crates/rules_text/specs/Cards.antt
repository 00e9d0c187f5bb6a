-- A deck's bytes as cards, and its cards as statements as they are punched: 1, 2, card by card 3 to 5, then 7. 01 "Cards".
-- Assumes nothing.
use Rattle.std.specs.Prelude.{ℕ, zero, suc, ◌-◌, ◌*◌, ◌/◌, ◌%◌, Bool, true, false, ◌&&◌, ◌||◌, cond, List, [], ◌∷◌, ◌++◌, map, leb, eqb, length, get_or, take, drop}
use Rattle.rules_shared.specs.Limits.{limits}
use Rattle.rules_shared.specs.House.{House}
use Rattle.rules_object.specs.Check.{is_digit, blanks, character}
use Rattle.rules_text.specs.Trees.{value_of}

-- ---- a card and its columns

abbrev pub card_length : ℕ
card_length = 80

-- the first n cards of a deck
abbrev pub cut : ℕ → List ℕ → List (List ℕ)
cut zero deck = []
cut (suc n) deck = take card_length deck ∷ cut n (drop card_length deck)

unfoldable pub cards_of : List ℕ → List (List ℕ)
cards_of deck = cut (length deck / card_length) deck

-- columns 1-72 hold characters; 73-80 are never read
abbrev pub columns_read : List ℕ → List ℕ
columns_read card = take 72 card

-- columns 1-5
abbrev pub number_columns : List ℕ → List ℕ
number_columns card = take 5 card

-- columns 7-72
abbrev pub text_length : ℕ
text_length = 66

abbrev pub text_columns : List ℕ → List ℕ
text_columns card = take text_length (drop 6 card)

-- `C` in column 1
unfoldable pub comment : List ℕ → Bool
comment card = eqb (get_or card 0 32) 67

-- column 6 blank or `0` starts a statement; any other character continues it
unfoldable pub first_card : List ℕ → Bool
first_card card = eqb (get_or card 5 32) 32 || eqb (get_or card 5 32) 48

-- ---- characters

abbrev pub characters : List ℕ → Bool
characters [] = true
characters (c ∷ s) = character c && characters s

abbrev pub all_digits : List ℕ → Bool
all_digits [] = true
all_digits (c ∷ s) = is_digit c && all_digits s

-- blanks vanish
abbrev pub unless_blank : ℕ → List ℕ → List ℕ
unless_blank c s = cond (eqb c 32) s (c ∷ s)

abbrev pub without_blanks : List ℕ → List ℕ
without_blanks [] = []
without_blanks (c ∷ s) = unless_blank c (without_blanks s)

-- `$` reads as `*`
abbrev pub read_as : ℕ → ℕ
read_as c = cond (eqb c 36) 42 c

-- a statement's text, of what is punched in columns 7-72 of its cards
unfoldable pub text_of : List ℕ → List ℕ
text_of raw = map read_as (without_blanks raw)

-- ---- a statement as punched

pub record Punched : Type 0 where
  -- its statement number, 0 where none is punched
  pub number : ℕ
  -- columns 7-72 of its cards, joined
  pub raw : List ℕ

-- the number in columns 1-5, blanks anywhere
unfoldable pub number_of : List ℕ → ℕ
number_of card = value_of (without_blanks (number_columns card))

-- a first card's columns 1-5: blanks, or digits with blanks anywhere that give a number from 1 on
unfoldable pub right_number : List ℕ → Bool
right_number card =
    blanks (number_columns card) ||
    (all_digits (without_blanks (number_columns card)) && (leb 1 (number_of card) && leb (number_of card) limits.statement_number))

-- ---- card by card

-- what is read so far
pub record Reading : Type 0 where
  -- in card order
  pub begun : List Punched
  -- how many continuations may yet follow: none where no statement is begun
  pub room : ℕ

abbrev pub nothing_read : Reading
nothing_read = record { begun = []; room = 0 }

-- 3 to 5: the lowest number that a card is refused by, 0 where it is right
abbrev pub wrong_first : List ℕ → ℕ
wrong_first card = cond (right_number card) 0 4

abbrev pub wrong_continuation : ℕ → List ℕ → ℕ
wrong_continuation room card = cond (blanks (number_columns card)) (cond (eqb room 0) 5 0) 4

abbrev pub wrong_characters : ℕ → List ℕ → ℕ
wrong_characters room card = cond (characters (columns_read card)) (cond (first_card card) (wrong_first card) (wrong_continuation room card)) 3

-- a comment is never refused
unfoldable pub wrong_card : ℕ → List ℕ → ℕ
wrong_card room card = cond (comment card) 0 (wrong_characters room card)

-- a first card starts a statement
abbrev pub started : House → Reading → List ℕ → Reading
started house r card =
    record { begun = r.begun ++ (record { number = number_of card; raw = text_columns card } ∷ []); room = house.continuations }

-- a continuation's columns 7-72 are put after the last statement's
abbrev pub extended : List Punched → List ℕ → List Punched
extended [] text = []
extended (p ∷ []) text = record { number = p.number; raw = p.raw ++ text } ∷ []
extended (p ∷ q ∷ ps) text = p ∷ extended (q ∷ ps) text

abbrev pub continued : Reading → List ℕ → Reading
continued r card = record { begun = extended r.begun (text_columns card); room = r.room - 1 }

-- what is read with one card more; a comment is not there at all
unfoldable pub after_card : House → Reading → List ℕ → Reading
after_card house r card = cond (comment card) r (cond (first_card card) (started house r card) (continued r card))

-- refused by a number at a place, or the statements in card order
pub data Carded : Type 0 where
  cards_refused : ℕ → ℕ → Carded
  statements : List Punched → Carded

-- the card at a place, counted from 1 with comments, then those after it
abbrev pub card_by_card : House → ℕ → Reading → List (List ℕ) → Carded
card_by_card house place r [] = statements r.begun
card_by_card house place r (card ∷ cards) =
    cond (eqb (wrong_card r.room card) 0) (card_by_card house (suc place) (after_card house r card) cards) (cards_refused (wrong_card r.room card) place)

-- ---- the whole deck

-- 1
unfoldable pub right_digits : House → Bool
right_digits house = leb house.fewest_digits house.digits && leb house.digits house.most_digits

-- 2: whole cards, one at least
unfoldable pub right_length : List ℕ → Bool
right_length deck = leb 1 (length deck) && (eqb (length deck % card_length) 0 && leb (length deck) (limits.cards * card_length))

-- 7
abbrev pub counted : Carded → Carded
counted (cards_refused number place) = cards_refused number place
counted (statements ps) = cond (leb (length ps) limits.statements) (statements ps) (cards_refused 7 0)

-- a house and a deck's bytes
unfoldable pub carded : House → List ℕ → Carded
carded house deck =
    cond (right_digits house) (cond (right_length deck) (counted (card_by_card house 1 nothing_read (cards_of deck))) (cards_refused 2 0)) (cards_refused 1 0)

-- ---- the statements a first card at a time, as code takes them: its text, then that of the continuations up to the next first card

-- the columns 7-72 of the continuations before the next first card
abbrev pub following : List (List ℕ) → List ℕ
following [] = []
following (card ∷ cards) = cond (comment card) (following cards) (cond (first_card card) [] (text_columns card ++ following cards))

abbrev pub grouped : List (List ℕ) → List Punched
grouped [] = []
grouped (card ∷ cards) =
    cond (comment card) (grouped cards)
    (cond (first_card card) (record { number = number_of card; raw = text_columns card ++ following cards } ∷ grouped cards) (grouped cards))
