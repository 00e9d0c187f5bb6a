-- Cards, computed: the examples of section A of the readings, one table, and more for 1, 2 and what is kept as punched.
-- Assumes nothing.
use Prim.Native.Nat.{ℕ, ◌*◌}
use Prim.Native.String.{String}
use mathlib.Core.Path.{◌≡◌, refl}
use mathlib.Core.List.{List, [], ◌∷◌, ◌++◌}
use lib.ListN.{take, replicate}
use Rattle.rules_shared.specs.House.{house1401}
use Rattle.rules_object.specs.Check.{character}
use Rattle.rules_text.specs.Trees.{value_of}
use Rattle.rules_text.specs.Punch.{bytes, card, deck}
use Rattle.rules_text.specs.Cards.{cards_of, comment, first_card, text_of, Punched, number_of, right_number, wrong_card, after_card, Carded, cards_refused, statements, right_digits, right_length, carded}

-- ---- statements shown as their numbers and texts

pub data Shown : Type 0 where
  refused : ℕ → ℕ → Shown
  texts : List (ℕ × List ℕ) → Shown

abbrev pub texts_of : List Punched → List (ℕ × List ℕ)
texts_of [] = []
texts_of (p ∷ ps) = (p.number, text_of p.raw) ∷ texts_of ps

abbrev pub shown : Carded → Shown
shown (cards_refused number place) = refused number place
shown (statements ps) = texts (texts_of ps)

-- no statement number, and a statement number
abbrev pub plain : String → ℕ × List ℕ
plain s = (0, bytes s)

abbrev pub numbered : ℕ → String → ℕ × List ℕ
numbered n s = (n, bytes s)

-- ---- the table

pub record Example : Type 0 where
  pub cards : List String
  pub answer : Shown

abbrev pub gives : List String → Shown → Example
gives cards answer = record { cards = cards; answer = answer }

abbrev pub table : List Example
table =
    -- A1: zeros alone are no number, leading zeros are ignored, blanks stand anywhere
    gives ("0     I=1" ∷ "      END" ∷ []) (refused 4 1)
    ∷ gives ("00000 I=1" ∷ "      END" ∷ []) (refused 4 1)
    ∷ gives ("1 0   GOTO10" ∷ "      END" ∷ []) (texts (numbered 10 "GOTO10" ∷ plain "END" ∷ []))
    ∷ gives ("   01 GOTO1" ∷ "      END" ∷ []) (texts (numbered 1 "GOTO1" ∷ plain "END" ∷ []))
    ∷ gives ("99999 STOP" ∷ []) (texts (numbered 99999 "STOP" ∷ []))
    -- A2: a comment is not there, but counts as a card
    ∷ gives ("      I=1" ∷ "C" ∷ "     X+1" ∷ "C" ∷ "     X+1" ∷ "      END" ∷ []) (texts (plain "I=1+1+1" ∷ plain "END" ∷ []))
    ∷ gives ("C    X" ∷ "     XI=1" ∷ "      END" ∷ []) (refused 5 2)
    ∷ gives ("C" ∷ "C" ∷ "      ?" ∷ []) (refused 3 3)
    -- A3: column 1 decides before column 6; `C` in columns 2-5 is no comment
    ∷ gives ("C    XI=1" ∷ "      END" ∷ []) (texts (plain "END" ∷ []))
    ∷ gives (" C    I=1" ∷ "      END" ∷ []) (refused 4 1)
    -- A4: a continuation's columns 1-5 are blank, an orphan's too
    ∷ gives ("      I=1" ∷ "1    X+1" ∷ "      END" ∷ []) (refused 4 2)
    ∷ gives ("1    XI=1" ∷ "      END" ∷ []) (refused 4 1)
    -- A5: 3 goes before 4 and 5; any character but blank and 0 continues
    ∷ gives ("a    ?I=1" ∷ "      END" ∷ []) (refused 3 1)
    ∷ gives ("      I=1" ∷ "     .+1" ∷ "     $+1" ∷ "      END" ∷ []) (texts (plain "I=1+1+1" ∷ plain "END" ∷ []))
    ∷ gives ("$     I=1" ∷ "      END" ∷ []) (refused 4 1)
    ∷ gives ("     0I=1" ∷ "     0END" ∷ []) (texts (plain "I=1" ∷ plain "END" ∷ []))
    -- A6: card by card
    ∷ gives ("X     I=1" ∷ "      ?" ∷ []) (refused 4 1)
    ∷ gives ("      A=1" ∷ "      ?" ∷ []) (refused 3 2)
    -- A7: nine continuations are right, the tenth is not; its place counts the comment
    ∷ gives ("      I=1" ∷ "     1+1" ∷ "     2+1" ∷ "     3+1" ∷ "     4+1" ∷ "C" ∷ "     5+1" ∷ "     6+1" ∷ "     7+1" ∷ "     8+1" ∷ "     9+1" ∷ "      END" ∷ [])
    (texts (plain "I=1+1+1+1+1+1+1+1+1+1" ∷ plain "END" ∷ []))
    ∷ gives ("      I=1" ∷ "     1+1" ∷ "     2+1" ∷ "     3+1" ∷ "     4+1" ∷ "C" ∷ "     5+1" ∷ "     6+1" ∷ "     7+1" ∷ "     8+1" ∷ "     9+1" ∷ "     A+1" ∷ "      END" ∷ [])
    (refused 5 12)
    -- A8: a blank card is a statement with no text (6 refuses it later)
    ∷ gives ("      I=1" ∷ "" ∷ "      END" ∷ []) (texts (plain "I=1" ∷ plain "" ∷ plain "END" ∷ []))
    ∷ gives ("10" ∷ "      END" ∷ []) (texts (numbered 10 "" ∷ plain "END" ∷ []))
    ∷ gives ("" ∷ "     XI=1" ∷ "      END" ∷ []) (texts (plain "I=1" ∷ plain "END" ∷ []))
    ∷ gives ("" ∷ "     X" ∷ "      END" ∷ []) (texts (plain "" ∷ plain "END" ∷ []))
    -- A9: 400 statements, then 401
    ∷ gives (replicate 399 "      CONTINUE" ++ ("      END" ∷ [])) (texts (replicate 399 (plain "CONTINUE") ++ (plain "END" ∷ [])))
    ∷ gives (replicate 400 "      CONTINUE" ++ ("      END" ∷ [])) (refused 7 0)
    -- A11: comments alone are no statement
    ∷ gives ("C" ∷ "C" ∷ []) (texts [])
    -- A12: blanks vanish, words and constants are split between cards
    ∷ gives ("      I=1" ∷ "     X2" ∷ "      E N" ∷ "     XD" ∷ []) (texts (plain "I=12" ∷ plain "END" ∷ []))
    ∷ gives ("      D O 1 0 I = 1 , 2" ∷ "   10 J J = 1 2" ∷ "      END" ∷ []) (texts (plain "DO10I=1,2" ∷ numbered 10 "JJ=12" ∷ plain "END" ∷ []))
    -- `$` reads as `*`; columns 73-80 are never read
    ∷ gives ("      I=J$2                                                             abc?$ 12" ∷ []) (texts (plain "I=J*2" ∷ []))
    ∷ gives ("                                                                       ?" ∷ []) (refused 3 1)
    ∷ []

abbrev pub All : List Example → Type 0
All [] = Unit {0}
All (x ∷ xs) = (shown (carded (house1401 5) (deck x.cards)) ≡ x.answer) × All xs

pub examples : All table
unfolding cards_of comment first_card character text_of number_of right_number wrong_card after_card right_digits right_length carded value_of
examples = (refl, (refl, (refl, (refl, (refl, (refl, (refl, (refl, (refl, (refl, (refl, (refl, (refl, (refl, (refl, (refl, (refl, (refl, (refl, (refl, (refl, (refl, (refl, (refl, (refl, (refl, (refl, (refl, (refl, (refl, (refl, tt)))))))))))))))))))))))))))))))

-- ---- 1 and 2

-- k from 1 to 9, judged first
pub no_digits : carded (house1401 0) [] ≡ cards_refused 1 0
unfolding carded right_digits
no_digits = refl

pub ten_digits : carded (house1401 10) (card "      END") ≡ cards_refused 1 0
unfolding carded right_digits
ten_digits = refl

-- no card; a card and a line end; 513 cards
pub no_card_lem : carded (house1401 5) [] ≡ cards_refused 2 0
unfolding carded right_digits right_length
no_card_lem = refl

pub line_end_lem : carded (house1401 5) (card "      END" ++ (10 ∷ [])) ≡ cards_refused 2 0
unfolding carded right_digits right_length
line_end_lem = refl

pub too_many_cards : carded (house1401 9) (replicate (513 * 80) 67) ≡ cards_refused 2 0
unfolding carded right_digits right_length
too_many_cards = refl

-- 512 comments
pub most_cards : carded (house1401 9) (replicate (512 * 80) 67) ≡ statements []
unfolding cards_of comment wrong_card after_card right_digits right_length carded
most_cards = refl

-- ---- columns 7-72 are kept as punched

pub kept : carded (house1401 5) (deck ("    7 I = J$2" ∷ "     1+ K" ∷ [])) ≡ statements (record { number = 7; raw = take 66 (bytes "I = J$2" ++ replicate 66 32) ++ take 66 (bytes "+ K" ++ replicate 66 32) } ∷ [])
unfolding cards_of comment first_card character number_of right_number wrong_card after_card right_digits right_length carded value_of
kept = refl
