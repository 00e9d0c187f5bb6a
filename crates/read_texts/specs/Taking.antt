-- What taking a deck's next statement gives: the first of the statements that the cards still to come hold, and where the next one starts.
-- Assumes nothing.
use Rattle.std.specs.Prelude.{ℕ, suc, ◌+◌, ◌≡◌, Bool, false, cond, List, [], ◌∷◌, ◌++◌, length, drop, Option, Some, None}
use Rattle.std.proofs.lemmas.List.Edits.{sets}
use Rattle.rules_shared.specs.House.{house1401}
use Rattle.rules_text.specs.Cards.{cards_of, text_columns, comment, first_card, text_of, Punched, statements, carded, grouped}
use Rattle.read_texts.specs.declared.Taken.{Taken}

-- a deck that is not refused
pub record Accepted (deck : List ℕ) : Type 0 where
  pub digits : ℕ
  pub all : List Punched
  pub is : carded (house1401 digits) deck ≡ statements all

-- o with xs stored from a on, one byte after the other; what stands before and after stays
unfoldable pub over : ℕ → List ℕ → List ℕ → List ℕ
over a xs o = sets o a xs

-- a card that starts a statement
unfoldable pub begins : List ℕ → Bool
begins card = cond (comment card) false (first_card card)

-- how many cards stand before the next that starts a statement
abbrev pub skipped : List (List ℕ) → ℕ
skipped [] = 0
skipped (card ∷ cards) = cond (begins card) 0 (suc (skipped cards))

-- columns 7-72 of the cards that are no comments
abbrev pub joined : List (List ℕ) → List ℕ
joined [] = []
joined (card ∷ cards) = cond (comment card) (joined cards) (text_columns card ++ joined cards)

-- how many cards stand before the second that starts a statement
unfoldable pub passed : List (List ℕ) → ℕ
passed cards = suc (skipped cards) + skipped (drop (suc (skipped cards)) cards)

-- what is put of a statement: what is punched in columns 7-72 of its cards, or its text
abbrev pub punched_raw : Punched → List ℕ
punched_raw p = p.raw

abbrev pub punched_text : Punched → List ℕ
punched_text p = text_of p.raw

abbrev pub first_of : (Punched → List ℕ) → List Punched → ℕ → Option Taken
first_of content [] next = None
first_of content (p ∷ ps) next = Some (record { number = record { 0 = p.number }; length = length (content p); next = next })

abbrev pub first_content : (Punched → List ℕ) → List Punched → List ℕ
first_content content [] = []
first_content content (p ∷ ps) = content p

-- the statement taken at a card, and the table before and after; bytes past the statement's stay
pub record Takes (content : Punched → List ℕ) (deck : List ℕ) (card : ℕ) (table table' : List ℕ) (r : Option Taken) : Type 0 where
  pub says : r ≡ first_of content (grouped (drop card (cards_of deck))) (card + passed (drop card (cards_of deck)))
  pub put : table' ≡ over 0 (first_content content (grouped (drop card (cards_of deck)))) table

-- a text put at the start of a table
pub record Put (text table table' : List ℕ) (n : ℕ) : Type 0 where
  pub count : n ≡ length text
  pub put : table' ≡ over 0 text table
