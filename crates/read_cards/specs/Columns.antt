-- What the code gives for a card's columns.
-- Assumes nothing.
use Rattle.std.specs.Prelude.{ℕ, cond, List, Option, Some, None}
use Rattle.rules_text.specs.Cards.{number_columns, all_digits, without_blanks, number_of, right_number}
use Rattle.read_cards.specs.declared.Number.{Number}

-- the value of columns 1-5, where they hold digits and blanks alone
unfoldable pub digits_of : List ℕ → Option ℕ
digits_of card = cond (all_digits (without_blanks (number_columns card))) (Some (number_of card)) None

-- the number of a first card
unfoldable pub punched_of : List ℕ → Option Number
punched_of card = cond (right_number card) (Some (record { 0 = number_of card })) None
