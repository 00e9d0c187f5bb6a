-- What compiling answers: the stages one after the other, each refusing in 01's order, then the object's bytes. 01 "Refusal numbers".
-- Assumes nothing.
use Rattle.std.specs.Prelude.{ℕ, suc, List, [], ◌∷◌}
use Rattle.std.proofs.Math.Option.{Option, none, some}
use Rattle.rules_shared.specs.House.{House}
use Rattle.rules_object.specs.Bytes.{object_bytes}
use Rattle.rules_shared.specs.Refusals.{Refusal, refusal, no_room}
use Rattle.rules_shared.specs.Output.{Written, not_written, write}
use Rattle.rules_text.specs.Trees.{Form, Statement}
use Rattle.rules_text.specs.Cards.{Punched, text_of, Carded, cards_refused, statements, carded}
use Rattle.rules_text.specs.Grammar.{form_of}
use Rattle.rules_deck.specs.Judge.{Taken, nothing_taken, takes, judge_form}
use Rattle.rules_deck.specs.Whole.{judge_deck}
use Rattle.rules_deck.specs.Translation.{translate}

-- refused, or the statements of the deck
pub data Read : Type 0 where
  not_read : Refusal → Read
  read : List Statement → Read

-- ---- statement by statement: 6, 10 to 18, the lowest number

abbrev pub with_statement : Statement → Read → Read
with_statement s (not_read r) = not_read r
with_statement s (read deck) = read (s ∷ deck)

-- the statement at position q is read and judged; `rest` reads those after it
abbrev pub after_judging : ℕ → Statement → Read → Option ℕ → Read
after_judging q s rest (some number) = not_read (refusal number (suc q) 0)
after_judging q s rest none = with_statement s rest

abbrev pub after_reading : House → ℕ → ℕ → Taken → (Taken → Read) → Option Form → Read
after_reading house q number t rest none = not_read (refusal 10 (suc q) 0)
after_reading house q number t rest (some f) = after_judging q (record { number = number; form = f }) (rest (takes q f t)) (judge_form house q f t)

abbrev pub read_text : House → ℕ → ℕ → Taken → (Taken → Read) → List ℕ → Read
read_text house q number t rest [] = not_read (refusal 6 (suc q) 0)
read_text house q number t rest (c ∷ text) = after_reading house q number t rest (form_of (c ∷ text))

abbrev pub read_from : House → ℕ → Taken → List Punched → Read
read_from house q t [] = read []
read_from house q t (p ∷ more) = read_text house q p.number t (λ u. read_from house (suc q) u more) (text_of p.raw)

-- ---- the stages

abbrev pub read_carded : House → Carded → Read
read_carded house (cards_refused number place) = not_read (refusal number place 0)
read_carded house (statements punched) = read_from house 0 nothing_taken punched

abbrev pub or_refuse : List Statement → Option Refusal → Read
or_refuse deck none = read deck
or_refuse deck (some r) = not_read r

abbrev pub judge_read : Read → Read
judge_read (not_read r) = not_read r
judge_read (read deck) = or_refuse deck (judge_deck deck)

-- the deck that some bytes are in a house, or its refusal
unfoldable pub deck_of : House → List ℕ → Read
deck_of house bytes = judge_read (read_carded house (carded house bytes))

abbrev pub write_read : House → List ℕ → Read → Written
write_read house output (not_read r) = not_written r output
write_read house output (read deck) = write no_room (object_bytes (translate house deck)) output

-- the call `compile`: the house, the deck's bytes and the output lent
unfoldable pub compiling : House → List ℕ → List ℕ → Written
compiling house bytes output = write_read house output (deck_of house bytes)
