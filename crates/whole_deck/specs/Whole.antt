-- What the tables hold of a deck, and the answer for the deck as a whole.
-- Assumes nothing.
use Rattle.std.specs.Prelude.{◌≡◌, ℕ, suc, ◌*◌, ◌≤◌, ◌<◌, List, length, take, get_or, Result, Ok, Err}
use Rattle.std.proofs.Math.Option.{none, some}
use Rattle.rules_shared.specs.Limits.{limits}
use Rattle.refusals.specs.Answers.{refusal_of}
use Rattle.read_cards.specs.declared.Sequence.{Sequence}
use Rattle.refused_statements.specs.declared.AtStatement.{AtStatement}
use Rattle.refused_statements.specs.Places.{as_refusal}
use Rattle.rules_shared.specs.Lists.{Each}
use Rattle.rules_text.specs.Trees.{Statement}
use Rattle.rules_deck.specs.Deck.{position_of}
use Rattle.rules_deck.specs.Whole.{form_sets, judge_deck}
use Rattle.take_draft.specs.Names.{Told}
use Rattle.take_draft.specs.Sketch.{deck_rows, deck_jumps, loops_from}
use Rattle.whole_tables.specs.Tables.{place_in}

-- the names that a statement sets are told by their words
abbrev pub SetsTold : Statement → Type 0
SetsTold s = Each Told (form_sets s.form)

-- a statement number has five digits at most
abbrev pub LowNumber : Statement → Type 0
LowNumber s = s.number ≤ limits.statement_number

-- the tables hold the deck
pub record Sketched (deck : List Statement) (rows : List ℕ) (count : ℕ) (loops : List ℕ) (dos : ℕ) (jumps : List ℕ) (many : ℕ) : Type 0 where
  pub statements : count ≡ length deck
  pub rows_are : take (5 * count) rows ≡ deck_rows deck
  pub loops_are : take (2 * dos) loops ≡ loops_from 0 0 deck
  pub jumps_are : take many jumps ≡ deck_jumps deck
  pub told : Each SetsTold deck
  pub numbered : Each LowNumber deck

-- the tables hold some deck: what keeps reading inside them
pub record Whole (rows : List ℕ) (count : ℕ) (loops : List ℕ) (dos : ℕ) (jumps : List ℕ) (many : ℕ) : Type 0 where
  pub rows_long : length rows ≡ 2000
  pub loops_long : length loops ≡ 128
  pub jumps_long : length jumps ≡ 1424
  pub few : count ≤ limits.statements
  pub few_dos : dos ≤ limits.dos
  pub few_jumps : many ≤ 1424
  pub deck : List Statement
  pub sketched : Sketched deck rows count loops dos jumps many

-- the statement with number n is at a place
pub record Stands (deck : List Statement) (n place : ℕ) : Type 0 where
  pub is : place ≡ suc (position_of deck n)
  pub low : position_of deck n < length deck

-- the answer is the book's, and each number of a deck that is right has its statement's place
abbrev pub Judged : List Statement → Result (List Sequence) AtStatement → Type 0
Judged deck (Ok places) = (judge_deck deck ≡ none) × ((k : ℕ) → k < length (deck_jumps deck) → Stands deck (get_or (deck_jumps deck) k 0) (place_in places k))
Judged deck (Err r) = judge_deck deck ≡ some (refusal_of (as_refusal r))
