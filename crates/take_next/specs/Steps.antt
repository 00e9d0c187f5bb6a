-- What drafting one more statement of a deck ensures.
-- Assumes nothing.
use Rattle.std.specs.Prelude.{◌≡◌, ℕ, suc, ◌+◌, ◌≤◌, ◌<◌, Option, Some, None, Result, Ok, Err, List, [], ◌∷◌, length, drop}
use Rattle.rules_shared.specs.House.{house1401}
use Rattle.rules_shared.specs.Refusals.{refusal}
use Rattle.refusals.specs.declared.Reason.{Reason}
use Rattle.refusals.specs.Numbers.{number_of}
use Rattle.rules_text.specs.Trees.{Form, Statement}
use Rattle.rules_text.specs.Cards.{Punched, cards_of, text_of, grouped}
use Rattle.rules_deck.specs.Judge.{Taken, takes}
use Rattle.rules_deck.specs.Compile.{Read, not_read, with_statement, read_text}
use Rattle.read_texts.specs.Taking.{Accepted}
use Rattle.take_draft.specs.declared.Counts.{Counts}
use Rattle.take_draft.specs.Draft.{Draft, drafts}
use Rattle.take_draft.specs.Kept.{Words, Fit, Room, Kept, Matches}
use Rattle.take_parts.specs.Fresh.{Fresh}
use Rattle.take_next.specs.declared.Kept as code

abbrev pub punched_as : Punched → Form → Statement
punched_as p f = record { number = p.number; form = f }

-- the statements that are punched from a card on
abbrev pub to_come : List ℕ → ℕ → List Punched
to_come deck card = grouped (drop card (cards_of deck))

-- what stands between the code and its limits before a statement
pub record Ahead (k : ℕ) (deck : List ℕ) (card : ℕ) (items : List ℕ) (lent : Words) (n : Counts) : Type 0 where
  pub accepted : Accepted deck
  pub digits_some : 1 ≤ k
  pub digits_few : k ≤ 9
  pub items_long : 3320 ≤ length items
  pub room : Room lent
  pub fit : Fit n
  pub few : n.statements + length (to_come deck card) ≤ 400
  pub draft : Draft
  pub kept : Kept draft lent n
  pub fresh : Fresh n.statements draft

-- the statement p at position q is right, and the tables hold it too
pub record Keeps (k q : ℕ) (t : Taken) (D : Draft) (p : Punched) (lent : Words) (n : Counts) : Type 0 where
  pub form : Form
  pub reads : (rest : Taken → Read) → read_text (house1401 k) q p.number t rest (text_of p.raw) ≡ with_statement (punched_as p form) (rest (takes q form t))
  pub kept : Kept (drafts q (punched_as p form) D) lent n
  pub fit : Fit n
  pub counted : n.statements ≡ suc q

-- the first statement from a card on; n counts those before it, those of r it too
pub data Steps (k : ℕ) (deck : List ℕ) (card : ℕ) (t : Taken) (D : Draft) (n : Counts) (lent : Words) : Result (Option code.Kept) Reason → Type 0 where
  ended : to_come deck card ≡ [] → Kept D lent n → Steps k deck card t D n lent (Ok None)
  refused : (e : Reason) (p : Punched) (more : List Punched) → to_come deck card ≡ p ∷ more
      → ((rest : Taken → Read) → read_text (house1401 k) n.statements p.number t rest (text_of p.raw) ≡ not_read (refusal (number_of e) (suc n.statements) 0))
      → Steps k deck card t D n lent (Err e)
  taken : (p : Punched) (r : code.Kept) → to_come deck card ≡ p ∷ to_come deck r.next → card < r.next → r.next ≤ length (cards_of deck)
      → Keeps k n.statements t D p lent r.counts
      → Steps k deck card t D n lent (Ok (Some r))

-- after any draft that the tables hold before; with the tables afterwards
abbrev pub Continues : (k : ℕ) (deck : List ℕ) (card : ℕ) (n : Counts) (lent lent' : Words) → Result (Option code.Kept) Reason → Type 0
Continues k deck card n lent lent' r =
    (D : Draft) (t : Taken) → Kept D lent n → Matches t D → Fresh n.statements D → Steps k deck card t D n lent' r
