-- What the code gives for each answer of the book: a refusal, or how many statements there are.
-- Assumes nothing.
use Rattle.std.specs.Prelude.{◌≡◌, ℕ, ◌+◌, ◌-◌, cond, List, length, Result, Ok, Err}
use Rattle.rules_shared.specs.House.{House}
use Rattle.rules_text.specs.Cards.{comment, first_card, wrong_card, Punched, Reading, Carded, cards_refused, statements}
use Rattle.refusals.specs.declared.Reason.{Reason}
use Rattle.refusals.specs.declared.Refusal.{Refusal}
use Rattle.refusals.specs.Numbers.{number_of}
use Rattle.read_cards.specs.declared.Sequence.{Sequence}
use Rattle.read_deck_cards.specs.declared.Begun.{Begun}

abbrev pub Judges : Carded → Result Sequence Refusal → Type 0
Judges c (Ok last) = (ps : List Punched) × (c ≡ statements ps) × (last.0 ≡ length ps)
Judges c (Err r) = (c ≡ cards_refused (number_of r.reason) r.place) × (r.kind ≡ 0)

-- what is read, as the code keeps it: the next card's place, the statements counted
abbrev pub begun_of : ℕ → Reading → Begun
begun_of place r = record { place = place; statements = length r.begun; room = r.room }

unfoldable pub after_of : House → Begun → List ℕ → Begun
after_of house b card =
    cond (comment card) (record { place = b.place + 1; statements = b.statements; room = b.room })
    (cond (first_card card) (record { place = b.place + 1; statements = b.statements + 1; room = house.continuations })
    (record { place = b.place + 1; statements = b.statements; room = b.room - 1 }))

abbrev pub After : House → Begun → List ℕ → Result Begun Reason → Type 0
After house b card (Ok after) = (wrong_card b.room card ≡ 0) × (after ≡ after_of house b card)
After house b card (Err reason) = (wrong_card b.room card ≡ number_of reason) × (number_of reason ≡ 0 → ⊥)
