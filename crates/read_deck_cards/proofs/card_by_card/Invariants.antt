-- `read_deck_cards::card_by_card` meets its contract. Assumes nothing.
use Prim.Native.Nat.{ℕ}
use Rattle.read_deck_cards.proofs.CardByCard.{Going}
use Rattle.read_deck_cards.proofs.card_by_card.Given as goal

abbrev pub invariant-loop-card : goal.invariant-loop-card
invariant-loop-card l = (k : ℕ) → Going k l.cards l.b l.card-index
