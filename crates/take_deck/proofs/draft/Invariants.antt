-- `take_deck::draft` meets its contract. Assumes nothing.
use Prim.Native.Nat.{◌-◌}
use lib.ListN.{length}
use Rattle.rules_text.specs.Cards.{cards_of}
use Rattle.take_draft.specs.Kept.{words_of}
use Rattle.take_deck.proofs.Round.{Round}
use Rattle.take_deck.proofs.draft.Given as goal

abbrev pub invariant-loop-kept : goal.invariant-loop-kept
invariant-loop-kept l = Round l.k l.deck l.initial.items (words_of l.initial.t) l.card l.items (words_of l.t) l.n

abbrev pub decreases-loop-kept : goal.decreases-loop-kept
decreases-loop-kept l = length (cards_of l.deck) - l.card
