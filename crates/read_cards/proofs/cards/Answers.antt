-- `read_cards::cards` meets its contract. Assumes nothing.
use mathlib.Core.Path.{◌∙◌}
use Rattle.rules_text.specs.Cards.{cards_of}
use Rattle.read_cards.proofs.DeckLaws.{chunks_are}
use Rattle.read_cards.proofs.cards.Goals as goal

pub returns : goal.returns
unfolding cards_of
returns c =
    c.as_chunks.ensures.front ∙ chunks_are _ c.args.deck.now
