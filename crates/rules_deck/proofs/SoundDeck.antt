-- A deck that compiling accepts is sound.
-- Assumes nothing.
use mathlib.Core.List.{List}
use Rattle.rules_shared.specs.House.{House}
use Rattle.rules_text.specs.Trees.{Statement}
use Rattle.rules_deck.specs.Accepted.{Accepted}
use Rattle.rules_deck.specs.Sound.{Sound}
use Rattle.rules_deck.proofs.PassedDeck.{ends_well_lem}
use Rattle.rules_deck.proofs.NestedDeck.{targets, nested}
use Rattle.rules_deck.proofs.FittingDeck.{fitting}

pub sound : {house : House} {deck : List Statement} → Accepted house deck → Sound deck
sound a = record { fitting = fitting a; nested = nested a; targets = targets a; ends = ends_well_lem a }
