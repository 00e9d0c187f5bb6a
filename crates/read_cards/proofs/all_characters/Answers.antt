-- `read_cards::all_characters` meets its contract. Assumes nothing.
use mathlib.Core.Path.{sym, ◌∙◌}
use Rattle.std.proofs.Common.{rules, tests}
use Rattle.std.proofs.lemmas.Iterator.{YieldsList-from_slice}
use Rattle.std.proofs.lemmas.Iterator.Search.{all_from_yields_List}
use lib.ListN.{take}
use Rattle.rules_object.specs.Check.{character}
use Rattle.read_cards.proofs.CardLaws.{characters_are}
use Rattle.read_cards.proofs.all_characters.Goals as goal

pub returns : goal.returns
returns c =
    all_from_yields_List character _ _ _ c.all.ensures.ran (YieldsList-from_slice (take 72 c.args.card.now) cc) (λ x b q k. search (rules, tests)) ∙ sym (characters_are _)
