-- `read_texts::skipped` meets its contract. Assumes nothing.
use mathlib.Core.Path.{ap, ◌∙◌}
use Rattle.std.proofs.Common.{rules, tests}
use Rattle.std.proofs.lemmas.Iterator.{YieldsList-from_slice}
use Rattle.std.proofs.lemmas.Iterator.Search.{position_from_yields_List}
use lib.ListN.{length}
use Rattle.std.specs.Option.{unwrap_or}
use Rattle.read_texts.specs.Taking.{begins}
use Rattle.read_texts.proofs.TakeLaws.{found_or}
use Rattle.read_texts.proofs.skipped.Goals as goal

pub returns : goal.returns
returns c =
    let s = c.args.cards.now in
    let e = position_from_yields_List begins _ _ c.position-found.result c.position-found.ensures.ran (YieldsList-from_slice s cc) (λ x b q k. search (rules, tests)) in
    c.unwrap_or.ensures ∙ ap (λ o. unwrap_or o (length s)) e ∙ found_or s
