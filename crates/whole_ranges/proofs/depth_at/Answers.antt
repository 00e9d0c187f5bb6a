-- `whole_ranges::depth_at` meets its contract. Assumes nothing.
use mathlib.Core.Path.{sym, ◌∙◌}
use Rattle.std.proofs.Common.{rules, tests}
use Rattle.std.proofs.lemmas.Iterator.{YieldsList-from_slice}
use Rattle.std.proofs.lemmas.Iterator.Consumers.{YieldsList-from_filter, count_from_yields_List}
use Rattle.whole_tables.specs.declared.DoRange.{DoRange}
use Rattle.whole_range.specs.Range.{covering}
use Rattle.whole_ranges.specs.Ranges.{covers}
use Rattle.whole_ranges.proofs.Listed.{count_listed}
use Rattle.whole_ranges.proofs.depth_at.Goals as goal

pub returns : goal.returns
unfolding covers
returns c =
    let D = c.args.loops.now in
    count_from_yields_List c.filter-around.result _ c.count.ensures.ran (YieldsList-from_filter _ (λ (o : DoRange). covering o.first.0 o.last.0 c.args.at.0) (YieldsList-from_slice D (cc)) c.filter-around.ensures.closure (λ x b q k. search (rules, tests)))
    ∙ sym (count_listed (λ (o : DoRange). covering o.first.0 o.last.0 c.args.at.0) (record { first = record { 0 = 0 }; last = record { 0 = 0 } }) D)
