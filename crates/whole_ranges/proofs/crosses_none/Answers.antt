-- `whole_ranges::crosses_none` meets its contract. Assumes nothing.
use mathlib.Core.Path.{sym, ◌∙◌}
use Rattle.std.proofs.Common.{rules, tests}
use Rattle.std.proofs.lemmas.Iterator.{YieldsList-from_slice}
use Rattle.std.proofs.lemmas.Iterator.Search.{all_from_yields_List}
use Rattle.whole_tables.specs.declared.DoRange.{DoRange}
use Rattle.whole_range.specs.Range.{uncrossed}
use Rattle.whole_ranges.specs.Ranges.{apart}
use Rattle.whole_ranges.proofs.Listed.{all_listed}
use Rattle.whole_ranges.proofs.crosses_none.Goals as goal

pub returns : goal.returns
unfolding apart
returns c =
    let D = c.args.loops.now in
    all_from_yields_List (λ (o : DoRange). uncrossed c.args.range.first.0 c.args.range.last.0 o.first.0 o.last.0) _ _ _ c.all.ensures.ran (YieldsList-from_slice D cc) (λ x b q k. search (rules, tests))
    ∙ sym (all_listed (λ (o : DoRange). uncrossed c.args.range.first.0 c.args.range.last.0 o.first.0 o.last.0) (record { first = record { 0 = 0 }; last = record { 0 = 0 } }) D)
