-- `whole_ranges::stays_out_of_all` meets its contract. Assumes nothing.
use mathlib.Core.Path.{sym, ◌∙◌}
use Rattle.std.proofs.Common.{rules, tests}
use Rattle.std.proofs.lemmas.Iterator.{YieldsList-from_slice}
use Rattle.std.proofs.lemmas.Iterator.Search.{all_from_yields_List}
use Rattle.whole_tables.specs.declared.DoRange.{DoRange}
use Rattle.whole_range.specs.Range.{outside}
use Rattle.whole_ranges.specs.Ranges.{stays_out}
use Rattle.whole_ranges.proofs.Listed.{all_listed}
use Rattle.whole_ranges.proofs.stays_out_of_all.Goals as goal

pub returns : goal.returns
unfolding stays_out
returns c =
    let D = c.args.loops.now in
    all_from_yields_List (λ (o : DoRange). outside o.first.0 o.last.0 c.args.from.0 c.args.target.0) _ _ _ c.all.ensures.ran (YieldsList-from_slice D cc) (λ x b q k. search (rules, tests))
    ∙ sym (all_listed (λ (o : DoRange). outside o.first.0 o.last.0 c.args.from.0 c.args.target.0) (record { first = record { 0 = 0 }; last = record { 0 = 0 } }) D)
