-- `check_entries::first_bad` meets its contract. Assumes nothing.
use mathlib.Core.Path.{sym, ap, ◌∙◌}
use Rattle.rules_shared.specs.Refusals.{at_entry}
use Rattle.check_formats.proofs.Firsts.{first_more, first_stops}
use Rattle.check_entries.proofs.first_bad.Goals as goal

pub returns-then-not-right : goal.returns-then-not-right
returns-then-not-right g c =
    λ number test same. sym (ap (at_entry number c.args.kind) (c.loop-index.invariant test same ∙ first_stops test _ _ c.loop-index-test.true (sym (same _ _ c.loop-index-test.true c.right.ensures) ∙ c.if-not-right.true)))

pub loop-index-preserved : goal.loop-index-preserved
loop-index-preserved g c =
    λ test same. c.loop-index.invariant test same ∙ first_more test _ _ c.loop-index-test.true (sym (same _ _ c.loop-index-test.true c.right.ensures) ∙ c.if-not-right.false)
