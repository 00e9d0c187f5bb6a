-- `check_transfers::items_right` meets its contract. Assumes nothing.
use mathlib.Core.Path.{◌≡◌, sym, ap, ◌∙◌}
use Prim.Native.Nat.{◌+◌, ◌-◌}
use native.Mathlib.Omega.{arith}
use lib.ListN.{take, drop}
use Rattle.rules_shared.specs.Lists.{all}
use Rattle.rules_object.specs.Operations.{item_right}
use Rattle.object_contents.specs.Book.{book_of}
use Rattle.check_transfers.proofs.Items.{used_is, used_more, used_stops}
use Rattle.check_transfers.proofs.items_right.Goals as goal

pub returns-then-not-item_right : goal.returns-then-not-item_right
returns-then-not-item_right c =
    sym (used_is _ _ c.args.at c.args.n ∙ c.loop-i.invariant ∙ used_stops _ _ c.loop-i.i _ c.loop-i-test.true c.requires (sym c.item_right.ensures ∙ c.if-not-item_right.true))

pub loop-i-preserved : goal.loop-i-preserved
loop-i-preserved c =
    c.loop-i.invariant ∙ used_more _ _ c.loop-i.i _ c.loop-i-test.true c.requires (sym c.item_right.ensures ∙ c.if-not-item_right.false)
