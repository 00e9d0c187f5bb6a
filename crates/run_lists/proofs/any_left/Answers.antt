-- `run_lists::any_left` meets its contract. Assumes nothing.
use mathlib.Core.Path.{refl, sym, subst}
use borrow.Author.Tests.{lt-ltb}
use Rattle.run_lists.specs.Cursors.{Left}
use native.Mathlib.Omega.{arith}
use Rattle.run_lists.proofs.Lists.{left_in_span, list_over}
use Rattle.run_lists.proofs.any_left.Goals as goal

pub returns-then-c-gt0 : goal.returns-then-c-gt0
returns-then-c-gt0 c =
    λ o r. subst (Left o c.args.c) (sym (lt-ltb 0 c.args.c.cells c.if-c-gt0.true)) (left_in_span o c.args.c r c.if-c-gt0.true)

pub returns-else-c-gt0 : goal.returns-else-c-gt0
returns-else-c-gt0 c =
    λ o r. list_over o c.args.c r c.args.c.items (omega (arith, c.if-c-gt0.false)) refl
