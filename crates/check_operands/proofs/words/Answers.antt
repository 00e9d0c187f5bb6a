-- `check_operands::words` meets its contract. Assumes nothing.
use mathlib.Core.Path.{sym, ap, ◌∙◌}
use native.Mathlib.Omega.{arith}
use lib.ListN.{get_or}
use Rattle.rules_object.specs.Operations.{right43}
use Rattle.rules_object.specs.Calls.{refused43}
use Rattle.rules_shared.specs.Refusals.{at_entry}
use Rattle.object_contents.specs.Layout.{object_at}
use Rattle.object_contents.proofs.Entries.{code_at}
use Rattle.check_operands.proofs.Tests.{words_are}
use Rattle.check_operands.proofs.words.Goals as goal

pub returns : goal.returns
unfolding refused43
returns c =
    c.first_bad.ensures 43 (λ i. right43 (object_at c.args.e.now c.args.o.now) (get_or (object_at c.args.e.now c.args.o.now).code i 0)) (λ i b h p. grind (arith, code_at)) ∙ ap (at_entry 43 5) (sym (words_are c.args.e.now c.args.o.now))
