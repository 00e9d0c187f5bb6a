-- `check_formats::has_number` meets its contract. Assumes nothing.
use mathlib.Core.Path.{sym, ◌∙◌}
use native.Mathlib.Omega.{arith}
use Rattle.object_contents.specs.Layout.{object_at}
use Rattle.object_contents.proofs.Entries.{format_length}
use Rattle.check_formats.proofs.Words.{number_none}
use Rattle.check_formats.proofs.has_number.Goals as goal

pub returns : goal.returns
returns c =
    sym (c.loop-i.invariant ∙ number_none (object_at c.args.e.now c.args.o.now).formats c.loop-i.i (omega (arith, format_length c.args.e.now c.args.o.now)))
