-- `take_arrays::ends_in_f` meets its contract. Assumes nothing.
use native.Mathlib.Omega.{arith}
use Rattle.take_arrays.proofs.Last.{strip_start, strip_more, strip_end, first_ends}
use Rattle.take_arrays.proofs.ends_in_f.Goals as goal

pub loop-word-init : goal.loop-word-init
loop-word-init c =
    strip_start c.args.name.0

pub loop-word-smaller : goal.loop-word-smaller
loop-word-smaller c =
    omega (arith, c.loop-word-test.true)

pub loop-word-preserved : goal.loop-word-preserved
loop-word-preserved c =
    strip_more c.args.name.0 c.loop-word.word c.loop-word.invariant c.loop-word-test.true

pub returns : goal.returns
returns c =
    first_ends c.args.name (strip_end c.args.name.0 c.loop-word.word c.loop-word.invariant c.loop-word-test.false)
