-- `check_verdicts::write` meets its contract. Assumes nothing.
use mathlib.Core.Path.{◌≡◌, ap, ◌∙◌}
use mathlib.Core.List.{◌++◌}
use native.Mathlib.Omega.{arith}
use lib.ListN.{length, take, drop}
use lib.Seq.{take-length}
use Rattle.check_verdicts.proofs.Names.{too_short, written}
use Rattle.check_verdicts.proofs.write.Goals as goal

pub returns-then-output-n : goal.returns-then-output-n
returns-then-output-n c =
    rw c.of.ensures (too_short _ _ c.if-output-n.true)

pub returns : goal.returns
returns c =
    let bytes = c.args.bytes.now in
    let output = c.args.output.now in
    let all : c.loop-i.i ≡ length bytes = omega arith in
    written _ _ _ c.if-output-n.false (c.loop-i.invariant ∙ ap (λ m. take m bytes ++ drop m output) all ∙ ap (λ x. x ++ drop (length bytes) output) (take-length bytes))
