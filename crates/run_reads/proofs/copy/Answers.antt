-- `run_reads::copy` meets its contract. Assumes nothing.
use mathlib.Core.Path.{sym, subst}
use Prim.Native.Nat.{◌+◌}
use lib.ListN.{set}
use lib.IntN.{ℤ}
use Rattle.std.proofs.Common.{rules}
use Rattle.run_reads.proofs.CopyLaws.{Copied, one_more}
use Rattle.run_reads.proofs.copy.Goals as goal

pub loop-i-preserved : goal.loop-i-preserved
loop-i-preserved c =
    let a = c.args in
    let lp = c.loop-i in
    subst (λ (z : ℤ). Copied a.from.now a.to.now a.n (set lp.to lp.i z) (lp.i + 1)) (sym (search rules)) (one_more a.from.now a.to.now a.n c.requires.0 c.requires.1 lp.to lp.i lp.invariant c.loop-i-test.true)
