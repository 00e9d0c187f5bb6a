-- `read_formats::repeat` meets its contract. Assumes nothing.
use Prim.Native.Nat.{◌-◌, ◌*◌}
use mathlib.Core.Path.{◌≡◌, refl}
use native.Mathlib.Omega.{arith}
use Rattle.read_formats.proofs.PutLaws.{copy_none, copy_more, copied_over, copied, repeats_over}
use Rattle.read_formats.proofs.repeat.Goals as goal

pub returns-then-top-gt-MOST : goal.returns-then-top-gt-MOST
returns-then-top-gt-MOST c =
    repeats_over c.args.n c.args.words.now c.args.from c.args.top c.requires.count.0 c.if-top-gt-MOST.true

pub loop-k-init : goal.loop-k-init
loop-k-init c =
    copy_none c.args.words.now c.args.from c.args.top c.args.n _ c.requires.table.0 (omega (arith, c.if-top-gt-MOST.false)) refl

pub returns-then-top-k-ge-MOST : goal.returns-then-top-k-ge-MOST
returns-then-top-k-ge-MOST c =
    copied_over c.args.words.now c.args.from c.args.top c.requires.table.0 c.requires.table.1 (omega (arith, c.if-top-gt-MOST.false)) c.args.n c.requires.count.0 _ c.loop-k.words c.loop-k.k _ c.loop-k.invariant c.loop-k-test.true c.if-top-k-ge-MOST.true refl

pub loop-k-preserved : goal.loop-k-preserved
loop-k-preserved c =
    copy_more c.args.words.now c.args.from c.args.top c.requires.table.0 c.requires.table.1 (omega (arith, c.if-top-gt-MOST.false)) c.args.n _ c.loop-k.words c.loop-k.k c.loop-k.invariant c.loop-k-test.true c.if-top-k-ge-MOST.false

pub returns : goal.returns
returns c =
    let e : c.loop-k.k ≡ (c.args.n - 1) * (c.args.top - c.args.from) = omega (arith, c.loop-k-test.false, c.loop-k.auto.k-end) in
    rw (← e) (copied c.args.words.now c.args.from c.args.top c.requires.table.0 c.requires.table.1 (omega (arith, c.if-top-gt-MOST.false)) c.args.n c.requires.count.0 _ c.loop-k.words c.loop-k.k c.loop-k.invariant c.loop-k-test.false)
