-- `read_texts::text_of` meets its contract. Assumes nothing.
use mathlib.Core.Logic.{⊎_elim}
use native.Mathlib.Omega.{arith}
use Rattle.read_texts.proofs.TextLaws.{writing_start, writing_end, writing_room, writing_blank, writing_solid}
use Rattle.read_texts.proofs.text_of.Goals as goal

pub loop-c-init : goal.loop-c-init
loop-c-init c =
    writing_start c.args.raw.now c.args.text.now

pub bounds-text-n : goal.bounds-text-n
bounds-text-n c =
    let s = c.args.raw.now in
    let o = c.args.text.now in
    let lp = c.loop-c in
    omega (arith, writing_room s o lp.text lp.n lp.c-index lp.invariant c.loop-c-test.true c.requires c.if-c-ne32.true)

pub overflow_add-n : goal.overflow_add-n
overflow_add-n c =
    let s = c.args.raw.now in
    let o = c.args.text.now in
    let lp = c.loop-c in
    omega (arith, writing_room s o lp.text lp.n lp.c-index lp.invariant c.loop-c-test.true c.requires c.if-c-ne32.true)

pub loop-c-preserved : goal.loop-c-preserved
loop-c-preserved c =
    let s = c.args.raw.now in
    let o = c.args.text.now in
    let lp = c.loop-c in
    let h = c.loop-c-test.true in
    ⊎_elim
    (λ t. writing_solid s o lp.text lp.n lp.c-index lp.invariant h _ _ _ t.if-c-ne32.true t.read_as.ensures t.text-is t.n-is)
    (λ t. writing_blank s o lp.text lp.n lp.c-index lp.invariant h _ _ t.if-c-ne32.false t.text-is t.n-is)
    c.if-c-ne32.branch-raw

pub returns : goal.returns
returns c =
    let s = c.args.raw.now in
    let o = c.args.text.now in
    let lp = c.loop-c in
    writing_end s o lp.text lp.n lp.c-index lp.invariant c.loop-c-test.false
