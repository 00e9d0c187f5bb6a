-- `read_texts::put` meets its contract. Assumes nothing.
use mathlib.Core.Path.{sym, ◌∙◌}
use native.Mathlib.Omega.{arith}
use Rattle.read_texts.proofs.TextLaws.{putting_end, putting_room, putting_past, putting_on}
use Rattle.read_texts.proofs.put.Goals.{then-not-is_comment, else-not-is_comment}
use Rattle.read_texts.proofs.put.Goals as goal

pub slice_bounds-copy_from_slice-end : goal.slice_bounds-copy_from_slice-end
slice_bounds-copy_from_slice-end c =
    let lp = c.loop-card in
    let h = c.loop-card-test.true in
    let r = putting_room c.args.cards.now c.args.raw.now lp.raw lp.n lp.card-index lp.invariant h (sym c.is_comment.ensures ∙ c.if-not-is_comment.true) (c.told-cards _ h) c.requires in
    omega (arith, r)

pub loop-card-preserved : goal.loop-card-preserved
loop-card-preserved c =
    let lp = c.loop-card in
    let h = c.loop-card-test.true in
    elim c.if-not-is_comment.branch [ then-not-is_comment w ↦ (let e = putting_on c.args.cards.now c.args.raw.now lp.raw lp.n lp.card-index lp.invariant h (sym c.is_comment.ensures ∙ w.if-not-is_comment.true) (c.told-cards _ h) c.told-raw c.requires in rw (w.raw-is, w.n-is, w.copy_from_slice.ensures.after) e) | else-not-is_comment w ↦ (let e = putting_past c.args.cards.now c.args.raw.now lp.raw lp.n lp.card-index lp.invariant h (sym c.is_comment.ensures ∙ w.if-not-is_comment.false) in rw (w.raw-is, w.n-is) e) ]

pub returns : goal.returns
returns c =
    let lp = c.loop-card in
    putting_end c.args.cards.now c.args.raw.now lp.raw lp.n lp.card-index lp.invariant (omega (arith, c.loop-card-test.false))
