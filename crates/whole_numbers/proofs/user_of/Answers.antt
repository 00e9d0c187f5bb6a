-- `whole_numbers::user_of` meets its contract. Assumes nothing.
use mathlib.Core.Path.{refl, sym, ap, ◌∙◌}
use Prim.Native.Nat.{suc}
use native.Mathlib.Omega.{arith}
use native.Mathlib.Numerals.{add-one}
use mathlib.Core.Option.{some}
use borrow.Author.Tests.{le-leb, lt-leb}
use Rattle.whole_tables.specs.Rows.{start_of}
use Rattle.whole_numbers.specs.Numbers.{past}
use Rattle.whole_numbers.proofs.Tests.{first_starts, first_more, first_stops, first_ends}
use Rattle.whole_numbers.proofs.Starts.{jumps_inside, start_on}
use Rattle.whole_numbers.proofs.user_of.Goals as goal

pub loop-q-init : goal.loop-q-init
loop-q-init c =
    let R = c.args.rows.now in
    let n = c.args.count in
    let k = c.args.k in
    let test = past R k in
    (refl, first_starts test suc n)

pub overflow_add-end : goal.overflow_add-end
overflow_add-end c =
    let R = c.args.rows.now in
    let n = c.args.count in
    let q = c.loop-q.q in
    let inv = c.loop-q.invariant in
    let h = jumps_inside R q n c.loop-q-test.true in
    omega (arith, h, inv.0, c.jumps_of-end.ensures, c.requires.count_bound)

pub returns-then-k-end : goal.returns-then-k-end
unfolding past
returns-then-k-end c =
    let R = c.args.rows.now in
    let n = c.args.count in
    let k = c.args.k in
    let test = past R k in
    let q = c.loop-q.q in
    let inv = c.loop-q.invariant in
    let e = start_on R q c.loop-q.end c.jumps_of-end.result inv.0 c.jumps_of-end.ensures ∙ ap (start_of R) (add-one q) in
    ap some c.sequence_of.ensures ∙ sym (inv.1 ∙ first_stops test suc n q c.loop-q-test.true (lt-leb (start_of R (suc q)) k (omega (arith, e, c.if-k-end.true))))

pub loop-q-preserved : goal.loop-q-preserved
unfolding past
loop-q-preserved c =
    let R = c.args.rows.now in
    let n = c.args.count in
    let k = c.args.k in
    let test = past R k in
    let q = c.loop-q.q in
    let inv = c.loop-q.invariant in
    let s = start_on R q c.loop-q.end c.jumps_of-end.result inv.0 c.jumps_of-end.ensures in
    let e = s ∙ ap (start_of R) (add-one q) in
    (s, (inv.1 ∙ first_more test suc n q c.loop-q-test.true (le-leb (start_of R (suc q)) k (omega (arith, e, c.if-k-end.false)))))

pub returns : goal.returns
returns c =
    let R = c.args.rows.now in
    let n = c.args.count in
    let k = c.args.k in
    let test = past R k in
    let q = c.loop-q.q in
    let inv = c.loop-q.invariant in
    sym (inv.1 ∙ first_ends test suc n q c.loop-q-test.false)
