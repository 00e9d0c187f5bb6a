-- `print_lines::put_values` meets its contract. Assumes nothing.
use mathlib.Core.Path.{refl}
use native.Mathlib.Omega.{arith}
use Rattle.rules_object.specs.Check.{span}
use Rattle.print_lines.proofs.Loops.{values_start, values_room, values_on, values_end}
use Rattle.print_lines.proofs.put_values.Goals as goal

pub size-i-end-requires : goal.size-i-end-requires
size-i-end-requires c =
    omega (arith, c.requires.0.cells, c.requires.0.most)

pub loop-i-init : goal.loop-i-init
loop-i-init c =
    let e = c.args.e.now in
    values_start e c.args.store.now (span e.rows e.columns) refl c.args.at c.args.out.now

pub put_value-n-requires : goal.put_value-n-requires
put_value-n-requires c =
    let e = c.args.e.now in
    let lp = c.loop-i in
    values_room e c.args.store.now (span e.rows e.columns) refl c.args.at c.args.out.now lp.out lp.n lp.i lp.invariant c.requires.0 c.requires.1 (omega (arith, c.loop-i-test.true, c.size-i-end.ensures))

pub loop-i-preserved : goal.loop-i-preserved
loop-i-preserved c =
    let e = c.args.e.now in
    let lp = c.loop-i in
    values_on e c.args.store.now (span e.rows e.columns) refl c.args.at c.args.out.now lp.out lp.n lp.i lp.invariant (omega (arith, c.loop-i-test.true, c.size-i-end.ensures)) c.put_value-n.ensures

pub shape_of-out : goal.shape_of-out
shape_of-out c =
    c.loop-i.invariant.going.long

pub returns : goal.returns
returns c =
    let e = c.args.e.now in
    let lp = c.loop-i in
    values_end e c.args.store.now (span e.rows e.columns) refl c.args.at c.args.out.now lp.out lp.n lp.i lp.invariant (omega (arith, c.loop-i-test.false, c.size-i-end.ensures))
