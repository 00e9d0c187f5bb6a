-- `print_lines::put_names` meets its contract. Assumes nothing.
use native.Mathlib.Omega.{arith}
use Rattle.print_lines.proofs.Loops.{names_start, names_room, names_on, listed}
use Rattle.print_lines.proofs.put_names.Goals as goal

pub loop-i-init : goal.loop-i-init
loop-i-init c =
    names_start c.args.e c.args.object.now c.args.store.now c.args.at c.args.out.now

pub overflow_mul-i : goal.overflow_mul-i
overflow_mul-i c =
    omega (arith, c.loop-i-test.true, c.requires.0.placed.whole)

pub overflow_add-e : goal.overflow_add-e
overflow_add-e c =
    omega (arith, c.loop-i-test.true, c.requires.0.placed.whole)

pub name_at-requires : goal.name_at-requires
name_at-requires c =
    omega (arith, c.loop-i-test.true, c.requires.0.placed.whole)

pub put_values-n-requires : goal.put_values-n-requires
put_values-n-requires c =
    let lp = c.loop-i in
    names_room c.args.e c.args.object.now c.args.store.now c.args.at c.args.out.now lp.out lp.n lp.i lp.invariant c.loop-i-test.true c.name_at.result c.name_at.ensures c.requires.0 c.requires.1

pub loop-i-preserved : goal.loop-i-preserved
loop-i-preserved c =
    let lp = c.loop-i in
    names_on c.args.e c.args.object.now c.args.store.now c.args.at c.args.out.now lp.out lp.n lp.i lp.invariant c.loop-i-test.true c.name_at.result c.name_at.ensures c.put_values-n.ensures

pub shape_of-out : goal.shape_of-out
shape_of-out c =
    c.loop-i.invariant.going.long

pub returns : goal.returns
returns c =
    let lp = c.loop-i in
    listed c.args.e c.args.object.now c.args.store.now c.args.at c.args.out.now lp.out lp.n lp.i lp.invariant c.loop-i-test.false
