-- `print_lines::put_name` meets its contract. Assumes nothing.
use native.Mathlib.Omega.{arith}
use Rattle.print_lines.proofs.Going.{naming_start, naming_end, naming_room, naming_blank, naming_solid}
use Rattle.print_lines.proofs.put_name.Goals as goal
use Rattle.print_lines.proofs.put_name.Goals.{then-c-ne32, else-c-ne32}

pub loop-c-init : goal.loop-c-init
loop-c-init c =
    naming_start c.args.text.now c.args.at c.args.out.now

pub bounds-out-n : goal.bounds-out-n
bounds-out-n c =
    let lp = c.loop-c in
    naming_room c.args.text.now c.args.at c.args.out.now lp.out lp.n lp.c-index lp.invariant c.loop-c-test.true c.if-c-ne32.true c.requires

pub overflow_add-n : goal.overflow_add-n
overflow_add-n c =
    let lp = c.loop-c in
    omega (arith, naming_room c.args.text.now c.args.at c.args.out.now lp.out lp.n lp.c-index lp.invariant c.loop-c-test.true c.if-c-ne32.true c.requires)

pub loop-c-preserved : goal.loop-c-preserved
loop-c-preserved c =
    let lp = c.loop-c in
    elim c.if-c-ne32.branch [ then-c-ne32 t ↦ naming_solid c.args.text.now c.args.at c.args.out.now lp.out lp.n lp.c-index lp.invariant c.loop-c-test.true _ _ t.if-c-ne32.true t.out-is t.n-is | else-c-ne32 t ↦ naming_blank c.args.text.now c.args.at c.args.out.now lp.out lp.n lp.c-index lp.invariant c.loop-c-test.true _ _ t.if-c-ne32.false t.out-is t.n-is ]

pub shape_of-out : goal.shape_of-out
shape_of-out c =
    c.loop-c.invariant.going.long

pub returns : goal.returns
returns c =
    let lp = c.loop-c in
    naming_end c.args.text.now c.args.at c.args.out.now lp.out lp.n lp.c-index lp.invariant c.loop-c-test.false
