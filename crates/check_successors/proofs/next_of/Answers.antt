-- `check_successors::next_of` meets its contract. Assumes nothing.
use mathlib.Core.Path.{◌∙◌}
use native.Mathlib.Omega.{arith}
use Rattle.object_contents.specs.Layout.{object_at}
use Rattle.check_successors.proofs.Operations.{three_fit, count_fits, do_fits, below_three, below_count, next_jump, next_three, next_count, next_body, next_past, next_else}
use Rattle.object_contents.proofs.Entries.{exit_length, do_length}
use Rattle.check_successors.proofs.next_of.Goals as goal

pub overflow_add-x : goal.overflow_add-x
overflow_add-x c =
    let o = object_at c.args.e.now c.args.o.now in
    omega (arith, three_fit o c.args.operation c.args.x c.requires.placed.1 c.in-12.is, below_three o c.args.operation c.args.x c.requires.placed.1 c.args.a c.args.k c.requires.bound.1 c.in-12.is, exit_length c.args.e.now c.args.o.now)

pub overflow_add-x-in-13 : goal.overflow_add-x-in-13
overflow_add-x-in-13 c =
    let o = object_at c.args.e.now c.args.o.now in
    omega (arith, count_fits o c.args.operation c.args.x c.requires.placed.1 c.in-13.is, below_count o c.args.operation c.args.x c.requires.placed.1 c.args.a c.args.k c.requires.bound.1 c.in-13.is, exit_length c.args.e.now c.args.o.now)

pub overflow_add-x-in-13-2 : goal.overflow_add-x-in-13-2
overflow_add-x-in-13-2 c =
    let o = object_at c.args.e.now c.args.o.now in
    omega (arith, count_fits o c.args.operation c.args.x c.requires.placed.1 c.in-13.is, below_count o c.args.operation c.args.x c.requires.placed.1 c.args.a c.args.k c.requires.bound.1 c.in-13.is, exit_length c.args.e.now c.args.o.now)

pub exit_at-requires : goal.exit_at-requires
exit_at-requires c =
    let o = object_at c.args.e.now c.args.o.now in
    let op = c.args.operation in
    let x = c.args.x in
    let r = c.requires.placed.1 in
    let a = c.args.a in
    let k = c.args.k in
    let l = c.requires.bound.1 in
    let q = c.in-12.is in
    (c.requires.placed.0, omega (arith, three_fit o op x r q, below_three o op x r a k l q, exit_length c.args.e.now c.args.o.now))

pub exit_at-requires-in-13 : goal.exit_at-requires-in-13
exit_at-requires-in-13 c =
    let o = object_at c.args.e.now c.args.o.now in
    let op = c.args.operation in
    let x = c.args.x in
    let r = c.requires.placed.1 in
    let a = c.args.a in
    let k = c.args.k in
    let l = c.requires.bound.1 in
    let q = c.in-13.is in
    (c.requires.placed.0, omega (arith, count_fits o op x r q, below_count o op x r a k l q, exit_length c.args.e.now c.args.o.now))

pub body_of-requires : goal.body_of-requires
body_of-requires c =
    let o = object_at c.args.e.now c.args.o.now in
    let op = c.args.operation in
    let x = c.args.x in
    let r = c.requires.placed.1 in
    (c.requires.placed.0, omega (arith, do_fits o op x r c.in-15.is, do_length c.args.e.now c.args.o.now))

pub returns-then-k-eq0 : goal.returns-then-k-eq0
returns-then-k-eq0 c =
    let o = object_at c.args.e.now c.args.o.now in
    let op = c.args.operation in
    let x = c.args.x in
    let r = c.requires.placed.1 in
    let a = c.args.a in
    let k = c.args.k in
    let l = c.requires.bound.1 in
    c.body_of.ensures ∙ next_body o op x r a k l c.in-15.is c.if-k-eq0.true

pub returns-in-11 : goal.returns-in-11
returns-in-11 c =
    let o = object_at c.args.e.now c.args.o.now in
    let op = c.args.operation in
    let x = c.args.x in
    let r = c.requires.placed.1 in
    let a = c.args.a in
    let k = c.args.k in
    let l = c.requires.bound.1 in
    next_jump o op x r a k l c.in-11.is

pub returns-in-12 : goal.returns-in-12
returns-in-12 c =
    let o = object_at c.args.e.now c.args.o.now in
    let op = c.args.operation in
    let x = c.args.x in
    let r = c.requires.placed.1 in
    let a = c.args.a in
    let k = c.args.k in
    let l = c.requires.bound.1 in
    c.exit_at.ensures ∙ next_three o op x r a k l c.in-12.is

pub returns-in-13 : goal.returns-in-13
returns-in-13 c =
    let o = object_at c.args.e.now c.args.o.now in
    let op = c.args.operation in
    let x = c.args.x in
    let r = c.requires.placed.1 in
    let a = c.args.a in
    let k = c.args.k in
    let l = c.requires.bound.1 in
    c.exit_at-in-13.ensures ∙ next_count o op x r a k l c.in-13.is

pub returns-else-k-eq0 : goal.returns-else-k-eq0
returns-else-k-eq0 c =
    let o = object_at c.args.e.now c.args.o.now in
    let op = c.args.operation in
    let x = c.args.x in
    let r = c.requires.placed.1 in
    let a = c.args.a in
    let k = c.args.k in
    let l = c.requires.bound.1 in
    next_past o op x r a k l c.in-15.is c.if-k-eq0.false

pub returns-in_default : goal.returns-in_default
returns-in_default c =
    let o = object_at c.args.e.now c.args.o.now in
    let op = c.args.operation in
    let x = c.args.x in
    let r = c.requires.placed.1 in
    let a = c.args.a in
    let k = c.args.k in
    let l = c.requires.bound.1 in
    next_else o op x r a k l (omega arith) (omega arith) (omega arith) (omega arith)
