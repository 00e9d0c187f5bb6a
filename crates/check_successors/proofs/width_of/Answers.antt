-- `check_successors::width_of` meets its contract. Assumes nothing.
use mathlib.Core.Path.{◌∙◌}
use native.Mathlib.Omega.{arith}
use Rattle.object_contents.specs.Layout.{object_at}
use Rattle.check_successors.proofs.Operations.{count_fits, width_none, width_three, width_count, width_two, width_else}
use Rattle.object_contents.proofs.Entries.{exit_length}
use Rattle.check_successors.proofs.width_of.Goals as goal

pub exit_at-requires : goal.exit_at-requires
exit_at-requires c =
    let o = object_at c.args.e.now c.args.o.now in
    let op = c.args.operation in
    let x = c.args.x in
    let r = c.requires.1 in
    (c.requires.0, omega (arith, count_fits o op x r c.in-13.is, exit_length c.args.e.now c.args.o.now))

pub returns-in-0 : goal.returns-in-0
returns-in-0 c =
    let o = object_at c.args.e.now c.args.o.now in
    let op = c.args.operation in
    let x = c.args.x in
    let r = c.requires.1 in
    width_none o op x r c.in-0.is

pub returns-in-12 : goal.returns-in-12
returns-in-12 c =
    let o = object_at c.args.e.now c.args.o.now in
    let op = c.args.operation in
    let x = c.args.x in
    let r = c.requires.1 in
    width_three o op x r c.in-12.is

pub returns-in-13 : goal.returns-in-13
returns-in-13 c =
    let o = object_at c.args.e.now c.args.o.now in
    let op = c.args.operation in
    let x = c.args.x in
    let r = c.requires.1 in
    λ a. c.exit_at.ensures ∙ width_count o op x r c.in-13.is a

pub returns-in-15 : goal.returns-in-15
returns-in-15 c =
    let o = object_at c.args.e.now c.args.o.now in
    let op = c.args.operation in
    let x = c.args.x in
    let r = c.requires.1 in
    width_two o op x r c.in-15.is

pub returns-in_default : goal.returns-in_default
returns-in_default c =
    let o = object_at c.args.e.now c.args.o.now in
    let op = c.args.operation in
    let x = c.args.x in
    let r = c.requires.1 in
    width_else o op x r (omega arith) (omega arith) (omega arith) (omega arith)
