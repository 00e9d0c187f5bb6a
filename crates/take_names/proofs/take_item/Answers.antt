-- `take_names::take_item` meets its contract. Assumes nothing.
use mathlib.Core.Path.{ap}
use native.Mathlib.Omega.{arith}
use Rattle.take_name_table.specs.Find.{item_length}
use Rattle.take_name_table.proofs.Fronts.{front, front_long}
use Rattle.take_names.proofs.Takes.{name_as, any_as, takes_plain, takes_full, takes_both}
use Rattle.take_names.proofs.take_item.Goals as goal

pub name_at-requires : goal.name_at-requires
name_at-requires c =
    let w = c.requires.0 in
    let long = front_long (front c.args.items.now w.items w.are c.requires.1) in
    let e = ap item_length c.in-2.is in
    omega (arith, long, e)

pub name_at-requires-in-4 : goal.name_at-requires-in-4
name_at-requires-in-4 c =
    let w = c.requires.0 in
    let long = front_long (front c.args.items.now w.items w.are c.requires.1) in
    let e = ap item_length c.in-4.is in
    omega (arith, long, e)

pub name_at-requires-in-4-2 : goal.name_at-requires-in-4-2
name_at-requires-in-4-2 c =
    let w = c.requires.0 in
    let long = front_long (front c.args.items.now w.items w.are c.requires.1) in
    let e = ap item_length c.in-4.is in
    omega (arith, long, e)

pub returns-in-2 : goal.returns-in-2
returns-in-2 c =
    let a = c.args in
    takes_plain a.items.now a.table.now a.n _ c.take_name.result c.in-2.is (name_as a.table.now _ a.n c.take_name.result c.name_at.ensures c.take_name.ensures)

pub returns-in_err-m-in-4 : goal.returns-in_err-m-in-4
returns-in_err-m-in-4 c =
    let a = c.args in
    takes_full a.items.now a.table.now a.n _ _ c.in-4.is (any_as c.name_at-in-4.ensures c.in_err-m-in-4.ensures) c.from_residual.ensures

pub returns-in_ok-m-in-4 : goal.returns-in_ok-m-in-4
returns-in_ok-m-in-4 c =
    let a = c.args in
    takes_both a.items.now a.table.now a.n _ _ _ _ c.in-4.is (any_as c.name_at-in-4.ensures c.in_ok-m-in-4.ensures) (any_as c.name_at-in-4-2.ensures c.take_any-in-4.ensures)
