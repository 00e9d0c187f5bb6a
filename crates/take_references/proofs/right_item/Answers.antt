-- `take_references::right_item` meets its contract. Assumes nothing.
use mathlib.Core.Path.{ap}
use native.Mathlib.Omega.{arith}
use Rattle.take_name_table.specs.Find.{item_length}
use Rattle.take_name_table.proofs.Fronts.{front, front_long}
use Rattle.take_references.proofs.Rights.{right_element_lem}
use Rattle.take_references.proofs.right_item.Goals as goal

pub name_at-requires : goal.name_at-requires
name_at-requires c =
    let w = c.requires.0 in
    let long = front_long (front c.args.items.now w.items w.are c.requires.1) in
    let e = ap item_length c.in-2.is in
    omega (arith, long, e)

pub right_place-requires : goal.right_place-requires
right_place-requires c =
    let w = c.requires.0 in
    let long = front_long (front c.args.items.now w.items w.are c.requires.1) in
    let e = ap item_length c.in-4.is in
    omega (arith, long, e)

pub returns-in-4 : goal.returns-in-4
returns-in-4 c = right_element_lem _ _ _ _ c.in-4.is c.right_place.ensures
