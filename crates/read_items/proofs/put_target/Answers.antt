-- `read_items::put_target` meets its contract. Assumes nothing.
use native.Mathlib.Omega.{arith}
use Rattle.read_items.proofs.Given.{cell_room, put_cell, element_room, put_element}
use Rattle.read_items.proofs.put_target.Goals as goal

pub put_named-requires : goal.put_named-requires
put_named-requires c = omega (arith, cell_room c.in-Cell.is, c.requires)

pub put_element-requires : goal.put_element-requires
put_element-requires c = omega (arith, element_room c.in-Element.is, c.requires)

pub returns-in-Cell : goal.returns-in-Cell
returns-in-Cell c = put_cell c.in-Cell.is c.put_named.ensures

pub returns-in-Element : goal.returns-in-Element
returns-in-Element c = put_element c.in-Element.is c.put_element.ensures
