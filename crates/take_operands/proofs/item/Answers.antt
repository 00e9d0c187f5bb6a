-- `take_operands::item` meets its contract. Assumes nothing.
use native.Mathlib.Omega.{arith}
use Rattle.take_instructions.proofs.One.{itself, grows}
use Rattle.take_operands.proofs.Items.{words_there, kind_low, load_as, item_constant, item_name, item_place, item_operation}
use Rattle.take_operands.proofs.item.Goals as goal

pub bounds-items-1 : goal.bounds-items-1
bounds-items-1 c =
    let h = words_there 1 c.requires.0.0 c.requires.0.1 c.in-1.is in
    omega (arith, h)

pub returns-in-1 : goal.returns-in-1
returns-in-1 c = (c.constant.ensures.0, item_constant c.in-1.is c.constant.ensures.1)

pub name_at-requires : goal.name_at-requires
name_at-requires c =
    let h = words_there 2 c.requires.0.0 c.requires.0.1 c.in-2.is in
    omega (arith, h)

pub returns-in-2 : goal.returns-in-2
returns-in-2 c = (c.load.ensures.0, item_name c.in-2.is (load_as c.name_at.ensures c.load.ensures.1))

pub element_at-requires : goal.element_at-requires
element_at-requires c =
    let h = words_there 4 c.requires.0.0 c.requires.0.1 c.in-4.is in
    omega (arith, h)

pub returns-in-4 : goal.returns-in-4
returns-in-4 c = (c.refer.ensures.0, item_place c.in-4.is c.element_at.ensures c.refer.ensures.1)

pub append-requires : goal.append-requires
append-requires c = (c.requires.1, kind_low c.requires.0.0 c.requires.0.1 c.low.ensures)

pub returns-in_default : goal.returns-in_default
returns-in_default c =
    (grows (itself c.args.n) c.requires.1 c.append.ensures, item_operation c.requires.1 (λ z. omega (arith, z)) (λ z. omega (arith, z)) (λ z. omega (arith, z)) c.low.ensures c.append.ensures)
