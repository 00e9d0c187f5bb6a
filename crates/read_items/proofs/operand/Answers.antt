-- `read_items::operand` meets its contract. Assumes nothing.
use native.Mathlib.Omega.{arith}
use Rattle.read_tokens.proofs.Chains.{took, refused}
use Rattle.read_items.proofs.Given.{number_room, place_room, operand_number, place_refused, place_read}
use Rattle.read_items.proofs.operand.Goals as goal

pub put_two-requires : goal.put_two-requires
put_two-requires c =
    let k = took c.read_number.ensures c.in-Some.is in
    omega (arith, number_room k, k.upto.within, c.requires)

pub returns-in-Some : goal.returns-in-Some
returns-in-Some c = operand_number (took c.read_number.ensures c.in-Some.is) c.put_two.ensures

pub returns-in_err-place : goal.returns-in_err-place
returns-in_err-place c =
    rw c.from_residual.ensures (place_refused (refused c.read_number.ensures c.in_default.is) (refused c.read_place.ensures c.in_err-place.was))

pub put_target-requires : goal.put_target-requires
put_target-requires c =
    let k = took c.read_place.ensures c.in_ok-place.was in
    omega (arith, place_room k, k.upto.within, c.requires)

pub returns : goal.returns
returns c = place_read (refused c.read_number.ensures c.in_default.is) (took c.read_place.ensures c.in_ok-place.was) c.put_target.ensures
