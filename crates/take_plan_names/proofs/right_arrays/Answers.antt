-- `take_plan_names::right_arrays` meets its contract. Assumes nothing.
use mathlib.Core.Path.{sym}
use Prim.Native.Nat.{◌*◌}
use native.Mathlib.Omega.{arith}
use Rattle.take_plan_names.proofs.Operands.{no_arrays, some_arrays, arrays_room, part_long}
use Rattle.take_plan_names.proofs.right_arrays.Goals as goal

pub overflow_mul-p : goal.overflow_mul-p
overflow_mul-p c =
    let room = arrays_room c.requires c.in-Dimension.is in
    omega (arith, room, c.well_formed)

pub slice_bounds-arrays_right-end : goal.slice_bounds-arrays_right-end
slice_bounds-arrays_right-end c = sym (part_long _ _ (arrays_room c.requires c.in-Dimension.is))

pub arrays_right-requires : goal.arrays_right-requires
arrays_right-requires c =
    let long = part_long c.args.items.now (7 * c.args.p.listed) (arrays_room c.requires c.in-Dimension.is) in
    omega (arith, long)

pub returns-in-Dimension : goal.returns-in-Dimension
returns-in-Dimension c = some_arrays c.in-Dimension.is c.arrays_right.ensures

pub returns-in_default : goal.returns-in_default
returns-in_default c = no_arrays c.in_default.not-Dimension
