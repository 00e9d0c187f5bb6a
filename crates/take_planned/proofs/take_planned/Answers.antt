-- `take_planned::take_planned` meets its contract. Assumes nothing.
use mathlib.Core.Path.{refl}
use native.Mathlib.Omega.{arith}
use Rattle.take_planned.proofs.Outcomes.{given_of, filled_of, entering, code_grows, jumping, statements_same, refused_15, refused_16, no_room_lem, too_many}
use Rattle.take_planned.proofs.Takes.{is_taken}
use Rattle.take_planned.proofs.take_planned.Goals as goal

pub returns-then-not-right_arrays : goal.returns-then-not-right_arrays
returns-then-not-right_arrays c =
    let ra = c.right_arrays.ensures in
    refused_15 c.args.number.0 _ ra (c.if-not-right_arrays.true)

pub returns-then-not-right_operands : goal.returns-then-not-right_operands
returns-then-not-right_operands c =
    let ra = c.right_arrays.ensures in
    let ea = c.if-not-right_arrays.false in
    let rb = c.right_operands.ensures in
    refused_16 c.args.number.0 _ ra ea rb (c.if-not-right_operands.true)

pub fill-requires : goal.fill-requires
fill-requires c =
    let h = c.requires in
    (h.readied, h.fit)

pub returns-in_default : goal.returns-in_default
returns-in_default c =
    let ra = c.right_arrays.ensures in
    let ea = c.if-not-right_arrays.false in
    let rb = c.right_operands.ensures in
    let eb = c.if-not-right_operands.false in
    let fills = c.fill.ensures.1 in
    no_room_lem c.args.number.0 _ ra ea rb eb fills c.in_default.is

pub enter_do-requires : goal.enter_do-requires
enter_do-requires c =
    let h = c.requires in
    let g = given_of h in
    let ra = c.right_arrays.ensures in
    let ea = c.if-not-right_arrays.false in
    let rb = c.right_operands.ensures in
    let eb = c.if-not-right_operands.false in
    let o = c.fill.ensures.0 in
    let fills = c.fill.ensures.1 in
    let w = filled_of g ra ea rb eb fills in
    entering h.draft g.plans w o c.in-Some.is h.fit h.few

pub returns-in_default-enter_do : goal.returns-in_default-enter_do
returns-in_default-enter_do c =
    let ra = c.right_arrays.ensures in
    let ea = c.if-not-right_arrays.false in
    let rb = c.right_operands.ensures in
    let eb = c.if-not-right_operands.false in
    let o = c.fill.ensures.0 in
    let fills = c.fill.ensures.1 in
    too_many c.args.number.0 _ ra ea rb eb fills c.in-Some.is o c.enter_do.ensures.0 c.in_default-enter_do.is

pub overflow_sub-words : goal.overflow_sub-words
overflow_sub-words c =
    let h = c.requires in
    let g = given_of h in
    let ra = c.right_arrays.ensures in
    let ea = c.if-not-right_arrays.false in
    let rb = c.right_operands.ensures in
    let eb = c.if-not-right_operands.false in
    let o = c.fill.ensures.0 in
    let fills = c.fill.ensures.1 in
    let w = filled_of g ra ea rb eb fills in
    code_grows g w c.in-Some.is o

pub mark-requires : goal.mark-requires
mark-requires c =
    let h = c.requires in
    let g = given_of h in
    let ra = c.right_arrays.ensures in
    let ea = c.if-not-right_arrays.false in
    let rb = c.right_operands.ensures in
    let eb = c.if-not-right_operands.false in
    let o = c.fill.ensures.0 in
    let fills = c.fill.ensures.1 in
    let w = filled_of g ra ea rb eb fills in
    let cd = c.enter_do.ensures.0 in
    let x = statements_same g w c.in-Some.is o cd c.in-Some-enter_do.is in
    rw (c.as_mut_slice.ensures.value, c.as_mut_slice-2.ensures.value)
    (jumping g w c.in-Some.is o cd c.in-Some-enter_do.is h.fit h.few h.room.jumps_long, (omega (arith, x, h.few, h.room.rows_long), omega (arith, x, h.few)))

pub returns : goal.returns
returns c =
    let h = c.requires in
    let ra = c.right_arrays.ensures in
    let ea = c.if-not-right_arrays.false in
    let rb = c.right_operands.ensures in
    let eb = c.if-not-right_operands.false in
    let o = c.fill.ensures.0 in
    let fills = c.fill.ensures.1 in
    let marks = rw (c.as_mut_slice.ensures.value, c.as_mut_slice-2.ensures.value) at c.mark.ensures in
    is_taken ra ea rb eb o fills c.in-Some.is c.enter_do.ensures.0 c.enter_do.ensures.1 c.in-Some-enter_do.is refl marks h.fit h.few
