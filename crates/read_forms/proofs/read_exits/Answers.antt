-- `read_forms::read_exits` meets its contract. Assumes nothing.
use native.Mathlib.Omega.{arith}
use Rattle.read_tokens.proofs.Chains.{took, refused}
use Rattle.read_forms.proofs.Forms.{exits_first, exits_second, exits_third, exits_more, exits_read, number_fits}
use Rattle.read_forms.proofs.read_exits.Goals as goal

pub returns-in_err-below : goal.returns-in_err-below
returns-in_err-below c =
    let s = c.args.text.now in
    rw c.from_residual.ensures (exits_first s c.args.expression.at c.args.expression.value c.args.expression.sizes (refused c.read_number.ensures c.in_err-below.was))

pub read_next-requires : goal.read_next-requires
read_next-requires c =
    let t = took c.read_number.ensures c.in_ok-below.was in
    t.upto.within

pub returns-in_err-at : goal.returns-in_err-at
returns-in_err-at c =
    let s = c.args.text.now in
    let t = took c.read_number.ensures c.in_ok-below.was in
    rw c.from_residual-in_err-at.ensures (exits_second s c.args.expression.at c.args.expression.value c.args.expression.sizes t (refused c.read_next.ensures c.in_err-at.was))

pub read_next-requires-2 : goal.read_next-requires-2
read_next-requires-2 c =
    let u = took c.read_next.ensures c.in_ok-at.was in
    u.upto.within

pub returns-in_err-above : goal.returns-in_err-above
returns-in_err-above c =
    let s = c.args.text.now in
    let t = took c.read_number.ensures c.in_ok-below.was in
    let u = took c.read_next.ensures c.in_ok-at.was in
    rw c.from_residual-in_err-above.ensures (exits_third s c.args.expression.at c.args.expression.value c.args.expression.sizes t u (refused c.read_next-2.ensures c.in_err-above.was))

pub returns-then-above-text : goal.returns-then-above-text
returns-then-above-text c =
    let s = c.args.text.now in
    let t = took c.read_number.ensures c.in_ok-below.was in
    let u = took c.read_next.ensures c.in_ok-at.was in
    let v = took c.read_next-2.ensures c.in_ok-above.was in
    exits_more s c.args.expression.at c.args.expression.value c.args.expression.sizes t u v c.if-above-text.true

pub number_of-requires : goal.number_of-requires
number_of-requires c =
    let t = took c.read_number.ensures c.in_ok-below.was in
    number_fits t.tree t.value_is

pub number_of-requires-2 : goal.number_of-requires-2
number_of-requires-2 c =
    let u = took c.read_next.ensures c.in_ok-at.was in
    number_fits u.tree u.value_is

pub number_of-requires-3 : goal.number_of-requires-3
number_of-requires-3 c =
    let u = took c.read_next.ensures c.in_ok-at.was in
    let v = took c.read_next-2.ensures c.in_ok-above.was in
    omega (arith, number_fits u.tree u.value_is, number_fits v.tree v.value_is)

pub returns : goal.returns
returns c =
    let s = c.args.text.now in
    let t = took c.read_number.ensures c.in_ok-below.was in
    let u = took c.read_next.ensures c.in_ok-at.was in
    let v = took c.read_next-2.ensures c.in_ok-above.was in
    exits_read s c.args.expression.at c.args.expression.value c.args.expression.sizes t u v c.number_of.ensures c.number_of-2.ensures c.number_of-3.ensures c.if-above-text.false
