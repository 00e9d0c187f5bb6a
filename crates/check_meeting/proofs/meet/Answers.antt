-- `check_heights::meet` meets its contract. Assumes nothing.
use native.Mathlib.Omega.{arith}
use Rattle.rules_object.proofs.Fills.{nevers_some, past, over, clash, same, new}
use Rattle.check_meeting.specs.Meeting.{Goes}
use Rattle.check_meeting.proofs.meet.Goals as goal

pub returns-then-n-t : goal.returns-then-n-t
unfolding Goes
returns-then-n-t c =
    let H = c.args.table.now in
    let W = c.args.work.now in
    let top = c.args.top in
    let t = c.args.t in
    let v = c.args.h in
    record { goes = λ F a k en et ev kw vis. past F H W top a k t v et ev kw vis (omega (arith, c.if-n-t.true)) }

pub returns-then-h-gt-STACK : goal.returns-then-h-gt-STACK
unfolding Goes
returns-then-h-gt-STACK c =
    let H = c.args.table.now in
    let W = c.args.work.now in
    let top = c.args.top in
    let t = c.args.t in
    let v = c.args.h in
    record { goes = λ F a k en et ev kw vis. over F H W top a k t v et ev kw vis (omega (arith, c.if-h-gt-STACK.true)) }

pub offset_bounds-work-top : goal.offset_bounds-work-top
offset_bounds-work-top c =
    let H = c.args.table.now in
    let t = c.args.t in
    omega (arith, nevers_some H t (omega (arith, c.requires.1.0, c.if-n-t.false)) c.if-g.true, c.requires.1.1)

pub bounds-work-top : goal.bounds-work-top
bounds-work-top c =
    let H = c.args.table.now in
    let t = c.args.t in
    omega (arith, nevers_some H t (omega (arith, c.requires.1.0, c.if-n-t.false)) c.if-g.true, c.requires.1.1)

pub overflow_add-result : goal.overflow_add-result
overflow_add-result c =
    let H = c.args.table.now in
    let t = c.args.t in
    omega (arith, nevers_some H t (omega (arith, c.requires.1.0, c.if-n-t.false)) c.if-g.true, c.requires.1.1)

pub returns-then-g : goal.returns-then-g
unfolding Goes
returns-then-g c =
    let H = c.args.table.now in
    let W = c.args.work.now in
    let top = c.args.top in
    let t = c.args.t in
    let v = c.args.h in
    record { goes = λ F a k en et ev kw vis. new F H W top a k t v et ev kw vis (omega (arith, c.if-n-t.false)) c.if-g.true (omega (arith, c.if-h-gt-STACK.false)) }

pub returns-then-g-h : goal.returns-then-g-h
unfolding Goes
returns-then-g-h c =
    let H = c.args.table.now in
    let W = c.args.work.now in
    let top = c.args.top in
    let t = c.args.t in
    let v = c.args.h in
    record { goes = λ F a k en et ev kw vis. same F H W top a k t v et ev kw vis (omega (arith, c.if-n-t.false)) c.if-g.false c.if-g-h.true }

pub returns-else-g-h : goal.returns-else-g-h
unfolding Goes
returns-else-g-h c =
    let H = c.args.table.now in
    let W = c.args.work.now in
    let top = c.args.top in
    let t = c.args.t in
    let v = c.args.h in
    record { goes = λ F a k en et ev kw vis. clash F H W top a k t v et ev kw vis (omega (arith, c.if-n-t.false)) c.if-g.false c.if-g-h.false }
