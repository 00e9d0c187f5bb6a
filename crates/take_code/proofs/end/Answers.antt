-- `take_code::end` meets its contract. Assumes nothing.
use Rattle.take_code.proofs.Ends.{does_as, grows_as, ends_store, ends_jump, ends_three, ends_enter, ends_stop, ends_end}
use Rattle.take_code.proofs.Then.{does_nothing, grows_same, ends_nothing}
use Rattle.take_code.proofs.end.Goals as goal

pub returns-in-Assignment : goal.returns-in-Assignment
returns-in-Assignment c =
    let p = c.args.p in
    (grows_as p (does_as p _ c.in-Assignment.is) c.store.ensures.0, ends_store c.in-Assignment.is c.store.ensures.1)

pub returns-in-GoTo : goal.returns-in-GoTo
returns-in-GoTo c =
    let p = c.args.p in
    (grows_as p (does_as p _ c.in-GoTo.is) c.jump.ensures.0, ends_jump c.in-GoTo.is c.jump.ensures.1)

pub returns-in-Computed : goal.returns-in-Computed
returns-in-Computed c =
    let p = c.args.p in
    (grows_as p (does_as p _ c.in-Computed.is) c.choose_exit.ensures.0, c.choose_exit.ensures.1 _)

pub returns-in-If : goal.returns-in-If
returns-in-If c =
    let p = c.args.p in
    (grows_as p (does_as p _ c.in-If.is) c.three.ensures.0, ends_three c.in-If.is c.three.ensures.1)

pub returns-in-Do : goal.returns-in-Do
returns-in-Do c =
    let p = c.args.p in
    (grows_as p (does_as p _ c.in-Do.is) c.enter.ensures.0, ends_enter c.in-Do.is c.enter.ensures.1)

pub returns-in-Stop : goal.returns-in-Stop
returns-in-Stop c =
    let p = c.args.p in
    (grows_as p (does_as p _ c.in-Stop.is) c.halt.ensures.0, ends_stop c.in-Stop.is c.halt.ensures.1)

pub returns-in-End : goal.returns-in-End
returns-in-End c =
    let p = c.args.p in
    (grows_as p (does_as p _ c.in-End.is) c.halt-in-End.ensures.0, ends_end c.in-End.is c.halt-in-End.ensures.1)

pub returns-in-Continue : goal.returns-in-Continue
returns-in-Continue c =
    let p = c.args.p in
    let h = c.requires in
    (grows_as p (does_nothing p c.in-Continue.is) (grows_same _ h), ends_nothing h c.in-Continue.is)
