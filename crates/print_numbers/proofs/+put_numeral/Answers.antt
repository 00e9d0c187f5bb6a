use mathlib.Core.Path.{refl}
use native.Mathlib.Omega.{arith}
use Rattle.print_numbers.proofs.PutLaws.{room_one, puts_one, room_before, room_last, puts_last}
use Rattle.print_numbers.proofs.+put_numeral.Goals as goal

pub bounds-out-at : goal.bounds-out-at
bounds-out-at t c =
    room_one c.args.n c.if-n-lt10.true c.requires

pub returns-then-n-lt10 : goal.returns-then-n-lt10
returns-then-n-lt10 t c =
    puts_one c.args.n _ c.if-n-lt10.true refl

pub put_numeral-end-requires : goal.put_numeral-end-requires
put_numeral-end-requires t c =
    (omega (arith, c.if-n-lt10.false), room_before c.args.n c.if-n-lt10.false c.requires)

pub bounds-out-end : goal.bounds-out-end
bounds-out-end t c =
    room_last c.args.n c.if-n-lt10.false c.requires c.put_numeral-end.ensures

pub overflow_add-result-2 : goal.overflow_add-result-2
overflow_add-result-2 t c =
    let m = room_last c.args.n c.if-n-lt10.false c.requires c.put_numeral-end.ensures in
    omega (arith, m)

pub returns : goal.returns
returns t c =
    puts_last c.args.n _ c.if-n-lt10.false c.put_numeral-end.ensures refl
