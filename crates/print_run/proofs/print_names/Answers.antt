-- `print_run::print_names` meets its contract. Assumes nothing.
use native.Mathlib.Omega.{arith}
use Rattle.print_numbers.proofs.PutLaws.{puts_none, puts_as}
use Rattle.print_run.proofs.RanLaws.{names_inside, names_few, read_names, no_names}
use Rattle.print_run.proofs.print_names.Goals as goal

pub put_names-requires : goal.put_names-requires
put_names-requires c =
    let s = c.args.object.now in
    let so = c.args.store.now in
    let tidy = c.requires.0 in
    let e = c.in-Some.e in
    let opened = c.in-Some.ensures in
    (names_inside s so e opened tidy c.requires.1, omega (arith, names_few s e opened tidy, c.requires.2, c.requires.3))

pub returns-in-Some : goal.returns-in-Some
returns-in-Some c =
    let s = c.args.object.now in
    let so = c.args.store.now in
    let tidy = c.requires.0 in
    let e = c.in-Some.e in
    let opened = c.in-Some.ensures in
    (puts_as (read_names s e so opened) c.put_names.ensures.0, omega (arith, c.put_names.ensures.1, names_few s e opened tidy, c.requires.2))

pub returns-in-None : goal.returns-in-None
returns-in-None c =
    let s = c.args.object.now in
    let so = c.args.store.now in
    (puts_as (no_names s so c.in-None.ensures) (puts_none c.args.at c.args.out.now), omega (arith, c.requires.2))
