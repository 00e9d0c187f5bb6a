-- `print_run::run_and_print` meets its contract. Assumes nothing.
use mathlib.Core.Path.{◌∙◌}
use Rattle.print_numbers.proofs.PutLaws.{puts_as}
use Rattle.print_run.proofs.RanLaws.{run_prints, zero_long}
use Rattle.print_run.proofs.run_and_print.Goals as goal

pub print_ran-requires : goal.print_ran-requires
print_ran-requires c =
    let so = c.args.store.now in
    let ps = c.args.places.now in
    let z = c.requires.1 in
    (c.requires.0, (c.run-ran.auto.store ∙ zero_long so ps z), c.requires.2)

pub returns : goal.returns
returns c =
    let s = c.args.object.now in
    let so = c.args.store.now in
    let ps = c.args.places.now in
    let z = c.requires.1 in
    (puts_as (run_prints s _ _ so ps _ _ c.run-ran.auto.lines z c.run-ran.ensures) c.print_ran.ensures.0, c.print_ran.ensures.1)
