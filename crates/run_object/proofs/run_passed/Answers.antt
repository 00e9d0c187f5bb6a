-- `run_object::run_passed` meets its contract. Assumes nothing.
use mathlib.Core.Path.{◌≡◌}
use native.Mathlib.Omega.{arith}
use lib.ListN.{length}
use Rattle.run_registers.specs.Devices.{trays_of}
use Rattle.run_object.proofs.Runs.{made, run_refused, height_low, run_held, no_fault, run_back, run_ends, few_words}
use Rattle.run_object.proofs.run_passed.Goals as goal

pub lent_wrong-judged-requires : goal.lent_wrong-judged-requires
lent_wrong-judged-requires c = (few_words c.args.o.now _ _ c.requires.1, omega arith)

pub returns-in-Err : goal.returns-in-Err
returns-in-Err c =
    let a = c.args in
    let o = a.o.now in
    made c.not_run.ensures (run_refused o o.bytes.now a.table.now a.store.now a.index.now a.height.now a.mark.now a.places.now (trays_of a.cards.now a.lines.now) a.allowance _ (c.in-Err.ensures o.bytes.now o.ruled))

pub clear-requires : goal.clear-requires
clear-requires c =
    let a = c.args in
    let o = a.o.now in
    let forty : length a.places.now ≡ 40 = omega arith in
    (height_low o _ a.table.now a.store.now a.index.now a.height.now a.mark.now a.places.now (trays_of a.cards.now a.lines.now) a.allowance c.requires.1 forty (c.in_default.ensures o.bytes.now o.ruled), forty)

pub run-q-requires : goal.run-q-requires
run-q-requires c =
    let a = c.args in
    let o = a.o.now in
    let forty : length a.places.now ≡ 40 = omega arith in
    record {
      held = run_held o _ a.table.now a.store.now a.index.now a.height.now a.mark.now a.places.now (trays_of a.cards.now a.lines.now) a.allowance c.requires.1 forty (c.in_default.ensures o.bytes.now o.ruled) _ c.clear.ensures;
      faultless = no_fault o _ a.table.now a.store.now a.index.now a.height.now a.mark.now a.places.now (trays_of a.cards.now a.lines.now) a.allowance c.requires.1 forty (c.in_default.ensures o.bytes.now o.ruled) _ c.clear.ensures;
    }

pub finish-requires : goal.finish-requires
finish-requires c =
    let a = c.args in
    let o = a.o.now in
    let forty : length a.places.now ≡ 40 = omega arith in
    run_back o _ a.table.now a.store.now a.index.now a.height.now a.mark.now a.places.now (trays_of a.cards.now a.lines.now) a.allowance c.requires.1 forty (c.in_default.ensures o.bytes.now o.ruled) _ c.clear.ensures c.run-q.result _ _ _ c.run-q.ensures

pub returns : goal.returns
returns c =
    let a = c.args in
    let o = a.o.now in
    let forty : length a.places.now ≡ 40 = omega arith in
    run_ends o _ a.table.now a.store.now a.index.now a.height.now a.mark.now a.places.now (trays_of a.cards.now a.lines.now) a.allowance c.requires.1 forty (c.in_default.ensures o.bytes.now o.ruled) _ c.clear.ensures _ _ _ _ c.run-q.ensures _ _ (c.finish.ensures _ _ _)
