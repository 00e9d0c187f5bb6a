-- The promises about objects and runs, 3 to 6, each from its theorem in `rules_object`.
-- Assumes nothing.
use mathlib.Core.Path.{◌≡◌, ap}
use native.Mathlib.Omega.{arith}
use Rattle.rules_formats.specs.Walk.{devices_of}
use Rattle.rules_object.specs.Operations.{flow_of}
use Rattle.rules_shared.specs.Refusals.{Refusal, accepted}
use Rattle.rules_object.specs.Safe.{fresh_lent}
use Rattle.rules_object.proofs.HeightsExact.{table_iff_agree, height_at_reached}
use Rattle.rules_object.proofs.CheckExactly.{accepted_iff, refused_iff}
use Rattle.rules_object.proofs.Runnable.{runs_exactly, fresh_runnable}
use Rattle.rules_object.proofs.GoesOn.{goes_on}
use Rattle.rules_object.proofs.Steps.{run_steps, bench_steps_of}
use Rattle.rules_object.proofs.NoFault.{runnable_no_fault}
use Rattle.rules_object.proofs.BenchRuns.{run_no_fault, bench_is_running, bench_lent, bench_refusal_lent}
use Rattle.rules_object.proofs.MoreCells.{past_cells}
use Rattle.rules_shared.proofs.Places.{placed, place_some, place_below, place_apart}
use Rattle.promises.specs.Promises.{CheckedRuns, GoesOn, StepsTrue, HeightsExactly, NoFault, TestsNothing, CellsPast, BenchIsRun, BenchStartsFresh, PlacesApart}

-- an acceptance's number is 0
zero_of : {r : Refusal} → r ≡ accepted → r.number ≡ 0
zero_of e = ap (λ x. x.number) e

-- ---- 3, 4

pub checked_runs_kept : CheckedRuns
checked_runs_kept object store e right trays a = let r = fresh_runnable object store e right in (runs_exactly object store fresh_lent r.forty trays a).1 r

pub goes_on_kept : GoesOn
goes_on_kept object store l r trays a b two = goes_on object store l trays r.forty a (zero_of ((runs_exactly object store l r.forty trays a).1 r)) two b

pub steps_kept : StepsTrue
steps_kept object store l trays a = (run_steps object store l trays a, bench_steps_of object store l trays a)

-- ---- 5

pub heights_kept : HeightsExactly
heights_kept object o j =
    record { table = accepted_iff j; paths = table_iff_agree (flow_of o); refused = refused_iff j; heights = λ H e a h. height_at_reached (flow_of o) H e a h }

-- ---- 6

pub no_fault_kept : NoFault
no_fault_kept object store l r o e trays = (runnable_no_fault object store l r (devices_of trays) o e).right

pub tests_nothing_kept : TestsNothing
tests_nothing_kept object store l r o e trays n = ((runnable_no_fault object store l r (devices_of trays) o e).guarded n, run_no_fault object store l trays n r.forty)

pub cells_past_kept : CellsPast
cells_past_kept object store extra l r trays a =
    past_cells object store extra l trays a r.forty (λ q. let z = zero_of ((runs_exactly object store l r.forty trays a).1 r) in omega arith)

pub bench_is_run_kept : BenchIsRun
bench_is_run_kept object e store trays a = bench_is_running object (zero_of e) store trays a

pub bench_starts_fresh_kept : BenchStartsFresh
bench_starts_fresh_kept object store l trays a = (bench_refusal_lent object store l fresh_lent trays a, λ e. bench_lent object store l fresh_lent trays a (zero_of e))

pub places_kept : PlacesApart
places_kept rows columns =
    record {
      each = place_some rows columns;
      below = place_below rows columns;
      apart = place_apart rows columns;
      only = λ s t p e. let x = placed rows columns s t p e in (x.row, x.column, x.first, x.in_rows, x.second, x.in_columns);
    }
