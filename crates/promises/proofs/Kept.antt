-- Every promise of the page, with its proof.
-- Assumes nothing.
use mathlib.Core.Path.{◌≡◌, refl, sym}
use Prim.Native.Nat.{ℕ}
use mathlib.Core.Bool.{Bool, true, false}
use mathlib.Core.List.{List}
use lib.Dec.{leb}
use lib.ListN.{length}
use Rattle.rules_shared.specs.House.{House}
use Rattle.rules_object.specs.Bytes.{object_bytes}
use Rattle.rules_shared.specs.Refusals.{accepted, no_room}
use Rattle.rules_shared.specs.Output.{not_written, written_if, write}
use Rattle.rules_formats.proofs.FieldLaws.{print_read_at}
use Rattle.rules_object.proofs.ObjectExamples.{p9, p10, p11, p12}
use Rattle.rules_object.proofs.CheckExactly.{check_exactly}
use Rattle.rules_object.proofs.Runnable.{runs_exactly, benches_exactly, fresh_runnable, leaves_runnable}
use Rattle.rules_object.proofs.Touches.{touches_only}
use Rattle.rules_object.proofs.Refusals.{run_keeps, bench_keeps, map_keeps, bench_only}
use Rattle.rules_object.proofs.RoundTrip.{reads_back, writes_back}
use Rattle.rules_deck.specs.Translation.{translate}
use Rattle.rules_deck.specs.Compile.{Read, not_read, read, deck_of, write_read, compiling}
use Rattle.rules_deck.proofs.Houses.{lawful1401}
use Rattle.rules_text.proofs.Spellings.{spell_read, own_text, read_exactly, one_spelled}
use Rattle.rules_deck.proofs.NoForm.{ten_exactly}
use Rattle.rules_deck.proofs.CompiledWritable.{compiled_writable}
use Rattle.rules_deck.proofs.Proved.{decks_right}
use Rattle.promises.specs.Promises.{Kept, RefusalKeeps, RoundTrip}
use Rattle.promises.proofs.Runs.{series_run}
use Rattle.promises.proofs.Made.{made, right}
use Rattle.promises.proofs.Machine.{goes_on_kept, steps_kept, heights_kept, no_fault_kept, tests_nothing_kept, cells_past_kept, bench_is_run_kept, checked_runs_kept, bench_starts_fresh_kept, places_kept}
use Rattle.promises.proofs.Program.{program_kept}
use Rattle.promises.proofs.Decks.{halts_kept, means_kept, goes_kept, never_kept, ends_kept, names_kept, passes_kept, above_kept}

compile_keeps : (house : House) (deck output : List ℕ) → ((compiling house deck output).refusal ≡ accepted → ⊥) → compiling house deck output ≡ not_written (compiling house deck output).refusal output
unfolding compiling write
compile_keeps house deck output = by (deck_of house deck)
  where
    wrote : (b : Bool) (bytes : List ℕ) → ((written_if no_room b bytes output).refusal ≡ accepted → ⊥) → written_if no_room b bytes output ≡ not_written (written_if no_room b bytes output).refusal output
    wrote true bytes f = absurd (f refl)
    wrote false bytes f = refl

    by : (r : Read) → ((write_read house output r).refusal ≡ accepted → ⊥) → write_read house output r ≡ not_written (write_read house output r).refusal output
    by (not_read r) f = refl
    by (read statements) f = wrote (leb (length (object_bytes (translate house statements))) (length output)) (object_bytes (translate house statements)) f

keeps : RefusalKeeps
keeps = (compile_keeps, run_keeps, bench_keeps, map_keeps)

round : RoundTrip
round = (reads_back, writes_back, λ house deck object c. let m = made c in (translate house m.statements, (compiled_writable (right m), sym m.bytes)))

pub kept : Kept
kept =
    record {
      house_lawful = lawful1401;
      halts_alike = halts_kept;
      means_alike = means_kept;
      goes_alike = goes_kept;
      never_halts = never_kept;
      ends_after_do = ends_kept;
      names_once = names_kept;
      checked_runs = checked_runs_kept;
      runs_exactly = runs_exactly;
      fresh_runnable = fresh_runnable;
      goes_on = goes_on_kept;
      series_is_run = series_run;
      never_refused = leaves_runnable;
      steps_true = steps_kept;
      check_exactly = check_exactly;
      heights_exactly = heights_kept;
      no_fault = no_fault_kept;
      tests_nothing = tests_nothing_kept;
      touches_listed = touches_only;
      cells_past = cells_past_kept;
      bench_is_run = bench_is_run_kept;
      bench_starts_fresh = bench_starts_fresh_kept;
      benches_exactly = benches_exactly;
      bench_refuses = bench_only;
      places_apart = places_kept;
      compiled_passes = passes_kept;
      never_above = above_kept;
      refusal_keeps = keeps;
      round_trip = round;
      read_exactly = read_exactly;
      read_back = (spell_read, own_text);
      no_two_forms = λ text f g p q. one_spelled p q;
      ten_exactly = ten_exactly;
      table = record { decks = decks_right; p9 = p9; p10 = p10; p11 = p11; p12 = p12 };
      program_prints = program_kept;
      printed_reads_back = λ rule v fits width h before after. print_read_at rule.ceiling before width v after h fits;
    }
