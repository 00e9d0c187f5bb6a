-- What a caller is told of a deck that is compiled and run with a zero store, no cards and no lines for 1,000,000 steps, and what its meaning comes to. Examples are said in these words.
-- Assumes nothing.
use Rattle.std.specs.Prelude.{ℕ, Bool, true, false, List, [], map, eqb, replicate, ℤ, pos}
use Rattle.std.proofs.Math.Option.{Option, none, some}
use Rattle.rules_shared.specs.House.{House}
use Rattle.rules_shared.specs.Runs.{Outcome, go, halt}
use Rattle.rules_formats.specs.Walk.{no_trays}
use Rattle.rules_object.specs.Halts.{halt_number}
use Rattle.rules_object.specs.Object.{Object}
use Rattle.rules_object.specs.Bytes.{read_object}
use Rattle.rules_shared.specs.Refusals.{Refusal}
use Rattle.rules_shared.specs.Output.{Written}
use Rattle.rules_object.specs.Calls.{Ran, running}
use Rattle.rules_object.specs.Safe.{fresh_lent}
use Rattle.rules_deck.specs.Meaning.{Cause, Key, Standing}
use Rattle.rules_deck.specs.Compile.{compiling}
use Rattle.rules_deck.specs.Seen.{meaning_of, halt_of, object_in, named_values}

pub data Answer : Type 0 where
  refused : ℕ → ℕ → Answer
  -- halt, steps, the sequence number of the first drop, and some values
  ran : ℕ → ℕ → ℕ → List ℤ → Answer

abbrev pub zero_store : Option Object → List ℤ
zero_store none = []
zero_store (some o) = replicate o.cells (pos 0)

abbrev pub told : List ℕ → List Key → Ran → Answer
told object keys r = ran r.halt r.steps r.sequence (map (named_values object r.store) keys)

abbrev pub run_object : List ℕ → List Key → Answer
run_object object keys = told object keys (running object (zero_store (read_object object)) fresh_lent no_trays 1000000)

abbrev pub run_written : Written → List Key → Bool → Answer
run_written w keys true = run_object (object_in w) keys
run_written w keys false = refused w.refusal.number w.refusal.place

-- a house, a deck, the room for its object, and the names whose values are asked
unfoldable pub answered : House → List ℕ → ℕ → List Key → Answer
answered house deck room keys = run_written (compiling house deck (replicate room 0)) keys (eqb (compiling house deck (replicate room 0)).refusal.number 0)

-- the meaning from zero values: halt, first loss and values, it has no steps; of a deck that has none the refusal
abbrev pub told_meaning : List Key → Refusal → Option (Outcome Cause Standing) → Answer
told_meaning keys r none = refused r.number r.place
told_meaning keys r (some (go m)) = ran 2 0 m.lost (map m.values keys)
told_meaning keys r (some (halt h m)) = ran (halt_number (halt_of h)) 0 m.lost (map m.values keys)

unfoldable pub meant : House → List ℕ → List Key → Answer
meant house deck keys = told_meaning keys (compiling house deck []).refusal (meaning_of house deck (λ x. pos 0) 1000)
