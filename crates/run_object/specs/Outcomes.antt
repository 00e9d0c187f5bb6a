-- What run and bench answer and leave, in the book's words.
-- Assumes nothing.
use Rattle.std.specs.Prelude.{◌≡◌, List, ℕ, ℤ}
use Rattle.rules_shared.specs.Refusals.{refusal}
use Rattle.rules_object.specs.Calls.{Lent}
use Rattle.rules_object.specs.Calls as book
use Rattle.run_object.specs.declared.Ran.{Ran}

-- with the state, the store and the lines as they are left
abbrev pub ran_of : Ran → Lent → List ℤ → List ℕ → book.Ran
ran_of r l store lines =
    record {
      refusal = refusal r.number r.place r.kind;
      halt = r.halt;
      steps = r.steps;
      sequence = r.sequence;
      lent = l;
      store = store;
      cards_taken = r.cards;
      lines_written = r.lines;
      lines = lines;
    }

-- the outcome is the one that is asked
pub record Ends (all : book.Ran) (r : Ran) (l : Lent) (store : List ℤ) (lines : List ℕ) : Type 0 where
  pub is : all ≡ ran_of r l store lines

abbrev pub refused_ran : ℕ → ℕ → ℕ → Ran
refused_ran n p k = record { number = n; place = p; kind = k; halt = 0; steps = 0; sequence = 0; cards = 0; lines = 0 }
