-- What compile answers and leaves, in the book's words; for the other calls `verdicts` and `runs` say it.
-- Assumes nothing.
use Rattle.std.specs.Prelude.{◌≡◌, List, ℕ}
use Rattle.rules_shared.specs.House.{house1401}
use Rattle.rules_deck.specs.Compile.{compiling}
use Rattle.check_verdicts.specs.declared.Written.{Written}
use Rattle.check_verdicts.specs.Outcomes.{written_of}

pub record Compiles (k : ℕ) (deck output output' : List ℕ) (r : Written) : Type 0 where
  pub is : compiling (house1401 k) deck output ≡ written_of r output'
