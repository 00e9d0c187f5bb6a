-- What check and map answer and leave, in the book's words.
-- Assumes nothing.
use Rattle.std.specs.Prelude.{◌≡◌, List, ℕ, Result, Ok, Err}
use Rattle.refusals.specs.Numbers.{number_of}
use Rattle.refusals.specs.declared.Refusal as own
use Rattle.rules_shared.specs.Refusals.{refusal, no_room}
use Rattle.rules_shared.specs.Output.{write}
use Rattle.rules_object.specs.Calls.{checking, mapping}
use Rattle.rules_shared.specs.Output as output
use Rattle.check_verdicts.specs.declared.Refusal.{Refusal}
use Rattle.check_verdicts.specs.declared.Written.{Written}

-- a verdict, and what writing came to, as C has them
abbrev pub told : {A : Type 0} → Result A own.Refusal → Refusal
told (Ok a) = record { number = 0; place = 0; kind = 0 }
told (Err r) = record { number = number_of r.reason; place = r.place; kind = r.kind }

abbrev pub told_written : Result ℕ own.Refusal → Written
told_written (Ok n) = record { number = 0; place = 0; kind = 0; length = n }
told_written (Err r) = record { number = number_of r.reason; place = r.place; kind = r.kind; length = 0 }

pub record Checks (bytes : List ℕ) (r : Refusal) : Type 0 where
  pub is : checking bytes ≡ refusal r.number r.place r.kind

-- with the output as it is left
abbrev pub written_of : Written → List ℕ → output.Written
written_of r output = record { refusal = refusal r.number r.place r.kind; length = r.length; output = output }

pub record Writes (bytes output output' : List ℕ) (r : Written) : Type 0 where
  pub is : write no_room bytes output ≡ written_of r output'

pub record Maps (bytes output output' : List ℕ) (r : Written) : Type 0 where
  pub is : mapping bytes output ≡ written_of r output'
