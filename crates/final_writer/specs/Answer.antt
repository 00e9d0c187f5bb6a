-- The writer's answer, with the output at its end, as the book's.
-- Assumes nothing.
use Rattle.std.specs.Prelude.{ℕ, ◌^◌, ◌<◌, List, Result, Ok, Err}
use Rattle.rules_shared.specs.Refusals.{refusal, accepted}
use Rattle.rules_shared.specs.Output.{Written, not_written}
use Rattle.refusals.specs.declared.Reason.{Reason}
use Rattle.refusals.specs.Numbers.{number_of}

abbrev pub answer : Result ℕ Reason → List ℕ → Written
answer (Ok n) o = record { refusal = accepted; length = n; output = o }
answer (Err r) o = not_written (refusal (number_of r) 0 0) o

-- the length is a word
abbrev pub Low : Result ℕ Reason → Type 0
Low (Ok n) = n < 2 ^ 32
Low (Err r) = Unit {0}
