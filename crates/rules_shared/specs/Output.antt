-- Bytes written to a lent output: refused by the given number if it is too short; bytes past them stay.
-- Assumes nothing.
use Rattle.std.specs.Prelude.{ℕ, Bool, true, false, List, ◌++◌, leb, length, drop}
use Rattle.rules_shared.specs.Refusals.{Refusal, refusal, accepted}

pub record Written : Type 0 where
  pub refusal : Refusal
  pub length : ℕ
  pub output : List ℕ

abbrev pub not_written : Refusal → List ℕ → Written
not_written r output = record { refusal = r; length = 0; output = output }

abbrev pub written_if : ℕ → Bool → List ℕ → List ℕ → Written
written_if number true bytes output = record { refusal = accepted; length = length bytes; output = bytes ++ drop (length bytes) output }
written_if number false bytes output = not_written (refusal number 0 0) output

unfoldable pub write : ℕ → List ℕ → List ℕ → Written
write number bytes output = written_if number (leb (length bytes) (length output)) bytes output
