-- What is lent for a run, and what its tests and its clearing do, in the book's words.
-- Assumes nothing.
use Rattle.std.specs.Prelude.{◌≡◌, List, ℕ, ◌≤◌, ◌<◌, length, ℤ, pos, Result, Ok, Err}
use Rattle.std.proofs.Math.Option.{Option, none, some}
use Rattle.refusals.specs.declared.Reason.{Reason}
use Rattle.refusals.specs.Numbers.{number_of}
use Rattle.rules_object.specs.Object.{Object}
use Rattle.rules_object.specs.Machine.{cell}
use Rattle.rules_shared.specs.Refusals.{Refusal, refusal, or_else, unless}
use Rattle.rules_object.specs.Calls.{Lent, right50, right51}

abbrev pub lent : ℕ → ℕ → ℕ → List ℤ → Lent
lent i h m places = record { index = i; height = h; mark = m; places = places }

-- refused for a reason, without a place
abbrev pub refused_by : Result Unit Reason → Option Refusal
refused_by (Ok u) = none
refused_by (Err r) = some (refusal (number_of r) 0 0)

-- 50 and 51
unfoldable pub refused_store : Object → List ℤ → Option Refusal
refused_store o store = or_else (unless (right50 o store) 50) (unless (right51 o store) 51)

-- the forty places from h on made 0
pub record Cleared (a b : List ℤ) (h : ℕ) : Type 0 where
  pub long : length b ≡ length a
  pub below : (i : ℕ) → i < h → cell b i ≡ cell a i
  pub zeros : (i : ℕ) → h ≤ i → i < 40 → cell b i ≡ pos 0
