-- A refusal: its number, place and kind; and which of two comes first. 01 "Refusal numbers".
-- Assumes nothing.
use Rattle.std.specs.Prelude.{ℕ, Bool, true, false}
use Rattle.std.proofs.Math.Option.{Option, none, some}

pub record Refusal : Type 0 where
  pub number : ℕ
  pub place : ℕ
  pub kind : ℕ

abbrev pub refusal : ℕ → ℕ → ℕ → Refusal
refusal n p k = record { number = n; place = p; kind = k }

abbrev pub accepted : Refusal
accepted = refusal 0 0 0

-- the lent output is too short
abbrev pub no_room : ℕ
no_room = 30

abbrev pub at_entry : ℕ → ℕ → Option ℕ → Option Refusal
at_entry number kind none = none
at_entry number kind (some entry) = some (refusal number entry kind)

abbrev pub or_else : {A : Type 0} → Option A → Option A → Option A
or_else none b = b
or_else (some a) b = some a

abbrev pub unless : Bool → ℕ → Option Refusal
unless true number = none
unless false number = some (refusal number 0 0)
