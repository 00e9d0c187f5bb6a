-- A state written by its parts.
-- Assumes nothing.
use mathlib.Core.List.{List}
use Prim.Native.Nat.{ℕ}
use lib.IntN.{ℤ}
use Rattle.rules_formats.specs.Walk.{Devices}
use Rattle.rules_object.specs.Machine.{State}

abbrev pub state : ℕ → List ℤ → List ℤ → ℕ → Devices → State
state i s c m d = record { index = i; stack = s; store = c; mark = m; devices = d }
