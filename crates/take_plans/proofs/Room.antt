-- The room that a plan's words take.
-- Assumes nothing.
use Prim.Native.Nat.{◌≤◌}
use native.Mathlib.Omega.{arith}
use lib.ListN.{length}
use Rattle.read_elements.specs.declared.Target.{Target}
use Rattle.read_elements.specs.declared.Target.TheVariants.{Cell, Element}
use Rattle.read_items.specs.Items.{target_words}
use Rattle.read_forms.specs.declared.Parameter.{Parameter}
use Rattle.read_forms.specs.declared.Parameter.TheVariants.{Constant, Variable}
use Rattle.take_draft.specs.Parts.{parameter_words}

pub parameter_room : (p : Parameter) → length (parameter_words p) ≤ 5
unfolding parameter_words
parameter_room (Constant c) = omega arith
parameter_room (Variable n) = omega arith

pub target_room : (t : Target) → length (target_words t) ≤ 20
unfolding target_words
target_room (Cell w) = omega arith
target_room (Element e) = omega arith
