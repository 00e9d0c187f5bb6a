-- For callers: the table as it is made, and what the answer says of the table that is left.
-- Assumes nothing.
use mathlib.Core.Path.{◌≡◌, ap, ◌∙◌}
use mathlib.Core.Bool.{Bool, true, false}
use mathlib.Core.List.{List}
use mathlib.Core.Option.{Option, none, some}
use Prim.Native.Nat.{ℕ, ◌<◌}
use lib.ListN.{take, replicate, length-replicate}
use lib.Seq.{get_or-take}
use Rattle.rules_object.specs.Flow.{never, height_at}
use Rattle.rules_object.proofs.Fills.{blank}
use Rattle.check_heights.specs.Judged.{Fresh, answered}

pub fresh : (n : ℕ) → n ≡ 4096 → Fresh (replicate n never)
fresh n e = record { blank = blank n; long = length-replicate {A = ℕ} n never ∙ e }

pub answered_yes : (n : ℕ) (table : List ℕ) (r : Bool) {o : Option (List ℕ)} → o ≡ answered n table r → r ≡ true → o ≡ some (take n table)
unfolding answered
answered_yes n table r a e = a ∙ ap (answered n table) e

pub answered_no : (n : ℕ) (table : List ℕ) (r : Bool) {o : Option (List ℕ)} → o ≡ answered n table r → r ≡ false → o ≡ none
unfolding answered
answered_no n table r a e = a ∙ ap (answered n table) e

-- a height is read where it stands
pub height_left : (n : ℕ) (table : List ℕ) (a : ℕ) → a < n → height_at (take n table) a ≡ height_at table a
height_left n table a l = get_or-take n table a 0 l
