-- What the shared choices are held to by themselves: a mark is that of the first drop.
-- Assumes nothing.
use mathlib.Core.Path.{◌≡◌, refl, ap}
use mathlib.Core.Bool.{Bool, true, false, cond}
use Prim.Native.Nat.{ℕ, suc}
use Rattle.number.specs.Number.{Loss, nothing_lost, is_loss}
use Rattle.rules_shared.specs.Choose.{first_mark, marked}

-- once there is a mark it stays, whatever is dropped later
pub mark_stays : (m : ℕ) (more : Loss) (at : ℕ) → marked (suc m) more at ≡ suc m
mark_stays m more at = by (is_loss more)
  where
    by : (b : Bool) → cond b (suc m) (suc m) ≡ suc m
    by true = refl
    by false = refl

-- what lost something marks, what did not does not
pub marked_yes : (m : ℕ) (lost : Loss) (at : ℕ) → is_loss lost ≡ true → marked m lost at ≡ first_mark m at
marked_yes m lost at e = ap (λ (b : Bool). cond b (first_mark m at) m) e

pub marked_no : (m : ℕ) (lost : Loss) (at : ℕ) → is_loss lost ≡ false → marked m lost at ≡ m
marked_no m lost at e = ap (λ (b : Bool). cond b (first_mark m at) m) e

-- the first drop marks its own place, and no drop marks nothing
pub first_marks : (lost : Loss) (at : ℕ) → is_loss lost ≡ true → (marked 0 lost at ≡ suc at) × (marked 0 nothing_lost at ≡ 0)
first_marks lost at e = (marked_yes 0 lost at e, refl)
