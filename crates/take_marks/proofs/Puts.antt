-- Words put one after the other.
-- Assumes nothing.
use mathlib.Core.Path.{sym}
use Prim.Native.Nat.{ℕ, zero, suc, ◌≤◌, ◌<◌}
use native.Mathlib.Omega.{arith}
use mathlib.Core.List.{List, [], ◌∷◌, append-nil}
use lib.ListN.{length, take, get_or}
use Rattle.rules_shared.specs.Lists.{Each, each_more}
use Rattle.read_items.specs.Parsed.{Put}
use Rattle.take_marks.specs.Marks.{Low}

pub put_none : (a : List ℕ) (n : ℕ) → Put a a n [] n
put_none a n = record { top = omega arith; table = sym (append-nil (take n a)) }

pub low_at : (l : List ℕ) (i : ℕ) → i < length l → Each Low l → get_or l i 0 ≤ 99999
low_at [] i h a = absurd (omega arith)
low_at (x ∷ l) zero h (each_more p a) = p
low_at (x ∷ l) (suc i) h (each_more p a) = low_at l i (omega arith) a
