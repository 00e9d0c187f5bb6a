-- Runs one after the other are one run of all their allowances together.
-- Assumes nothing.
use mathlib.Core.Path.{◌≡◌, refl, sym, ap, ◌∙◌}
use Prim.Native.Nat.{ℕ, ◌+◌}
use native.Mathlib.Omega.{arith}
use mathlib.Core.Bool.{Bool, true, false, cond}
use mathlib.Core.List.{List, [], ◌∷◌}
use lib.Dec.{eqb}
use lib.ListN.{length}
use lib.IntN.{ℤ}
use borrow.Author.Tests.{eqb-true, eqb-false}
use Rattle.rules_shared.specs.Limits.{limits}
use Rattle.rules_formats.specs.Walk.{Trays}
use Rattle.rules_shared.specs.Refusals.{accepted}
use Rattle.rules_object.specs.Calls.{Lent, running}
use Rattle.rules_object.specs.Safe.{rest, after_run}
use Rattle.rules_object.proofs.GoesOn.{goes_on, stays_halted}
use Rattle.rules_object.proofs.Accepts.{accepts, accepts_run}
use Rattle.rules_object.proofs.Refusals.{from_accepts}
use Rattle.rules_deck.specs.Seen.{go_on, series, sum}

-- the allowance plays no part in a refusal
pub accepted_all : (object : List ℕ) (store : List ℤ) (l : Lent) (trays : Trays) (a b : ℕ) → (running object store l trays a).refusal ≡ accepted → (running object store l trays b).refusal ≡ accepted
accepted_all object store l trays a b e =
    let x = accepts object store l trays a (ap (λ r. r.number) e) in
    ap (λ r. r.refusal) (accepts_run x trays b) ∙ from_accepts x.object trays _ b _

module _ (object : List ℕ) (store : List ℤ) (l : Lent) (forty : length l.places ≡ limits.stack) (trays : Trays) (start : (running object store l trays 0).refusal ≡ accepted) where
  right : (n : ℕ) → (running object store l trays n).refusal.number ≡ 0
  right n = ap (λ r. r.number) (accepted_all object store l trays 0 n start)

  next : (n a : ℕ) →
      cond (eqb (running object store l trays n).halt 2)
      (after_run (running object store l trays n) (running object (running object store l trays n).store (running object store l trays n).lent (rest trays (running object store l trays n)) a))
      (running object store l trays n) ≡ running object store l trays (n + a)
  next n a = by (eqb (running object store l trays n).halt 2) refl
    where
      by : (b : Bool) → eqb (running object store l trays n).halt 2 ≡ b →
          cond b (after_run (running object store l trays n) (running object (running object store l trays n).store (running object store l trays n).lent (rest trays (running object store l trays n)) a))
          (running object store l trays n) ≡ running object store l trays (n + a)
      by true e = sym (goes_on object store l trays forty n (right n) (eqb-true (running object store l trays n).halt 2 e) a)
      by false e = sym (stays_halted object store l trays n (right n) (eqb-false (running object store l trays n).halt 2 e) a)

  go_on_lem : (allowances : List ℕ) (n : ℕ) → go_on object trays (running object store l trays n) allowances ≡ running object store l trays (n + sum allowances)
  go_on_lem [] n = let e : n ≡ n + 0 = omega arith in ap (λ m. running object store l trays m) e
  go_on_lem (a ∷ allowances) n =
      let e : (n + a) + sum allowances ≡ n + (a + sum allowances) = omega arith in
      ap (λ r. go_on object trays r allowances) (next n a) ∙ go_on_lem allowances (n + a) ∙ ap (λ m. running object store l trays m) e

  pub series_run : (allowances : List ℕ) → series object store l trays allowances ≡ running object store l trays (sum allowances)
  unfolding series
  series_run allowances = let e : 0 + sum allowances ≡ sum allowances = omega arith in go_on_lem allowances 0 ∙ ap (λ m. running object store l trays m) e
