-- Numbers become places, one after the other, and 22 is at the statement of the first that has none.
-- Assumes nothing.
use mathlib.Core.Path.{◌≡◌, refl, sym, ap, ◌∙◌}
use Prim.Native.Nat.{ℕ, zero, suc, ◌+◌, ◌≤◌, ◌<◌}
use native.Mathlib.Nat.{lt_of_not-le}
use native.Mathlib.Decide.{dec_le}
use native.Mathlib.Omega.{arith}
use mathlib.Core.Bool.{Bool, true, false}
use mathlib.Core.List.{List}
use mathlib.Core.Option.{none, some}
use lib.Dec.{leb}
use lib.ListN.{length, set, length-set}
use lib.Seq.{get_or-set_same, get_or-set_other}
use borrow.Author.Tests.{leb-true, leb-false}
use Rattle.read_cards.specs.declared.Number.{Number}
use Rattle.read_cards.specs.declared.Sequence.{Sequence}
use Rattle.whole_tables.specs.Rows.{jumps_at, start_of}
use Rattle.whole_tables.specs.Tables.{number_in, place_in}
use Rattle.std.specs.Prelude.{Option, Some, None}
use Rattle.whole_numbers.specs.declared.Resolved.{Resolved}
use Rattle.whole_numbers.proofs.Tests.{all_true, one_false}
use Rattle.whole_numbers.proofs.Starts.{start_below}
use Rattle.whole_numbers.specs.Numbers.{all_from, first_from, found_of, place_of, found, known, jumps_known, past, Resolves}

module _ (numbers : List Number) (count : ℕ) (jumps : List Number) (many : ℕ) where
  -- those below k are placed
  pub record Resolving (places : List Sequence) (k : ℕ) : Type 0 where
    pub long : length places ≡ 1424
    pub done : (i : ℕ) → i < k → place_of numbers count (number_in jumps i) ≡ some (place_in places i)

  module _ (places : List Sequence) (k : ℕ) (p : Resolving places k) (f : Option Sequence) (said : found_of f ≡ place_of numbers count (number_in jumps k)) where
    pub resolves_more : (place : Sequence) → f ≡ Some place → k < 1424 → Resolving (set places k place) (k + 1)
    resolves_more place e room =
        let kept = p.long in
        let is : place_of numbers count (number_in jumps k) ≡ some place.0 = sym said ∙ ap found_of e in
        record { long = length-set places k place ∙ p.long; done = λ i l. at i (dec_le k i) l is (omega arith) }
      where
        at : (i : ℕ) → Dec (k ≤ i) → i < k + 1 → place_of numbers count (number_in jumps k) ≡ some place.0 → k < length places
            → place_of numbers count (number_in jumps i) ≡ some (place_in (set places k place) i)
        at i (yes y) l is inside =
            let q : i ≡ k = omega arith in
            rw q (is ∙ ap (λ (s : Sequence). some s.0) (sym (get_or-set_same places k place (record { 0 = 0 }) inside)))
        at i (no y) l is inside =
            let g : i < k = lt_of_not-le y in
            p.done i g ∙ ap (λ (s : Sequence). some s.0) (sym (get_or-set_other places k i place (record { 0 = 0 }) (λ q. omega arith)))

    pub resolves_stops : f ≡ None → k ≤ many → Resolves numbers count jumps many (record { places = places; known = k })
    resolves_stops e h = record { within = h; done = p.done; stops = λ h. sym said ∙ ap found_of e }

  pub resolves_ends : (places : List Sequence) (k : ℕ) → Resolving places k → many ≤ k → Resolves numbers count jumps many (record { places = places; known = many })
  resolves_ends places k p h = record { within = omega arith; done = λ i l. p.done i (omega arith); stops = λ l. absurd (omega arith) }

-- ---- the statement of the first that has none

module _ (rows : List ℕ) (numbers : List Number) (count : ℕ) (jumps : List Number) (r : Resolved) (s : Resolves numbers count jumps (start_of rows count) r) where
  is_known : (k : ℕ) → k < r.known → known numbers count jumps k ≡ true
  unfolding known
  is_known k h = ap found (s.done k h)

  is_unknown : r.known < start_of rows count → known numbers count jumps r.known ≡ false
  unfolding known
  is_unknown h = ap found (s.stops h)

  users_same : (n q : ℕ) → q + n ≡ count → start_of rows q ≤ r.known → first_from (past rows r.known) suc n q ≡ first_from (jumps_known rows numbers count jumps) suc n q
  unfolding past jumps_known
  users_same zero q e h = refl
  users_same (suc n) q e h = by (leb (start_of rows (suc q)) r.known) refl (users_same n (suc q) (omega arith))
    where
      by : (b : Bool) → leb (start_of rows (suc q)) r.known ≡ b
          → (start_of rows (suc q) ≤ r.known → first_from (past rows r.known) suc n (suc q) ≡ first_from (jumps_known rows numbers count jumps) suc n (suc q))
          → first_from (past rows r.known) suc (suc n) q ≡ first_from (jumps_known rows numbers count jumps) suc (suc n) q
      by true l again =
          let g = leb-true (start_of rows (suc q)) r.known l in
          let all : all_from (known numbers count jumps) (jumps_at rows q) (start_of rows q) ≡ true = all_true (known numbers count jumps) (jumps_at rows q) (start_of rows q) (λ k a b. is_known k (omega arith)) in
          rw (l, all, again g)
      by false l again =
          let g = leb-false (start_of rows (suc q)) r.known l in
          let below = start_below rows (suc q) count (omega arith) in
          let one : all_from (known numbers count jumps) (jumps_at rows q) (start_of rows q) ≡ false =
          one_false (known numbers count jumps) (jumps_at rows q) (start_of rows q) r.known h (omega arith) (is_unknown (omega arith)) in
          rw (l, one)

  pub unknown_user : first_from (past rows r.known) suc count 0 ≡ first_from (jumps_known rows numbers count jumps) suc count 0
  unknown_user = users_same count 0 (omega arith) (omega arith)

  none_past : (n q : ℕ) → q + n ≡ count → start_of rows q ≤ r.known → first_from (past rows r.known) suc n q ≡ none → start_of rows count ≤ r.known
  unfolding past
  none_past zero q e h none_is =
      let z : q ≡ count = omega arith in
      rw z at h
  none_past (suc n) q e h none_is = by (leb (start_of rows (suc q)) r.known) refl (none_past n (suc q) (omega arith))
    where
      by : (b : Bool) → leb (start_of rows (suc q)) r.known ≡ b
          → (start_of rows (suc q) ≤ r.known → first_from (past rows r.known) suc n (suc q) ≡ none → start_of rows count ≤ r.known) → start_of rows count ≤ r.known
      by true l again = again (leb-true (start_of rows (suc q)) r.known l) (rw l at none_is)
      by false l again =
          let z : some (suc q) ≡ none = rw l at none_is in
          absurd (let y : ◌≡◌ {A = ℕ} 0 1 = cc in omega arith)

  -- where 22 has passed every number has its place
  pub all_resolved : first_from (jumps_known rows numbers count jumps) suc count 0 ≡ none → start_of rows count ≤ r.known
  all_resolved e = none_past count 0 (omega arith) (omega arith) (unknown_user ∙ e)
