-- What the statements before a position have taken: one statement more, and a law that each statement keeps.
-- Assumes nothing.
use mathlib.Core.Path.{◌≡◌, refl, sym, ap, ◌∙◌, subst}
use Prim.Native.Nat.{ℕ, zero, suc, ◌+◌, ◌-◌, ◌≤◌}
use native.Mathlib.Nat.{zero-add, add-zero, suc-add}
use native.Mathlib.Omega.{arith}
use mathlib.Core.List.{List, [], ◌∷◌}
use mathlib.Core.Option.{Option, none, some}
use lib.ListN.{length, get_elem?, take}
use lib.Seq.{take_all, take-length}
use Rattle.rules_text.specs.Trees.{Statement}
use Rattle.rules_deck.specs.Translation.{held_from, held_of}
use Rattle.rules_deck.specs.Judge.{Taken, nothing_taken, takes}
use Rattle.rules_deck.specs.Accepted.{taken_from, taken_before}
use Rattle.rules_deck.proofs.TestLaws.{at_past}

pub next_from : (q : ℕ) (deck : List Statement) (t : Taken) (j : ℕ) (s : Statement) → get_elem? deck j ≡ some s →
    taken_from q (take (suc j) deck) t ≡ takes (q + j) s.form (taken_from q (take j deck) t)
next_from q [] t j s e = cc
next_from q (x ∷ deck) t zero s e =
    let same : x ≡ s = cc in
    rw (add-zero q, ← same)
next_from q (x ∷ deck) t (suc j) s e =
    let n : q + suc j ≡ suc q + j = omega arith in
    rw n (next_from (suc q) deck (takes q x.form t) j s e)

pub before_next : (deck : List Statement) (j : ℕ) (s : Statement) → get_elem? deck j ≡ some s → taken_before deck (suc j) ≡ takes j s.form (taken_before deck j)
unfolding taken_before
before_next deck j s e = next_from 0 deck nothing_taken j s e ∙ ap (λ (n : ℕ). takes n s.form (taken_from 0 (take j deck) nothing_taken)) (zero-add j)

before_past : (deck : List Statement) (j : ℕ) → get_elem? deck j ≡ none → taken_before deck (suc j) ≡ taken_before deck j
unfolding taken_before
before_past deck j e =
    let n = at_past deck j e in
    ap (λ (l : List Statement). taken_from 0 l nothing_taken) (take_all (suc j) deck (omega arith) ∙ sym (take_all j deck n))

-- ---- a law that each statement keeps holds from where it begins to hold

module _ (deck : List Statement) (P : Taken → Type 0)
    (keeps : (j : ℕ) (s : Statement) → get_elem? deck j ≡ some s → P (taken_before deck j) → P (takes j s.form (taken_before deck j))) where
  kept_next : (j : ℕ) → P (taken_before deck j) → P (taken_before deck (suc j))
  kept_next j h = go (get_elem? deck j) refl
    where
      go : (o : Option Statement) → get_elem? deck j ≡ o → P (taken_before deck (suc j))
      go none e = subst P (sym (before_past deck j e)) h
      go (some s) e = subst P (sym (before_next deck j s e)) (keeps j s e h)

  kept_on : (i m : ℕ) → P (taken_before deck i) → P (taken_before deck (m + i))
  kept_on i zero h = subst (λ (n : ℕ). P (taken_before deck n)) (sym (zero-add i)) h
  kept_on i (suc m) h = subst (λ (n : ℕ). P (taken_before deck n)) (sym (suc-add m i)) (kept_next (m + i) (kept_on i m h))

  pub kept : (i j : ℕ) → i ≤ j → P (taken_before deck i) → P (taken_before deck j)
  kept i j n h =
      let e : (j - i) + i ≡ j = omega arith in
      subst (λ (m : ℕ). P (taken_before deck m)) e (kept_on i (j - i) h)

-- ---- all of them

pub before_all : (deck : List Statement) → taken_before deck (length deck) ≡ taken_from 0 deck nothing_taken
unfolding taken_before
before_all deck = ap (λ (l : List Statement). taken_from 0 l nothing_taken) (take-length deck)

held_from_lem : (q : ℕ) (deck : List Statement) (t : Taken) → (taken_from q deck t).held ≡ held_from q deck t.held
unfolding takes
held_from_lem q [] t = refl
held_from_lem q (s ∷ deck) t = held_from_lem (suc q) deck (takes q s.form t)

-- the map is what they have taken of it
pub held_all : (deck : List Statement) → (taken_before deck (length deck)).held ≡ held_of deck
unfolding held_of
held_all deck = ap (λ (t : Taken). t.held) (before_all deck) ∙ held_from_lem 0 deck nothing_taken
