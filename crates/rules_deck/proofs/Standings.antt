-- How a standing of the meaning and a state of the machine agree at a statement's start, and what keeps the bounds of the DOs around it.
-- Assumes nothing.
use mathlib.Core.Path.{◌≡◌, refl, sym, ap, ◌∙◌, subst}
use mathlib.Core.Logic.{◌⊎◌, inl, inr}
use Prim.Native.Nat.{ℕ, suc, ◌≤◌, ◌<◌}
use native.Mathlib.Omega.{arith}
use mathlib.Core.Bool.{true, cond}
use mathlib.Core.List.{List}
use lib.ListN.{length, set, length-set}
use lib.IntN.{ℤ}
use borrow.Author.Tests.{eq-eqb, ne_eqb}
use Rattle.rules_shared.specs.Choose.{positive}
use Rattle.rules_object.specs.Machine.{cell}
use Rattle.rules_text.specs.Trees.{Statement}
use Rattle.rules_deck.specs.Deck.{Do, dos_of}
use Rattle.rules_deck.specs.Meaning.{Key, Values, Bounds, bounds, enter, Standing}
use Rattle.rules_deck.specs.Translation.{Held, cell_count, limit_of, held_of}
use Rattle.rules_deck.specs.Whole.{last_of}
use Rattle.rules_deck.specs.Accepted.{Among, here, InRange, Nested}
use Rattle.rules_deck.specs.Cells.{Slot, key, limit, step, slot_cell, Has, Holds, SameMark}
use Rattle.rules_deck.proofs.CellLaws.{slot_same, slot_other}
use Rattle.rules_deck.proofs.DeckCells.{hidden_has}
use Rattle.rules_deck.proofs.Ranges.{range_next, range_body}

-- a standing written by its parts
abbrev pub standing : ℕ → Values → (ℕ → Bounds) → ℕ → Standing
standing j env inside lost = record { at = j; values = env; entered = inside; lost = lost }

-- The DO at position q was entered, with a step above 0; its hidden cells hold its limit and step.
pub record Bound (held : List Held) (inside : ℕ → Bounds) (c : List ℤ) (q : ℕ) : Type 0 where
  pub limit : ℤ
  pub step : ℤ
  pub is : inside q ≡ bounds limit step
  pub exceeds : positive step ≡ true
  pub limit_cell : cell c (limit_of held q) ≡ limit
  pub step_cell : cell c (suc (limit_of held q)) ≡ step

-- so is every DO around position j
pub record Inside (deck : List Statement) (inside : ℕ → Bounds) (c : List ℤ) (j : ℕ) : Type 0 where
  pub bound : (d : Do) → Among d (dos_of deck) → InRange deck d j → Bound (held_of deck) inside c d.position

-- at the start of the statement at j
pub record Stands (deck : List Statement) (j : ℕ) (env : Values) (inside : ℕ → Bounds) (lost : ℕ) (c : List ℤ) (m : ℕ) : Type 0 where
  pub holds : Holds (held_of deck) env c
  pub mark : SameMark deck lost m
  pub around : Inside deck inside c j
  pub here : j < length deck

-- ---- a store to a named cell leaves the bounds

key_limit : {x : Key} {q : ℕ} → ◌≡◌ {A = Slot} (key x) (limit q) → ⊥
key_limit e = let z : ◌≡◌ {A = ℕ} 0 1 = cc in omega arith

key_step : {x : Key} {q : ℕ} → ◌≡◌ {A = Slot} (key x) (step q) → ⊥
key_step e = let z : ◌≡◌ {A = ℕ} 0 1 = cc in omega arith

limit_step : {p q : ℕ} → ◌≡◌ {A = Slot} (limit p) (step q) → ⊥
limit_step e = let z : ◌≡◌ {A = ℕ} 0 1 = cc in omega arith

bound_put : {held : List Held} {inside : ℕ → Bounds} {c : List ℤ} {q : ℕ} → Bound held inside c q → Has held (limit q) → (x : Key) (v : ℤ) → Has held (key x)
    → Bound held inside (set c (slot_cell held (key x)) v) q
bound_put {held} {c = c} {q = q} b h x v i =
    record {
      limit = b.limit;
      step = b.step;
      is = b.is;
      exceeds = b.exceeds;
      limit_cell = slot_other held (key x) (limit q) c v i h key_limit ∙ b.limit_cell;
      step_cell = slot_other held (key x) (step q) c v i h key_step ∙ b.step_cell;
    }

pub inside_put : {deck : List Statement} {inside : ℕ → Bounds} {c : List ℤ} {j : ℕ} → Inside deck inside c j → (x : Key) (v : ℤ) → Has (held_of deck) (key x)
    → Inside deck inside (set c (slot_cell (held_of deck) (key x)) v) j
inside_put {deck} i x v h = record { bound = λ d a r. bound_put (i.bound d a r) (hidden_has deck d a) x v h }

-- ---- the next statement, and a body that repeats

pub inside_next : {deck : List Statement} {inside : ℕ → Bounds} {c : List ℤ} {j : ℕ} → Inside deck inside c j
    → ((d : Do) → Among d (dos_of deck) → d.position ≡ j → Bound (held_of deck) inside c d.position) → Inside deck inside c (suc j)
inside_next {deck} {inside} {c} {j} i f = record { bound = λ d a r. by d a (range_next r) }
  where
    by : (d : Do) → Among d (dos_of deck) → (d.position ≡ j) ⊎ InRange deck d j → Bound (held_of deck) inside c d.position
    by d a (inl e) = f d a e
    by d a (inr r) = i.bound d a r

pub inside_body : {deck : List Statement} {inside : ℕ → Bounds} {c : List ℤ} {j : ℕ} {d : Do} → Nested deck → Among d (dos_of deck) → last_of deck d ≡ j → Inside deck inside c j
    → Inside deck inside c (suc d.position)
inside_body n a l i = record { bound = λ e b r. i.bound e b (range_body n a b l r) }

-- ---- a DO that is entered

-- the store of a DO's bounds
abbrev pub entering : List Held → List ℤ → ℕ → ℤ → ℤ → List ℤ
entering held c q l s = set (set c (limit_of held q) l) (suc (limit_of held q)) s

bound_other : {held : List Held} {inside : ℕ → Bounds} {c : List ℤ} {q : ℕ} → Bound held inside c q → Has held (limit q) → (p : ℕ) (l s : ℤ) → Has held (limit p) → (p ≡ q → ⊥)
    → Bound held (enter inside p (bounds l s)) (entering held c p l s) q
bound_other {held} {inside} {c} {q} b h p l s i ne =
    let c₁ = set c (limit_of held p) l in
    record {
      limit = b.limit;
      step = b.step;
      is = ap (λ t. cond t (bounds l s) (inside q)) (ne_eqb p q ne) ∙ b.is;
      exceeds = b.exceeds;
      limit_cell =
          slot_other held (step p) (limit q) c₁ s i h (λ e. limit_step (sym e)) ∙ slot_other held (limit p) (limit q) c l i h (λ e. let z : p ≡ q = cc in ne z) ∙ b.limit_cell;
      step_cell =
          slot_other held (step p) (step q) c₁ s i h (λ e. let z : p ≡ q = cc in ne z) ∙ slot_other held (limit p) (step q) c l i h limit_step ∙ b.step_cell;
    }

bound_same : {held : List Held} (inside : ℕ → Bounds) (c : List ℤ) (p : ℕ) (l s : ℤ) → cell_count held ≤ length c → Has held (limit p) → positive s ≡ true
    → Bound held (enter inside p (bounds l s)) (entering held c p l s) p
bound_same {held} inside c p l s r h e =
    let c₁ = set c (limit_of held p) l in
    let r₁ : cell_count held ≤ length c₁ = rw length-set r in
    record {
      limit = l;
      step = s;
      is = ap (λ t. cond t (bounds l s) (inside p)) (eq-eqb p p refl);
      exceeds = e;
      limit_cell = slot_other held (step p) (limit p) c₁ s h h (λ e. limit_step (sym e)) ∙ slot_same held (limit p) c l r h;
      step_cell = slot_same held (step p) c₁ s r₁ h;
    }

module _ {deck : List Statement} {inside : ℕ → Bounds} {c : List ℤ} {j : ℕ} (i : Inside deck inside c j) (h : Has (held_of deck) (limit j)) (l s : ℤ) where
  pub inside_now : Inside deck (enter inside j (bounds l s)) (entering (held_of deck) c j l s) j
  inside_now = record { bound = λ d a r. bound_other (i.bound d a r) (hidden_has deck d a) j l s h (λ e. let z = r.after in absurd (omega arith)) }

  pub inside_entered : cell_count (held_of deck) ≤ length c → positive s ≡ true → Inside deck (enter inside j (bounds l s)) (entering (held_of deck) c j l s) (suc j)
  inside_entered r e =
      inside_next inside_now (λ d a p. subst (λ q. Bound (held_of deck) (enter inside j (bounds l s)) (entering (held_of deck) c j l s) q) (sym p) (bound_same inside c j l s r h e))
