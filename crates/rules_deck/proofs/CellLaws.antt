-- Cells of a map: each slot has its own inside the map's count, and a store of one leaves the others.
-- Assumes nothing.
use Prim.Native.Nat.{ℕ, zero, suc, ◌+◌, ◌≤◌, ◌<◌}
use mathlib.Core.Path.{◌≡◌, refl, sym, ap, ◌∙◌, subst}
use mathlib.Core.Bool.{Bool, true, false, cond, false≢true}
use mathlib.Core.Logic.{inr}
use mathlib.Core.List.{List, [], ◌∷◌, ◌++◌}
use native.Mathlib.Omega.{arith}
use lib.ListN.{length, set, length-set}
use lib.Seq.{get_or-set_same, get_or-set_other}
use lib.IntN.{ℤ, pos}
use borrow.Author.Tests.{eqb-true}
use Rattle.rules_object.specs.Machine.{cell}
use Rattle.rules_text.specs.Trees.{Name}
use Rattle.rules_deck.specs.Deck.{same_name}
use Rattle.rules_deck.specs.Meaning.{Key, plain, element_at, same_key, Values, put}
use Rattle.rules_deck.specs.Translation.{Held, name, array, hidden, array_size, size, cell_count, is_the_name, is_array, is_hidden, first_cell, holds, cell_of, base_of, limit_of}
use Rattle.rules_deck.specs.Cells.{Slot, key, limit, step, slot_cell, size_of, Has, Holds}
use Rattle.rules_deck.proofs.Names.{same_name_lem, same_key_lem, other_key}
use Rattle.rules_text.proofs.CardsLaws.{cases}
use Rattle.rules_deck.proofs.TestLaws.{or_right, or_either}
use Rattle.rules_deck.proofs.ArrayLaws.{holds_left}

-- ---- a slot is a test and an offset

-- what holds the slot
abbrev slot_test : Slot → Held → Bool
slot_test (key (plain v)) = is_the_name v
slot_test (key (element_at v p)) = is_array v
slot_test (limit q) = is_hidden q
slot_test (step q) = is_hidden q

abbrev slot_offset : Slot → ℕ
slot_offset (key (plain v)) = 0
slot_offset (key (element_at v p)) = p
slot_offset (limit q) = 0
slot_offset (step q) = 1

slot_cell_lem : (held : List Held) (s : Slot) → slot_cell held s ≡ first_cell (slot_test s) held + slot_offset s
unfolding cell_of base_of limit_of
slot_cell_lem held (key (plain v)) = omega arith
slot_cell_lem held (key (element_at v p)) = refl
slot_cell_lem held (limit q) = omega arith
slot_cell_lem held (step q) = omega arith

-- the cells of the first that passes a test, 0 where there is none
abbrev room_of : (Held → Bool) → List Held → ℕ
room_of test [] = 0
room_of test (h ∷ hs) = cond (test h) (size h) (room_of test hs)

held_room : (n : ℕ) (test : Held → Bool) → ((h : Held) → test h ≡ true → size h ≡ n) → (held : List Held) → holds test held ≡ true → room_of test held ≡ n
held_room n test f [] e = absurd (false≢true e)
held_room n test f (h ∷ hs) e =
    cases (λ r. r ≡ n) (test h) (size h) (room_of test hs) (λ p. f h p) (λ p. held_room n test f hs (or_right (test h) (holds test hs) e p))

name_size_lem : (v : Name) (h : Held) → is_the_name v h ≡ true → size h ≡ 1
name_size_lem v (name w) e = refl
name_size_lem v (array a) e = absurd (false≢true e)
name_size_lem v (hidden q) e = absurd (false≢true e)

hidden_size : (q : ℕ) (h : Held) → is_hidden q h ≡ true → size h ≡ 2
hidden_size q (name w) e = absurd (false≢true e)
hidden_size q (array a) e = absurd (false≢true e)
hidden_size q (hidden p) e = refl

size_room : (held : List Held) (v : Name) → room_of (is_array v) held ≡ size_of held v
size_room [] v = refl
size_room (name w ∷ held) v = size_room held v
size_room (array a ∷ held) v = ap (λ (r : ℕ). cond (same_name a.name v) (array_size a.dims) r) (size_room held v)
size_room (hidden q ∷ held) v = size_room held v

has_room : (held : List Held) (s : Slot) → Has held s → slot_offset s < room_of (slot_test s) held
has_room held (key (plain v)) h = omega (arith, held_room 1 (is_the_name v) (name_size_lem v) held h)
has_room held (key (element_at v p)) h = omega (arith, size_room held v)
has_room held (limit q) h = omega (arith, held_room 2 (is_hidden q) (hidden_size q) held h)
has_room held (step q) h = omega (arith, held_room 2 (is_hidden q) (hidden_size q) held h)

-- ---- each has its own

below_step : (b : Bool) (n r f c o : ℕ) → (o < r → f + o < c) → o < cond b n r → cond b 0 (n + f) + o < n + c
below_step true n r f c o g h = omega arith
below_step false n r f c o g h = let i = g h in omega arith

first_below : (test : Held → Bool) (held : List Held) (o : ℕ) → o < room_of test held → first_cell test held + o < cell_count held
first_below test [] o h = absurd (omega arith)
first_below test (x ∷ held) o h = below_step (test x) (size x) (room_of test held) (first_cell test held) (cell_count held) o (first_below test held o) h

pub slot_below : (held : List Held) (s : Slot) → Has held s → slot_cell held s < cell_count held
slot_below held s h = omega (arith, slot_cell_lem held s, first_below (slot_test s) held (slot_offset s) (has_room held s h))

-- both tests pass on one, and the offsets are the same
record Meet (s t : Held → Bool) (o p : ℕ) : Type 0 where
  holder : Held
  left : s holder ≡ true
  right : t holder ≡ true
  level : o ≡ p

meet_step : {s t : Held → Bool} (h : Held) (b c : Bool) (n r r' f f' o p : ℕ) → s h ≡ b → t h ≡ c → (o < r → p < r' → f + o ≡ f' + p → Meet s t o p) → n ≡ size h
    → o < cond b n r → p < cond c n r' → cond b 0 (n + f) + o ≡ cond c 0 (n + f') + p → Meet s t o p
meet_step h true true n r r' f f' o p i j g z k l e = record { holder = h; left = i; right = j; level = omega arith }
meet_step h true false n r r' f f' o p i j g z k l e = absurd (omega arith)
meet_step h false true n r r' f f' o p i j g z k l e = absurd (omega arith)
meet_step h false false n r r' f f' o p i j g z k l e = g k l (omega arith)

first_meet : (s t : Held → Bool) (held : List Held) (o p : ℕ) → o < room_of s held → p < room_of t held → first_cell s held + o ≡ first_cell t held + p → Meet s t o p
first_meet s t [] o p k l e = absurd (omega arith)
first_meet s t (h ∷ held) o p k l e =
    meet_step h (s h) (t h) (size h) (room_of s held) (room_of t held) (first_cell s held) (first_cell t held) o p refl refl (first_meet s t held o p) refl k l e

-- the slot of what is held, by its offset
abbrev slot_at : Held → ℕ → Slot
slot_at (name v) o = key (plain v)
slot_at (array a) o = key (element_at a.name o)
slot_at (hidden q) zero = limit q
slot_at (hidden q) (suc o) = step q

slot_at_lem : (s : Slot) (h : Held) → slot_test s h ≡ true → slot_at h (slot_offset s) ≡ s
slot_at_lem (key (plain v)) (name w) e = ap (λ (x : Name). key (plain x)) (same_name_lem w v e)
slot_at_lem (key (plain v)) (array a) e = absurd (false≢true e)
slot_at_lem (key (plain v)) (hidden q) e = absurd (false≢true e)
slot_at_lem (key (element_at v p)) (name w) e = absurd (false≢true e)
slot_at_lem (key (element_at v p)) (array a) e = ap (λ (x : Name). key (element_at x p)) (same_name_lem a.name v e)
slot_at_lem (key (element_at v p)) (hidden q) e = absurd (false≢true e)
slot_at_lem (limit q) (name w) e = absurd (false≢true e)
slot_at_lem (limit q) (array a) e = absurd (false≢true e)
slot_at_lem (limit q) (hidden p) e = ap limit (eqb-true p q e)
slot_at_lem (step q) (name w) e = absurd (false≢true e)
slot_at_lem (step q) (array a) e = absurd (false≢true e)
slot_at_lem (step q) (hidden p) e = ap step (eqb-true p q e)

pub slot_inj : (held : List Held) (s t : Slot) → Has held s → Has held t → slot_cell held s ≡ slot_cell held t → s ≡ t
slot_inj held s t h i e =
    let m = first_meet (slot_test s) (slot_test t) held (slot_offset s) (slot_offset t) (has_room held s h) (has_room held t i) (sym (slot_cell_lem held s) ∙ e ∙ slot_cell_lem held t) in
    sym (slot_at_lem s m.holder m.left) ∙ ap (slot_at m.holder) m.level ∙ slot_at_lem t m.holder m.right

-- ---- a map that grows at its end

first_grows : (test : Held → Bool) (held more : List Held) (o : ℕ) → o < room_of test held
    → (first_cell test (held ++ more) ≡ first_cell test held) × (room_of test (held ++ more) ≡ room_of test held)
first_grows test [] more o h = absurd (omega arith)
first_grows test (x ∷ held) more o h = go (test x) h (first_grows test held more o)
  where
    go : (b : Bool) → o < cond b (size x) (room_of test held) →
        (o < room_of test held → (first_cell test (held ++ more) ≡ first_cell test held) × (room_of test (held ++ more) ≡ room_of test held)) →
        (cond b 0 (size x + first_cell test (held ++ more)) ≡ cond b 0 (size x + first_cell test held)) ×
        (cond b (size x) (room_of test (held ++ more)) ≡ cond b (size x) (room_of test held))
    go true i f = (refl, refl)
    go false i f = let r = f i in (ap (λ (c : ℕ). size x + c) r.0, r.1)

pub holds_right : (test : Held → Bool) (held more : List Held) → holds test more ≡ true → holds test (held ++ more) ≡ true
holds_right test [] more e = e
holds_right test (h ∷ held) more e = or_either (test h) (holds test (held ++ more)) (inr (holds_right test held more e))

pub grow_has : (held more : List Held) (s : Slot) → Has held s → Has (held ++ more) s
grow_has held more (key (plain v)) h = holds_left (is_the_name v) held more h
grow_has held more (key (element_at v p)) h =
    omega (arith, size_room held v, size_room (held ++ more) v, (first_grows (is_array v) held more p (has_room held (key (element_at v p)) h)).1)
grow_has held more (limit q) h = holds_left (is_hidden q) held more h
grow_has held more (step q) h = holds_left (is_hidden q) held more h

-- ---- a store

pub slot_same : (held : List Held) (s : Slot) (c : List ℤ) (v : ℤ) → cell_count held ≤ length c → Has held s → cell (set c (slot_cell held s) v) (slot_cell held s) ≡ v
slot_same held s c v r h = get_or-set_same c (slot_cell held s) v (pos 0) (omega (arith, slot_below held s h))

pub slot_other : (held : List Held) (s t : Slot) (c : List ℤ) (v : ℤ) → Has held s → Has held t → (s ≡ t → ⊥)
    → cell (set c (slot_cell held s) v) (slot_cell held t) ≡ cell c (slot_cell held t)
slot_other held s t c v h i ne = get_or-set_other c (slot_cell held s) (slot_cell held t) v (pos 0) (λ e. ne (slot_inj held s t h i (sym e)))

pub holds_put : {held : List Held} {env : Values} {c : List ℤ} → Holds held env c → (x : Key) (v : ℤ) → Has held (key x)
    → Holds held (put env x v) (set c (slot_cell held (key x)) v)
holds_put {held} {env} {c} r x v h = record { room = rw length-set r.room; same = same }
  where
    same : (y : Key) → Has held (key y) → cell (set c (slot_cell held (key x)) v) (slot_cell held (key y)) ≡ put env x v y
    same y i =
        cases (λ w. cell (set c (slot_cell held (key x)) v) (slot_cell held (key y)) ≡ w) (same_key x y) v (env y)
        (λ e. subst (λ (z : Key). cell (set c (slot_cell held (key x)) v) (slot_cell held (key z)) ≡ v) (same_key_lem x y e) (slot_same held (key x) c v r.room h))
        (λ e. slot_other held (key x) (key y) c v h i (λ q. let p : x ≡ y = cc in other_key x y e p) ∙ r.same y i)

-- a store to a DO's limit or step
holds_slot : {held : List Held} {env : Values} {c : List ℤ} → Holds held env c → (s : Slot) (v : ℤ) → Has held s → ((x : Key) → s ≡ key x → ⊥)
    → Holds held env (set c (slot_cell held s) v)
holds_slot {held} {env} {c} r s v h ne =
    record { room = rw length-set r.room; same = λ y i. slot_other held s (key y) c v h i (ne y) ∙ r.same y i }

pub holds_hidden : {held : List Held} {env : Values} {c : List ℤ} → Holds held env c → (q : ℕ) (v : ℤ) → Has held (limit q) → Holds held env (set c (limit_of held q) v)
holds_hidden r q v h = holds_slot r (limit q) v h (λ x e. let z : ◌≡◌ {A = ℕ} 0 1 = cc in absurd (omega arith))

pub holds_step : {held : List Held} {env : Values} {c : List ℤ} → Holds held env c → (q : ℕ) (v : ℤ) → Has held (limit q) → Holds held env (set c (suc (limit_of held q)) v)
holds_step r q v h = holds_slot r (step q) v h (λ x e. let z : ◌≡◌ {A = ℕ} 0 1 = cc in absurd (omega arith))
