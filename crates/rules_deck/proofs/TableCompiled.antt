-- Everything compiled has a table of heights (44), and a deck with p levels of parentheses never stands above 2p+3.
-- Assumes nothing.
use mathlib.Core.Path.{◌≡◌, refl, sym, ap, ◌∙◌}
use mathlib.Core.Logic.{◌⊎◌, inl, inr}
use mathlib.Core.Bool.{true, false≢true}
use Prim.Native.Nat.{ℕ, zero, suc, ◌+◌, ◌-◌, ◌*◌, ◌≤◌, ◌<◌}
use native.Mathlib.Nat.{zero-add, suc-add, add-zero, add-suc}
use native.Mathlib.Omega.{arith}
use mathlib.Core.List.{List, [], ◌∷◌}
use mathlib.Core.Option.{Option, none, some}
use lib.ListN.{length, get_elem?, get_or}
use borrow.Author.Tests.{leb-true}
use Rattle.rules_shared.specs.Limits.{limits}
use Rattle.rules_shared.specs.House.{House}
use Rattle.rules_object.specs.Operations.{Instr, pops, pushes, successors, instruction, flow_of}
use Rattle.rules_object.specs.Flow.{Flow, height_at, Fine, Valid, Reached}
use Rattle.rules_object.specs.Heights.{heights}
use Rattle.rules_object.proofs.Fills.{reached}
use Rattle.rules_object.proofs.HeightsExact.{heights_none}
use Rattle.rules_text.specs.Trees.{Form, assign, go_to, computed, ifs, loop, continue, stop, end, dimension, Statement, form_levels}
use Rattle.rules_deck.specs.Deck.{Do, endings}
use Rattle.rules_deck.specs.Judge.{right14}
use Rattle.rules_deck.specs.Whole.{is_end}
use Rattle.rules_deck.specs.Translation.{code_of, translate}
use Rattle.rules_deck.specs.Seen.{levels_in}
use Rattle.rules_deck.specs.Accepted.{Among, here, Accepted, Fitting}
use Rattle.rules_deck.proofs.Addresses.{at_some, address_zero}
use Rattle.rules_text.proofs.Shapes.{shaped}
use Rattle.rules_deck.proofs.TestLaws.{at_before}
use Rattle.rules_deck.proofs.DoLaws.{among_endings}
use Rattle.rules_deck.proofs.NestedDeck.{not_empty, last_end, number_on, targets, last_number, last_defined, last_after}
use Rattle.rules_deck.proofs.Emitted.{code_length, fetched}
use Rattle.rules_deck.proofs.Needs.{deck_levels_lem, deck_heights, heights_length, height_zero}
use Rattle.rules_deck.proofs.HeightsCompiled.{Stands, Leads, nowhere, to, Ok, ok_none, ok_more, below, code_ok}

-- ---- an accepted deck's code stands

is_end_lem : (f : Form) → is_end f ≡ true → f ≡ end
is_end_lem (assign t e) h = absurd (false≢true h)
is_end_lem (go_to n) h = absurd (false≢true h)
is_end_lem (computed ns v) h = absurd (false≢true h)
is_end_lem (ifs e a b c) h = absurd (false≢true h)
is_end_lem (loop n v p₁ p₂ p₃) h = absurd (false≢true h)
is_end_lem continue h = absurd (false≢true h)
is_end_lem stop h = absurd (false≢true h)
is_end_lem end h = refl
is_end_lem (dimension arrays) h = absurd (false≢true h)

none_among : {A : Type 0} (l : List A) → ((x : A) → Among x l → ⊥) → l ≡ []
none_among [] h = refl
none_among (x ∷ l) h = absurd (h x here)

less_or_same : (a b : ℕ) → a ≤ b → (a < b) ⊎ (a ≡ b)
less_or_same zero zero h = inr refl
less_or_same zero (suc b) h = inl (omega arith)
less_or_same (suc a) zero h = absurd (omega arith)
less_or_same (suc a) (suc b) h = go (less_or_same a b (omega arith))
  where
    go : (a < b) ⊎ (a ≡ b) → (suc a < suc b) ⊎ (suc a ≡ suc b)
    go (inl l) = inl (omega arith)
    go (inr e) = inr (ap suc e)

module _ {house : House} {deck : List Statement} (accepted : Accepted house deck) where
  last_bare : (j : ℕ) (s : Statement) → get_elem? deck j ≡ some s → suc j ≡ length deck → (s.form ≡ end) × (endings deck s.number ≡ [])
  last_bare j s e l = (is_end_lem s.form (last_end accepted j s e l), none_among (endings deck s.number) (no_end s.number refl))
    where
      no_end : (n : ℕ) → s.number ≡ n → (d : Do) → Among d (endings deck n) → ⊥
      no_end zero q d a = let r = among_endings deck zero d a in omega (arith, last_number accepted d r.0)
      no_end (suc n) q d a = false≢true (sym (number_on accepted j s e (omega arith)).1 ∙ last_end accepted j s e l)

  pub stands : Stands deck
  stands =
      record {
        shaped = λ j s e. let h = accepted.judged j s e in shaped h.text s.form h.form;
        exits = targets accepted;
        bodies = λ n d a. let r = (among_endings deck n d a).0 in omega (arith, last_after accepted d r, last_defined accepted d r);
        follows = λ j s e. follows j s e (less_or_same (suc j) (length deck) (at_before deck j e));
        some = not_empty accepted;
      }
    where
      follows : (j : ℕ) (s : Statement) → get_elem? deck j ≡ some s → (suc j < length deck) ⊎ (suc j ≡ length deck)
          → (suc j < length deck) ⊎ ((s.form ≡ end) × (endings deck s.number ≡ []))
      follows j s e (inl l) = inl l
      follows j s e (inr l) = inr (last_bare j s e l)

  -- 14
  pub levels_most : levels_in deck ≤ limits.parentheses
  unfolding right14
  levels_most = deck_levels_lem limits.parentheses deck (λ j s e. shallow s.form (accepted.judged j s e).passes14)
    where
      shallow : (f : Form) → right14 f ≡ true → form_levels f ≤ limits.parentheses
      shallow f h = leb-true (form_levels f) limits.parentheses h

-- ---- the table

-- one instruction at its height
record Standing (top n : ℕ) (H : List ℕ) (a : ℕ) (i : Instr) : Type 0 where
  low : height_at H a ≤ top
  room : pops i ≤ height_at H a
  leads : Leads n H (height_at H a - pops i + pushes i) (successors a i)

ok_at : {top n : ℕ} {H : List ℕ} {is : List Instr} (a : ℕ) → Ok top n H a is → (j : ℕ) (i : Instr) → get_elem? is j ≡ some i → Standing top n H (a + j) i
ok_at a ok_none j i e = let z : ◌≡◌ {A = ℕ} 0 1 = cc in absurd (omega arith)
ok_at {top} {n} {H} a (ok_more {i = x} t p l r) zero i e =
    let same : x ≡ i = cc in
    rw (add-zero a, ← same) (record { low = t; room = p; leads = l })
ok_at a (ok_more t p l r) (suc j) i e = rw (add-suc, ← suc-add) (ok_at (suc a) r j i e)

leads_to : {n v : ℕ} {H ts : List ℕ} → Leads n H v ts → (m : ℕ) → m < length ts → (get_or ts m 0 < n) × (height_at H (get_or ts m 0) ≡ v)
leads_to nowhere m h = absurd (omega arith)
leads_to (to l e r) zero h = (l, e)
leads_to (to l e r) (suc m) h = leads_to r m (omega arith)

module _ (house : House) {deck : List Statement} (good : Stands deck) (fitting : Fitting deck) where
  abbrev flow : Flow
  flow = flow_of (translate house deck)

  standing : (a : ℕ) → a < length (code_of deck) → (i : Instr) × (instruction (translate house deck) a ≡ i) × Standing (2 * levels_in deck + 3) (length (code_of deck)) (deck_heights deck) a i
  standing a h =
      let x = at_some (code_of deck) a h in
      (x.0, fetched house deck fitting a x.0 x.1, rw (zero-add a) at (ok_at 0 (code_ok deck good (2 * levels_in deck + 3) (omega arith)) a x.0 x.1))

  pub table_low : (a : ℕ) → a < length (code_of deck) → height_at (deck_heights deck) a ≤ 2 * levels_in deck + 3
  table_low a h = (standing a h).2.low

  module _ (shallow : 2 * levels_in deck + 3 ≤ limits.stack) where
    fine : (a : ℕ) → a < length (code_of deck) → Fine flow (deck_heights deck) a
    unfolding flow_of
    fine a h =
        let x = standing a h in
        let e = x.1 in
        record {
          room = rw e x.2.room;
          leads = λ m l.
              let r = leads_to x.2.leads m (rw e at l) in
              record { inside = rw (code_length house deck, e) r.0; low = rw e (omega (arith, r.1, table_low (get_or (successors a x.0) m 0) r.0)); is = rw e r.1 };
        }

    pub compiled_valid : Valid (flow_of (translate house deck)) (deck_heights deck)
    unfolding flow_of
    compiled_valid =
        let n = code_length house deck in
        record {
          sized = omega (arith, n, heights_length deck);
          begins = (omega (arith, n, below deck good 0 good.some), rw (address_zero deck) at (height_zero deck 0));
          low = λ a h. inl (omega (arith, table_low a (omega (arith, n))));
          each = λ a h l. fine a (omega (arith, n));
        }

    pub compiled_table : (H : List ℕ) × (heights (flow_of (translate house deck)) ≡ some H)
    compiled_table = go (heights (flow_of (translate house deck))) refl
      where
        go : (o : Option (List ℕ)) → heights (flow_of (translate house deck)) ≡ o → (H : List ℕ) × (o ≡ some H)
        go none e = absurd ((heights_none (flow_of (translate house deck)) e).0.none (deck_heights deck) compiled_valid)
        go (some H) e = (H, refl)

    -- no path comes to an instruction above 2p+3
    pub compiled_height : (a h : ℕ) → Reached (flow_of (translate house deck)) a h → h ≤ 2 * levels_in deck + 3
    unfolding flow_of
    compiled_height a h r =
        let x = reached r (deck_heights deck) compiled_valid in
        let l : a < length (code_of deck) = inside x.0 in
        omega (arith, table_low a l, x.1.1)
      where
        inside : a < (flow_of (translate house deck)).n → a < length (code_of deck)
        inside l = omega (arith, code_length house deck)
