-- The addresses that are written, one statement more.
-- Assumes nothing.
use mathlib.Core.Path.{◌≡◌, sym, ap, ◌∙◌, subst}
use mathlib.Core.Logic.{◌⊎◌, inl, inr}
use Prim.Native.Nat.{ℕ, zero, suc, ◌+◌, ◌*◌, ◌≤◌, ◌<◌}
use native.Mathlib.Omega.{arith}
use mathlib.Core.List.{List}
use lib.ListN.{length, get_or, set}
use lib.Seq.{get_or-set_same, get_or-set_other}
use Rattle.rules_shared.specs.House.{House}
use Rattle.rules_text.specs.Trees.{Statement}
use Rattle.rules_deck.specs.Translation.{address_at}
use Rattle.rules_deck.proofs.Addresses.{at_some, address_zero}
use Rattle.final_addresses.specs.Given.{Judged}
use Rattle.final_addresses.specs.Ends.{ends_at}
use Rattle.final_addresses.proofs.DeckEnds.{next_address, addresses_small}

pub record Passed (deck : List Statement) (starts : List ℕ) (at i : ℕ) : Type 0 where
  pub here : at ≡ address_at deck i
  pub before : (j : ℕ) → j ≤ i → get_or starts j 0 ≡ address_at deck j

pub passed_none : (deck : List Statement) (starts : List ℕ) → 0 < length starts → Passed deck (set starts 0 0) 0 0
passed_none deck starts l =
    record {
      here = sym (address_zero deck);
      before = λ j h.
          let z : j ≡ 0 = omega arith in
          subst (λ (i : ℕ). get_or (set starts 0 0) i 0 ≡ address_at deck i) (sym z) (get_or-set_same starts 0 0 0 l ∙ sym (address_zero deck));
    }

less_or_same : (a b : ℕ) → a ≤ b + 1 → (a ≤ b) ⊎ (a ≡ b + 1)
less_or_same zero b h = inl (omega arith)
less_or_same (suc a) zero h = inr (omega arith)
less_or_same (suc a) (suc b) h = go (less_or_same a b (omega arith))
  where
    go : (a ≤ b) ⊎ (a ≡ b + 1) → (suc a ≤ suc b) ⊎ (suc a ≡ suc b + 1)
    go (inl l) = inl (omega arith)
    go (inr l) = inr (omega arith)

module _ {house : House} {deck : List Statement} {rows : List ℕ} {count : ℕ} {loops : List ℕ} {n : ℕ} {jumps : List ℕ} (told : Judged house deck rows count loops n jumps) where
  -- the address after the statement at position i
  pub following : (i at ends : ℕ) → i < count → ends ≡ length (ends_at loops jumps i n) → at ≡ address_at deck i → at + get_or rows (5 * i + 3) 0 + ends ≡ address_at deck (i + 1)
  following i at ends h e is =
      let s = at_some deck i (omega (arith, told.in_rows.counted)) in
      omega (arith, next_address told i s.0 s.1)

  pub following_small : (i at ends : ℕ) → i < count → ends ≡ length (ends_at loops jumps i n) → at ≡ address_at deck i → at + get_or rows (5 * i + 3) 0 + ends ≤ 4096
  following_small i at ends h e is = omega (arith, following i at ends h e is, addresses_small told (i + 1))

  pub passed_more : (starts : List ℕ) (i at ends : ℕ) → i < count → count < length starts → ends ≡ length (ends_at loops jumps i n) → Passed deck starts at i
      → Passed deck (set starts (i + 1) (at + get_or rows (5 * i + 3) 0 + ends)) (at + get_or rows (5 * i + 3) 0 + ends) (i + 1)
  passed_more starts i at ends h l e p =
      let v : ℕ = at + get_or rows (5 * i + 3) 0 + ends in
      let is = following i at ends h e p.here in
      record { here = is; before = λ j b. go v is j (less_or_same j i b) }
    where
      go : (v : ℕ) → v ≡ address_at deck (i + 1) → (j : ℕ) → (j ≤ i) ⊎ (j ≡ i + 1) → get_or (set starts (i + 1) v) j 0 ≡ address_at deck j
      go v is j (inl b) = get_or-set_other starts (i + 1) j v 0 (λ z. omega arith) ∙ p.before j b
      go v is j (inr b) = ap (λ (m : ℕ). get_or (set starts (i + 1) v) m 0) b ∙ get_or-set_same starts (i + 1) v 0 (omega arith) ∙ is ∙ ap (address_at deck) (sym b)
