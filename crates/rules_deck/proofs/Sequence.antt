-- The drop mark's sequence number, read from body 6, is the meaning's.
-- Assumes nothing.
use mathlib.Core.Path.{◌≡◌, refl, sym, ap, ◌∙◌}
use Prim.Native.Nat.{ℕ, zero, suc, ◌+◌, ◌≤◌, ◌<◌}
use native.Mathlib.Nat.{zero-add}
use native.Mathlib.Omega.{arith}
use mathlib.Core.Bool.{Bool, true, false, cond, false≢true}
use mathlib.Core.List.{List, [], ◌∷◌}
use mathlib.Core.Option.{some}
use lib.Dec.{leb}
use lib.ListN.{length, get_elem?}
use borrow.Author.Tests.{leb-true, leb-false, le-leb, lt-leb}
use Rattle.rules_shared.specs.House.{House}
use Rattle.rules_object.specs.Object.{Line}
use Rattle.rules_object.specs.Operations.{Instr, NEG}
use Rattle.rules_object.specs.Calls.{last_at, sequence_of}
use Rattle.rules_text.specs.Trees.{Name, Form, assign, go_to, computed, ifs, loop, continue, stop, end, dimension, Statement}
use Rattle.rules_deck.specs.Deck.{Dims, dims_of, endings}
use Rattle.rules_deck.specs.Translation.{Held, held_of, form_code, words, address_at, executable, lines_from}
use Rattle.rules_deck.specs.Whole.{is_dimension}
use Rattle.rules_deck.specs.Accepted.{Among, here, Accepted}
use Rattle.rules_deck.specs.Cells.{SameMark, unmarked, marked}
use Rattle.rules_deck.proofs.DoLaws.{among_endings}
use Rattle.rules_deck.proofs.NestedDeck.{number_on, last_number}
use Rattle.rules_deck.proofs.Addresses.{address_suc, address_end, address_grows}

-- ---- the last entry at or before an address

module _ (deck : List Statement) where
  -- the entry of the statement at q, if it is executable, before the others
  abbrev entered : ℕ → Statement → List Line → Bool → List Line
  entered q s rest t = cond t (record { sequence = suc q; number = s.number; address = address_at deck q } ∷ rest) rest

  -- all entries past the address
  past : (q : ℕ) (more : List Statement) (x found : ℕ) → x < address_at deck q → last_at (lines_from deck q more) x found ≡ found
  past q [] x found h = refl
  past q (s ∷ more) x found h = go (executable s.form) (past (suc q) more x found (omega (arith, address_grows deck q (suc q) (omega arith))))
    where
      go : (t : Bool) → last_at (lines_from deck (suc q) more) x found ≡ found
          → last_at (entered q s (lines_from deck (suc q) more) t) x found ≡ found
      go true ih = ap (λ t. last_at (lines_from deck (suc q) more) x (cond t (suc q) found)) (lt-leb (address_at deck q) x h) ∙ ih
      go false ih = ih

  -- a statement that is not executable has no code
  abbrev pub Empty : Type 0
  Empty = (j : ℕ) (s : Statement) → get_elem? deck j ≡ some s → executable s.form ≡ false → words deck s ≡ 0

  at_found : (q : ℕ) (more : List Statement) (j x found : ℕ) → address_at deck (q + j) ≤ x → x < address_at deck (suc (q + j))
      → ((s : Statement) → get_elem? more j ≡ some s → executable s.form ≡ true) → j < length more
      → last_at (lines_from deck q more) x found ≡ suc (q + j)
  at_found q [] j x found l u h b = absurd (omega arith)
  at_found q (s ∷ more) zero x found l u h b =
      let here : q + 0 ≡ q = omega arith in
      let l' = rw here at l in
      let u' = rw here at u in
      let rest : List Line = lines_from deck (suc q) more in
      ap (λ t. last_at (entered q s rest t) x found) (h s refl)
      ∙ ap (λ t. last_at rest x (cond t (suc q) found)) (le-leb (address_at deck q) x l')
      ∙ past (suc q) more x (suc q) u'
      ∙ ap suc (sym here)
  at_found q (s ∷ more) (suc j) x found l u h b = go (executable s.form) (λ f. at_found (suc q) more j x f (rw next at l) (rw next at u) h (omega arith))
    where
      next : q + suc j ≡ suc q + j
      next = omega arith

      go : (t : Bool) → ((f : ℕ) → last_at (lines_from deck (suc q) more) x f ≡ suc (suc q + j))
          → last_at (entered q s (lines_from deck (suc q) more) t) x found ≡ suc (q + suc j)
      go true ih = ih _ ∙ ap suc (sym next)
      go false ih = ih found ∙ ap suc (sym next)

  -- the machine's mark, through body 6, is the meaning's
  pub same_sequence : Empty → (lost mark : ℕ) → SameMark deck lost mark → sequence_of (lines_from deck 0 deck) mark ≡ lost
  unfolding sequence_of
  same_sequence f lost zero (unmarked e g) = sym e
  same_sequence f lost zero (marked j e l u) = absurd (omega arith)
  same_sequence f lost (suc m) (unmarked e g) = absurd (omega arith)
  same_sequence f lost (suc m) (marked j e l u) =
      let z : 0 + j ≡ j = zero-add j in
      let low : address_at deck (0 + j) ≤ m = rw z (omega arith) in
      let high : m < address_at deck (suc (0 + j)) = rw z (omega arith) in
      at_found 0 deck j m 0 low high (λ s h. runs s h (executable s.form) refl) (before (leb (length deck) j) refl) ∙ ap suc z ∙ sym e
    where
      runs : (s : Statement) → get_elem? deck j ≡ some s → (t : Bool) → executable s.form ≡ t → executable s.form ≡ true
      runs s h true p = p
      runs s h false p = absurd (omega (arith, address_suc deck j s h, f j s h p))

      before : (t : Bool) → leb (length deck) j ≡ t → j < length deck
      before true p = let n = leb-true (length deck) j p in absurd (omega (arith, address_end deck j n, address_end deck (suc j) (omega arith)))
      before false p = leb-false (length deck) j p

-- ---- an accepted deck's DIMENSION has no code

only_dimension : (f : Form) → executable f ≡ false → (is_dimension f ≡ true) × ((held : List Held) (dims : Name → Dims) (address : ℕ → ℕ) (entry : Instr) → form_code held dims address entry f ≡ [])
only_dimension (assign t e) h = absurd (false≢true (sym h))
only_dimension (go_to n) h = absurd (false≢true (sym h))
only_dimension (computed ns v) h = absurd (false≢true (sym h))
only_dimension (ifs e a b c) h = absurd (false≢true (sym h))
only_dimension (loop n v p₁ p₂ p₃) h = absurd (false≢true (sym h))
only_dimension continue h = absurd (false≢true (sym h))
only_dimension stop h = absurd (false≢true (sym h))
only_dimension end h = absurd (false≢true (sym h))
only_dimension (dimension arrays) h = (refl, λ held dims address entry. refl)

none_among : {A : Type 0} (l : List A) → ((x : A) → Among x l → ⊥) → length l ≡ 0
none_among [] f = refl
none_among (x ∷ l) f = absurd (f x here)

module _ (house : House) (deck : List Statement) (accepted : Accepted house deck) where
  -- no DO ends with a statement without number
  pub no_endings : length (endings deck 0) ≡ 0
  no_endings = none_among (endings deck 0) (λ d a. let h = among_endings deck 0 d a in let p = last_number accepted d h.0 in let q = h.1 in omega arith)

  -- 21 refuses a number on DIMENSION
  unnumbered : (j : ℕ) (s : Statement) → get_elem? deck j ≡ some s → is_dimension s.form ≡ true → s.number ≡ 0
  unnumbered j s e h = go s.number refl
    where
      go : (n : ℕ) → s.number ≡ n → s.number ≡ 0
      go zero p = p
      go (suc n) p = let f = (number_on accepted j s e (omega arith)).0 in absurd (false≢true (sym f ∙ h))

  pub dimension_empty : Empty deck
  unfolding words
  dimension_empty j s e x =
      let o = only_dimension s.form x in
      rw (o.1 (held_of deck) (dims_of deck) (λ n. 0) NEG, unnumbered j s e o.0) (omega (arith, no_endings))
