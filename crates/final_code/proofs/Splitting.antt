-- A deck split at a statement: its jumps, its drafted code and its code.
-- Assumes nothing.
use mathlib.Core.Path.{◌≡◌, refl, sym, ap, ◌∙◌}
use Prim.Native.Nat.{ℕ, zero, suc, ◌+◌, ◌≤◌}
use native.Mathlib.Omega.{arith}
use native.Mathlib.Nat.{zero-add, add-zero, add_assoc}
use mathlib.Core.List.{List, [], ◌∷◌, ◌++◌, append_assoc}
use mathlib.Core.Option.{some}
use lib.ListN.{length, take, drop, get_elem?}
use lib.Seq.{length-take-le}
use borrow.Author.Tests.{lt-ltb, le-ltb}
use Rattle.rules_object.specs.Operations.{Instr, DOI}
use Rattle.rules_text.specs.Trees.{Name, value_of, Form, assign, go_to, computed, ifs, loop, continue, stop, end, dimension, Statement, form_last}
use Rattle.rules_deck.specs.Deck.{Dims, Do, do_of, dos_from, dos_of, dims_of}
use Rattle.rules_deck.specs.Translation.{Held, held_of, form_code, do_number, statement_code, code_from, code_of}
use Rattle.rules_deck.proofs.TestLaws.{clash, at_before}
use Rattle.take_draft.specs.Draft.{jump_words, no_loop}
use Rattle.take_draft.specs.Sketch.{deck_jumps, plain_from, plain_code}

pub split : {A : Type 0} (l : List A) (i : ℕ) (x : A) → get_elem? l i ≡ some x → l ≡ take i l ++ (x ∷ drop (suc i) l)
split [] i x e = absurd (clash (sym e))
split (y ∷ l) zero x e = let same : y ≡ x = cc in ap (λ z. z ∷ l) same
split (y ∷ l) (suc i) x e = ap (λ m. y ∷ m) (split l i x e)

-- ---- how many DOs

abbrev pub dos_in : List Statement → ℕ
dos_in [] = 0
dos_in (s ∷ more) = length (form_last s.form) + dos_in more

data Brings (q : ℕ) (f : Form) : Type 0 where
  no_do_lem : do_of q f ≡ [] → length (form_last f) ≡ 0 → Brings q f
  a_do_lem : (d : Do) → do_of q f ≡ d ∷ [] → d.position ≡ q → length (form_last f) ≡ 1 → Brings q f

brings : (q : ℕ) (f : Form) → Brings q f
unfolding form_last
brings q (assign t e) = no_do_lem refl refl
brings q (go_to n) = no_do_lem refl refl
brings q (computed ns v) = no_do_lem refl refl
brings q (ifs e a b c) = no_do_lem refl refl
brings q (loop n v p₁ p₂ p₃) = a_do_lem (record { position = q; last = value_of n; variable = v }) refl refl refl
brings q continue = no_do_lem refl refl
brings q stop = no_do_lem refl refl
brings q end = no_do_lem refl refl
brings q (dimension arrays) = no_do_lem refl refl

number_none : (q : ℕ) (more : List Statement) (p : ℕ) → p ≤ q → do_number (dos_from q more) p ≡ 0
number_none q [] p l = refl
number_none q (s ∷ more) p l = go (brings q s.form) (number_none (suc q) more p (omega arith))
  where
    go : Brings q s.form → do_number (dos_from (suc q) more) p ≡ 0 → do_number (do_of q s.form ++ dos_from (suc q) more) p ≡ 0
    go (no_do_lem e n) h = rw e h
    go (a_do_lem d e at n) h = rw (e, le-ltb d.position p (omega arith)) h

-- as many as there are before position q + i
number_in_lem : (q : ℕ) (more : List Statement) (i : ℕ) → i ≤ length more → do_number (dos_from q more) (q + i) ≡ dos_in (take i more)
number_in_lem q more zero l = number_none q more (q + 0) (omega arith)
number_in_lem q [] (suc i) l = refl
number_in_lem q (s ∷ more) (suc i) l =
    let n : q + suc i ≡ suc q + i = omega arith in
    rw n (go (brings q s.form) (number_in_lem (suc q) more i (omega arith)))
  where
    go : Brings q s.form → do_number (dos_from (suc q) more) (suc q + i) ≡ dos_in (take i more)
        → do_number (do_of q s.form ++ dos_from (suc q) more) (suc q + i) ≡ length (form_last s.form) + dos_in (take i more)
    go (no_do_lem e n) h = rw (e, n) (h ∙ sym (zero-add (dos_in (take i more))))
    go (a_do_lem d e at n) h = rw (e, n, lt-ltb d.position (suc q + i) (omega arith)) (omega arith)

pub number_is : (deck : List Statement) (i : ℕ) → i ≤ length deck → do_number (dos_of deck) i ≡ dos_in (take i deck)
unfolding dos_of
number_is deck i l = ap (do_number (dos_from 0 deck)) (sym (zero-add i)) ∙ number_in_lem 0 deck i l

-- ---- one part after the other

pub jumps_append : (a b : List Statement) → deck_jumps (a ++ b) ≡ deck_jumps a ++ deck_jumps b
jumps_append [] b = refl
jumps_append (s ∷ a) b = ap (λ (l : List ℕ). jump_words s.form ++ l) (jumps_append a b) ∙ sym (append_assoc (jump_words s.form) (deck_jumps a) (deck_jumps b))

module _ (held : List Held) (dims : Name → Dims) where
  pub plain_append : (d : ℕ) (a b : List Statement) → plain_from held dims d (a ++ b) ≡ plain_from held dims d a ++ plain_from held dims (d + dos_in a) b
  plain_append d [] b = ap (λ (n : ℕ). plain_from held dims n b) (sym (add-zero d))
  plain_append d (s ∷ a) b =
      let first = form_code held dims (λ n. n) (DOI d no_loop) s.form in
      let next = d + length (form_last s.form) in
      ap (λ (l : List Instr). first ++ l) (plain_append next a b ∙ ap (λ (n : ℕ). plain_from held dims next a ++ plain_from held dims n b) (add_assoc d (length (form_last s.form)) (dos_in a)))
      ∙ sym (append_assoc first (plain_from held dims next a) (plain_from held dims (d + (length (form_last s.form) + dos_in a)) b))

pub code_append : (deck : List Statement) (q : ℕ) (a b : List Statement) → code_from deck q (a ++ b) ≡ code_from deck q a ++ code_from deck (q + length a) b
code_append deck q [] b = ap (λ (p : ℕ). code_from deck p b) (sym (add-zero q))
code_append deck q (s ∷ a) b =
    let n : suc q + length a ≡ q + suc (length a) = omega arith in
    ap (λ (l : List Instr). statement_code deck q s ++ l) (code_append deck (suc q) a b ∙ ap (λ (p : ℕ). code_from deck (suc q) a ++ code_from deck p b) n)
    ∙ sym (append_assoc (statement_code deck q s) (code_from deck (suc q) a) (code_from deck (q + suc (length a)) b))

-- ---- the deck at position i

module _ (deck : List Statement) (i : ℕ) (s : Statement) (e : get_elem? deck i ≡ some s) where
  before_length : length (take i deck) ≡ i
  before_length = length-take-le i deck (omega (arith, at_before deck i e))

  pub jumps_split : deck_jumps deck ≡ deck_jumps (take i deck) ++ (jump_words s.form ++ deck_jumps (drop (suc i) deck))
  jumps_split = ap deck_jumps (split deck i s e) ∙ jumps_append (take i deck) (s ∷ drop (suc i) deck)

  -- its drafted code, and that of the statements before and after
  abbrev pub plain_before : List Instr
  plain_before = plain_from (held_of deck) (dims_of deck) 0 (take i deck)

  abbrev pub plain_here : List Instr
  plain_here = form_code (held_of deck) (dims_of deck) (λ n. n) (DOI (dos_in (take i deck)) no_loop) s.form

  abbrev pub plain_after : List Instr
  plain_after = plain_from (held_of deck) (dims_of deck) (dos_in (take i deck) + length (form_last s.form)) (drop (suc i) deck)

  pub plain_split : plain_code deck ≡ plain_before ++ (plain_here ++ plain_after)
  unfolding plain_code
  plain_split =
      ap (plain_from (held_of deck) (dims_of deck) 0) (split deck i s e) ∙ plain_append (held_of deck) (dims_of deck) 0 (take i deck) (s ∷ drop (suc i) deck)
      ∙ ap (λ (d : ℕ). plain_before ++ plain_from (held_of deck) (dims_of deck) d (s ∷ drop (suc i) deck)) (zero-add (dos_in (take i deck)))

  pub code_split : code_of deck ≡ code_from deck 0 (take i deck) ++ (statement_code deck i s ++ code_from deck (suc i) (drop (suc i) deck))
  unfolding code_of
  code_split =
      ap (code_from deck 0) (split deck i s e) ∙ code_append deck 0 (take i deck) (s ∷ drop (suc i) deck)
      ∙ ap (λ (p : ℕ). code_from deck 0 (take i deck) ++ code_from deck p (s ∷ drop (suc i) deck)) (zero-add (length (take i deck)) ∙ before_length)

  pub code_more : code_from deck 0 (take i deck ++ (s ∷ [])) ≡ code_from deck 0 (take i deck) ++ statement_code deck i s
  code_more =
      code_append deck 0 (take i deck) (s ∷ [])
      ∙ ap (λ (p : ℕ). code_from deck 0 (take i deck) ++ code_from deck p (s ∷ [])) (zero-add (length (take i deck)) ∙ before_length)
      ∙ ap (λ (l : List Instr). code_from deck 0 (take i deck) ++ l) (mathlib.Core.List.append-nil (statement_code deck i s))

  pub plain_more : plain_from (held_of deck) (dims_of deck) 0 (take i deck ++ (s ∷ [])) ≡ plain_before ++ plain_here
  plain_more =
      plain_append (held_of deck) (dims_of deck) 0 (take i deck) (s ∷ [])
      ∙ ap (λ (d : ℕ). plain_before ++ plain_from (held_of deck) (dims_of deck) d (s ∷ [])) (zero-add (dos_in (take i deck)))
      ∙ ap (λ (l : List Instr). plain_before ++ l) (mathlib.Core.List.append-nil plain_here)
