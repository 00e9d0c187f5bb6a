-- A block of a list at an index, and where each statement's code lies.
-- Assumes nothing.
use mathlib.Core.Path.{◌≡◌, refl, sym}
use Prim.Native.Nat.{ℕ, zero, suc, ◌+◌, ◌≤◌, ◌<◌}
use native.Mathlib.Nat.{suc-add, zero-add, add-suc, add-zero}
use native.Mathlib.Omega.{arith}
use mathlib.Core.List.{List, [], ◌∷◌, ◌++◌, map}
use mathlib.Core.Option.{some}
use lib.ListN.{length, get_elem?, length-append, length-map}
use Rattle.rules_object.specs.Operations.{Instr, NEG, DOE}
use Rattle.rules_text.specs.Trees.{Name, Form, assign, go_to, computed, ifs, loop, continue, stop, end, dimension, Statement}
use Rattle.rules_deck.specs.Deck.{Dims, dims_of, endings}
use Rattle.rules_deck.specs.Translation.{Held, held_of, form_code, words, address_in, address_at, address_of, do_instr, enter_code, statement_code, code_from, code_of}
use Rattle.rules_deck.proofs.TestLaws.{clash, at_before}

-- ---- a block at an index

-- A data type, so that a use can leave the list, the index and the block out.
pub data At {A : Type 0} (code : List A) : ℕ → List A → Type 0 where
  none_left : {a : ℕ} → At code a []
  has : {a : ℕ} {i : A} {b : List A} → get_elem? code a ≡ some i → At code (suc a) b → At code a (i ∷ b)

module _ {A : Type 0} where
  pub at_head : {code : List A} {a : ℕ} {i : A} {b : List A} → At code a (i ∷ b) → get_elem? code a ≡ some i
  at_head (has e h) = e

  pub at_tail : {code : List A} {a : ℕ} {i : A} {b : List A} → At code a (i ∷ b) → At code (suc a) b
  at_tail (has e h) = h

  pub at_left : {code : List A} {a : ℕ} (b c : List A) → At code a (b ++ c) → At code a b
  at_left [] c h = none_left
  at_left (i ∷ b) c h = has (at_head h) (at_left b c (at_tail h))

  pub at_right : {code : List A} {a : ℕ} (b : List A) {c : List A} → At code a (b ++ c) → At code (a + length b) c
  at_right [] h = rw add-zero h
  at_right (i ∷ b) h = rw (add-suc, ← suc-add) (at_right b (at_tail h))

  -- a block that ends in one element, and what follows
  pub at_last : {code : List A} {a : ℕ} (b : List A) (i : A) (c : List A) → At code a ((b ++ (i ∷ [])) ++ c)
      → At code a b × (get_elem? code (a + length b) ≡ some i) × At code (suc (a + length b)) c
  at_last {a = a} b i c h =
      let l = at_left (b ++ (i ∷ [])) c h in
      let e : a + length (b ++ (i ∷ [])) ≡ suc (a + length b) = simp length-append (omega arith) in
      (at_left b (i ∷ []) l, at_head (at_right b l), rw e at (at_right (b ++ (i ∷ [])) h))

  pub at_cons : {i : A} {code : List A} {a : ℕ} {b : List A} → At code a b → At (i ∷ code) (suc a) b
  at_cons none_left = none_left
  at_cons (has e h) = has e (at_cons h)

  pub at_shift : (pre : List A) {code : List A} {a : ℕ} {b : List A} → At code a b → At (pre ++ code) (length pre + a) b
  at_shift [] h = rw zero-add h
  at_shift (i ∷ pre) h = rw suc-add (at_cons (at_shift pre h))

  pub at_front : (b rest : List A) → At (b ++ rest) zero b
  at_front [] rest = none_left
  at_front (i ∷ b) rest = has refl (at_cons (at_front b rest))

  pub at_self : (b : List A) → At b zero b
  at_self [] = none_left
  at_self (i ∷ b) = has refl (at_cons (at_self b))

  pub at_end_lem : (l b : List A) → At (l ++ b) (length l) b
  at_end_lem l b = let e : length l + zero ≡ length l = add-zero (length l) in rw e at (at_shift l (at_self b))

  pub at_fits : {code : List A} (a : ℕ) (i : A) (b : List A) → At code a (i ∷ b) → a + length b < length code
  at_fits {code} a i [] h = omega (arith, at_before code a (at_head h))
  at_fits a i (j ∷ b) h = omega (arith, at_fits (suc a) j b (at_tail h))

  -- inside the list something stands
  pub at_some : (l : List A) (a : ℕ) → a < length l → (x : A) × (get_elem? l a ≡ some x)
  at_some [] a h = absurd (omega arith)
  at_some (x ∷ l) zero h = (x, refl)
  at_some (x ∷ l) (suc a) h = at_some l a (omega arith)

-- ---- a statement's words

-- the length of a statement's code does not depend on addresses
form_length : (held : List Held) (dims : Name → Dims) (address : ℕ → ℕ) (entry : Instr) (f : Form)
    → length (form_code held dims address entry f) ≡ length (form_code held dims (λ n. 0) NEG f)
form_length held dims address entry (assign t e) = refl
form_length held dims address entry (go_to n) = refl
form_length held dims address entry (computed ns v) = refl
form_length held dims address entry (ifs e a b c) = simp length-append
form_length held dims address entry (loop n v p₁ p₂ p₃) = simp length-append
form_length held dims address entry continue = refl
form_length held dims address entry stop = refl
form_length held dims address entry end = refl
form_length held dims address entry (dimension arrays) = refl

module _ (deck : List Statement) where
  pub words_code : (address : ℕ → ℕ) (entry : Instr) (s : Statement)
      → length (form_code (held_of deck) (dims_of deck) address entry s.form ++ map (do_instr deck DOE) (endings deck s.number)) ≡ words deck s
  unfolding words
  words_code address entry s =
      simp (length-append, length-map, form_length (held_of deck) (dims_of deck) address entry s.form)

  -- ---- addresses

  from_at : (q : ℕ) (more : List Statement) (j : ℕ) (s : Statement) → get_elem? more j ≡ some s
      → At (code_from deck q more) (address_in deck more j) (statement_code deck (q + j) s)
  from_at q [] j s e = absurd (clash (sym e))
  from_at q (t ∷ more) zero s e =
      let same : t ≡ s = cc in
      let at : At (code_from deck q (t ∷ more)) zero (statement_code deck q t) = at_front (statement_code deck q t) (code_from deck (suc q) more) in
      rw (add-zero, ← same) at
  from_at q (t ∷ more) (suc j) s e =
      let l = words_code (address_of deck) (enter_code deck q t.form) t in
      let next : suc q + j ≡ q + suc j = omega arith in
      rw (← next, ← l) (at_shift (statement_code deck q t) (from_at (suc q) more j s e))

  pub statement_at_lem : (j : ℕ) (s : Statement) → get_elem? deck j ≡ some s → At (code_of deck) (address_at deck j) (statement_code deck j s)
  unfolding code_of address_at
  statement_at_lem j s e = rw zero-add at (from_at 0 deck j s e)

  in_zero : (more : List Statement) → address_in deck more 0 ≡ 0
  in_zero [] = refl
  in_zero (s ∷ more) = refl

  in_suc : (more : List Statement) (j : ℕ) (s : Statement) → get_elem? more j ≡ some s → address_in deck more (suc j) ≡ address_in deck more j + words deck s
  in_suc [] j s e = absurd (clash (sym e))
  in_suc (t ∷ more) zero s e = let same : t ≡ s = cc in rw (← same) (omega (arith, in_zero more))
  in_suc (t ∷ more) (suc j) s e = omega (arith, in_suc more j s e)

  in_end : (q : ℕ) (more : List Statement) (j : ℕ) → length more ≤ j → address_in deck more j ≡ length (code_from deck q more)
  in_end q [] j h = refl
  in_end q (t ∷ more) zero h = absurd (omega arith)
  in_end q (t ∷ more) (suc j) h =
      let l = words_code (address_of deck) (enter_code deck q t.form) t in
      let z : length (code_from deck q (t ∷ more)) ≡ length (statement_code deck q t) + length (code_from deck (suc q) more) = length-append (statement_code deck q t) _ in
      omega (arith, in_end (suc q) more j (omega arith))

  in_grows : (more : List Statement) (i j : ℕ) → i ≤ j → address_in deck more i ≤ address_in deck more j
  in_grows [] i j h = omega arith
  in_grows (t ∷ more) zero j h = omega arith
  in_grows (t ∷ more) (suc i) zero h = absurd (omega arith)
  in_grows (t ∷ more) (suc i) (suc j) h = omega (arith, in_grows more i j (omega arith))

  pub address_zero : address_at deck 0 ≡ 0
  unfolding address_at
  address_zero = in_zero deck

  pub address_suc : (j : ℕ) (s : Statement) → get_elem? deck j ≡ some s → address_at deck (suc j) ≡ address_at deck j + words deck s
  unfolding address_at
  address_suc j s e = in_suc deck j s e

  -- past the last statement
  pub address_end : (j : ℕ) → length deck ≤ j → address_at deck j ≡ length (code_of deck)
  unfolding address_at code_of
  address_end j h = in_end 0 deck j h

  pub address_grows : (i j : ℕ) → i ≤ j → address_at deck i ≤ address_at deck j
  unfolding address_at
  address_grows i j h = in_grows deck i j h

  pub address_most : (j : ℕ) → address_at deck j ≤ length (code_of deck)
  address_most j = omega (arith, address_grows j (length deck + j) (omega arith), address_end (length deck + j) (omega arith))
