-- A deck's rows and jumps, read by position.
-- Assumes nothing.
use mathlib.Core.Path.{◌≡◌, refl, sym, ap, ◌∙◌}
use Prim.Native.Nat.{ℕ, zero, suc, ◌+◌, ◌*◌, ◌≤◌, ◌<◌}
use native.Mathlib.Omega.{arith}
use mathlib.Core.List.{List, [], ◌∷◌, ◌++◌}
use lib.ListN.{length, get_or, take, length-append, get_or-append}
use lib.Seq.{get_or-take, get_or-append-add}
use Rattle.rules_text.specs.Trees.{Statement}
use Rattle.take_draft.specs.Draft.{kind_of, set_word, jump_words, row_words}
use Rattle.take_draft.specs.Sketch.{deck_rows, deck_jumps}
use Rattle.whole_tables.specs.Rows.{number_at, kind_at, set_at, jumps_at, start_of}
use Rattle.whole_numbers.proofs.Starts.{jumps_inside}
use Rattle.whole_deck.proofs.ByIndex.{no_statement}

abbrev pub statement_at : List Statement → ℕ → Statement
statement_at deck q = get_or deck q no_statement

abbrev pub jumps_of : List Statement → ℕ → List ℕ
jumps_of deck q = jump_words (statement_at deck q).form

row_at : (deck : List Statement) (q k : ℕ) → q < length deck → k < 5 → get_or (deck_rows deck) (5 * q + k) 0 ≡ get_or (row_words (statement_at deck q)) k 0
row_at [] q k h g = absurd (omega arith)
row_at (s ∷ deck) zero k h g =
    let e : 5 * 0 + k ≡ k = omega arith in
    rw e (get_or-append (row_words s) (deck_rows deck) 0 k g)
row_at (s ∷ deck) (suc q) k h g =
    let e : 5 * suc q + k ≡ 5 + (5 * q + k) = omega arith in
    ap (λ (n : ℕ). get_or (row_words s ++ deck_rows deck) n 0) e ∙ get_or-append-add (row_words s) (deck_rows deck) (5 * q + k) 0 ∙ row_at deck q k (omega arith) g

-- ---- where a statement's jumps start

abbrev start_in : List Statement → ℕ → ℕ
start_in deck zero = 0
start_in [] (suc q) = 0
start_in (s ∷ deck) (suc q) = length (jump_words s.form) + start_in deck q

start_next : (deck : List Statement) (q : ℕ) → q < length deck → start_in deck (suc q) ≡ start_in deck q + length (jumps_of deck q)
start_next [] q h = absurd (omega arith)
start_next (s ∷ deck) zero h = omega arith
start_next (s ∷ deck) (suc q) h =
    let e = start_next deck q (omega arith) in
    omega arith

start_all : (deck : List Statement) → start_in deck (length deck) ≡ length (deck_jumps deck)
start_all [] = refl
start_all (s ∷ deck) =
    let e = start_all deck in
    let l = length-append (jump_words s.form) (deck_jumps deck) in
    omega arith

jump_in : (deck : List Statement) (q k : ℕ) → q < length deck → k < length (jumps_of deck q) → get_or (deck_jumps deck) (start_in deck q + k) 0 ≡ get_or (jumps_of deck q) k 0
jump_in [] q k h g = absurd (omega arith)
jump_in (s ∷ deck) zero k h g =
    let e : 0 + k ≡ k = omega arith in
    rw e (get_or-append (jump_words s.form) (deck_jumps deck) 0 k g)
jump_in (s ∷ deck) (suc q) k h g =
    let e : (length (jump_words s.form) + start_in deck q) + k ≡ length (jump_words s.form) + (start_in deck q + k) = omega arith in
    ap (λ (n : ℕ). get_or (jump_words s.form ++ deck_jumps deck) n 0) e ∙ get_or-append-add (jump_words s.form) (deck_jumps deck) (start_in deck q + k) 0 ∙ jump_in deck q k (omega arith) g

-- ---- rows that hold the deck

module _ (deck : List Statement) (rows : List ℕ) (count : ℕ) (many : count ≡ length deck) (are : take (5 * count) rows ≡ deck_rows deck) where
  word_at_lem : (q k : ℕ) → q < count → k < 5 → get_or rows (5 * q + k) 0 ≡ get_or (row_words (statement_at deck q)) k 0
  word_at_lem q k h g =
      let i : 5 * q + k < 5 * count = omega arith in
      sym (get_or-take (5 * count) rows (5 * q + k) 0 i) ∙ ap (λ (l : List ℕ). get_or l (5 * q + k) 0) are ∙ row_at deck q k (omega arith) g

  pub number_is : (q : ℕ) → q < count → number_at rows q ≡ (statement_at deck q).number
  number_is q h =
      let e : 5 * q ≡ 5 * q + 0 = omega arith in
      ap (λ (n : ℕ). get_or rows n 0) e ∙ word_at_lem q 0 h (omega arith)

  pub kind_is : (q : ℕ) → q < count → kind_at rows q ≡ kind_of (statement_at deck q).form
  kind_is q h = word_at_lem q 1 h (omega arith)

  pub set_is : (q : ℕ) → q < count → set_at rows q ≡ set_word (statement_at deck q).form
  set_is q h = word_at_lem q 2 h (omega arith)

  pub many_is : (q : ℕ) → q < count → jumps_at rows q ≡ length (jumps_of deck q)
  many_is q h = word_at_lem q 4 h (omega arith)

  start_in_lem : (q : ℕ) → q ≤ count → start_of rows q ≡ start_in deck q
  start_in_lem zero h = refl
  start_in_lem (suc q) h =
      let e = start_in_lem q (omega arith) in
      let m = many_is q (omega arith) in
      let n = start_next deck q (omega arith) in
      omega arith

  pub start_is : start_of rows count ≡ length (deck_jumps deck)
  start_is = start_in_lem count (omega arith) ∙ ap (start_in deck) many ∙ start_all deck

  pub jump_is : (q k : ℕ) → q < count → k < length (jumps_of deck q) → get_or (deck_jumps deck) (start_of rows q + k) 0 ≡ get_or (jumps_of deck q) k 0
  jump_is q k h g = ap (λ (n : ℕ). get_or (deck_jumps deck) (n + k) 0) (start_in_lem q (omega arith)) ∙ jump_in deck q k (omega arith) g

  pub jump_inside : (q k : ℕ) → q < count → k < length (jumps_of deck q) → start_of rows q + k < length (deck_jumps deck)
  jump_inside q k h g =
      let e = start_in_lem (suc q) (omega arith) in
      let s = jumps_below q h in
      let m = many_is q h in
      omega arith
    where
      jumps_below : (p : ℕ) → p < count → start_of rows p + jumps_at rows p ≤ length (deck_jumps deck)
      jumps_below p l = rw start_is at (jumps_inside rows p count l)
