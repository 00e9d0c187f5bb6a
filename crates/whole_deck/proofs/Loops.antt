-- A deck's DOs in the table of DOs.
-- Assumes nothing.
use mathlib.Core.Path.{◌≡◌, refl, ap, ◌∙◌, subst}
use Prim.Native.Nat.{ℕ, zero, suc, ◌+◌, ◌*◌, ◌<◌}
use native.Mathlib.Omega.{arith}
use mathlib.Core.List.{List, [], ◌∷◌, ◌++◌}
use lib.ListN.{length, get_or, length-append}
use lib.Seq.{get_or-append-add}
use Rattle.rules_shared.specs.Lists.{Each, each_more}
use Rattle.rules_text.specs.Trees.{Name, Digits, value_of, Form, assign, go_to, computed, ifs, loop, continue, stop, end, dimension, Statement, form_exits, form_last}
use Rattle.rules_deck.specs.Deck.{Do, do_of, dos_from}
use Rattle.rules_deck.specs.Whole.{form_sets}
use Rattle.read_tokens.specs.Words.{name_word}
use Rattle.take_draft.specs.Names.{Told}
use Rattle.take_draft.specs.Draft.{set_word, jump_words, loop_words}
use Rattle.take_draft.specs.Sketch.{deck_jumps, loops_from}
use Rattle.whole_deck.specs.Whole.{SetsTold}
use Rattle.whole_deck.proofs.ByIndex.{no_do}
use Rattle.whole_deck.proofs.Rows.{statement_at}

-- DO i of the statements from position q on, with j jumps before them: its two words, its last number among the jumps, its own row
pub record DoWords (q j : ℕ) (deck : List Statement) (i : ℕ) (d : Do) : Type 0 where
  pub begins : get_or (loops_from q j deck) (2 * i) 0 ≡ d.position
  pub index : ℕ
  pub indexed : get_or (loops_from q j deck) (2 * i + 1) 0 ≡ j + index
  pub index_low : index < length (deck_jumps deck)
  pub last : get_or (deck_jumps deck) index 0 ≡ d.last
  pub row : ℕ
  pub row_is : d.position ≡ q + row
  pub row_low : row < length deck
  pub sets : set_word (statement_at deck row).form ≡ name_word d.variable
  pub told : Told d.variable

-- after a statement that is no DO
past : (q j : ℕ) (s : Statement) (deck : List Statement) (i : ℕ) (d : Do) → loop_words q j s.form ≡ [] → DoWords (suc q) (j + length (jump_words s.form)) deck i d → DoWords q j (s ∷ deck) i d
past q j s deck i d none w =
    let many = length (jump_words s.form) in
    let all : loops_from q j (s ∷ deck) ≡ loops_from (suc q) (j + many) deck = ap (λ (l : List ℕ). l ++ loops_from (suc q) (j + many) deck) none in
    let x = w.indexed in
    let y = w.index_low in
    let z = length-append (jump_words s.form) (deck_jumps deck) in
    let u = w.row_is in
    let v = w.row_low in
    record {
      begins = ap (λ (l : List ℕ). get_or l (2 * i) 0) all ∙ w.begins;
      index = many + w.index;
      indexed = ap (λ (l : List ℕ). get_or l (2 * i + 1) 0) all ∙ (let e : get_or (loops_from (suc q) (j + many) deck) (2 * i + 1) 0 ≡ j + (many + w.index) = omega arith in e);
      index_low = omega arith;
      last = get_or-append-add (jump_words s.form) (deck_jumps deck) w.index 0 ∙ w.last;
      row = suc w.row;
      row_is = omega arith;
      row_low = omega arith;
      sets = w.sets;
      told = w.told;
    }

the_first : (v : Name) (l : List Name) → Each Told (v ∷ l) → Told v
the_first v l (each_more t a) = t

-- the DO itself, and the DOs after it
module _ (q j : ℕ) (n : Digits) (v : Name) (deck : List Statement) where
  abbrev itself : Statement → Type 0
  itself s = (loop_words q j s.form ≡ q ∷ j ∷ []) × ((jump_words s.form ≡ value_of n ∷ []) × ((set_word s.form ≡ name_word v) × Told v))

  here : (s : Statement) → itself s → DoWords q j (s ∷ deck) 0 (record { position = q; last = value_of n; variable = v })
  here s h =
      let e = h.1.0 in
      let z = length-append (jump_words s.form) (deck_jumps deck) in
      let o = ap length e in
      record {
        begins = ap (λ (l : List ℕ). get_or (l ++ loops_from (suc q) (j + length (jump_words s.form)) deck) (2 * 0) 0) h.0;
        index = 0;
        indexed = ap (λ (l : List ℕ). get_or (l ++ loops_from (suc q) (j + length (jump_words s.form)) deck) (2 * 0 + 1) 0) h.0 ∙ (let a : j ≡ j + 0 = omega arith in a);
        index_low = omega arith;
        last = ap (λ (l : List ℕ). get_or (l ++ deck_jumps deck) 0 0) e;
        row = 0;
        row_is = omega arith;
        row_low = omega arith;
        sets = h.1.1.0;
        told = h.1.1.1;
      }

  next : (s : Statement) (i : ℕ) (d : Do) → itself s → DoWords (suc q) (j + length (jump_words s.form)) deck i d → DoWords q j (s ∷ deck) (suc i) d
  next s i d h w =
      let many = length (jump_words s.form) in
      let a : 2 * suc i ≡ 2 + 2 * i = omega arith in
      let b : 2 * suc i + 1 ≡ 2 + (2 * i + 1) = omega arith in
      let all : loops_from q j (s ∷ deck) ≡ (q ∷ j ∷ []) ++ loops_from (suc q) (j + many) deck = ap (λ (l : List ℕ). l ++ loops_from (suc q) (j + many) deck) h.0 in
      let x = w.indexed in
      let y = w.index_low in
      let z = length-append (jump_words s.form) (deck_jumps deck) in
      let u = w.row_is in
      let t = w.row_low in
      record {
        begins = ap (λ (l : List ℕ). get_or l (2 * suc i) 0) all ∙ ap (λ (m : ℕ). get_or ((q ∷ j ∷ []) ++ loops_from (suc q) (j + many) deck) m 0) a ∙ get_or-append-add (q ∷ j ∷ []) (loops_from (suc q) (j + many) deck) (2 * i) 0 ∙ w.begins;
        index = many + w.index;
        indexed = ap (λ (l : List ℕ). get_or l (2 * suc i + 1) 0) all ∙ ap (λ (m : ℕ). get_or ((q ∷ j ∷ []) ++ loops_from (suc q) (j + many) deck) m 0) b
            ∙ get_or-append-add (q ∷ j ∷ []) (loops_from (suc q) (j + many) deck) (2 * i + 1) 0 ∙ (let e : get_or (loops_from (suc q) (j + many) deck) (2 * i + 1) 0 ≡ j + (many + w.index) = omega arith in e);
        index_low = omega arith;
        last = get_or-append-add (jump_words s.form) (deck_jumps deck) w.index 0 ∙ w.last;
        row = suc w.row;
        row_is = omega arith;
        row_low = omega arith;
        sets = w.sets;
        told = w.told;
      }

module _ (q j : ℕ) (s : Statement) (deck : List Statement) (told : SetsTold s)
    (again : (i : ℕ) → i < length (dos_from (suc q) deck) → DoWords (suc q) (j + length (jump_words s.form)) deck i (get_or (dos_from (suc q) deck) i no_do)) where
  -- at a statement of the form f
  step : (f : Form) → s.form ≡ f → (i : ℕ) → i < length (do_of q f ++ dos_from (suc q) deck) → DoWords q j (s ∷ deck) i (get_or (do_of q f ++ dos_from (suc q) deck) i no_do)
  unfolding form_exits form_last form_sets
  step (assign t x) e i h = past q j s deck i _ (ap (loop_words q j) e) (again i h)
  step (go_to n) e i h = past q j s deck i _ (ap (loop_words q j) e) (again i h)
  step (computed ns v) e i h = past q j s deck i _ (ap (loop_words q j) e) (again i h)
  step (ifs x a b c) e i h = past q j s deck i _ (ap (loop_words q j) e) (again i h)
  step (loop n v x y z) e zero h =
      here q j n v deck s (ap (loop_words q j) e, (ap jump_words e, (ap set_word e, the_first v [] (subst (λ (f : Form). Each Told (form_sets f)) e told))))
  step (loop n v x y z) e (suc i) h =
      next q j n v deck s i _ (ap (loop_words q j) e, (ap jump_words e, (ap set_word e, the_first v [] (subst (λ (f : Form). Each Told (form_sets f)) e told)))) (again i (omega arith))
  step continue e i h = past q j s deck i _ (ap (loop_words q j) e) (again i h)
  step stop e i h = past q j s deck i _ (ap (loop_words q j) e) (again i h)
  step end e i h = past q j s deck i _ (ap (loop_words q j) e) (again i h)
  step (dimension arrays) e i h = past q j s deck i _ (ap (loop_words q j) e) (again i h)

pub do_words : (q j : ℕ) (deck : List Statement) → Each SetsTold deck → (i : ℕ) → i < length (dos_from q deck) → DoWords q j deck i (get_or (dos_from q deck) i no_do)
do_words q j [] a i h = absurd (omega arith)
do_words q j (s ∷ deck) (each_more t a) i h = step q j s deck t (do_words (suc q) (j + length (jump_words s.form)) deck a) s.form refl i h

-- two words a DO
words_of : (q j : ℕ) (f : Form) → length (loop_words q j f) ≡ 2 * length (do_of q f)
words_of q j (assign t x) = refl
words_of q j (go_to n) = refl
words_of q j (computed ns v) = refl
words_of q j (ifs x a b c) = refl
words_of q j (loop n v x y z) = refl
words_of q j continue = refl
words_of q j stop = refl
words_of q j end = refl
words_of q j (dimension arrays) = refl

pub loops_length : (q j : ℕ) (deck : List Statement) → length (loops_from q j deck) ≡ 2 * length (dos_from q deck)
loops_length q j [] = refl
loops_length q j (s ∷ deck) =
    let many = length (jump_words s.form) in
    let e = loops_length (suc q) (j + many) deck in
    let w = words_of q j s.form in
    let a = length-append (loop_words q j s.form) (loops_from (suc q) (j + many) deck) in
    let b = length-append (do_of q s.form) (dos_from (suc q) deck) in
    omega arith
