-- 23 to 25 on the tables are the book's.
-- Assumes nothing.
use mathlib.Core.Path.{◌≡◌, refl, sym, ap, ◌∙◌}
use Prim.Native.Nat.{ℕ, zero, suc, ◌+◌, ◌-◌, ◌*◌, ◌≤◌, ◌<◌}
use native.Mathlib.Omega.{arith}
use mathlib.Core.Bool.{Bool, true, false, ◌&&◌, ◌||◌, not, cond}
use mathlib.Core.List.{List, [], ◌∷◌, map, append-nil}
use mathlib.Core.Option.{some}
use lib.Dec.{eqb, ltb, leb-suc-suc}
use lib.ListN.{length, get_or, take, get_elem?}
use lib.Seq.{get_or-take, length-take-le}
use borrow.Author.Tests.{ne_eqb}
use Rattle.rules_shared.specs.Lists.{all, Each, each_more}
use Rattle.rules_text.specs.Trees.{Name, Digits, value_of, cell, element, Form, assign, go_to, computed, ifs, loop, continue, stop, end, dimension, Statement, form_exits, form_last}
use Rattle.rules_deck.specs.Deck.{same_name, position_of, Do, dos_of}
use Rattle.rules_deck.specs.Whole.{first_wrong, last_of, in_range, may_end, may_end_at, crosses, depth, right_do, first_wrong_do, right24, form_sets, right25}
use Rattle.read_tokens.specs.Words.{name_word}
use Rattle.take_draft.specs.Names.{Told}
use Rattle.take_draft.specs.Draft.{kind_of, set_word, jump_words}
use Rattle.take_draft.specs.Sketch.{deck_rows, deck_jumps, loops_from}
use Rattle.read_cards.specs.declared.Sequence.{Sequence}
use Rattle.whole_tables.specs.declared.DoRange.{DoRange}
use Rattle.whole_tables.specs.Rows.{kind_at, set_at, start_of, do_index, last_index}
use Rattle.whole_tables.specs.Tables.{place_in, do_at, last_at, LoopsOf}
use Rattle.whole_numbers.specs.Numbers.{all_from, first_from, count_from}
use Rattle.whole_numbers.proofs.Tests.{all_same, all_true}
use Rattle.whole_ranges.specs.Ranges.{covers, apart, do_right, stays_out, jump_stays, exits_at, jumps_right, set_right}
use Rattle.whole_range.specs.Range.{covering, may_end_kind, uncrossed, outside, leaves}
use Rattle.whole_deck.specs.Whole.{SetsTold}
use Rattle.take_draft.proofs.NameWords.{word_test, some_word}
use Rattle.whole_deck.proofs.ByIndex.{no_do, all_by, all_zero, first_zero, dos_zero, depth_zero, all_map}
use Rattle.whole_deck.proofs.Rows.{statement_at, jumps_of, kind_is, set_is, many_is, jump_is, jump_inside}
use Rattle.whole_deck.proofs.Loops.{DoWords, do_words, loops_length}

may_end_kind_lem : (f : Form) → may_end f ≡ may_end_kind (kind_of f)
unfolding may_end_kind
may_end_kind_lem (assign t e) = refl
may_end_kind_lem (go_to n) = refl
may_end_kind_lem (computed ns v) = refl
may_end_kind_lem (ifs e a b c) = refl
may_end_kind_lem (loop n v p q r) = refl
may_end_kind_lem continue = refl
may_end_kind_lem stop = refl
may_end_kind_lem end = refl
may_end_kind_lem (dimension arrays) = refl

elem_at : (deck : List Statement) (j : ℕ) → j < length deck → get_elem? deck j ≡ some (statement_at deck j)
elem_at [] j h = absurd (omega arith)
elem_at (s ∷ deck) zero h = refl
elem_at (s ∷ deck) (suc j) h = elem_at deck j (omega arith)

-- a DO's last statement is no jump
exits_only : (goes : ℕ → Bool) (f : Form) (stay : ℕ → Bool) → stay 0 ≡ true → stay (length (jump_words f)) ≡ all goes (jump_words f)
    → stay (cond (eqb (kind_of f) 4) 0 (length (jump_words f))) ≡ all goes (map value_of (form_exits f))
unfolding form_exits form_last
exits_only goes (assign t x) stay z e = e
exits_only goes (go_to n) stay z e = e
exits_only goes (computed ns v) stay z e = e ∙ ap (λ (l : List Digits). all goes (map value_of l)) (append-nil ns)
exits_only goes (ifs x a b c) stay z e = e
exits_only goes (loop n v x y w) stay z e = z
exits_only goes continue stay z e = e
exits_only goes stop stay z e = e
exits_only goes end stay z e = e
exits_only goes (dimension arrays) stay z e = e

and_true : (b : Bool) → (b && true) ≡ b
and_true true = refl
and_true false = refl

not_and_false : (b : Bool) → not (b && false) ≡ true
not_and_false true = refl
not_and_false false = refl

all_at : (deck : List Statement) → Each SetsTold deck → (q : ℕ) → q < length deck → SetsTold (statement_at deck q)
all_at [] a q h = absurd (omega arith)
all_at (s ∷ deck) (each_more t a) zero h = t
all_at (s ∷ deck) (each_more t a) (suc q) h = all_at deck a q (omega arith)

module _ (deck : List Statement) (rows : List ℕ) (count : ℕ) (many : count ≡ length deck) (are : take (5 * count) rows ≡ deck_rows deck)
    (loops : List ℕ) (dos : ℕ) (long : 2 * dos ≤ length loops) (dos_are : take (2 * dos) loops ≡ loops_from 0 0 deck) (told : Each SetsTold deck) where
  pub dos_many : length (dos_of deck) ≡ dos
  unfolding dos_of
  dos_many =
      let a = loops_length 0 0 deck in
      let b = ap length dos_are in
      let c = length-take-le (2 * dos) loops long in
      omega arith

  abbrev pub do_of_deck : ℕ → Do
  do_of_deck i = get_or (dos_of deck) i no_do

  pub words : (i : ℕ) → i < dos → DoWords 0 0 deck i (do_of_deck i)
  unfolding dos_of
  words i h = do_words 0 0 deck told i (let m = dos_many in omega arith)

  pub do_is : (i : ℕ) → i < dos → do_index loops i ≡ (do_of_deck i).position
  do_is i h =
      let g : 2 * i < 2 * dos = omega arith in
      sym (get_or-take (2 * dos) loops (2 * i) 0 g) ∙ ap (λ (l : List ℕ). get_or l (2 * i) 0) dos_are ∙ (words i h).begins

  pub index_is : (i : ℕ) (h : i < dos) → last_index loops i ≡ (words i h).index
  index_is i h =
      let g : 2 * i + 1 < 2 * dos = omega arith in
      let z : 0 + (words i h).index ≡ (words i h).index = omega arith in
      sym (get_or-take (2 * dos) loops (2 * i + 1) 0 g) ∙ ap (λ (l : List ℕ). get_or l (2 * i + 1) 0) dos_are ∙ (words i h).indexed ∙ z

  pub do_inside : (i : ℕ) → i < dos → do_index loops i < count
  do_inside i h =
      let p = do_is i h in
      let r = (words i h).row_is in
      let l = (words i h).row_low in
      omega arith

  own_set : (i : ℕ) → i < dos → set_at rows (do_index loops i) ≡ name_word (do_of_deck i).variable
  own_set i h =
      let r = (words i h).row_is in
      let l = (words i h).row_low in
      let e : (do_of_deck i).position ≡ (words i h).row = omega arith in
      ap (set_at rows) (do_is i h ∙ e) ∙ set_is deck rows count many are (words i h).row (omega arith) ∙ (words i h).sets

  inside : (q : ℕ) → q < length deck → q < count
  inside q h = omega arith

  below : (i : ℕ) → i < length (dos_of deck) → i < dos
  below i h = let m = dos_many in omega arith

  -- once every number has its place
  module _ (places : List Sequence) (placed : (k : ℕ) → k < length (deck_jumps deck) → place_in places k ≡ suc (position_of deck (get_or (deck_jumps deck) k 0)))
      (table : List DoRange) (looped : LoopsOf loops dos places table) where
    many_dos : length (dos_of deck) ≡ length table
    many_dos = dos_many ∙ sym looped.counted

    pub starts_is : (i : ℕ) → i < dos → do_at table i ≡ suc (do_of_deck i).position
    starts_is i h = looped.starts i h ∙ ap suc (do_is i h)

    pub last_is : (i : ℕ) → i < dos → last_at table i ≡ suc (last_of deck (do_of_deck i))
    last_is i h =
        let w = words i h in
        looped.lasts i h ∙ ap (place_in places) (index_is i h) ∙ placed w.index w.index_low ∙ ap (λ (n : ℕ). suc (position_of deck n)) w.last

    covers_is : (j i : ℕ) → i < dos → covers table (suc j) i ≡ in_range deck (do_of_deck i) j
    unfolding covers covering
    covers_is j i h = rw (starts_is i h, last_is i h, leb-suc-suc (suc (do_of_deck i).position) j, leb-suc-suc j (last_of deck (do_of_deck i)))

    covered : (j i : ℕ) → i < dos → covering (do_at table i) (last_at table i) (suc j) ≡ in_range deck (do_of_deck i) j
    unfolding covers
    covered = covers_is

    -- 23
    apart_is : (i k : ℕ) → i < dos → k < dos → apart table (do_at table i) (last_at table i) k ≡ not (crosses deck (do_of_deck i) (do_of_deck k))
    unfolding apart uncrossed
    apart_is i k h g =
        let c : covering (do_at table k) (last_at table k) (do_at table i) ≡ in_range deck (do_of_deck k) (do_of_deck i).position = around k (do_at table i) (do_of_deck i).position g (starts_is i h) in
        rw (c, last_is i h, last_is k g, leb-suc-suc (suc (last_of deck (do_of_deck k))) (last_of deck (do_of_deck i)))
      where
        around : (d at j : ℕ) → d < dos → at ≡ suc j → covering (do_at table d) (last_at table d) at ≡ in_range deck (do_of_deck d) j
        around d at j l e = ap (covering (do_at table d) (last_at table d)) e ∙ covered j d l

    module _ (known : (i : ℕ) → i < dos → last_of deck (do_of_deck i) < length deck) where
      may_is : (i : ℕ) → i < dos → may_end_kind (kind_at rows (last_at table i - 1)) ≡ may_end_at (get_elem? deck (last_of deck (do_of_deck i)))
      may_is i h =
          let l = known i h in
          let one : suc (last_of deck (do_of_deck i)) - 1 ≡ last_of deck (do_of_deck i) = omega arith in
          rw (last_is i h, one, elem_at deck (last_of deck (do_of_deck i)) l)
          (ap may_end_kind (kind_is deck rows count many are (last_of deck (do_of_deck i)) (omega arith)) ∙ sym (may_end_kind_lem (statement_at deck (last_of deck (do_of_deck i))).form))

      do_right_is : (i : ℕ) → i < dos → do_right rows table i ≡ right_do deck (do_of_deck i)
      unfolding do_right
      do_right_is i h =
          let a : all (λ outer. not (crosses deck (do_of_deck i) outer)) (dos_of deck) ≡ all_from (apart table (do_at table i) (last_at table i)) (length (dos_of deck)) 0 =
          all_zero (λ outer. not (crosses deck (do_of_deck i) outer)) (dos_of deck) no_do (apart table (do_at table i) (last_at table i)) (λ k g. apart_is i k h (below k g)) in
          let b : depth deck (dos_of deck) (do_of_deck i).position ≡ count_from (covers table (suc (do_of_deck i).position)) (length (dos_of deck)) 0 =
          depth_zero deck (dos_of deck) (do_of_deck i).position (covers table (suc (do_of_deck i).position)) (λ k g. covers_is (do_of_deck i).position k (below k g)) in
          let c : ltb (do_at table i) (last_at table i) ≡ ltb (do_of_deck i).position (last_of deck (do_of_deck i)) = rw (starts_is i h, last_is i h, leb-suc-suc (suc (do_of_deck i).position) (last_of deck (do_of_deck i))) in
          let d : count_from (covers table (do_at table i)) (length table) 0 ≡ depth deck (dos_of deck) (do_of_deck i).position =
          ap (λ (s : ℕ). count_from (covers table s) (length table) 0) (starts_is i h) ∙ ap (λ (n : ℕ). count_from (covers table (suc (do_of_deck i).position)) n 0) (sym many_dos) ∙ sym b in
          let e : all_from (apart table (do_at table i) (last_at table i)) (length table) 0 ≡ all (λ outer. not (crosses deck (do_of_deck i) outer)) (dos_of deck) =
          ap (λ (n : ℕ). all_from (apart table (do_at table i) (last_at table i)) n 0) (sym many_dos) ∙ sym a in
          rw (c, may_is i h, e, d)

      pub first23_is : first_from (do_right rows table) (do_at table) (length table) 0 ≡ first_wrong_do deck (dos_of deck)
      first23_is =
          sym (dos_zero deck (dos_of deck) (do_right rows table) (do_at table) (λ i h. do_right_is i (below i h)) (λ i h. starts_is i (below i h))
          ∙ ap (λ (n : ℕ). first_from (do_right rows table) (do_at table) n 0) many_dos)

    -- 24
    module _ (q : ℕ) (h : q < length deck) where
      goes : ℕ → Bool
      goes n = all (λ d. not (in_range deck d (position_of deck n)) || in_range deck d q) (dos_of deck)

      stays_is : (k : ℕ) → k < length (jumps_of deck q) → jump_stays table places (suc q) (start_of rows q + k) ≡ goes (get_or (jumps_of deck q) k 0)
      unfolding jump_stays stays_out outside goes
      stays_is k g =
          let n = get_or (jumps_of deck q) k 0 in
          let target : place_in places (start_of rows q + k) ≡ suc (position_of deck n) =
          placed (start_of rows q + k) (jump_inside deck rows count many are q k (inside q h) g) ∙ ap (λ (m : ℕ). suc (position_of deck m)) (jump_is deck rows count many are q k (inside q h) g) in
          let a : all (λ d. not (in_range deck d (position_of deck n)) || in_range deck d q) (dos_of deck) ≡ all_from (stays_out table (suc q) (suc (position_of deck n))) (length (dos_of deck)) 0 =
          all_zero (λ d. not (in_range deck d (position_of deck n)) || in_range deck d q) (dos_of deck) no_do (stays_out table (suc q) (suc (position_of deck n)))
          (λ i b. out_is n i (below i b)) in
          ap (λ (t : ℕ). all_from (stays_out table (suc q) t) (length table) 0) target ∙ ap (λ (m : ℕ). all_from (stays_out table (suc q) (suc (position_of deck n))) m 0) (sym many_dos) ∙ sym a
        where
          out_is : (n i : ℕ) → i < dos → stays_out table (suc q) (suc (position_of deck n)) i ≡ (not (in_range deck (do_of_deck i) (position_of deck n)) || in_range deck (do_of_deck i) q)
          out_is n i b = rw (covered (position_of deck n) i b, covered q i b)

      pub right24_is : jumps_right rows table places q ≡ right24 deck q (statement_at deck q)
      unfolding jumps_right exits_at right24 goes
      right24_is =
          let f = (statement_at deck q).form in
          let a = all_by goes (jumps_of deck q) 0 (jump_stays table places (suc q)) (start_of rows q) stays_is in
          rw (kind_is deck rows count many are q (inside q h), many_is deck rows count many are q (inside q h))
          (exits_only goes f (λ n. all_from (jump_stays table places (suc q)) n (start_of rows q)) refl (sym a) ∙ all_map goes value_of (form_exits f))

    pub first24_is : first_from (jumps_right rows table places) suc count 0 ≡ first_wrong (right24 deck) 0 deck
    first24_is = sym (first_zero (right24 deck) deck (jumps_right rows table places) right24_is ∙ ap (λ (n : ℕ). first_from (jumps_right rows table places) suc n 0) (sym many))

    -- 25
    module _ (q : ℕ) (h : q < length deck) where
      -- a name of the word m may be set
      free : ℕ → Bool
      free m = all_from (λ i. not (in_range deck (do_of_deck i) q && eqb (name_word (do_of_deck i).variable) m)) dos 0

      free_is : set_right rows table (suc q) ≡ free (set_word (statement_at deck q).form)
      unfolding set_right leaves free
      free_is =
          ap (λ (n : ℕ). all_from (λ i. leaves rows (do_at table i) (last_at table i) (suc q)) n 0) looped.counted
          ∙ all_same (λ i. leaves rows (do_at table i) (last_at table i) (suc q)) (λ i. not (in_range deck (do_of_deck i) q && eqb (name_word (do_of_deck i).variable) (set_word (statement_at deck q).form))) dos 0
          (λ i a b. leave_is i (omega arith))
        where
          -- what a DO's own row sets, by its place
          own_place : (i : ℕ) → i < dos → set_at rows (do_at table i - 1) ≡ name_word (do_of_deck i).variable
          own_place i l =
              let s = looped.starts i l in
              let e : do_at table i - 1 ≡ do_index loops i = omega arith in
              ap (set_at rows) e ∙ own_set i l

          leave_is : (i : ℕ) → i < dos → leaves rows (do_at table i) (last_at table i) (suc q) ≡ not (in_range deck (do_of_deck i) q && eqb (name_word (do_of_deck i).variable) (set_word (statement_at deck q).form))
          leave_is i l =
              let one : suc q - 1 ≡ q = omega arith in
              rw (own_place i l, one, set_is deck rows count many are q (inside q h)) (ap (λ (b : Bool). not (b && eqb (name_word (do_of_deck i).variable) (set_word (statement_at deck q).form))) (covered q i l))

      none_set : free 0 ≡ true
      unfolding free
      none_set =
          all_true (λ i. not (in_range deck (do_of_deck i) q && eqb (name_word (do_of_deck i).variable) 0)) dos 0
          (λ i a b. let l : i < dos = omega arith in rw (ne_eqb (name_word (do_of_deck i).variable) 0 (some_word (do_of_deck i).variable (words i l).told)) (not_and_false (in_range deck (do_of_deck i) q)))

      one_set : (v : Name) → Told v → free (name_word v) ≡ (all (λ d. not (in_range deck d q && same_name d.variable v)) (dos_of deck) && true)
      unfolding free
      one_set v t =
          let a : all (λ d. not (in_range deck d q && same_name d.variable v)) (dos_of deck) ≡ all_from (λ i. not (in_range deck (do_of_deck i) q && eqb (name_word (do_of_deck i).variable) (name_word v))) (length (dos_of deck)) 0 =
          all_zero (λ d. not (in_range deck d q && same_name d.variable v)) (dos_of deck) no_do (λ i. not (in_range deck (do_of_deck i) q && eqb (name_word (do_of_deck i).variable) (name_word v)))
          (λ i b. rw (sym (word_test (do_of_deck i).variable v (words i (below i b)).told t))) in
          sym (and_true (all (λ d. not (in_range deck d q && same_name d.variable v)) (dos_of deck)) ∙ a
          ∙ ap (λ (n : ℕ). all_from (λ i. not (in_range deck (do_of_deck i) q && eqb (name_word (do_of_deck i).variable) (name_word v))) n 0) dos_many)

      sets_is : (f : Form) → Each Told (form_sets f) → free (set_word f) ≡ all (λ v. all (λ d. not (in_range deck d q && same_name d.variable v)) (dos_of deck)) (form_sets f)
      unfolding form_sets
      sets_is (assign (cell v) e) (each_more t a) = one_set v t
      sets_is (assign (element v s) e) a = none_set
      sets_is (go_to n) a = none_set
      sets_is (computed ns v) a = none_set
      sets_is (ifs e x y z) a = none_set
      sets_is (loop n v x y z) (each_more t a) = one_set v t
      sets_is continue a = none_set
      sets_is stop a = none_set
      sets_is end a = none_set
      sets_is (dimension arrays) a = none_set

      right25_is : set_right rows table (suc q) ≡ right25 deck q (statement_at deck q)
      unfolding right25
      right25_is = free_is ∙ sets_is (statement_at deck q).form (all_at deck told q h)

    pub first25_is : first_from (λ q. set_right rows table (suc q)) suc count 0 ≡ first_wrong (right25 deck) 0 deck
    first25_is = sym (first_zero (right25 deck) deck (λ q. set_right rows table (suc q)) right25_is ∙ ap (λ (n : ℕ). first_from (λ q. set_right rows table (suc q)) suc n 0) (sym many))
