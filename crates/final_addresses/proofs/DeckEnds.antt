-- Which DOs end with a statement of an accepted deck, by their last statement's position; and the next statement's address.
-- Assumes nothing.
use mathlib.Core.Path.{◌≡◌, refl, sym, ap, ◌∙◌, subst}
use Prim.Native.Nat.{ℕ, zero, suc, ◌+◌, ◌*◌, ◌≤◌}
use native.Mathlib.Omega.{arith}
use native.Mathlib.Nat.{zero-add}
use native.Mathlib.Numerals.{add-one}
use mathlib.Core.Bool.{Bool, true, false, cond}
use mathlib.Core.List.{List, [], ◌∷◌, ◌++◌, map, reverse, append-nil}
use mathlib.Core.Option.{some}
use lib.Dec.{eqb}
use lib.ListN.{length, take, get_or, get_elem?, length-map}
use lib.Seq.{take-length}
use borrow.Author.Tests.{eqb-true, eqb-false, eq-eqb, ne_eqb, lt-ltb, le-ltb}
use Rattle.rules_shared.specs.House.{House}
use Rattle.rules_object.specs.Operations.{NEG}
use Rattle.rules_text.specs.Trees.{Statement}
use Rattle.rules_deck.specs.Deck.{position_of, Do, dos_of, dims_of, ending_with, endings}
use Rattle.rules_deck.specs.Whole.{last_of}
use Rattle.rules_deck.specs.Translation.{held_of, do_number, words, address_at}
use Rattle.rules_deck.specs.Accepted.{Among}
use Rattle.rules_deck.proofs.TestLaws.{clash, at_before}
use Rattle.rules_deck.proofs.Addresses.{at_some, address_suc, address_most}
use Rattle.rules_deck.proofs.Rows.{Rising, next, rising, rising_least, number_none}
use Rattle.rules_deck.proofs.NestedDeck.{number_at, last_number}
use Rattle.rules_deck.proofs.FittingDeck.{fitting}
use Rattle.take_draft.specs.Sketch.{deck_jumps, loops_from}
use Rattle.final_addresses.specs.Given.{Loops, Judged}
use Rattle.final_addresses.specs.Ends.{last_at, ends_at, Lasts}
use Rattle.final_addresses.proofs.Told.{begins_long, begins_at, row_own, own_length}
use Rattle.final_addresses.proofs.Lasts.{reverse_last, take_more, among_at, map_get, DoTold, do_told, loops_length}

-- ---- a DO's number

number_of : {q : ℕ} (ds : List Do) (m : ℕ) (x : Do) → Rising q ds → get_elem? ds m ≡ some x → do_number ds x.position ≡ m
number_of [] m x h e = absurd (clash (sym e))
number_of (c ∷ ds) zero x (next k h) e =
    let same : c ≡ x = cc in
    subst (λ (y : Do). do_number (c ∷ ds) y.position ≡ 0) same (rw (le-ltb c.position c.position (omega arith)) (number_none ds c.position h (omega arith)))
number_of (c ∷ ds) (suc m) x (next k h) e =
    rw (lt-ltb c.position x.position (rising_least h (among_at ds m x e))) (ap suc (number_of ds m x h e))

-- ---- where a number is found

position_number : (deck : List Statement) (n : ℕ) (s : Statement) → get_elem? deck (position_of deck n) ≡ some s → s.number ≡ n
position_number [] n s e = absurd (clash (sym e))
position_number (t ∷ deck) n s e = go (eqb t.number n) refl (position_number deck n s) e
  where
    go : (b : Bool) → eqb t.number n ≡ b → (get_elem? deck (position_of deck n) ≡ some s → s.number ≡ n)
        → get_elem? (t ∷ deck) (cond b 0 (suc (position_of deck n))) ≡ some s → s.number ≡ n
    go true h rest e = let same : t ≡ s = cc in sym (ap (λ (x : Statement). x.number) same) ∙ eqb-true t.number n h
    go false h rest e = rest e

-- ---- those that end with a number, one DO more

ending_last : (n : ℕ) (l : List Do) (x : Do) → ending_with n (l ++ (x ∷ [])) ≡ ending_with n l ++ cond (eqb x.last n) (x ∷ []) []
ending_last n [] x = refl
ending_last n (d ∷ l) x = go (eqb d.last n) (ending_last n l x)
  where
    go : (b : Bool) → ending_with n (l ++ (x ∷ [])) ≡ ending_with n l ++ cond (eqb x.last n) (x ∷ []) []
        → cond b (d ∷ ending_with n (l ++ (x ∷ []))) (ending_with n (l ++ (x ∷ []))) ≡ cond b (d ∷ ending_with n l) (ending_with n l) ++ cond (eqb x.last n) (x ∷ []) []
    go true h = ap (λ (m : List Do). d ∷ m) h
    go false h = h

module _ {house : House} {deck : List Statement} {loops : List ℕ} {n : ℕ} (told : Loops house deck loops n) where
  pub loops_long : 2 * n ≤ length loops
  unfolding dos_of
  loops_long = begins_long loops (loops_from 0 0 deck) (2 * n) told.loops_are (omega (arith, loops_length 0 0 deck, told.dos_counted))

  pub dos_few : n ≤ 64
  dos_few = omega (arith, (fitting told.accepted).dos, told.dos_counted)

  do_words : (m : ℕ) (x : Do) → get_elem? (dos_of deck) m ≡ some x → DoTold 0 0 deck m x
  unfolding dos_of
  do_words m x e = do_told 0 0 deck m x e

  pub do_position : (m : ℕ) (x : Do) → get_elem? (dos_of deck) m ≡ some x → get_or loops (2 * m) 0 ≡ x.position
  do_position m x e =
      let h = at_before (dos_of deck) m e in
      begins_at loops (loops_from 0 0 deck) (2 * n) told.loops_are (2 * m) (omega (arith, told.dos_counted)) ∙ (do_words m x e).stands

  do_place : (m : ℕ) (x : Do) → (e : get_elem? (dos_of deck) m ≡ some x) → get_or loops (2 * m + 1) 0 ≡ (do_words m x e).place
  do_place m x e =
      let h = at_before (dos_of deck) m e in
      begins_at loops (loops_from 0 0 deck) (2 * n) told.loops_are (2 * m + 1) (omega (arith, told.dos_counted)) ∙ (do_words m x e).at ∙ zero-add _

  pub do_number_lem : (m : ℕ) (x : Do) → get_elem? (dos_of deck) m ≡ some x → do_number (dos_of deck) x.position ≡ m
  do_number_lem m x e = number_of (dos_of deck) m x (rising deck) e

module _ {house : House} {deck : List Statement} {rows : List ℕ} {count : ℕ} {loops : List ℕ} {n : ℕ} {jumps : List ℕ} (told : Judged house deck rows count loops n jumps) where
  jumps_long : length (deck_jumps deck) ≤ length jumps
  jumps_long = begins_long jumps (map (position_of deck) (deck_jumps deck)) (length (deck_jumps deck)) told.jumps_are (length-map (deck_jumps deck) (position_of deck))

  pub lasts_inside : Lasts loops n jumps
  lasts_inside =
      record {
        long = loops_long told.in_loops;
        inside = λ d h.
            let x = at_some (dos_of deck) d (omega (arith, told.in_loops.dos_counted)) in
            omega (arith, do_place told.in_loops d x.0 x.1, (do_words told.in_loops d x.0 x.1).inside, jumps_long);
      }

  pub last_is : (m : ℕ) (x : Do) → get_elem? (dos_of deck) m ≡ some x → last_at loops jumps m ≡ last_of deck x
  last_is m x e =
      let w = do_words told.in_loops m x e in
      ap (λ (i : ℕ). get_or jumps i 0) (do_place told.in_loops m x e)
      ∙ begins_at jumps (map (position_of deck) (deck_jumps deck)) (length (deck_jumps deck)) told.jumps_are w.place w.inside
      ∙ map_get (position_of deck) (deck_jumps deck) w.place w.inside
      ∙ ap (position_of deck) w.last

  module _ (i : ℕ) (s : Statement) (e : get_elem? deck i ≡ some s) where
    -- a DO's last number is this statement's just where its last statement is this one
    same_end : (x : Do) → Among x (dos_of deck) → eqb (last_of deck x) i ≡ eqb x.last s.number
    same_end x a = go (eqb (last_of deck x) i) refl
      where
        go : (b : Bool) → eqb (last_of deck x) i ≡ b → b ≡ eqb x.last s.number
        go true h =
            let p = eqb-true (last_of deck x) i h in
            let m = position_number deck x.last s (ap (get_elem? deck) p ∙ e) in
            sym (eq-eqb x.last s.number (sym m))
        go false h =
            sym (ne_eqb x.last s.number
            (λ m.
            let z = last_number told.in_loops.accepted x a in
            let p = number_at told.in_loops.accepted i s e (omega arith) in
            eqb-false (last_of deck x) i h (ap (position_of deck) m ∙ p)))

    ends_from : (m : ℕ) → m ≤ length (dos_of deck) → ends_at loops jumps i m ≡ map (λ d. do_number (dos_of deck) d.position) (reverse (ending_with s.number (take m (dos_of deck))))
    ends_from zero l = refl
    ends_from (suc m) l =
        let x = at_some (dos_of deck) m l in
        let ends = ending_with s.number (take m (dos_of deck)) in
        let b = ap (λ (p : ℕ). eqb p i) (last_is m x.0 x.1) ∙ same_end x.0 (among_at (dos_of deck) m x.0 x.1) in
        let t = ap (ending_with s.number) (take_more (dos_of deck) m x.0 x.1) ∙ ending_last s.number (take m (dos_of deck)) x.0 in
        go (eqb x.0.last s.number) x.0 (do_number_lem told.in_loops m x.0 x.1) b (ends_from m (omega arith))
        ∙ ap (λ (l : List Do). map (λ d. do_number (dos_of deck) d.position) (reverse l)) (sym t)
      where
        go : (b : Bool) (x : Do) → do_number (dos_of deck) x.position ≡ m → eqb (last_at loops jumps m) i ≡ b
            → ends_at loops jumps i m ≡ map (λ d. do_number (dos_of deck) d.position) (reverse (ending_with s.number (take m (dos_of deck))))
            → ends_at loops jumps i (suc m) ≡ map (λ d. do_number (dos_of deck) d.position) (reverse (ending_with s.number (take m (dos_of deck)) ++ cond b (x ∷ []) []))
        go true x p q h = rw (q, reverse_last (ending_with s.number (take m (dos_of deck))) x, p, h)
        go false x p q h = rw (q, append-nil (ending_with s.number (take m (dos_of deck))), h)

    -- the DOs that end here, the latest first
    pub ends_are : ends_at loops jumps i n ≡ map (λ d. do_number (dos_of deck) d.position) (endings deck s.number)
    unfolding endings
    ends_are =
        ap (ends_at loops jumps i) told.in_loops.dos_counted ∙ ends_from (length (dos_of deck)) (omega arith)
        ∙ ap (λ (l : List Do). map (λ d. do_number (dos_of deck) d.position) (reverse (ending_with s.number l))) (take-length (dos_of deck))

    pub next_address : address_at deck i + get_or rows (5 * i + 3) 0 + length (ends_at loops jumps i n) ≡ address_at deck (i + 1)
    unfolding words
    next_address =
        let a = ap (address_at deck) (add-one i) ∙ address_suc deck i s e in
        let o = row_own told.in_rows i s e in
        let f = own_length (held_of deck) (dims_of deck) (λ m. 0) NEG s.form in
        let l = ap length ends_are ∙ length-map (endings deck s.number) (λ d. do_number (dos_of deck) d.position) in
        omega arith

  pub addresses_small : (j : ℕ) → address_at deck j ≤ 4096
  addresses_small j = omega (arith, address_most deck j, (fitting told.in_rows.accepted).code)
