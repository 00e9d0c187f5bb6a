-- The code of a deck, one statement more.
-- Assumes nothing.
use mathlib.Core.Path.{◌≡◌, refl, sym, ap, ◌∙◌, subst}
use mathlib.Core.Logic.{◌⊎◌, inl, inr}
use Prim.Native.Nat.{ℕ, zero, suc, ◌+◌, ◌*◌, ◌≤◌, ◌<◌}
use native.Mathlib.Omega.{arith}
use native.Mathlib.Numerals.{add-one}
use mathlib.Core.Bool.{Bool, cond}
use mathlib.Core.List.{List, [], ◌∷◌, ◌++◌, map}
use mathlib.Core.Option.{some}
use lib.ListN.{length, take, drop, get_or, get_elem?, length-append, length-map}
use borrow.Author.Tests.{eq-eqb, ne_eqb}
use Rattle.rules_shared.specs.House.{House}
use Rattle.rules_object.specs.Operations.{Instr, DOI, DOE}
use Rattle.rules_text.specs.Trees.{Digits, value_of, Form, assign, go_to, computed, ifs, loop, continue, stop, end, dimension, Statement, form_exits, form_last}
use Rattle.rules_deck.specs.Deck.{Do, dos_of, dims_of, endings}
use Rattle.rules_deck.specs.Translation.{held_of, form_code, do_number, address_of, do_instr, enter_code, statement_code, code_from, Tables, no_tables, word_of, emit, tables_of}
use Rattle.rules_deck.proofs.TestLaws.{at_before}
use Rattle.rules_deck.proofs.Addresses.{at_some}
use Rattle.rules_deck.proofs.Tables.{emit_length}
use Rattle.rules_deck.proofs.TableLaws.{tables_append}
use Rattle.rules_deck.proofs.FittingDeck.{fitting}
use Rattle.take_draft.specs.Draft.{kind_of, jump_words, own_words as form_words, no_loop}
use Rattle.take_draft.specs.Sketch.{deck_jumps, plain_from, plain_code}
use Rattle.final_addresses.specs.Ends.{ends_at}
use Rattle.final_addresses.proofs.Told.{row_kind, row_own, row_jumps, own_length}
use Rattle.final_addresses.proofs.Lasts.{take_more, map_get}
use Rattle.final_addresses.proofs.DeckEnds.{ends_are}
use Rattle.final_code.specs.Settling.{Settling}
use Rattle.final_statement.specs.Words.{Aimed, go_word, own_words, end_word}
use Rattle.final_statement.proofs.Filling.{piece, piece_inside}
use Rattle.final_code.proofs.Likeness.{Alike, alike_self, Like, enter, form_likes, form_tables, emit_like, emit_append}
use Rattle.final_code.proofs.Splitting.{dos_in, number_is, plain_before, plain_here, plain_after, plain_split, plain_more, code_split, code_more}
use Rattle.final_code.proofs.Aiming.{leading, jumps_many, targets_here, aimed_here}

-- ---- tables before a statement, in the code and in the draft

abbrev pub code_to : List Statement → ℕ → List Instr
code_to deck i = code_from deck 0 (take i deck)

abbrev pub plain_to : List Statement → ℕ → List Instr
plain_to deck i = plain_from (held_of deck) (dims_of deck) 0 (take i deck)

enters : (deck : List Statement) (i d : ℕ) → do_number (dos_of deck) i ≡ d → (f : Form) → kind_of f ≡ 4 → Like (enter_code deck i f) (DOI d no_loop)
enters deck i d e (assign t x) h = absurd (omega arith)
enters deck i d e (go_to n) h = absurd (omega arith)
enters deck i d e (computed ns v) h = absurd (omega arith)
enters deck i d e (ifs x a b c) h = absurd (omega arith)
enters deck i d e (loop n v p₁ p₂ p₃) h = enter e
enters deck i d e continue h = absurd (omega arith)
enters deck i d e stop h = absurd (omega arith)
enters deck i d e end h = absurd (omega arith)
enters deck i d e (dimension arrays) h = absurd (omega arith)

ends_tables : (deck : List Statement) (T : Tables) (ds : List Do) → tables_of T (map (do_instr deck DOE) ds) ≡ T
ends_tables deck T [] = refl
ends_tables deck T (d ∷ ds) = ends_tables deck T ds

ends_words : (deck : List Statement) (T : Tables) (ds : List Do) → emit T (map (do_instr deck DOE) ds) ≡ map end_word (map (λ d. do_number (dos_of deck) d.position) ds)
unfolding word_of
ends_words deck T [] = refl
ends_words deck T (d ∷ ds) = ap (λ (l : List ℕ). end_word (do_number (dos_of deck) d.position) ∷ l) (ends_words deck T ds)

alike_to : (deck : List Statement) (i : ℕ) → i ≤ length deck → Alike (tables_of no_tables (code_to deck i)) (tables_of no_tables (plain_to deck i))
alike_to deck zero l = alike_self no_tables
alike_to deck (suc i) l =
    let s = at_some deck i l in
    let e = s.1 in
    let n = number_is deck i (omega arith) in
    let T = tables_of no_tables (code_to deck i) in
    let form = form_code (held_of deck) (dims_of deck) (address_of deck) (enter_code deck i s.0.form) s.0.form in
    let c = ap (λ (d : List Statement). tables_of no_tables (code_from deck 0 d)) (take_more deck i s.0 e)
    ∙ ap (tables_of no_tables) (code_more deck i s.0 e)
    ∙ tables_append no_tables (code_to deck i) (statement_code deck i s.0)
    ∙ tables_append T form (map (do_instr deck DOE) (endings deck s.0.number))
    ∙ ends_tables deck (tables_of T form) (endings deck s.0.number) in
    let p = ap (λ (d : List Statement). tables_of no_tables (plain_from (held_of deck) (dims_of deck) 0 d)) (take_more deck i s.0 e)
    ∙ ap (tables_of no_tables) (plain_more deck i s.0 e)
    ∙ tables_append no_tables (plain_to deck i) (plain_here deck i s.0 e) in
    let a = form_tables (held_of deck) (dims_of deck) (address_of deck) (λ n. n) (enter_code deck i s.0.form) (DOI (dos_in (take i deck)) no_loop) s.0.form
    (enters deck i (dos_in (take i deck)) n s.0.form) (alike_to deck i (omega arith)) in
    subst (λ (U : Tables). Alike (tables_of no_tables (code_to deck (suc i))) U) (sym p) (subst (λ (U : Tables). Alike U (tables_of (tables_of no_tables (plain_to deck i)) (plain_here deck i s.0 e))) (sym c) a)

-- ---- a statement's own words

which : (f : Form) → (kind_of f ≡ 1 → ⊥) ⊎ ((n : Digits) × (f ≡ go_to n))
which (assign t e) = inl (λ h. omega arith)
which (go_to n) = inr (n, refl)
which (computed ns v) = inl (λ h. omega arith)
which (ifs e a b c) = inl (λ h. omega arith)
which (loop n v p₁ p₂ p₃) = inl (λ h. omega arith)
which continue = inl (λ h. omega arith)
which stop = inl (λ h. omega arith)
which end = inl (λ h. omega arith)
which (dimension arrays) = inl (λ h. omega arith)

one_jump : (n : Digits) → jump_words (go_to n) ≡ value_of n ∷ []
unfolding form_exits form_last
one_jump n = refl

module _ {house : House} {deck : List Statement} {rows : List ℕ} {count : ℕ} {loops : List ℕ} {n : ℕ} {jumps starts draft : List ℕ} (told : Settling house deck rows count loops n jumps starts draft) where
  module _ (i : ℕ) (s : Statement) (e : get_elem? deck i ≡ some s) where
    abbrev pub form_here : List Instr
    form_here = form_code (held_of deck) (dims_of deck) (address_of deck) (enter_code deck i s.form) s.form

    draft_parts : take (length (plain_code deck)) draft
        ≡ emit no_tables (plain_before deck i s e) ++ (emit (tables_of no_tables (plain_before deck i s e)) (plain_here deck i s e)
        ++ emit (tables_of (tables_of no_tables (plain_before deck i s e)) (plain_here deck i s e)) (plain_after deck i s e))
    draft_parts =
        told.drafted ∙ ap (emit no_tables) (plain_split deck i s e)
        ∙ emit_append no_tables (plain_before deck i s e) (plain_here deck i s e ++ plain_after deck i s e)
        ∙ ap (λ (l : List ℕ). emit no_tables (plain_before deck i s e) ++ l) (emit_append (tables_of no_tables (plain_before deck i s e)) (plain_here deck i s e) (plain_after deck i s e))

    own_here : get_or rows (5 * i + 3) 0 ≡ length (emit (tables_of no_tables (plain_before deck i s e)) (plain_here deck i s e))
    own_here =
        row_own told.judged.in_rows i s e ∙ sym (own_length (held_of deck) (dims_of deck) (λ m. m) (DOI (dos_in (take i deck)) no_loop) s.form)
        ∙ sym (emit_length (tables_of no_tables (plain_before deck i s e)) (plain_here deck i s e))

    module _ (from : ℕ) (from_is : from ≡ length (plain_to deck i)) where
      from_here : from ≡ length (emit no_tables (plain_before deck i s e))
      from_here = from_is ∙ sym (emit_length no_tables (plain_before deck i s e))

      drafted_here : take (get_or rows (5 * i + 3) 0) (drop from draft) ≡ emit (tables_of no_tables (plain_before deck i s e)) (plain_here deck i s e)
      drafted_here =
          ap (λ (m : ℕ). take m (drop from draft)) own_here
          ∙ ap (λ (m : ℕ). take (length (emit (tables_of no_tables (plain_before deck i s e)) (plain_here deck i s e))) (drop m draft)) from_here
          ∙ piece draft (length (plain_code deck)) (emit no_tables (plain_before deck i s e)) (emit (tables_of no_tables (plain_before deck i s e)) (plain_here deck i s e))
          (emit (tables_of (tables_of no_tables (plain_before deck i s e)) (plain_here deck i s e)) (plain_after deck i s e)) draft_parts

      pub drafted_inside : from + get_or rows (5 * i + 3) 0 ≤ length draft
      drafted_inside =
          let p = piece_inside draft (length (plain_code deck)) (emit no_tables (plain_before deck i s e)) (emit (tables_of no_tables (plain_before deck i s e)) (plain_here deck i s e))
          (emit (tables_of (tables_of no_tables (plain_before deck i s e)) (plain_here deck i s e)) (plain_after deck i s e)) draft_parts in
          omega (arith, own_here, from_here)

      own_plain : (j : ℕ) → (kind_of s.form ≡ 1 → ⊥) → own_words (get_or rows (5 * i + 1) 0) (take (get_or rows (5 * i + 3) 0) (drop from draft)) (take (get_or rows (5 * i + 4) 0) (drop j jumps)) starts ≡ emit (tables_of no_tables (code_to deck i)) form_here
      own_plain j h =
          let b = ne_eqb (get_or rows (5 * i + 1) 0) 1 (λ z. h (sym (row_kind told.judged.in_rows i s e) ∙ z)) in
          let l = at_before deck i e in
          ap (λ (t : Bool). cond t (go_word (get_or starts (get_or (take (get_or rows (5 * i + 4) 0) (drop j jumps)) 0 0) 0) ∷ []) (take (get_or rows (5 * i + 3) 0) (drop from draft))) b
          ∙ drafted_here
          ∙ sym (emit_like (alike_to deck i (omega arith))
          (form_likes (held_of deck) (dims_of deck) (address_of deck) (λ m. m) (enter_code deck i s.form) (DOI (dos_in (take i deck)) no_loop) s.form h
          (enters deck i (dos_in (take i deck)) (number_is deck i (omega arith)) s.form)))

      own_jump : (j : ℕ) → j ≡ length (deck_jumps (take i deck)) → (m : Digits) → s.form ≡ go_to m
          → own_words (get_or rows (5 * i + 1) 0) (take (get_or rows (5 * i + 3) 0) (drop from draft)) (take (get_or rows (5 * i + 4) 0) (drop j jumps)) starts ≡ emit (tables_of no_tables (code_to deck i)) form_here
      unfolding word_of
      own_jump j at m g =
          let b = eq-eqb (get_or rows (5 * i + 1) 0) 1 (row_kind told.judged.in_rows i s e ∙ ap kind_of g) in
          let one = ap (λ (f : Form). length (jump_words f)) g ∙ ap length (one_jump m) in
          let lead = leading told in
          let many = get_or rows (5 * i + 4) 0 in
          let r = row_jumps told.judged.in_rows i s e in
          let t = sym (map_get (λ p. get_or starts p 0) (take many (drop j jumps)) 0 (omega (arith, jumps_many lead i s e j many at r)))
          ∙ ap (λ (l : List ℕ). get_or l 0 0) (targets_here lead i s e j many at r ∙ ap (λ (f : Form). map (address_of deck) (jump_words f)) g ∙ ap (map (address_of deck)) (one_jump m)) in
          ap (λ (c : Bool). cond c (go_word (get_or starts (get_or (take (get_or rows (5 * i + 4) 0) (drop j jumps)) 0 0) 0) ∷ []) (take (get_or rows (5 * i + 3) 0) (drop from draft))) b
          ∙ ap (λ (a : ℕ). go_word a ∷ []) t
          ∙ ap (λ (f : Form). emit (tables_of no_tables (code_to deck i)) (form_code (held_of deck) (dims_of deck) (address_of deck) (enter_code deck i f) f)) (sym g)

      pub own_is : (j : ℕ) → j ≡ length (deck_jumps (take i deck)) → own_words (get_or rows (5 * i + 1) 0) (take (get_or rows (5 * i + 3) 0) (drop from draft)) (take (get_or rows (5 * i + 4) 0) (drop j jumps)) starts ≡ emit (tables_of no_tables (code_to deck i)) form_here
      own_is j at = go (which s.form)
        where
          go : (kind_of s.form ≡ 1 → ⊥) ⊎ ((m : Digits) × (s.form ≡ go_to m))
              → own_words (get_or rows (5 * i + 1) 0) (take (get_or rows (5 * i + 3) 0) (drop from draft)) (take (get_or rows (5 * i + 4) 0) (drop j jumps)) starts ≡ emit (tables_of no_tables (code_to deck i)) form_here
          go (inl h) = own_plain j h
          go (inr (m, g)) = own_jump j at m g

      pub plain_next : from + get_or rows (5 * i + 3) 0 ≡ length (plain_to deck (i + 1))
      plain_next =
          let p = ap (λ (m : ℕ). plain_to deck m) (add-one i) ∙ ap (plain_from (held_of deck) (dims_of deck) 0) (take_more deck i s e) ∙ plain_more deck i s e in
          let l = length-append (plain_before deck i s e) (plain_here deck i s e) in
          let o = row_own told.judged.in_rows i s e in
          let h = own_length (held_of deck) (dims_of deck) (λ m. m) (DOI (dos_in (take i deck)) no_loop) s.form in
          omega (arith, ap length p, from_is)

    pub jump_aimed : 400 < length starts → (j : ℕ) → j ≡ length (deck_jumps (take i deck)) → get_or rows (5 * i + 1) 0 ≡ 1
        → (1 ≤ get_or rows (5 * i + 3) 0) × (1 ≤ get_or rows (5 * i + 4) 0) × Aimed (take (get_or rows (5 * i + 4) 0) (drop j jumps)) starts
    jump_aimed room j at h = go (which s.form)
      where
        go : (kind_of s.form ≡ 1 → ⊥) ⊎ ((m : Digits) × (s.form ≡ go_to m))
            → (1 ≤ get_or rows (5 * i + 3) 0) × (1 ≤ get_or rows (5 * i + 4) 0) × Aimed (take (get_or rows (5 * i + 4) 0) (drop j jumps)) starts
        go (inl other) = absurd (other (sym (row_kind told.judged.in_rows i s e) ∙ h))
        go (inr (m, g)) =
            let one = ap (λ (f : Form). length (jump_words f)) g ∙ ap length (one_jump m) in
            let r = row_jumps told.judged.in_rows i s e in
            (omega (arith, row_own told.judged.in_rows i s e, ap form_words g), omega arith, aimed_here (leading told) i s e j (get_or rows (5 * i + 4) 0) at r room)

    pub ends_here : map end_word (ends_at loops jumps i n) ≡ emit (tables_of (tables_of no_tables (code_to deck i)) form_here) (map (do_instr deck DOE) (endings deck s.number))
    ends_here =
        ap (map end_word) (ends_are told.judged i s e) ∙ sym (ends_words deck (tables_of (tables_of no_tables (code_to deck i)) form_here) (endings deck s.number))

    pub words_next : emit no_tables (code_to deck (i + 1))
        ≡ emit no_tables (code_to deck i) ++ (emit (tables_of no_tables (code_to deck i)) form_here ++ emit (tables_of (tables_of no_tables (code_to deck i)) form_here) (map (do_instr deck DOE) (endings deck s.number)))
    words_next =
        ap (λ (m : ℕ). emit no_tables (code_to deck m)) (add-one i)
        ∙ ap (λ (d : List Statement). emit no_tables (code_from deck 0 d)) (take_more deck i s e)
        ∙ ap (emit no_tables) (code_more deck i s e)
        ∙ emit_append no_tables (code_to deck i) (statement_code deck i s)
        ∙ ap (λ (l : List ℕ). emit no_tables (code_to deck i) ++ l) (emit_append (tables_of no_tables (code_to deck i)) form_here (map (do_instr deck DOE) (endings deck s.number)))

    -- what it takes with its ends
    pub words_fit : length (code_to deck i) + get_or rows (5 * i + 3) 0 + length (ends_at loops jumps i n) ≤ 4096
    words_fit =
        let o = row_own told.judged.in_rows i s e in
        let h = own_length (held_of deck) (dims_of deck) (address_of deck) (enter_code deck i s.form) s.form in
        let d = ap length (ends_are told.judged i s e) ∙ length-map (endings deck s.number) (λ d. do_number (dos_of deck) d.position) in
        let m = length-map (endings deck s.number) (do_instr deck DOE) in
        let l = length-append form_here (map (do_instr deck DOE) (endings deck s.number)) in
        let w = ap length (code_split deck i s e) ∙ length-append (code_to deck i) (statement_code deck i s ++ code_from deck (suc i) (drop (suc i) deck)) in
        let x = length-append (statement_code deck i s) (code_from deck (suc i) (drop (suc i) deck)) in
        omega (arith, (fitting told.judged.in_rows.accepted).code)
