-- The deck as a whole, from its two parts.
-- Assumes nothing.
use mathlib.Core.Path.{◌≡◌, refl, sym, ap, ◌∙◌, subst}
use Prim.Native.Nat.{ℕ, zero, suc, ◌*◌, ◌≤◌, ◌<◌}
use native.Mathlib.Omega.{arith}
use mathlib.Core.Bool.{Bool, true, false}
use mathlib.Core.List.{List, [], ◌∷◌}
use mathlib.Core.Option.{Option, none, some}
use lib.Dec.{ltb}
use lib.ListN.{length, get_or}
use lib.Seq.{get_or-take, length-take-le}
use borrow.Author.Tests.{ltb-true}
use Rattle.rules_shared.specs.Limits.{limits}
use Rattle.rules_shared.specs.Refusals.{Refusal, or_else}
use Rattle.rules_text.specs.Trees.{Statement}
use Rattle.rules_deck.specs.Deck.{position_of, dos_of}
use Rattle.rules_deck.specs.Whole.{first_wrong, refused20, right21, right22, last_of, first_wrong_do, right24, right25, refused_at, judge_deck}
use Rattle.rules_shared.specs.Lists.{Each, each_more}
use Rattle.rules_deck.proofs.TestLaws.{clash}
use Rattle.read_cards.specs.declared.Number.{Number}
use Rattle.take_draft.specs.Sketch.{deck_jumps}
use Rattle.whole_tables.specs.declared.DoRange.{DoRange}
use Rattle.std.specs.Prelude.{Ok, Err}
use Rattle.refusals.specs.Answers.{refusal_of}
use Rattle.read_cards.specs.declared.Sequence.{Sequence}
use Rattle.refused_statements.specs.declared.AtStatement.{AtStatement}
use Rattle.refused_statements.specs.Places.{as_refusal}
use Rattle.whole_tables.specs.Rows.{start_of, last_index}
use Rattle.whole_tables.specs.Tables.{number_in, place_in, Wanted, RowsFit, NumbersOf, LoopsFit, LoopsOf, do_at, last_at}
use Rattle.whole_numbers.specs.Numbers.{place_of}
use Rattle.whole_ranges.specs.Ranges.{Ranged}
use Rattle.whole_deck.specs.Whole.{Sketched, Whole, Stands, Judged, LowNumber}
use Rattle.whole_deck.specs.Parts.{numbers_refused, ByNumber, ranges_refused}
use Rattle.whole_deck.proofs.ByIndex.{placed}
use Rattle.whole_deck.proofs.Rows.{statement_at, number_is, start_is}
use Rattle.whole_deck.proofs.Numbers.{place_is, refused20_is, first21_is, first22_is}
use Rattle.whole_deck.proofs.Ranges.{do_of_deck, words, index_is, do_inside, starts_is, last_is, first23_is, first24_is, first25_is}

six : (a b c d e f : Option Refusal) → or_else (or_else a (or_else b c)) (or_else d (or_else e f)) ≡ or_else a (or_else b (or_else c (or_else d (or_else e f))))
six (some x) b c d e f = refl
six none (some x) c d e f = refl
six none none c d e f = refl

-- a number that has a place is a statement's
stands : (deck : List Statement) (n place : ℕ) → placed (position_of deck n) (length deck) ≡ some place → Stands deck n place
stands deck n place e = by (ltb (position_of deck n) (length deck)) refl
  where
    by : (b : Bool) → ltb (position_of deck n) (length deck) ≡ b → Stands deck n place
    by true l =
        let s : some (suc (position_of deck n)) ≡ some place = rw l at e in
        record { is = let y : suc (position_of deck n) ≡ place = cc in sym y; low = ltb-true (position_of deck n) (length deck) l }
    by false l =
        let m : none ≡ some place = rw l at e in
        absurd (clash (sym m))

low_at : (deck : List Statement) → Each LowNumber deck → (q : ℕ) → q < length deck → (statement_at deck q).number ≤ limits.statement_number
low_at [] a q h = absurd (omega arith)
low_at (s ∷ deck) (each_more l a) zero h = l
low_at (s ∷ deck) (each_more l a) (suc q) h = low_at deck a q (omega arith)

module _ (rows : List ℕ) (count : ℕ) (loops : List ℕ) (dos : ℕ) (before : List ℕ) (many : ℕ) (w : Whole rows count loops dos before many)
    (deck : List Statement) (s : Sketched deck rows count loops dos before many) where
  jumps_many : length (deck_jumps deck) ≡ many
  jumps_many =
      let l = w.jumps_long in
      let f = w.few_jumps in
      sym (ap length s.jumps_are) ∙ length-take-le many before (omega arith)

  loops_long : 2 * dos ≤ length loops
  loops_long =
      let l = w.loops_long in
      let f = w.few_dos in
      omega arith

  pub all_starts : start_of rows count ≡ many
  all_starts = start_is deck rows count s.statements s.rows_are ∙ jumps_many

  pub punched : RowsFit rows count
  punched =
      let l = w.rows_long in
      let f = w.few in
      record {
        few = f;
        long = omega arith;
        low = λ q h.
            let e = number_is deck rows count s.statements s.rows_are q h in
            let c = s.statements in
            let b = low_at deck s.numbered q (omega arith) in
            omega arith;
      }

  module _ (numbers : List Number) (ns : NumbersOf rows count numbers) (wanted : List Number) (ws : Wanted before many wanted) where
    at_entry : (k : ℕ) → k < length (deck_jumps deck) → number_in wanted k ≡ get_or (deck_jumps deck) k 0
    at_entry k h =
        let m = jumps_many in
        ws.are k (omega arith) ∙ sym (get_or-take many before k 0 (omega arith)) ∙ ap (λ (l : List ℕ). get_or l k 0) s.jumps_are

    pub numbers_are : numbers_refused rows numbers count wanted
        ≡ or_else (refused_at 20 (refused20 deck)) (or_else (refused_at 21 (first_wrong (right21 deck) 0 deck)) (refused_at 22 (first_wrong (right22 deck) 0 deck)))
    unfolding numbers_refused
    numbers_are =
        let a = refused20_is deck rows count s.statements s.rows_are in
        let b = first21_is deck rows count s.statements s.rows_are numbers ns in
        let c = first22_is deck rows count s.statements s.rows_are numbers ns wanted at_entry in
        rw (a, b, c)

    pub numbers_fit : RowsFit rows (length numbers) × ((length wanted ≡ start_of rows (length numbers)) × (length wanted ≤ 1424))
    numbers_fit =
        let f = w.few_jumps in
        (subst (RowsFit rows) (sym ns.counted) punched, (ws.counted ∙ sym all_starts ∙ ap (start_of rows) (sym ns.counted), omega (arith, ws.counted)))

    -- once 22 has passed
    module _ (places : List Sequence) (n : ByNumber rows numbers count wanted (Ok places)) where
      has_place : (k : ℕ) → k < length (deck_jumps deck) → Stands deck (get_or (deck_jumps deck) k 0) (place_in places k)
      has_place k h =
          let m = jumps_many in
          let a = all_starts in
          stands deck (get_or (deck_jumps deck) k 0) (place_in places k)
          (sym (place_is deck rows count s.statements s.rows_are numbers ns (get_or (deck_jumps deck) k 0)) ∙ ap (place_of numbers count) (sym (at_entry k h)) ∙ n.1 k (omega arith))

      at_exit : (k : ℕ) → k < length (deck_jumps deck) → place_in places k ≡ suc (position_of deck (get_or (deck_jumps deck) k 0))
      at_exit k h = (has_place k h).is

      last_low : (i : ℕ) → i < dos → last_of deck (do_of_deck deck rows count s.statements s.rows_are loops dos loops_long s.loops_are s.told i) < length deck
      last_low i h =
          let d = words deck rows count s.statements s.rows_are loops dos loops_long s.loops_are s.told i h in
          rw d.last at (has_place d.index d.index_low).low

      pub kept : LoopsFit loops dos
      kept =
          record {
            few = w.few_dos;
            long = loops_long;
            starts = λ i h.
                let d = do_inside deck rows count s.statements s.rows_are loops dos loops_long s.loops_are s.told i h in
                let f = w.few in
                omega arith;
            lasts = index_low;
          }
        where
          index_low : (i : ℕ) → i < dos → last_index loops i < 1424
          index_low i h =
              let d = words deck rows count s.statements s.rows_are loops dos loops_long s.loops_are s.told i h in
              let e = index_is deck rows count s.statements s.rows_are loops dos loops_long s.loops_are s.told i h in
              let x = d.index_low in
              let m = jumps_many in
              let f = w.few_jumps in
              omega arith

      module _ (table : List DoRange) (looped : LoopsOf loops dos places table) where
        pub ranged : Ranged rows count table
        ranged =
            let a = all_starts in
            let f = w.few_jumps in
            let g = w.rows_long in
            let c = w.few in
            let x = w.few_dos in
            let y = looped.counted in
            record {
              few = c;
              few_dos = omega arith;
              rows_long = omega arith;
              from_one = λ i h. let l : i < dos = omega arith in (let p = starts_at i l in omega arith, let p = (ends_at i l).0 in omega arith);
              to_last = λ i h. let l : i < dos = omega arith in (within i l, let p = (ends_at i l).0 in let b = (ends_at i l).1 in let z = s.statements in omega arith);
              few_jumps = omega arith;
            }
          where
            starts_at : (i : ℕ) → i < dos → do_at table i ≡ suc (do_of_deck deck rows count s.statements s.rows_are loops dos loops_long s.loops_are s.told i).position
            starts_at i h = starts_is deck rows count s.statements s.rows_are loops dos loops_long s.loops_are s.told places at_exit table looped i h

            within : (i : ℕ) → i < dos → do_at table i ≤ count
            within i h =
                let e = looped.starts i h in
                let d = do_inside deck rows count s.statements s.rows_are loops dos loops_long s.loops_are s.told i h in
                omega arith

            ends_at : (i : ℕ) → i < dos
                → (last_at table i ≡ suc (last_of deck (do_of_deck deck rows count s.statements s.rows_are loops dos loops_long s.loops_are s.told i)))
                × (last_of deck (do_of_deck deck rows count s.statements s.rows_are loops dos loops_long s.loops_are s.told i) < length deck)
            ends_at i h = (last_is deck rows count s.statements s.rows_are loops dos loops_long s.loops_are s.told places at_exit table looped i h, last_low i h)

        ranges_are : ranges_refused rows count table places
            ≡ or_else (refused_at 23 (first_wrong_do deck (dos_of deck))) (or_else (refused_at 24 (first_wrong (right24 deck) 0 deck)) (refused_at 25 (first_wrong (right25 deck) 0 deck)))
        unfolding ranges_refused
        ranges_are =
            let a = first23_is deck rows count s.statements s.rows_are loops dos loops_long s.loops_are s.told places at_exit table looped last_low in
            let b = first24_is deck rows count s.statements s.rows_are loops dos loops_long s.loops_are s.told places at_exit table looped in
            let c = first25_is deck rows count s.statements s.rows_are loops dos loops_long s.loops_are s.told places at_exit table looped in
            rw (a, b, c)

        whole_is : judge_deck deck ≡ ranges_refused rows count table places
        unfolding judge_deck
        whole_is =
            let a : or_else (refused_at 20 (refused20 deck)) (or_else (refused_at 21 (first_wrong (right21 deck) 0 deck)) (refused_at 22 (first_wrong (right22 deck) 0 deck))) ≡ none = sym numbers_are ∙ n.0 in
            let rest = or_else (refused_at 23 (first_wrong_do deck (dos_of deck))) (or_else (refused_at 24 (first_wrong (right24 deck) 0 deck)) (refused_at 25 (first_wrong (right25 deck) 0 deck))) in
            sym (six (refused_at 20 (refused20 deck)) (refused_at 21 (first_wrong (right21 deck) 0 deck)) (refused_at 22 (first_wrong (right22 deck) 0 deck)) (refused_at 23 (first_wrong_do deck (dos_of deck))) (refused_at 24 (first_wrong (right24 deck) 0 deck)) (refused_at 25 (first_wrong (right25 deck) 0 deck)))
            ∙ ap (λ (o : Option Refusal). or_else o rest) a ∙ sym ranges_are

        pub judged_right : none ≡ ranges_refused rows count table places → Judged deck (Ok places)
        judged_right e = (whole_is ∙ sym e, has_place)

        pub judged_ranges : (r : AtStatement) → some (refusal_of (as_refusal r)) ≡ ranges_refused rows count table places → Judged deck (Err r)
        judged_ranges r e = whole_is ∙ sym e

    -- refused by 20 to 22
    pub judged_numbers : (r : AtStatement) → ByNumber rows numbers count wanted (Err r) → Judged deck (Err r)
    unfolding judge_deck
    judged_numbers r e =
        let a : or_else (refused_at 20 (refused20 deck)) (or_else (refused_at 21 (first_wrong (right21 deck) 0 deck)) (refused_at 22 (first_wrong (right22 deck) 0 deck))) ≡ some (refusal_of (as_refusal r)) = sym numbers_are ∙ e in
        let rest = or_else (refused_at 23 (first_wrong_do deck (dos_of deck))) (or_else (refused_at 24 (first_wrong (right24 deck) 0 deck)) (refused_at 25 (first_wrong (right25 deck) 0 deck))) in
        sym (six (refused_at 20 (refused20 deck)) (refused_at 21 (first_wrong (right21 deck) 0 deck)) (refused_at 22 (first_wrong (right22 deck) 0 deck)) (refused_at 23 (first_wrong_do deck (dos_of deck))) (refused_at 24 (first_wrong (right24 deck) 0 deck)) (refused_at 25 (first_wrong (right25 deck) 0 deck)))
        ∙ ap (λ (o : Option Refusal). or_else o rest) a
