-- The code written for the statements passed, one statement more.
-- Assumes nothing.
use mathlib.Core.Path.{◌≡◌, refl, sym, ap, ◌∙◌}
use Prim.Native.Nat.{ℕ, ◌+◌, ◌*◌, ◌≤◌, ◌<◌}
use native.Mathlib.Omega.{arith}
use mathlib.Core.List.{List, [], ◌∷◌, map, append_assoc}
use lib.Dec.{eqb}
use lib.ListN.{length, take, drop, get_or, length-take}
use mathlib.Core.Bool.{Bool, true, false, cond}
use borrow.Author.Tests.{eqb-true}
use lib.Seq.{take-length}
use Rattle.rules_shared.specs.House.{House}
use Rattle.rules_text.specs.Trees.{Statement}
use Rattle.rules_deck.specs.Translation.{code_from, code_of, no_tables, emit, translate}
use Rattle.rules_deck.proofs.Addresses.{at_some}
use Rattle.rules_deck.proofs.Tables.{emit_length}
use Rattle.read_items.specs.Parsed.{Put}
use Rattle.take_draft.specs.Sketch.{deck_jumps}
use Rattle.final_addresses.specs.Given.{Holds}
use Rattle.final_addresses.specs.Ends.{ends_at}
use Rattle.final_addresses.proofs.Holding.{holds_none, holds_more, holds_as, put_as}
use Rattle.final_code.specs.Settling.{Settling}
use Rattle.final_statement.specs.Words.{Aimed, go_word, own_words, end_word}
use Rattle.final_code.proofs.Aiming.{leading, jumps_next, jumps_inside}
use Rattle.final_addresses.proofs.Told.{row_jumps}
use Rattle.final_code.proofs.Coding.{code_to, plain_to, drafted_inside, own_is, plain_next, jump_aimed, ends_here, words_next, words_fit}

-- the drafted words and the jumps before position i, and the code of the statements before it
pub record Reached (deck : List Statement) (from j top : ℕ) (out : List ℕ) (i : ℕ) : Type 0 where
  pub from_is : from ≡ length (plain_to deck i)
  pub j_is : j ≡ length (deck_jumps (take i deck))
  pub holds : Holds out top (emit no_tables (code_to deck i))

pub reached_none : (deck : List Statement) (out : List ℕ) → Reached deck 0 0 0 out 0
reached_none deck out = record { from_is = refl; j_is = refl; holds = holds_none out }

-- what one statement's code requires
pub record Room (rows : List ℕ) (loops : List ℕ) (n : ℕ) (jumps starts draft : List ℕ) (from j top i : ℕ) : Type 0 where
  pub fits : top + get_or rows (5 * i + 3) 0 + length (ends_at loops jumps i n) ≤ 4096
  pub drafted : from + get_or rows (5 * i + 3) 0 ≤ length draft
  pub jumped : j + get_or rows (5 * i + 4) 0 ≤ length jumps
  pub aimed : get_or rows (5 * i + 1) 0 ≡ 1 → (1 ≤ get_or rows (5 * i + 3) 0) × (1 ≤ get_or rows (5 * i + 4) 0) × Aimed (take (get_or rows (5 * i + 4) 0) (drop j jumps)) starts

module _ {house : House} {deck : List Statement} {rows : List ℕ} {count : ℕ} {loops : List ℕ} {n : ℕ} {jumps starts draft : List ℕ} (told : Settling house deck rows count loops n jumps starts draft) where
  pub room_here : {out : List ℕ} {from j top i : ℕ} → i < count → 400 < length starts → Reached deck from j top out i → Room rows loops n jumps starts draft from j top i
  room_here {out} {from} {j} {top} {i} l room r =
      let s = at_some deck i (omega (arith, told.judged.in_rows.counted)) in
      let w = emit_length no_tables (code_to deck i) in
      record {
        fits = omega (arith, words_fit told i s.0 s.1, r.holds.count);
        drafted = drafted_inside told i s.0 s.1 from r.from_is;
        jumped = jumps_inside (leading told) i s.0 s.1 j (get_or rows (5 * i + 4) 0) r.j_is (row_jumps told.judged.in_rows i s.0 s.1);
        aimed = jump_aimed told i s.0 s.1 room j r.j_is;
      }

  pub reached_more : {a b c : List ℕ} {from j top next last i : ℕ} → i < count → Reached deck from j top a i
      → Put a b top (own_words (get_or rows (5 * i + 1) 0) (take (get_or rows (5 * i + 3) 0) (drop from draft)) (take (get_or rows (5 * i + 4) 0) (drop j jumps)) starts) next
      → Put b c next (map end_word (ends_at loops jumps i n)) last
      → Reached deck (from + get_or rows (5 * i + 3) 0) (j + get_or rows (5 * i + 4) 0) last c (i + 1)
  reached_more {a} {b} {c} {from} {j} {top} {next} {last} {i} l r p q =
      let s = at_some deck i (omega (arith, told.judged.in_rows.counted)) in
      record {
        from_is = plain_next told i s.0 s.1 from r.from_is;
        j_is = jumps_next (leading told) i s.0 s.1 j r.j_is;
        holds =
            holds_as (append_assoc (emit no_tables (code_to deck i)) _ _ ∙ sym (words_next told i s.0 s.1))
            (holds_more (holds_more r.holds (put_as (own_is told i s.0 s.1 from r.from_is j r.j_is) p)) (put_as (ends_here told i s.0 s.1) q));
      }

  pub reached_all : {out : List ℕ} {from j top i : ℕ} → i ≡ count → Reached deck from j top out i → Holds out top (translate house deck).code
  unfolding translate code_of
  reached_all {out} {from} {j} {top} {i} e r =
      holds_as (ap (λ (m : ℕ). emit no_tables (code_to deck m)) (e ∙ told.judged.in_rows.counted) ∙ ap (λ (d : List Statement). emit no_tables (code_from deck 0 d)) (take-length deck)) r.holds

-- a statement's own words are as many as its row says, or fewer
pub own_size : {rows loops : List ℕ} {n : ℕ} {jumps starts draft : List ℕ} {from j top i : ℕ} → Room rows loops n jumps starts draft from j top i → {a b : List ℕ} {next : ℕ}
    → Put a b top (own_words (get_or rows (5 * i + 1) 0) (take (get_or rows (5 * i + 3) 0) (drop from draft)) (take (get_or rows (5 * i + 4) 0) (drop j jumps)) starts) next → next ≤ top + get_or rows (5 * i + 3) 0
own_size {rows} {loops} {n} {jumps} {starts} {draft} {from} {j} {top} {i} room {a} {b} {next} p = go (eqb (get_or rows (5 * i + 1) 0) 1) refl p.top
  where
    go : (t : Bool) → eqb (get_or rows (5 * i + 1) 0) 1 ≡ t
        → next ≡ top + length (cond t (go_word (get_or starts (get_or (take (get_or rows (5 * i + 4) 0) (drop j jumps)) 0 0) 0) ∷ []) (take (get_or rows (5 * i + 3) 0) (drop from draft))) → next ≤ top + get_or rows (5 * i + 3) 0
    go true e h = omega (arith, (room.aimed (eqb-true (get_or rows (5 * i + 1) 0) 1 e)).0)
    go false e h = omega (arith, length-take (get_or rows (5 * i + 3) 0) (drop from draft))
