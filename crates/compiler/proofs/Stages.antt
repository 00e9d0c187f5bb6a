-- What each stage's answer makes of the whole.
-- Assumes nothing.
use mathlib.Core.Path.{◌≡◌, refl, sym, ap, ◌∙◌, subst}
use Prim.Native.Nat.{ℕ, suc, ◌≤◌}
use mathlib.Core.List.{List, ◌++◌, []}
use mathlib.Core.Option.{Option, none, some}
use native.Mathlib.Omega.{arith}
use lib.ListN.{length, get_elem?}
use Rattle.std.specs.Prelude.{Ok, Err}
use Rattle.refusals.specs.declared.Refusal as code
use Rattle.refusals.specs.Numbers.{number_of}
use Rattle.rules_shared.specs.House.{house1401}
use Rattle.rules_object.specs.Bytes.{object_bytes}
use Rattle.rules_shared.specs.Refusals.{Refusal, refusal, no_room}
use Rattle.rules_shared.specs.Output.{Written, not_written, write}
use Rattle.rules_shared.specs.Lists.{Each}
use Rattle.rules_text.specs.Trees.{Name, Form, assign, go_to, computed, ifs, loop, continue, stop, end, dimension, Target, cell, element, Statement}
use Rattle.rules_text.specs.Cards.{Punched, Carded, statements, carded}
use Rattle.rules_deck.specs.Translation.{target_plain, expr_plain, form_plain, held_of, translate}
use Rattle.rules_deck.specs.Whole.{target_sets, form_sets, judge_deck}
use Rattle.rules_deck.specs.Judge.{nothing_taken}
use Rattle.rules_deck.specs.Compile.{Read, read, read_from, read_carded, or_refuse, judge_read, deck_of, write_read, compiling}
use Rattle.rules_deck.specs.Accepted.{Accepted, Among, here, there}
use Rattle.rules_deck.proofs.Houses.{lawful1401}
use Rattle.rules_deck.proofs.AcceptedDeck.{accepted}
use Rattle.rules_deck.proofs.DeckCells.{plain_has}
use Rattle.rules_deck.specs.Cells.{names_held}
use Rattle.rules_deck.proofs.MapNames.{name_among}
use Rattle.rules_deck.proofs.BodySeven.{each_here}
use Rattle.rules_deck.proofs.RightDeck.{each_among}
use Rattle.read_cards.specs.declared.Sequence.{Sequence}
use Rattle.refused_statements.specs.declared.AtStatement.{AtStatement}
use Rattle.refused_statements.specs.Places.{as_refusal}
use Rattle.read_deck_cards.specs.Judging.{Judges}
use Rattle.take_draft.specs.declared.Counts.{Counts}
use Rattle.take_draft.specs.Names.{Told}
use Rattle.take_draft.specs.Draft.{draft_of}
use Rattle.take_draft.specs.Kept.{Words, as_words, Room, Fit, Kept}
use Rattle.take_draft.specs.Sketch.{deck_jumps}
use Rattle.take_draft.proofs.DraftDeck.{draft_held, draft_jumps}
use Rattle.take_draft.proofs.DeckKept.{kept_deck}
use Rattle.take_deck.specs.Drafted.{Drafts, refused, kept}
use Rattle.whole_deck.specs.Whole.{SetsTold, LowNumber}
use Rattle.whole_deck.specs.Parts.{Inside, Positioned}
use Rattle.whole_deck.proofs.LowNumbers.{numbered}
use Rattle.whole_deck.proofs.Positions.{inside, positions}
use Rattle.final_object.specs.Finishing.{Finished}
use Rattle.compiler.specs.Compiled.{answer, Punches, Holds}
use Rattle.whole_deck.specs.Whole as whole

-- ---- the names that a deck sets are told by their words: they have cells

target_plain_lem : {v : Name} (t : Target) (more : List Name) → Among v (target_sets t ++ []) → Among v (target_plain t ++ more)
target_plain_lem {v = v} (cell w) more here = here
target_plain_lem {v = v} (cell w) more (there x4) = elim x4 [ ]
target_plain_lem {v = v} (element _ _) more x4 = elim x4 [ ]

sets_plain : {v : Name} (f : Form) → Among v (form_sets f) → Among v (form_plain f)
unfolding form_sets form_plain
sets_plain (assign t e) a = target_plain_lem t (expr_plain e) a
sets_plain (loop n w p q r) here = here
sets_plain {v = v} (go_to _) a = elim a [ ]
sets_plain {v = v} (computed _ _) a = elim a [ ]
sets_plain {v = v} (ifs _ _ _ _) a = elim a [ ]
sets_plain {v = v} (loop n w p q r) (there x6) = elim x6 [ ]
sets_plain {v = v} continue a = elim a [ ]
sets_plain {v = v} stop a = elim a [ ]
sets_plain {v = v} end a = elim a [ ]
sets_plain {v = v} (dimension _) a = elim a [ ]

index_of : {A : Type 0} {x : A} {l : List A} → Among x l → (j : ℕ) × (get_elem? l j ≡ some x)
index_of here = (0, refl)
index_of (there a) = let i = index_of a in (suc i.0, i.1)

pub sets_told : (deck : List Statement) → Each Told (names_held (held_of deck)) → Each SetsTold deck
sets_told deck h =
    each_among deck (λ s a. each_among (form_sets s.form) (λ v b.
    let i = index_of a in
    each_here h (name_among (held_of deck) v (plain_has deck i.0 s v i.1 (sets_plain s.form b)))))

-- ---- the deck as a whole

module _ {k : ℕ} {deck : List Statement} {n : Counts} {lent : Words} (h : Holds k deck n lent) where
  pub told : Each SetsTold deck
  told = sets_told deck (subst (λ l. Each Told (names_held l)) (draft_held deck) h.kept.held.told)

  pub low : Each LowNumber deck
  low = numbered (house1401 k) h.bytes deck h.is

  pub whole_refused : (output : List ℕ) (r : AtStatement) → whole.Judged deck (Err r) → answer (Err (as_refusal r)) output ≡ write_read (house1401 k) output (judge_read (read deck))
  whole_refused output r e = sym (ap (λ (o : Option Refusal). write_read (house1401 k) output (or_refuse deck o)) e)

  accepted_deck : judge_deck deck ≡ none → Accepted (house1401 k) deck
  unfolding deck_of
  accepted_deck e = accepted (house1401 k) (lawful1401 k) h.bytes deck (ap judge_read h.is ∙ ap (or_refuse deck) e)

  jumps_many : n.jumps ≡ length (deck_jumps deck)
  jumps_many = h.kept.jumps_count ∙ ap length (draft_jumps deck)

  jumps_few : n.jumps ≤ 1424
  jumps_few =
      let a = h.fit.jumps in
      let b = h.fit.statements in
      let c = h.fit.exits in
      omega arith

  pub placed : (places : List Sequence) → whole.Judged deck (Ok places) → Inside places n.jumps
  placed places j =
      let c = h.counted in
      let f = h.fit.statements in
      inside deck places j.1 n.jumps jumps_many jumps_few (omega arith)

  pub finished : {after : List ℕ} (places : List Sequence) → whole.Judged deck (Ok places) → Positioned places n.jumps after
      → Finished k deck n (as_words lent.names lent.constants lent.elements lent.dos lent.loops lent.code lent.rows after)
  finished {after} places j p =
      let a = accepted_deck j.0 in
      record {
        accepted = a;
        numbers = lent.jumps;
        kept = kept_deck a h.kept;
        placed = positions deck places j.1 n.jumps jumps_many jumps_few after p;
        counted = h.counted;
        room =
            record {
              names_long = h.room.names_long;
              constants_long = h.room.constants_long;
              elements_long = h.room.elements_long;
              dos_long = h.room.dos_long;
              loops_long = h.room.loops_long;
              code_long = h.room.code_long;
              rows_long = h.room.rows_long;
              jumps_long = p.long;
            };
        fit = h.fit;
      }

  -- the answer is the writer's
  pub whole_right : (output : List ℕ) {w : Written} (places : List Sequence) → whole.Judged deck (Ok places)
      → w ≡ write no_room (object_bytes (translate (house1401 k) deck)) output → w ≡ write_read (house1401 k) output (judge_read (read deck))
  whole_right output places j a = a ∙ sym (ap (λ (o : Option Refusal). write_read (house1401 k) output (or_refuse deck o)) j.0)

-- ---- the statements

module _ (k : ℕ) (bytes : List ℕ) (ps : List Punched) (cards : carded (house1401 k) bytes ≡ statements ps) where
  statements_read : read_carded (house1401 k) (carded (house1401 k) bytes) ≡ read_from (house1401 k) 0 nothing_taken ps
  statements_read = ap (read_carded (house1401 k)) cards

  pub statements_refused : {lent : Words} {r : AtStatement} (output : List ℕ) → Drafts (read_from (house1401 k) 0 nothing_taken ps) lent (Err r) → answer (Err (as_refusal r)) output ≡ compiling (house1401 k) bytes output
  unfolding compiling deck_of
  statements_refused output (refused r e) = sym (ap (λ (o : Read). write_read (house1401 k) output (judge_read o)) (statements_read ∙ e))

  -- the deck that the tables hold
  pub record Kept-deck (lent : Words) (n : Counts) : Type 0 where
    pub deck : List Statement
    pub is : read_from (house1401 k) 0 nothing_taken ps ≡ read deck
    pub counted : n.statements ≡ length deck
    pub fit : Fit n
    pub kept : Kept (draft_of deck) lent n

  pub statements_kept : {lent : Words} {n : Counts} → Drafts (read_from (house1401 k) 0 nothing_taken ps) lent (Ok n) → Kept-deck lent n
  statements_kept (kept deck n o c f κ) = record { deck = deck; is = o; counted = c; fit = f; kept = κ }

  pub holds : {lent : Words} {n : Counts} (d : Kept-deck lent n) → Room lent → Holds k d.deck n lent
  holds d room = record { bytes = bytes; is = statements_read ∙ d.is; counted = d.counted; kept = d.kept; room = room; fit = d.fit }

  pub compiled : (deck : List Statement) (output : List ℕ) → read_from (house1401 k) 0 nothing_taken ps ≡ read deck → write_read (house1401 k) output (judge_read (read deck)) ≡ compiling (house1401 k) bytes output
  unfolding compiling deck_of
  compiled deck output e = sym (ap (λ (r : Read). write_read (house1401 k) output (judge_read r)) (statements_read ∙ e))

-- ---- the cards

pub cards_refused_lem : (k : ℕ) (bytes : List ℕ) (output : List ℕ) (r : code.Refusal) → Judges (carded (house1401 k) bytes) (Err r) → answer (Err r) output ≡ compiling (house1401 k) bytes output
unfolding compiling deck_of
cards_refused_lem k bytes output r j =
    ap (λ (i : ℕ). not_written (refusal (number_of r.reason) r.place i) output) j.1
    ∙ sym (ap (λ (c : Carded). write_read (house1401 k) output (judge_read (read_carded (house1401 k) c))) j.0)

pub cards_punched : {last : Sequence} (k : ℕ) (bytes : List ℕ) → Judges (carded (house1401 k) bytes) (Ok last) → Punches k bytes
cards_punched k bytes j = record { punched = j.0; are = j.1 }
