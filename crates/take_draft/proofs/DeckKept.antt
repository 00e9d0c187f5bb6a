-- Tables that hold the draft of an accepted deck hold what settling needs; and the names that a read statement sets are told.
-- Assumes nothing.
use mathlib.Core.Path.{◌≡◌, refl, sym, ap, ◌∙◌}
use Prim.Native.Nat.{ℕ, suc, ◌+◌}
use mathlib.Core.List.{List, [], ◌∷◌, map}
use lib.ListN.{length, length-map}
use Rattle.rules_shared.specs.House.{House}
use Rattle.rules_object.specs.Object.{Element, Loop}
use Rattle.rules_object.specs.Bytes.{concat, element_words, loop_words}
use Rattle.rules_text.specs.Trees.{Statement}
use Rattle.rules_deck.specs.Deck.{dos_of}
use Rattle.rules_deck.specs.Translation.{cell_count, statement_code, code_from, code_of, Tables, no_tables, tables_of, translate}
use Rattle.rules_deck.specs.Judge.{name_count, form_exit_words, Taken, nothing_taken, takes}
use Rattle.rules_deck.specs.Accepted.{taken_from, Accepted}
use Rattle.rules_deck.proofs.TableLaws.{tables_append, statement_brings}
use Rattle.take_draft.specs.declared.Counts.{Counts}
use Rattle.take_draft.specs.Names.{held_words}
use Rattle.take_draft.specs.Draft.{draft_of}
use Rattle.take_draft.specs.Sketch.{plain_code, open_entry}
use Rattle.take_draft.specs.Kept.{Words, Kept}
use Rattle.take_draft.specs.KeptDeck.{KeptDeck}
use Rattle.take_draft.proofs.Matching.{emit_length, matches_deck}
use Rattle.take_draft.proofs.DraftDeck.{draft_held, draft_rows, draft_jumps, draft_loops}
use Rattle.take_draft.proofs.FinalDraft.{final_code}
use Rattle.take_draft.proofs.FinalTables.{final_dos, final_constants, final_elements}

-- ---- exits are as many as the translation's

exits_from : (deck : List Statement) (q : ℕ) (more : List Statement) (T : Tables) (t : Taken) → length T.exits ≡ t.exits
    → length (tables_of T (code_from deck q more)).exits ≡ (taken_from q more t).exits
unfolding takes
exits_from deck q [] T t e = e
exits_from deck q (s ∷ more) T t e =
    ap (λ (U : Tables). length U.exits) (tables_append T (statement_code deck q s) (code_from deck (suc q) more)) ∙
    exits_from deck (suc q) more (tables_of T (statement_code deck q s)) (takes q s.form t)
    ((statement_brings deck q s).exits T ∙ ap (λ (n : ℕ). n + form_exit_words s.form) e)

-- of any deck
pub final_exits : (house : House) (deck : List Statement) → length (draft_of deck).tables.exits ≡ length (translate house deck).exits
unfolding translate code_of
final_exits house deck = sym (exits_from deck 0 deck no_tables nothing_taken refl ∙ (matches_deck deck).exits)

-- ---- the tables

pub kept_deck : {house : House} {deck : List Statement} {lent : Words} {n : Counts} → Accepted house deck
    → Kept (draft_of deck) lent n → KeptDeck house deck lent n
kept_deck {house} {deck} accepted w =
    let c = final_constants house deck in
    let e = final_elements accepted in
    let d = final_dos accepted in
    let i = final_code accepted in
    record {
      names_are = w.held.words ∙ ap (held_words 0) (draft_held deck);
      names_count = w.held.names_are ∙ ap name_count (draft_held deck);
      cells_count = w.held.cells_are ∙ ap cell_count (draft_held deck);
      constants_are = w.tables.constants_are ∙ c;
      constants_count = w.tables.constants_count ∙ ap (λ (l : List ℕ). length l) c;
      elements_are = w.tables.elements_are ∙ ap (λ (l : List Element). concat (map element_words l)) e;
      elements_count = w.tables.elements_count ∙ ap (λ (l : List Element). length l) e;
      exits_count = w.tables.exits_count ∙ final_exits house deck;
      dos_are = w.dos_are ∙ ap (λ (l : List Loop). concat (map loop_words l)) d;
      dos_count = w.dos_count ∙ ap (λ (l : List Loop). length l) d ∙ length-map (dos_of deck) (open_entry deck);
      loops_are = w.loops_are ∙ draft_loops deck;
      code_is = w.code_is ∙ i;
      code_count = w.code_count ∙ ap (λ (l : List ℕ). length l) i ∙ emit_length no_tables (plain_code deck);
      rows_are = w.rows_are ∙ draft_rows deck;
      jumps_are = w.jumps_are ∙ draft_jumps deck;
      jumps_count = w.jumps_count ∙ ap (λ (l : List ℕ). length l) (draft_jumps deck);
    }

-- ---- names set
