-- What compiling keeps of each statement: a draft of its code in which statement numbers stand for addresses and the DOEs are not yet, and what the deck as a
-- whole is judged by.
-- Assumes nothing.
use Rattle.std.specs.Prelude.{ℕ, suc, List, [], ◌∷◌, ◌++◌, map, length}
use Rattle.rules_object.specs.Object.{Loop}
use Rattle.rules_object.specs.Operations.{Instr, NEG, DOI}
use Rattle.rules_text.specs.Trees.{Name, value_of, Form, assign, go_to, computed, ifs, loop, continue, stop, end, dimension, Statement, Range, parts_of, gathered, form_numbers}
use Rattle.rules_deck.specs.Translation.{Held, cell_of, limit_of, brings, form_code, Tables, no_tables, emit, tables_of}
use Rattle.rules_deck.specs.Whole.{form_sets}
use Rattle.read_tokens.specs.Words.{name_word}
use Rattle.take_draft.specs.Names.{dims_held}

-- ---- what the whole is judged by

abbrev pub kind_of : Form → ℕ
kind_of (assign t e) = 0
kind_of (go_to n) = 1
kind_of (computed ns v) = 2
kind_of (ifs e a b c) = 3
kind_of (loop n v p q r) = 4
kind_of continue = 5
kind_of stop = 6
kind_of end = 7
kind_of (dimension arrays) = 8

-- the first of some names, 0 for none
abbrev pub first_word : List Name → ℕ
first_word [] = 0
first_word (v ∷ vs) = name_word v

-- the name that a statement sets
abbrev pub set_word : Form → ℕ
set_word f = first_word (form_sets f)

-- the numbers that it jumps to, or a DO's last: what a number is for is told by the row's kind, and not beside it
abbrev pub jump_words : Form → List ℕ
jump_words f = map value_of (form_numbers f)

-- words of a form's own code
abbrev pub own_words : Form → ℕ
own_words f = length (form_code [] (dims_held []) (λ n. n) NEG f)

-- number, kind, name set, words of code, jumps
abbrev pub row_words : Statement → List ℕ
row_words s = s.number ∷ kind_of s.form ∷ set_word s.form ∷ own_words s.form ∷ length (jump_words s.form) ∷ []

-- a DO's position, and where the number of its last statement stands in the jumps
abbrev pub loop_words : ℕ → ℕ → Form → List ℕ
loop_words q j f = gathered (λ (d : Range). q ∷ j ∷ []) (parts_of f).opens

-- ---- the draft

-- a DO's entry; its body is not known yet
abbrev pub entry_for : List Held → ℕ → Range → Loop
entry_for held q d = record { variable = cell_of held d.variable; limit = limit_of held q; step = suc (limit_of held q); body = 0 }

abbrev pub entries_of : List Held → ℕ → Form → List Loop
entries_of held q f = map (entry_for held q) (parts_of f).opens

abbrev pub no_loop : Loop
no_loop = record { variable = 0; limit = 0; step = 0; body = 0 }

-- with d DOs before it
abbrev pub draft_code : ℕ → List Held → Form → List Instr
draft_code d held f = form_code held (dims_held held) (λ n. n) (DOI d no_loop) f

pub record Draft : Type 0 where
  pub held : List Held
  pub tables : Tables
  pub code : List ℕ
  pub dos : List Loop
  pub loops : List ℕ
  pub rows : List ℕ
  pub jumps : List ℕ

abbrev pub no_draft : Draft
no_draft = record { held = []; tables = no_tables; code = []; dos = []; loops = []; rows = []; jumps = [] }

-- with the statement at position q
unfoldable pub drafts : ℕ → Statement → Draft → Draft
drafts q s D =
    record {
      held = brings q s.form D.held;
      tables = tables_of D.tables (draft_code (length D.dos) (brings q s.form D.held) s.form);
      code = D.code ++ emit D.tables (draft_code (length D.dos) (brings q s.form D.held) s.form);
      dos = D.dos ++ entries_of (brings q s.form D.held) q s.form;
      loops = D.loops ++ loop_words q (length D.jumps) s.form;
      rows = D.rows ++ row_words s;
      jumps = D.jumps ++ jump_words s.form;
    }

abbrev pub draft_from : ℕ → List Statement → Draft → Draft
draft_from q [] D = D
draft_from q (s ∷ more) D = draft_from (suc q) more (drafts q s D)

unfoldable pub draft_of : List Statement → Draft
draft_of deck = draft_from 0 deck no_draft
