-- The parts of taking a statement: cells and code, a DO's entries, the row and the jumps.
-- Assumes nothing.
use Rattle.std.specs.Prelude.{◌≡◌, ℕ, ◌+◌, ◌*◌, ◌≤◌, Option, Some, None, true, false, ◌&&◌, List, [], ◌∷◌, ◌++◌, map, length, take}
use Rattle.std.proofs.Math.Option.{some}
use Rattle.rules_shared.specs.Limits.{limits}
use Rattle.rules_shared.specs.House.{house1401}
use Rattle.rules_text.specs.Trees.{Form, form_names, form_last}
use Rattle.rules_deck.specs.Translation.{Held, Tables, is_hidden, holds, brings, emit, tables_of}
use Rattle.rules_object.specs.Bytes.{concat}
use Rattle.rules_object.specs.Bytes as object
use Rattle.rules_shared.specs.Lists.{Each}
use Rattle.rules_text.specs.Cards.{right_digits}
use Rattle.rules_text.specs.Grammar.{form_of}
use Rattle.rules_deck.specs.Judge.{right11, right12, right13, right14, right15}
use Rattle.take_kinds.specs.declared.Kind.TheVariants.{Do}
use Rattle.take_kinds.specs.Kinds.{word_of}
use Rattle.take_draft.specs.declared.Counts.{Counts}
use Rattle.take_draft.specs.Counts.{with_do, with_marks}
use Rattle.take_draft.specs.Parts.{items_words, form_first, form_items}
use Rattle.take_draft.specs.Names.{Lists, Told, Known, names_fit}
use Rattle.take_draft.specs.Draft.{loop_words, entries_of, draft_code}
use Rattle.take_draft.specs.Kept.{Tabled, tables_fit, Fit}
use Rattle.take_plans.specs.declared.Plan.{Plan}
use Rattle.take_plans.specs.Plans.{form_plan, Plans}
use Rattle.take_marks.specs.Marks.{numbers_of, set_of}
use Rattle.take_code.specs.Endings.{does_of}

-- ---- cells and code

-- whatever the tables hold
pub record Onward (p : Plan) (n : Counts) (r : Option Counts) : Type 0 where
  pub fit : (m : Counts) → r ≡ Some m → Fit m
  pub dos : (m : Counts) → r ≡ Some m → m.dos ≡ n.dos
  pub jumps : (m : Counts) → r ≡ Some m → m.jumps ≡ n.jumps
  pub statements : (m : Counts) → r ≡ Some m → m.statements ≡ n.statements
  pub room : (m : Counts) → r ≡ Some m → m.code + (m.dos + does_of p) ≤ limits.code

-- what a form brings to the cells, and its code
pub record Filled (q : ℕ) (f : Form) (held : List Held) (T : Tables) (words names constants elements words' : List ℕ) (n : Counts) (r : Option Counts) : Type 0 where
  pub lists : (m : Counts) → r ≡ Some m → Lists (brings q f held) names m.names m.cells
  pub tables : (m : Counts) → r ≡ Some m → Tabled (tables_of T (draft_code n.dos (brings q f held) f)) constants elements m
  pub words_are : (m : Counts) → r ≡ Some m → take m.code words' ≡ take n.code words ++ emit T (draft_code n.dos (brings q f held) f)
  pub code_count : (m : Counts) → r ≡ Some m → m.code ≡ n.code + length (draft_code n.dos (brings q f held) f)
  pub full : r ≡ None
      → (names_fit (brings q f held) && tables_fit (tables_of T (draft_code n.dos (brings q f held) f)) (n.code + length (draft_code n.dos (brings q f held) f)) (n.dos + length (form_last f))) ≡ false

-- what was judged before
pub record Right (digits q : ℕ) (f : Form) (held : List Held) : Type 0 where
  pub told : Each Told (form_names f)
  pub right_13 : right13 (house1401 digits) f ≡ true
  pub right_15 : right15 (house1401 digits) held f ≡ true
  pub known_first : Known (brings q f held) (form_first f)
  pub known_items : Known (brings q f held) (form_items f)

abbrev pub Fills : Plan → List ℕ → List ℕ → List ℕ → List ℕ → List ℕ → List ℕ → List ℕ → List ℕ → List ℕ → List ℕ → Counts → Option Counts → Type 0
Fills p first items names constants elements words names' constants' elements' words' n r =
    (digits q : ℕ) (f : Form) (held : List Held) (T : Tables) → Plans f items p → first ≡ items_words (form_first f) → Lists held names n.names n.cells
    → Tabled T constants elements n → Right digits q f held → Filled q f held T words names' constants' elements' words' n r

-- ---- a DO's entries

pub record Entering (p : Plan) (m : Counts) : Type 0 where
  pub fit : Fit m
  pub room : m.code + (m.dos + does_of p) ≤ limits.code
  pub cells : p.kind ≡ Do → 2 ≤ m.cells
  pub jumps : m.jumps ≤ 1424

-- whatever the tables hold
pub record Counted (p : Plan) (m : Counts) (r : Option Counts) : Type 0 where
  pub other : (l : Counts) → r ≡ Some l → (p.kind ≡ Do → ⊥) → l ≡ m
  pub one : (l : Counts) → r ≡ Some l → p.kind ≡ Do → l ≡ with_do m
  pub fit : (l : Counts) → r ≡ Some l → Fit l
  pub full : r ≡ None → (p.kind ≡ Do) × (64 ≤ m.dos)

-- with what the form brings, at position q, in the table of names
pub record Entered (q : ℕ) (f : Form) (held : List Held) (dos loops dos' loops' : List ℕ) (m : Counts) (r : Option Counts) : Type 0 where
  pub dos_are : (l : Counts) → r ≡ Some l → take (4 * l.dos) dos' ≡ take (4 * m.dos) dos ++ concat (map object.loop_words (entries_of (brings q f held) q f))
  pub loops_are : (l : Counts) → r ≡ Some l → take (2 * l.dos) loops' ≡ take (2 * m.dos) loops ++ loop_words q m.jumps f

abbrev pub Enters : Plan → List ℕ → List ℕ → List ℕ → List ℕ → List ℕ → Counts → Option Counts → Type 0
Enters p names dos loops dos' loops' m r =
    (f : Form) (held : List Held) → p ≡ form_plan f → Lists (brings m.statements f held) names m.names m.cells
    → Known (brings m.statements f held) (form_first f) → holds (is_hidden m.statements) held ≡ false
    → Entered m.statements f held dos loops dos' loops' m r

-- ---- the row and the jumps

pub record Marked (p : Plan) (number words : ℕ) (items rows jumps rows' jumps' : List ℕ) (m r : Counts) : Type 0 where
  pub is : r ≡ with_marks m (m.jumps + length (numbers_of p items))
  pub jumps_are : take r.jumps jumps' ≡ take m.jumps jumps ++ numbers_of p items
  pub rows_are : take (5 * r.statements) rows' ≡ take (5 * m.statements) rows ++ (number ∷ word_of p.kind ∷ set_of p ∷ words ∷ length (numbers_of p items) ∷ [])

-- ---- the whole

-- a form that was read and is not refused by 11 to 14
pub record Passed (k : ℕ) (f : Form) : Type 0 where
  pub text : List ℕ
  pub read : form_of text ≡ some f
  pub digits : right_digits (house1401 k) ≡ true
  pub right_11 : right11 (house1401 k) f ≡ true
  pub right_12 : right12 (house1401 k) f ≡ true
  pub right_13 : right13 (house1401 k) f ≡ true
  pub right_14 : right14 f ≡ true
