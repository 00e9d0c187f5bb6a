-- Instructions put at the end of a draft's code, with their tables.
-- Assumes nothing.
use Rattle.std.specs.Prelude.{◌≡◌, ℕ, ◌+◌, ◌*◌, ◌^◌, ◌≤◌, ◌<◌, false, List, [], ◌∷◌, ◌++◌, length, take, Option, Some, None}
use Rattle.rules_shared.specs.Limits.{limits}
use Rattle.rules_object.specs.Operations.{Instr}
use Rattle.rules_deck.specs.Translation.{Tables, emit, tables_of}
use Rattle.take_draft.specs.declared.Counts.{Counts}
use Rattle.take_draft.specs.Counts.{with_word}
use Rattle.take_draft.specs.Kept.{Tabled, tables_fit, Fit}

-- n before and m after: the other counts stay
pub record Beside (n m : Counts) : Type 0 where
  pub names : m.names ≡ n.names
  pub cells : m.cells ≡ n.cells
  pub dos : m.dos ≡ n.dos
  pub jumps : m.jumps ≡ n.jumps
  pub statements : m.statements ≡ n.statements

-- whatever the tables hold
pub record Grows (does : ℕ) (n : Counts) (r : Option Counts) : Type 0 where
  pub fit : (m : Counts) → r ≡ Some m → Fit m
  pub beside : (m : Counts) → r ≡ Some m → Beside n m
  pub room : (m : Counts) → r ≡ Some m → m.code + (m.dos + does) ≤ limits.code

-- the code is there; words before, constants, elements and words after
pub record Wrote (T : Tables) (code : List Instr) (words constants elements words' : List ℕ) (n m : Counts) : Type 0 where
  pub tables : Tabled (tables_of T code) constants elements m
  pub words_are : take m.code words' ≡ take n.code words ++ emit T code
  pub code_count : m.code ≡ n.code + length code
  pub beside : Beside n m
  pub fit : Fit m

-- with room for the DOEs that its DOs have; or there is no room for all of it
pub record EmitsWith (does : ℕ) (T : Tables) (code : List Instr) (words constants elements words' : List ℕ) (n : Counts) (r : Option Counts) : Type 0 where
  pub wrote : (m : Counts) → r ≡ Some m → Wrote T code words constants elements words' n m
  pub room : (m : Counts) → r ≡ Some m → m.code + (m.dos + does) ≤ limits.code
  pub full : r ≡ None → tables_fit (tables_of T code) (n.code + length code) (n.dos + does) ≡ false

abbrev pub Emits : Tables → List Instr → List ℕ → List ℕ → List ℕ → List ℕ → Counts → Option Counts → Type 0
Emits T code words constants elements words' n r = EmitsWith 0 T code words constants elements words' n r

-- one word at the end of the code
pub record Appends (words words' : List ℕ) (n : Counts) (operation operand : ℕ) (r : Option Counts) : Type 0 where
  pub counts : (m : Counts) → r ≡ Some m → m ≡ with_word n
  pub word : (m : Counts) → r ≡ Some m → operand < 2 ^ 24 → take m.code words' ≡ take n.code words ++ ((operation * 2 ^ 24 + operand) ∷ [])
  pub room : (m : Counts) → r ≡ Some m → n.code + n.dos < limits.code
  pub full : r ≡ None → limits.code ≤ n.code + n.dos
