-- The lent tables and their counts hold a draft.
-- Assumes nothing.
use Rattle.std.specs.Prelude.{◌≡◌, ℕ, ◌+◌, ◌*◌, ◌≤◌, List, map, Bool, ◌&&◌, leb, length, take}
use Rattle.rules_shared.specs.Limits.{limits}
use Rattle.rules_object.specs.Bytes.{concat, element_words, loop_words}
use Rattle.rules_deck.specs.Translation.{Tables}
use Rattle.rules_deck.specs.Judge.{Taken}
use Rattle.take_draft.specs.declared.Counts.{Counts}
use Rattle.take_draft.specs.declared.Tables as lent
use Rattle.take_draft.specs.Names.{Lists}
use Rattle.take_draft.specs.Draft.{Draft}

-- constants and elements; exits are only counted
pub record Tabled (T : Tables) (constants elements : List ℕ) (n : Counts) : Type 0 where
  pub constants_are : take n.constants constants ≡ T.constants
  pub constants_count : n.constants ≡ length T.constants
  pub elements_are : take (9 * n.elements) elements ≡ concat (map element_words T.elements)
  pub elements_count : n.elements ≡ length T.elements
  pub exits_count : n.exits ≡ length T.exits

-- tables, code and its DOEs within their limits
abbrev pub tables_fit : Tables → ℕ → ℕ → Bool
tables_fit T code dos =
    leb (length T.constants) limits.constants && (leb (length T.elements) limits.elements && (leb (length T.exits) limits.exits && leb (code + dos) limits.code))

-- every count is within its limit; each DO's DOE is counted with the code
pub record Fit (n : Counts) : Type 0 where
  pub names : n.names ≤ limits.names
  pub cells : n.cells ≤ limits.cells
  pub constants : n.constants ≤ limits.constants
  pub elements : n.elements ≤ limits.elements
  pub exits : n.exits ≤ limits.exits
  pub dos : n.dos ≤ limits.dos
  pub code : n.code + n.dos ≤ limits.code
  pub statements : n.statements ≤ limits.statements
  pub jumps : n.jumps ≤ n.statements + n.exits

-- the words of the tables that are lent
pub record Words : Type 0 where
  pub names : List ℕ
  pub constants : List ℕ
  pub elements : List ℕ
  pub dos : List ℕ
  pub loops : List ℕ
  pub code : List ℕ
  pub rows : List ℕ
  pub jumps : List ℕ

abbrev pub as_words : (names constants elements dos loops code rows jumps : List ℕ) → Words
as_words names constants elements dos loops code rows jumps =
    record { names = names; constants = constants; elements = elements; dos = dos; loops = loops; code = code; rows = rows; jumps = jumps }

-- of the struct that is passed: what its slices hold
abbrev pub words_of : lent.Tables → Words
words_of t = as_words t.names.now t.constants.now t.elements.now t.dos.now t.loops.now t.code.now t.rows.now t.jumps.now

-- how long they are
pub record Room (lent : Words) : Type 0 where
  pub names_long : length lent.names ≡ 700
  pub constants_long : length lent.constants ≡ 256
  pub elements_long : length lent.elements ≡ 2304
  pub dos_long : length lent.dos ≡ 256
  pub loops_long : length lent.loops ≡ 128
  pub code_long : length lent.code ≡ 4096
  pub rows_long : length lent.rows ≡ 2000
  pub jumps_long : length lent.jumps ≡ 1424

pub record Kept (D : Draft) (lent : Words) (n : Counts) : Type 0 where
  pub held : Lists D.held lent.names n.names n.cells
  pub tables : Tabled D.tables lent.constants lent.elements n
  pub dos_are : take (4 * n.dos) lent.dos ≡ concat (map loop_words D.dos)
  pub dos_count : n.dos ≡ length D.dos
  pub loops_are : take (2 * n.dos) lent.loops ≡ D.loops
  pub code_is : take n.code lent.code ≡ D.code
  pub code_count : n.code ≡ length D.code
  pub rows_are : take (5 * n.statements) lent.rows ≡ D.rows
  pub jumps_are : take n.jumps lent.jumps ≡ D.jumps
  pub jumps_count : n.jumps ≡ length D.jumps

-- what 18 is judged by is what the draft has; each DO's DOE is counted
pub record Matches (t : Taken) (D : Draft) : Type 0 where
  pub held : t.held ≡ D.held
  pub constants : t.constants ≡ D.tables.constants
  pub elements : t.elements ≡ length D.tables.elements
  pub exits : t.exits ≡ length D.tables.exits
  pub dos : t.dos ≡ length D.dos
  pub code : t.code ≡ length D.code + length D.dos
