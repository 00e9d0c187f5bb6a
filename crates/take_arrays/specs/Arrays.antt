-- 15 of a DIMENSION's arrays, and the arrays that take cells.
-- Assumes nothing.
use Rattle.std.specs.Prelude.{◌≡◌, ℕ, Bool, true, false, List, ◌++◌, map, Option}
use Rattle.rules_shared.specs.Lists.{Each}
use Rattle.rules_text.specs.Trees.{Array, array_names}
use Rattle.rules_deck.specs.Deck.{declare}
use Rattle.rules_deck.specs.Translation.{Held, array}
use Rattle.rules_deck.specs.Judge.{right_arrays}
use Rattle.read_forms.specs.Statements.{all_words}
use Rattle.take_draft.specs.Names.{Lists, Told}
use Rattle.take_name_table.specs.declared.counted.Extent.{Extent}
use Rattle.take_name_table.specs.Appears.{Appeared}

-- 15 of a DIMENSION
abbrev pub Dimensions : List ℕ → List ℕ → ℕ → Bool → Type 0
Dimensions arrays table n r =
    (held : List Held) (cells : ℕ) (declared : List Array) → Lists held table n cells → arrays ≡ all_words declared → Each Told (array_names declared)
    → r ≡ right_arrays false held declared

-- the arrays of a DIMENSION that passes 15 have taken their cells
abbrev pub Declares : List ℕ → List ℕ → List ℕ → Extent → Option Extent → Type 0
Declares arrays before after n r =
    (held : List Held) (declared : List Array) → Lists held before n.names n.cells → arrays ≡ all_words declared → Each Told (array_names declared)
    → right_arrays false held declared ≡ true → Appeared (held ++ map (λ a. array (declare a)) declared) after r
