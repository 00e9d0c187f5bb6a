-- More names: the table afterwards, or that it is over its limits.
-- Assumes nothing.
use Rattle.std.specs.Prelude.{◌≡◌, ℕ, false, List, Option, Some, None}
use Rattle.rules_deck.specs.Translation.{Held}
use Rattle.take_draft.specs.Names.{Lists, names_fit}
use Rattle.take_name_table.specs.declared.counted.Extent.{Extent}

-- the table lists what is held, or what is held is over the limits
abbrev pub Appeared : List Held → List ℕ → Option Extent → Type 0
Appeared held table (Some n) = Lists held table n.names n.cells
Appeared held table None = names_fit held ≡ false
