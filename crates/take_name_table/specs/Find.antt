-- The first entry of a name and a kind in the table of names. Rows tell an array from a plain name.
-- Assumes nothing.
use Rattle.std.specs.Prelude.{◌≡◌, ℕ, zero, suc, ◌<◌, Bool, true, false, ◌&&◌, cond, List, eqb, leb, get_or, drop, Option, Some, None}
use Rattle.read_tokens.specs.declared.Name.{Name}
use Rattle.read_tokens.specs.Words.{name_at, same_words}

abbrev pub of_kind : Bool → ℕ → Bool
of_kind true rows = leb 1 rows
of_kind false rows = eqb rows 0

-- whether the words start with an entry of this name and kind
abbrev pub is_entry : Bool → Name → List ℕ → Bool
is_entry arrays name words = same_words (name_at words 0) name && of_kind arrays (get_or words 5 0)

-- its index among the first n entries, n where there is none
unfoldable pub first_entry : Bool → Name → ℕ → List ℕ → ℕ
first_entry arrays name zero words = 0
first_entry arrays name (suc n) words = cond (is_entry arrays name words) 0 (suc (first_entry arrays name n (drop 7 words)))

-- r is its index, if there is one
abbrev pub Finds : List ℕ → ℕ → Name → Bool → Option ℕ → Type 0
Finds words n name arrays (Some i) = (i < n) × (i ≡ first_entry arrays name n words)
Finds words n name arrays None = n ≡ first_entry arrays name n words

-- how many words an item has, by its first
abbrev pub item_length : ℕ → ℕ
item_length kind = cond (eqb kind 4) 20 (cond (eqb kind 2) 5 (cond (eqb kind 1) 2 1))
