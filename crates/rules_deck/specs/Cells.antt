-- Which cell holds what: a deck's named values and its DOs' bounds in a store. Theorems speak of these.
-- Assumes nothing.
use Rattle.std.specs.Prelude.{◌≡◌, ℕ, suc, ◌+◌, ◌≤◌, ◌<◌, true, cond, List, [], ◌∷◌, length, ℤ}
use Rattle.rules_object.specs.Machine.{cell}
use Rattle.rules_text.specs.Trees.{Name, Statement}
use Rattle.rules_deck.specs.Deck.{same_name, Declared}
use Rattle.rules_deck.specs.Meaning.{Key, plain, element_at, Values}
use Rattle.rules_deck.specs.Translation.{Held, name, array, hidden, array_size, cell_count, is_the_name, is_hidden, holds, cell_of, base_of, limit_of, address_at}

-- ---- the names and the arrays that have cells

abbrev pub names_held : List Held → List Name
names_held [] = []
names_held (name v ∷ held) = v ∷ names_held held
names_held (array a ∷ held) = a.name ∷ names_held held
names_held (hidden q ∷ held) = names_held held

abbrev pub arrays_held : List Held → List Declared
arrays_held [] = []
arrays_held (name v ∷ held) = arrays_held held
arrays_held (array a ∷ held) = a ∷ arrays_held held
arrays_held (hidden q ∷ held) = arrays_held held

-- ---- cells and what they hold

-- a named value, or the limit or the step of the DO at a position
pub data Slot : Type 0 where
  key : Key → Slot
  limit step : ℕ → Slot

abbrev pub slot_cell : List Held → Slot → ℕ
slot_cell held (key (plain v)) = cell_of held v
slot_cell held (key (element_at v p)) = base_of held v + p
slot_cell held (limit q) = limit_of held q
slot_cell held (step q) = suc (limit_of held q)

-- the cells of the first array of a name, 0 where there is none
abbrev pub size_of : List Held → Name → ℕ
size_of [] v = 0
size_of (name w ∷ held) v = size_of held v
size_of (array a ∷ held) v = cond (same_name a.name v) (array_size a.dims) (size_of held v)
size_of (hidden q ∷ held) v = size_of held v

-- the slot has a cell
abbrev pub Has : List Held → Slot → Type 0
Has held (key (plain v)) = holds (is_the_name v) held ≡ true
Has held (key (element_at v p)) = p < size_of held v
Has held (limit q) = holds (is_hidden q) held ≡ true
Has held (step q) = holds (is_hidden q) held ≡ true

-- a store holds the deck's named values
pub record Holds (held : List Held) (env : Values) (store : List ℤ) : Type 0 where
  pub room : cell_count held ≤ length store
  pub same : (x : Key) → Has held (key x) → cell store (slot_cell held (key x)) ≡ env x

-- The machine's drop mark stands at an instruction of the statement whose sequence number the meaning has; or neither has dropped.
pub data SameMark (deck : List Statement) (lost mark : ℕ) : Type 0 where
  unmarked : lost ≡ 0 → mark ≡ 0 → SameMark deck lost mark
  marked : (j : ℕ) → lost ≡ suc j → address_at deck j < mark → mark ≤ address_at deck (suc j) → SameMark deck lost mark
