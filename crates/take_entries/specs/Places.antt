-- Elements' entries.
-- Assumes nothing.
use Rattle.std.specs.Prelude.{◌≡◌, ℕ, ◌<◌, ◌^◌, ◌+◌, ◌*◌, true, List, [], ◌∷◌, ◌++◌, pos, neg_ℤ, take}
use Rattle.rules_object.specs.Bytes.{signed_word, element_words}
use Rattle.rules_object.specs.Object.{SubscriptEntry}
use Rattle.rules_shared.specs.Lists.{Each}
use Rattle.rules_text.specs.Trees.{Name, subscript_names, subscript_constants, subscripts_names, subscripts_constants}
use Rattle.rules_deck.specs.Deck.{Dims}
use Rattle.rules_deck.specs.Translation.{Held, is_the_name, holds, subscript_entry, second_entry, element_entry}
use Rattle.rules_deck.specs.Judge.{Reference, right_reference}
use Rattle.read_tokens.specs.Words.{name_of}
use Rattle.read_elements.specs.declared.Subscript.{Subscript}
use Rattle.read_elements.specs.declared.Subscripts.{Subscripts}
use Rattle.read_elements.specs.declared.Element.{Element}
use Rattle.read_elements.specs.Values.{subscript_value, subscripts_value}
use Rattle.take_draft.specs.Parts.{Item, place, item_names, item_constants, item_plain, item_references}
use Rattle.take_draft.specs.Names.{Lists, Told, Exact, dims_held}
use Rattle.take_entries.specs.declared.Linear.{Linear}
use Rattle.rules_text.specs.Trees as trees

abbrev pub linear_words : Linear → List ℕ
linear_words s = s.times ∷ s.cell ∷ s.plus ∷ []

abbrev pub entry_words : ℕ → ℕ → ℕ → Linear → Linear → List ℕ
entry_words base rows columns first second = (base ∷ rows ∷ columns ∷ []) ++ (linear_words first ++ linear_words second)

-- an addend of the reader's as a word
pub record Signed (minus value r : ℕ) : Type 0 where
  pub plus : minus ≡ 0 → value < 2 ^ 32 → r ≡ value
  pub less : minus ≡ 1 → value < 2 ^ 32 → r ≡ signed_word (neg_ℤ (pos value))

-- ---- what the lookups give, for whatever names the table lists

-- one operand has its cells
pub record KnownItem (held : List Held) (i : Item) : Type 0 where
  pub told : Each Told (item_names i)
  pub exact : Each Exact (item_constants i)
  pub plains : Each (λ (v : Name). holds (is_the_name v) held ≡ true) (item_plain i)
  pub arrays : Each (λ (r : Reference). right_reference held r ≡ true) (item_references i)

-- a subscript's names and constants
pub record Clear (held : List Held) (names : List Name) (constants : List trees.Digits) : Type 0 where
  pub told : Each Told names
  pub exact : Each Exact constants
  pub plains : Each (λ (v : Name). holds (is_the_name v) held ≡ true) names

abbrev pub subscript_words : SubscriptEntry → List ℕ
subscript_words s = s.times ∷ s.cell ∷ signed_word s.plus ∷ []

abbrev pub LinearOf : List ℕ → ℕ → Subscript → Linear → Type 0
LinearOf table count subscript r =
    (held : List Held) (cells : ℕ) (dims : Name → Dims) (s : trees.Subscript) → Lists held table count cells → subscript ≡ subscript_value s
    → Clear held (subscript_names s) (subscript_constants s) → linear_words r ≡ subscript_words (subscript_entry held dims s)

abbrev pub SecondOf : List ℕ → ℕ → Subscripts → Linear → Type 0
SecondOf table count subscripts r =
    (held : List Held) (cells : ℕ) (dims : Name → Dims) (s : trees.Subscripts) → Lists held table count cells → subscripts ≡ subscripts_value s
    → Clear held (subscripts_names s) (subscripts_constants s) → linear_words r ≡ subscript_words (second_entry held dims s)

-- a and b the elements before and after, with the entry at index n
abbrev pub PutsElement : List ℕ → ℕ → Element → List ℕ → List ℕ → ℕ → Type 0
PutsElement table count element a b n =
    (held : List Held) (cells : ℕ) (v : Name) (s : trees.Subscripts) → Lists held table count cells
    → element ≡ record { name = name_of v; subscripts = subscripts_value s } → KnownItem held (place v s)
    → take (9 * n + 9) b ≡ take (9 * n) a ++ element_words (element_entry held (dims_held held) v s)
