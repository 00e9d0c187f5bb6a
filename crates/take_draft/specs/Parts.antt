-- A form in parts: the operand that stands first in its text, its other operands and operations in order of emission, and its last instructions.
-- Assumes nothing.
use Rattle.std.specs.Prelude.{◌≡◌, ℕ, Bool, ◌&&◌, not, List, [], ◌∷◌, ◌++◌, map}
use Rattle.number.specs.Number.{Op}
use Rattle.rules_object.specs.Operations.{Instr, HLT, CON, LOD, LDE, OP, NEG, JMP, BR3, BRC}
use Rattle.rules_text.specs.Trees.{Name, Digits, value_of, Subscripts, subscripts_names, subscripts_constants, Expr, con, var, elm, neg, par, bin, Target, cell, element, Form, assign, go_to, computed, ifs, loop, continue, stop, end, dimension, Phrase, sets, chooses, computes, steps, declares, parts_of, gathered}
use Rattle.rules_deck.specs.Deck.{Dims}
use Rattle.rules_deck.specs.Meaning.{third}
use Rattle.rules_shared.specs.Lists.{all}
use Rattle.rules_deck.specs.Translation.{Held, is_array, holds, cell_of, element_entry, store_code}
use Rattle.rules_deck.specs.Judge.{Reference, right_reference}
use Rattle.read_tokens.specs.Words.{capped, name_of, name_words}
use Rattle.read_elements.specs.Values.{subscripts_value}
use Rattle.read_items.specs.Items.{subscripts_words, op_item}
use Rattle.read_forms.specs.declared.Parameter.{Parameter}
use Rattle.read_forms.specs.declared.Parameter.TheVariants as parameter

-- ---- an expression's operands and operations, in postfix order

pub data Item : Type 0 where
  value : Digits → Item
  plain : Name → Item
  place : Name → Subscripts → Item
  negate : Item
  apply : Op → Item

abbrev pub items_of : Expr → List Item
items_of (con c) = value c ∷ []
items_of (var v) = plain v ∷ []
items_of (elm v s) = place v s ∷ []
items_of (neg e) = items_of e ++ (negate ∷ [])
items_of (par e) = items_of e
items_of (bin o a b) = (items_of a ++ items_of b) ++ (apply o ∷ [])

-- as the reader leaves it
abbrev pub item_words : Item → List ℕ
item_words (value c) = 1 ∷ capped c ∷ []
item_words (plain v) = 2 ∷ name_words (name_of v)
item_words (place v s) = 4 ∷ (name_words (name_of v) ++ subscripts_words (subscripts_value s))
item_words negate = 10 ∷ []
item_words (apply o) = op_item o ∷ []

abbrev pub items_words : List Item → List ℕ
items_words [] = []
items_words (i ∷ is) = item_words i ++ items_words is

-- a DO's parameter as an item
unfoldable pub parameter_words : Parameter → List ℕ
parameter_words (parameter.Constant c) = 1 ∷ c ∷ []
parameter_words (parameter.Variable n) = 2 ∷ name_words n

-- the plain names, a subscript's too
abbrev pub item_plain : Item → List Name
item_plain (value c) = []
item_plain (plain v) = v ∷ []
item_plain (place v s) = subscripts_names s
item_plain negate = []
item_plain (apply o) = []

abbrev pub items_plain : List Item → List Name
items_plain [] = []
items_plain (i ∷ is) = item_plain i ++ items_plain is

abbrev pub item_references : Item → List Reference
item_references (value c) = []
item_references (plain v) = []
item_references (place v s) = record { name = v; subscripts = s } ∷ []
item_references negate = []
item_references (apply o) = []

abbrev pub items_references : List Item → List Reference
items_references [] = []
items_references (i ∷ is) = item_references i ++ items_references is

-- every name, an array's too
abbrev pub item_names : Item → List Name
item_names (value c) = []
item_names (plain v) = v ∷ []
item_names (place v s) = v ∷ subscripts_names s
item_names negate = []
item_names (apply o) = []

abbrev pub items_names : List Item → List Name
items_names [] = []
items_names (i ∷ is) = item_names i ++ items_names is

abbrev pub item_constants : Item → List Digits
item_constants (value c) = c ∷ []
item_constants (plain v) = []
item_constants (place v s) = subscripts_constants s
item_constants negate = []
item_constants (apply o) = []

abbrev pub items_constants : List Item → List Digits
items_constants [] = []
items_constants (i ∷ is) = item_constants i ++ items_constants is

-- 16 of some operands
abbrev pub right_items : List Held → List Item → Bool
right_items held is = all (right_reference held) (items_references is) && all (λ v. not (holds (is_array v) held)) (items_plain is)

-- words that are some items
pub record Worded (words : List ℕ) : Type 0 where
  pub items : List Item
  pub are : words ≡ items_words items

module _ (held : List Held) (dims : Name → Dims) where
  abbrev pub item_code : Item → Instr
  item_code (value c) = CON (value_of c)
  item_code (plain v) = LOD (cell_of held v)
  item_code (place v s) = LDE (element_entry held dims v s)
  item_code negate = NEG
  item_code (apply o) = OP o

  abbrev pub items_code : List Item → List Instr
  items_code [] = []
  items_code (i ∷ is) = item_code i ∷ items_code is

-- ---- a form's parts

abbrev pub target_item : Target → Item
target_item (cell v) = plain v
target_item (element v s) = place v s

-- a target, a DO's variable or a computed GO TO's: its names stand first in the text
abbrev pub phrase_first : Phrase → List Item
phrase_first (sets t) = target_item t ∷ []
phrase_first (chooses v) = plain v ∷ []
phrase_first (computes e) = []
phrase_first (steps r) = []
phrase_first (declares arrays) = []

abbrev pub form_first : Form → List Item
form_first f = gathered phrase_first (parts_of f).text

-- what the expressions compute
abbrev pub phrase_items : Phrase → List Item
phrase_items (sets t) = []
phrase_items (chooses v) = []
phrase_items (computes e) = items_of e
phrase_items (steps r) = items_of (third r)
phrase_items (declares arrays) = []

abbrev pub form_items : Form → List Item
form_items f = gathered phrase_items (parts_of f).text

-- what comes after them; statement numbers stand for addresses
abbrev pub form_ending : List Held → (Name → Dims) → Instr → Form → List Instr
form_ending held dims entry (assign t e) = store_code held dims t ∷ []
form_ending held dims entry (go_to n) = JMP (value_of n) ∷ []
form_ending held dims entry (computed ns v) = LOD (cell_of held v) ∷ BRC (map value_of ns) ∷ []
form_ending held dims entry (ifs e a b c) = BR3 (value_of a) (value_of b) (value_of c) ∷ []
form_ending held dims entry (loop n v p q r) = entry ∷ []
form_ending held dims entry continue = []
form_ending held dims entry stop = HLT 0 ∷ []
form_ending held dims entry end = HLT 1 ∷ []
form_ending held dims entry (dimension arrays) = []
