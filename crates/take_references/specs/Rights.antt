-- 16 of some operands, by the table of names.
-- Assumes nothing.
use Rattle.std.specs.Prelude.{◌≡◌, ℕ, Bool, ◌&&◌, not, cond, List, ◌++◌, eqb, leb}
use Rattle.rules_shared.specs.Lists.{all, Each}
use Rattle.rules_text.specs.Trees.{Name, Subscripts}
use Rattle.rules_deck.specs.Translation.{Held, is_array, holds}
use Rattle.rules_deck.specs.Judge.{right_reference}
use Rattle.take_draft.specs.Parts.{Item, place, item_words, items_words, item_names, items_names, item_plain, item_references, right_items}
use Rattle.take_draft.specs.Names.{Lists, Told}

-- as many subscripts as dimensions
abbrev pub right_words : ℕ → ℕ → Bool
right_words count columns = cond (eqb count 1) (eqb columns 0) (leb 1 columns)

-- 16 of the operand that some words start with
abbrev pub right_item : List Held → Item → Bool
right_item held i = all (right_reference held) (item_references i) && all (λ v. not (holds (is_array v) held)) (item_plain i)

abbrev pub RightItem : List ℕ → List ℕ → ℕ → Bool → Type 0
RightItem items table n r =
    (held : List Held) (cells : ℕ) (i : Item) (more : List ℕ) → Lists held table n cells → items ≡ item_words i ++ more → Each Told (item_names i) → r ≡ right_item held i

abbrev pub RightPlace : List ℕ → List ℕ → ℕ → Bool → Type 0
RightPlace items table n r =
    (held : List Held) (cells : ℕ) (v : Name) (s : Subscripts) (more : List ℕ) → Lists held table n cells → items ≡ item_words (place v s) ++ more
    → Each Told (item_names (place v s)) → r ≡ right_item held (place v s)

-- 16 of some operands
abbrev pub References : List ℕ → List ℕ → ℕ → Bool → Type 0
References items table n r =
    (held : List Held) (cells : ℕ) (is : List Item) → Lists held table n cells → items ≡ items_words is → Each Told (items_names is) → r ≡ right_items held is
