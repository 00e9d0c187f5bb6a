-- Cells and dimensions that stand in the table stay as they are when it grows at its end: so does the code of what is known.
-- Assumes nothing.
use mathlib.Core.Path.{◌≡◌, refl, ap}
use Prim.Native.Nat.{ℕ, ◌+◌}
use mathlib.Core.Bool.{Bool, true, false, ◌||◌, cond, false≢true}
use mathlib.Core.List.{List, [], ◌∷◌, ◌++◌}
use Rattle.rules_object.specs.Operations.{Instr}
use Rattle.rules_shared.specs.Lists.{Each}
use Rattle.rules_shared.proofs.EachLaws.{each_head, each_left, each_right}
use Rattle.rules_text.specs.Trees.{Name, Subscript, constant, linear, Subscripts, one, two, subscript_names, subscripts_names, Target, cell, element, Form, assign, go_to, computed, ifs, loop, continue, stop, end, dimension}
use Rattle.rules_deck.specs.Deck.{same_name}
use Rattle.rules_deck.specs.Translation.{Held, name, array, hidden, size, is_the_name, is_array, is_hidden, first_cell, holds, cell_of, base_of, limit_of, subscript_entry, first_entry, second_entry, element_entry, store_code, form_code}
use Rattle.rules_deck.specs.Judge.{Reference, right_count, right_reference}
use Rattle.take_draft.specs.Parts.{Item, item_plain, items_plain, item_references, items_references, item_code, items_code, target_item, form_first, form_items, form_ending}
use Rattle.take_draft.specs.Names.{dims_held, Known}
use Rattle.take_draft.proofs.FormParts.{form_code_lem}

-- ---- the first that passes a test

pub first_stays : (test : Held → Bool) (held more : List Held) → holds test held ≡ true → first_cell test (held ++ more) ≡ first_cell test held
first_stays test [] more e = absurd (false≢true e)
first_stays test (h ∷ held) more e = go (test h) e (first_stays test held more)
  where
    go : (b : Bool) → (b || holds test held) ≡ true → (holds test held ≡ true → first_cell test (held ++ more) ≡ first_cell test held)
        → cond b 0 (size h + first_cell test (held ++ more)) ≡ cond b 0 (size h + first_cell test held)
    go true i f = refl
    go false i f = ap (λ (n : ℕ). size h + n) (f i)

pub cell_stays : (held more : List Held) (v : Name) → holds (is_the_name v) held ≡ true → cell_of (held ++ more) v ≡ cell_of held v
unfolding cell_of
cell_stays held more v e = first_stays (is_the_name v) held more e

pub base_stays : (held more : List Held) (v : Name) → holds (is_array v) held ≡ true → base_of (held ++ more) v ≡ base_of held v
unfolding base_of
base_stays held more v e = first_stays (is_array v) held more e

pub limit_stays : (held more : List Held) (q : ℕ) → holds (is_hidden q) held ≡ true → limit_of (held ++ more) q ≡ limit_of held q
unfolding limit_of
limit_stays held more q e = first_stays (is_hidden q) held more e

pub dims_stay : (held more : List Held) (v : Name) → holds (is_array v) held ≡ true → dims_held (held ++ more) v ≡ dims_held held v
dims_stay [] more v e = absurd (false≢true e)
dims_stay (name w ∷ held) more v e = dims_stay held more v e
dims_stay (array a ∷ held) more v e = go (same_name a.name v) e (dims_stay held more v)
  where
    go : (b : Bool) → (b || holds (is_array v) held) ≡ true → (holds (is_array v) held ≡ true → dims_held (held ++ more) v ≡ dims_held held v)
        → cond b a.dims (dims_held (held ++ more) v) ≡ cond b a.dims (dims_held held v)
    go true i f = refl
    go false i f = f i
dims_stay (hidden q ∷ held) more v e = dims_stay held more v e

pub reference_array : (held : List Held) (r : Reference) → right_reference held r ≡ true → holds (is_array r.name) held ≡ true
reference_array [] r e = e
reference_array (name v ∷ held) r e = reference_array held r e
reference_array (array a ∷ held) r e = go (same_name a.name r.name) e (reference_array held r)
  where
    go : (b : Bool) → cond b (right_count a.dims r.subscripts) (right_reference held r) ≡ true → (right_reference held r ≡ true → holds (is_array r.name) held ≡ true)
        → (b || holds (is_array r.name) held) ≡ true
    go true i f = refl
    go false i f = f i
reference_array (hidden q ∷ held) r e = reference_array held r e

-- ---- the code of what is known

module _ (held more : List Held) where
  abbrev later : List Held
  later = held ++ more

  abbrev Plains : List Name → Type 0
  Plains vs = Each (λ (v : Name). holds (is_the_name v) held ≡ true) vs

  abbrev Arrays : List Reference → Type 0
  Arrays rs = Each (λ (r : Reference). right_reference held r ≡ true) rs

  entry_stays : (s : Subscript) → Plains (subscript_names s) → subscript_entry later (dims_held later) s ≡ subscript_entry held (dims_held held) s
  entry_stays (constant c) h = refl
  entry_stays (linear m v a) h = rw (cell_stays held more v (each_head h))

  first_entry_lem : (s : Subscripts) → Plains (subscripts_names s) → first_entry later (dims_held later) s ≡ first_entry held (dims_held held) s
  first_entry_lem (one s) h = entry_stays s h
  first_entry_lem (two s t) h = entry_stays s (each_left (subscript_names s) (subscript_names t) h)

  second_entry_lem : (s : Subscripts) → Plains (subscripts_names s) → second_entry later (dims_held later) s ≡ second_entry held (dims_held held) s
  second_entry_lem (one s) h = refl
  second_entry_lem (two s t) h = entry_stays t (each_right (subscript_names s) (subscript_names t) h)

  element_stays : (v : Name) (s : Subscripts) → Plains (subscripts_names s) → Arrays (record { name = v; subscripts = s } ∷ [])
      → element_entry later (dims_held later) v s ≡ element_entry held (dims_held held) v s
  element_stays v s h a =
      let i = reference_array held (record { name = v; subscripts = s }) (each_head a) in
      rw (base_stays held more v i, dims_stay held more v i, first_entry_lem s h, second_entry_lem s h)

  item_stays : (i : Item) → Plains (item_plain i) → Arrays (item_references i) → item_code later (dims_held later) i ≡ item_code held (dims_held held) i
  item_stays (Item.value c) h a = refl
  item_stays (Item.plain v) h a = rw (cell_stays held more v (each_head h))
  item_stays (Item.place v s) h a = rw (element_stays v s h a)
  item_stays Item.negate h a = refl
  item_stays (Item.apply o) h a = refl

  items_plain_lem : (is : List Item) → Plains (items_plain is) → Arrays (items_references is) → items_code later (dims_held later) is ≡ items_code held (dims_held held) is
  items_plain_lem [] h a = refl
  items_plain_lem (i ∷ is) h a =
      rw (
        item_stays i (each_left (item_plain i) (items_plain is) h) (each_left (item_references i) (items_references is) a),
        items_plain_lem is (each_right (item_plain i) (items_plain is) h) (each_right (item_references i) (items_references is) a),
      )

  pub items_stay : (is : List Item) → Known held is → items_code later (dims_held later) is ≡ items_code held (dims_held held) is
  items_stay is w = items_plain_lem is w.plains w.arrays

  store_stays : (t : Target) → Known held (target_item t ∷ []) → store_code later (dims_held later) t ≡ store_code held (dims_held held) t
  store_stays (cell v) w = rw (cell_stays held more v (each_head w.plains))
  store_stays (element v s) w = rw (element_stays v s (each_left (subscripts_names s) [] w.plains) w.arrays)

  pub ending_stays : (entry : Instr) (f : Form) → Known held (form_first f) → form_ending later (dims_held later) entry f ≡ form_ending held (dims_held held) entry f
  ending_stays entry (assign t e) w = rw (store_stays t w)
  ending_stays entry (go_to n) w = refl
  ending_stays entry (computed ns v) w = rw (cell_stays held more v (each_head w.plains))
  ending_stays entry (ifs e a b c) w = refl
  ending_stays entry (loop n v p q r) w = refl
  ending_stays entry continue w = refl
  ending_stays entry stop w = refl
  ending_stays entry end w = refl
  ending_stays entry (dimension arrays) w = refl

  pub form_stays : (entry : Instr) (f : Form) → Known held (form_first f) → Known held (form_items f)
      → form_code later (dims_held later) (λ n. n) entry f ≡ form_code held (dims_held held) (λ n. n) entry f
  form_stays entry f w x =
      rw (form_code_lem later (dims_held later) entry f, form_code_lem held (dims_held held) entry f, items_stay (form_items f) x, ending_stays entry f w)
