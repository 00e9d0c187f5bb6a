-- An item with its element's entry, and the items of a list one by one.
-- Assumes nothing.
use mathlib.Core.Path.{◌≡◌, ap, ◌∙◌}
use Prim.Native.Nat.{ℕ, suc, ◌+◌, ◌-◌, ◌*◌, ◌≤◌, ◌<◌}
use native.Mathlib.Numerals.{add-one}
use native.Mathlib.Omega.{arith}
use mathlib.Core.Bool.{Bool, true, false, ◌&&◌}
use mathlib.Core.List.{List, ◌∷◌}
use lib.ListN.{length, get_or, take, drop}
use lib.Seq.{drop-cons}
use borrow.Author.Tests.{ltb-true, eq-eqb, ne_eqb}
use Rattle.rules_shared.specs.Lists.{all}
use Rattle.rules_object.specs.Object.{ListItem, Object}
use Rattle.rules_object.specs.Check.{right_element, right_item}
use Rattle.rules_object.specs.Operations.{no_element, item_right}
use Rattle.object_words.specs.Word.{word_at}
use Rattle.object_contents.specs.declared.Layout.{Layout}
use Rattle.object_contents.specs.Layout.{item_at, object_at}
use Rattle.object_contents.proofs.Entries.{item_length_lem, item_at_lem}
use Rattle.check_formats.specs.Formats.{no_item}

-- ---- one item

pub item_not : (o : Object) (i : ListItem) → right_item o i ≡ false → false ≡ item_right o i
item_not o i e = rw e

pub item_cells : (o : Object) (i : ListItem) → right_item o i ≡ true → (i.count ≡ 0 → ⊥) → true ≡ item_right o i
item_cells o i e h = rw (e, ne_eqb i.count 0 h)

pub item_element : (o : Object) (i : ListItem) → right_item o i ≡ true → i.count ≡ 0 → right_element o (get_or o.elements i.first no_element) ≡ item_right o i
item_element o i e h = rw (e, eq-eqb i.count 0 h)

pub element_inside : (o : Object) (i : ListItem) → right_item o i ≡ true → i.count ≡ 0 → i.first < length o.elements
unfolding right_item
element_inside o i e h = ltb-true _ _ (rw (eq-eqb i.count 0 h) at e)

module _ (e : Layout) (s : List ℕ) where
  pub item_first : (i : ℕ) → i < e.item_count → (get_or (object_at e s).items i no_item).first ≡ word_at s (e.items + 8 * i)
  unfolding item_at
  item_first i h = ap (λ (x : ListItem). x.first) (item_at_lem e s i no_item h)

  pub item_count : (i : ℕ) → i < e.item_count → (get_or (object_at e s).items i no_item).count ≡ word_at s (e.items + 8 * i + 4)
  unfolding item_at
  item_count i h = ap (λ (x : ListItem). x.count) (item_at_lem e s i no_item h)

  -- ---- the items from a on, before the one at b

  abbrev pub used : ℕ → ℕ → Bool
  used a b = all (item_right (object_at e s)) (take (b - a) (drop a (object_at e s).items))

  pub used_is : (a n : ℕ) → all (item_right (object_at e s)) (take n (drop a (object_at e s).items)) ≡ used a (a + n)
  used_is a n =
      let f : a + n - a ≡ n = omega arith in
      rw f

  module _ (a b : ℕ) (h : a < b) (g : b ≤ e.item_count) where
    next : used a b ≡ (item_right (object_at e s) (get_or (object_at e s).items a no_item) && used (a + 1) b)
    next =
        let f : b - a ≡ suc (b - (a + 1)) = omega arith in
        rw (f, drop-cons (object_at e s).items a no_item (omega (arith, item_length_lem e s)), ← add-one a)

    pub used_more : item_right (object_at e s) (get_or (object_at e s).items a no_item) ≡ true → used a b ≡ used (a + 1) b
    used_more q = next ∙ rw q

    pub used_stops : item_right (object_at e s) (get_or (object_at e s).items a no_item) ≡ false → used a b ≡ false
    used_stops q = next ∙ rw q

  pub used_ends : (a b : ℕ) → b ≤ a → used a b ≡ true
  used_ends a b h =
      let f : b - a ≡ 0 = omega arith in
      rw f
