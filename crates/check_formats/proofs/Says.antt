-- What the tests of a word, an item and a transfer come to is what the book says of them.
-- Assumes nothing.
use mathlib.Core.Path.{◌≡◌}
use Prim.Native.Nat.{ℕ, ◌+◌, ◌*◌, ◌<◌}
use mathlib.Core.Bool.{◌&&◌, ◌||◌}
use mathlib.Core.List.{List}
use lib.Dec.{ltb, leb, eqb}
use lib.ListN.{get_or, drop}
use borrow.Author.Tests.{eq-eqb, ne_eqb}
use Rattle.rules_object.specs.Check.{format_start, right_item, has_number, right_transfer}
use Rattle.rules_object.specs.Operations.{no_transfer}
use Rattle.object_words.specs.Word.{word_at}
use Rattle.object_contents.specs.declared.Layout.{Layout}
use Rattle.object_contents.specs.Layout.{item_at, transfer_at, object_at}
use Rattle.object_contents.proofs.Entries.{element_length, item_length_lem, format_length, item_at_lem, transfer_at_lem}
use Rattle.check_formats.specs.Formats.{no_item}

module _ (e : Layout) (s : List ℕ) (i : ℕ) where
  -- an element's entry
  pub element_item : i < e.item_count → (first count : ℕ) → first ≡ word_at s (e.items + 8 * i) → count ≡ word_at s (e.items + 8 * i + 4) → count ≡ 0
      → ltb first e.element_count ≡ right_item (object_at e s) (get_or (object_at e s).items i no_item)
  unfolding right_item item_at
  element_item h first count f c q =
      rw (item_at_lem e s i no_item h, ← f, ← c, eq-eqb count 0 q, element_length e s)

  -- cells
  pub cells_item : i < e.item_count → (first count : ℕ) → first ≡ word_at s (e.items + 8 * i) → count ≡ word_at s (e.items + 8 * i + 4) → (count ≡ 0 → ⊥)
      → leb (first + count) e.cells ≡ right_item (object_at e s) (get_or (object_at e s).items i no_item)
  unfolding right_item item_at object_at
  cells_item h first count f c q =
      rw (item_at_lem e s i no_item h, ← f, ← c, ne_eqb count 0 q)

  -- a transfer; whether its FORMAT begins there and has a number is asked only of one that is there
  pub transfer_says : i < e.transfer_count → (format first count : ℕ) → format ≡ word_at s (e.transfers + 12 * i) → first ≡ word_at s (e.transfers + 12 * i + 4) → count ≡ word_at s (e.transfers + 12 * i + 8)
      → right_transfer (object_at e s) (get_or (object_at e s).transfers i no_transfer)
      ≡ (ltb format e.format_count && (eqb (format_start (object_at e s) format) format && (leb (first + count) e.item_count && (eqb count 0 || has_number (drop format (object_at e s).formats)))))
  unfolding right_transfer transfer_at
  transfer_says h format first count f a c = rw (transfer_at_lem e s i no_transfer h, ← f, ← a, ← c, format_length e s, item_length_lem e s)
