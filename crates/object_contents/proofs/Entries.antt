-- The lists of an object for those that read its bytes: how long each is, its entries by their places, and that these are inside.
-- Assumes nothing.
use mathlib.Core.Path.{◌≡◌}
use Prim.Native.Nat.{ℕ, ◌+◌, ◌*◌, ◌≤◌, ◌<◌}
use native.Mathlib.Omega.{arith}
use mathlib.Core.List.{List}
use lib.ListN.{length, get_or}
use Rattle.rules_object.specs.Object.{Element, Loop, Line, Named, ListItem, Transfer}
use Rattle.object_words.specs.Word.{word_at}
use Rattle.object_contents.specs.declared.Layout.{Layout}
use Rattle.object_contents.specs.Layout.{element_at, loop_at, line_at, named_at, item_at, transfer_at, object_at, Placed}
use Rattle.object_contents.proofs.Lists.{length_from, get_d_all}

module _ (e : Layout) (s : List ℕ) where
  pub constant_length : length (object_at e s).constants ≡ e.constant_count
  unfolding object_at
  constant_length = length_from (λ i. word_at s (e.constants + 4 * i)) e.constant_count 0

  pub element_length : length (object_at e s).elements ≡ e.element_count
  unfolding object_at
  element_length = length_from (λ i. element_at s (e.elements + 36 * i)) e.element_count 0

  pub exit_length : length (object_at e s).exits ≡ e.exit_count
  unfolding object_at
  exit_length = length_from (λ i. word_at s (e.exits + 4 * i)) e.exit_count 0

  pub do_length : length (object_at e s).dos ≡ e.do_count
  unfolding object_at
  do_length = length_from (λ i. loop_at s (e.dos + 16 * i)) e.do_count 0

  pub code_length : length (object_at e s).code ≡ e.code_count
  unfolding object_at
  code_length = length_from (λ i. word_at s (e.code + 4 * i)) e.code_count 0

  pub line_length : length (object_at e s).lines ≡ e.line_count
  unfolding object_at
  line_length = length_from (λ i. line_at s (e.lines + 12 * i)) e.line_count 0

  pub name_length : length (object_at e s).names ≡ e.name_count
  unfolding object_at
  name_length = length_from (λ i. named_at s (e.names + 20 * i)) e.name_count 0

  pub format_length : length (object_at e s).formats ≡ e.format_count
  unfolding object_at
  format_length = length_from (λ i. word_at s (e.formats + 4 * i)) e.format_count 0

  pub item_length_lem : length (object_at e s).items ≡ e.item_count
  unfolding object_at
  item_length_lem = length_from (λ i. item_at s (e.items + 8 * i)) e.item_count 0

  pub transfer_length : length (object_at e s).transfers ≡ e.transfer_count
  unfolding object_at
  transfer_length = length_from (λ i. transfer_at s (e.transfers + 12 * i)) e.transfer_count 0

  pub constant_at_lem : (i : ℕ) → i < e.constant_count → get_or (object_at e s).constants i 0 ≡ word_at s (e.constants + 4 * i)
  unfolding object_at
  constant_at_lem i h = get_d_all (λ i. word_at s (e.constants + 4 * i)) e.constant_count i 0 h

  pub element_at_lem : (i : ℕ) (d : Element) → i < e.element_count → get_or (object_at e s).elements i d ≡ element_at s (e.elements + 36 * i)
  unfolding object_at
  element_at_lem i d h = get_d_all (λ i. element_at s (e.elements + 36 * i)) e.element_count i d h

  pub exit_at_lem : (i : ℕ) → i < e.exit_count → get_or (object_at e s).exits i 0 ≡ word_at s (e.exits + 4 * i)
  unfolding object_at
  exit_at_lem i h = get_d_all (λ i. word_at s (e.exits + 4 * i)) e.exit_count i 0 h

  pub do_at_lem : (i : ℕ) (d : Loop) → i < e.do_count → get_or (object_at e s).dos i d ≡ loop_at s (e.dos + 16 * i)
  unfolding object_at
  do_at_lem i d h = get_d_all (λ i. loop_at s (e.dos + 16 * i)) e.do_count i d h

  pub code_at : (i : ℕ) → i < e.code_count → get_or (object_at e s).code i 0 ≡ word_at s (e.code + 4 * i)
  unfolding object_at
  code_at i h = get_d_all (λ i. word_at s (e.code + 4 * i)) e.code_count i 0 h

  pub line_at_lem : (i : ℕ) (d : Line) → i < e.line_count → get_or (object_at e s).lines i d ≡ line_at s (e.lines + 12 * i)
  unfolding object_at
  line_at_lem i d h = get_d_all (λ i. line_at s (e.lines + 12 * i)) e.line_count i d h

  pub name_at_lem : (i : ℕ) (d : Named) → i < e.name_count → get_or (object_at e s).names i d ≡ named_at s (e.names + 20 * i)
  unfolding object_at
  name_at_lem i d h = get_d_all (λ i. named_at s (e.names + 20 * i)) e.name_count i d h

  pub format_at_lem : (i : ℕ) → i < e.format_count → get_or (object_at e s).formats i 0 ≡ word_at s (e.formats + 4 * i)
  unfolding object_at
  format_at_lem i h = get_d_all (λ i. word_at s (e.formats + 4 * i)) e.format_count i 0 h

  pub item_at_lem : (i : ℕ) (d : ListItem) → i < e.item_count → get_or (object_at e s).items i d ≡ item_at s (e.items + 8 * i)
  unfolding object_at
  item_at_lem i d h = get_d_all (λ i. item_at s (e.items + 8 * i)) e.item_count i d h

  pub transfer_at_lem : (i : ℕ) (d : Transfer) → i < e.transfer_count → get_or (object_at e s).transfers i d ≡ transfer_at s (e.transfers + 12 * i)
  unfolding object_at
  transfer_at_lem i d h = get_d_all (λ i. transfer_at s (e.transfers + 12 * i)) e.transfer_count i d h

  pub constant_inside : Placed e s → (i : ℕ) → i < e.constant_count → e.constants + 4 * i + 4 ≤ length s
  constant_inside p i h = omega arith

  pub element_inside : Placed e s → (i : ℕ) → i < e.element_count → e.elements + 36 * i + 36 ≤ length s
  element_inside p i h = omega arith

  pub exit_inside : Placed e s → (i : ℕ) → i < e.exit_count → e.exits + 4 * i + 4 ≤ length s
  exit_inside p i h = omega arith

  pub do_inside : Placed e s → (i : ℕ) → i < e.do_count → e.dos + 16 * i + 16 ≤ length s
  do_inside p i h = omega arith

  pub code_inside : Placed e s → (i : ℕ) → i < e.code_count → e.code + 4 * i + 4 ≤ length s
  code_inside p i h = omega arith

  pub line_inside : Placed e s → (i : ℕ) → i < e.line_count → e.lines + 12 * i + 12 ≤ length s
  line_inside p i h = omega arith

  pub format_inside : Placed e s → (i : ℕ) → i < e.format_count → e.formats + 4 * i + 4 ≤ length s
  format_inside p i h = omega arith

  pub item_inside : Placed e s → (i : ℕ) → i < e.item_count → e.items + 8 * i + 8 ≤ length s
  item_inside p i h = omega arith

  pub transfer_inside : Placed e s → (i : ℕ) → i < e.transfer_count → e.transfers + 12 * i + 12 ≤ length s
  transfer_inside p i h = omega arith
