-- What is left of a list, one number at a time.
-- Assumes nothing.
use mathlib.Core.Path.{◌≡◌, refl, sym, ap, ◌∙◌, subst}
use mathlib.Core.Bool.{Bool, true, false, cond}
use mathlib.Core.List.{List, [], ◌∷◌, ◌++◌, map}
use mathlib.Core.Option.{none, some}
use Prim.Native.Nat.{ℕ, zero, suc, ◌+◌, ◌-◌, ◌*◌, ◌≤◌, ◌<◌}
use native.Mathlib.Omega.{arith}
use native.Mathlib.Numerals.{add-one}
use lib.Dec.{ltb, leb, eqb}
use lib.ListN.{length, get_or, take, drop}
use lib.Seq.{drop-cons}
use lib.IntN.{ℤ}
use borrow.Author.Tests.{ltb-true, ltb-false, leb-true, eq-eqb, ne_eqb}
use Rattle.rules_shared.specs.Lists.{all}
use Rattle.rules_object.specs.Object.{Element, ListItem, Object}
use Rattle.rules_object.specs.Check.{right_item, right_element, format_start, right_transfer}
use Rattle.rules_object.specs.Operations.{a_span, one_element, listed, item_right, element_right, no_element, no_transfer, items_at, list_at, format_right, transfer_right}
use Rattle.rules_object.specs.Operations as operations
use Rattle.rules_object.specs.Machine.{Spot, a_cell, an_element, cell_spots, spots, element_spot, place_of}
use Rattle.rules_object.proofs.Passed.{both}
use Rattle.object_words.specs.Word.{word_at}
use Rattle.object_contents.specs.declared.Layout.{Layout}
use Rattle.object_contents.specs.declared.placed.Object.{Object as Opened}
use Rattle.object_contents.specs.Book.{book_of}
use Rattle.object_contents.specs.Layout.{element_at, item_at, transfer_at, object_at}
use Rattle.object_contents.proofs.Entries.{element_length, element_at_lem, item_length_lem, item_at_lem, transfer_at_lem}
use Rattle.run_subscripts.specs.Elements.{ElementIn}
use Rattle.run_formats.specs.Scan.{Scanning}
use Rattle.run_formats.proofs.StartLaws.{starts}
use Rattle.run_lists.specs.declared.Cursor.{Cursor}
use Rattle.run_lists.specs.declared.Start.{Start}
use Rattle.run_lists.specs.Cursors.{start_of, Stored, items_left, left_of, Reached, Begins, Found, Astray, SomeLeft, Left}
use Rattle.run_lists.proofs.Elements.{element_in_lem, element_cell_lem}

-- ---- cells

cells_on : (a n : ℕ) → 0 < n → cell_spots a n ≡ a_cell a ∷ cell_spots (a + 1) (n - 1)
cells_on a zero h = absurd (omega arith)
cells_on a (suc n) h =
    let e : suc a ≡ a + 1 = omega arith in
    let f : n ≡ suc n - 1 = omega arith in
    ap (λ (b : ℕ). a_cell a ∷ cell_spots b n) e ∙ ap (λ (m : ℕ). a_cell a ∷ cell_spots (a + 1) m) f

abbrev cursor : ℕ → ℕ → ℕ → ℕ → Cursor
cursor a n i m = record { cell = a; cells = n; item = i; items = m }

module _ (o : Object) (so : List ℤ) (c : Cursor) (r : Reached o c) where
  pub in_span : 0 < c.cells → Found o so c c.cell (cursor (c.cell + 1) (c.cells - 1) c.item c.items)
  unfolding left_of
  in_span h =
      record {
        spot = a_cell c.cell;
        is = ap (λ (l : List Spot). l ++ spots (map (listed o) (items_left o c))) (cells_on c.cell c.cells h);
        at = refl;
        inside = omega (arith, r.cells);
        next = record { cells = omega (arith, r.cells); items = r.items; right = r.right };
      }

  no_cells : c.cells ≡ 0 → left_of o c ≡ spots (map (listed o) (items_left o c))
  unfolding left_of
  no_cells e = ap (λ (n : ℕ). cell_spots c.cell n ++ spots (map (listed o) (items_left o c))) e

  pub at_end_lem : c.cells ≡ 0 → c.items ≡ 0 → left_of o c ≡ []
  at_end_lem e f = no_cells e ∙ ap (λ (n : ℕ). spots (map (listed o) (take n (drop c.item o.items)))) f

  -- ---- the next item

  module _ (e : c.cells ≡ 0) (f : c.items ≡ 0 → ⊥) (d : ListItem) where
    abbrev rest : List ListItem
    rest = take (c.items - 1) (drop (c.item + 1) o.items)

    abbrev here : ListItem
    here = get_or o.items c.item d

    some_items : 0 < c.items
    some_items = omega arith

    items_on : items_left o c ≡ here ∷ rest
    items_on =
        let n : c.items ≡ suc (c.items - 1) = omega arith in
        ap (λ (k : ℕ). take k (drop c.item o.items)) n
        ∙ ap (λ (l : List ListItem). take (suc (c.items - 1)) l) (drop-cons o.items c.item d (omega (arith, r.items)))
        ∙ ap (λ (k : ℕ). here ∷ take (c.items - 1) (drop k o.items)) (sym (add-one c.item))

    rights : (item_right o here ≡ true) × (all (item_right o) rest ≡ true)
    rights = both (item_right o here) (all (item_right o) rest) (subst (λ (l : List ListItem). all (item_right o) l ≡ true) items_on r.right)

    after : (a n : ℕ) → a + n ≤ o.cells → Reached o (cursor a n (c.item + 1) (c.items - 1))
    after a n h = record { cells = h; items = omega (arith, r.items); right = rights.1 }

    left_is : (i : ListItem) → here ≡ i → left_of o c ≡ spots (listed o i ∷ map (listed o) rest)
    left_is i q = no_cells e ∙ ap (λ (l : List ListItem). spots (map (listed o) l)) items_on ∙ ap (λ (j : ListItem). spots (listed o j ∷ map (listed o) rest)) q

    module _ (a n : ℕ) (is : here ≡ record { first = a; count = n }) where
      abbrev item : ListItem
      item = record { first = a; count = n }

      right_item_lem : item_right o item ≡ true
      right_item_lem = subst (λ (i : ListItem). item_right o i ≡ true) is rights.0

      pub span_fits : 0 < n → a + n ≤ o.cells
      unfolding right_item
      span_fits h =
          let counted : eqb n 0 ≡ false = ne_eqb n 0 (λ q. omega arith) in
          leb-true (a + n) o.cells
          (sym (ap (λ (b : Bool). cond b (ltb a (length o.elements)) (leb (a + n) o.cells)) counted) ∙ (both (right_item o item) _ right_item_lem).0)

      pub new_span : 0 < n → Found o so c a (cursor (a + 1) (n - 1) (c.item + 1) (c.items - 1))
      unfolding left_of
      new_span h =
          let counted : eqb n 0 ≡ false = ne_eqb n 0 (λ q. omega arith) in
          record {
            spot = a_cell a;
            is =
                left_is item is
                ∙ ap (λ (b : Bool). spots (cond b (one_element (operations.element_at o a)) (a_span a n) ∷ map (listed o) rest)) counted
                ∙ ap (λ (l : List Spot). l ++ spots (map (listed o) rest)) (cells_on a n h);
            at = refl;
            inside = omega (arith, span_fits h);
            next = after (a + 1) (n - 1) (omega (arith, span_fits h));
          }

      module _ (empty : n ≡ 0) where
        zero_count : eqb n 0 ≡ true
        zero_count = eq-eqb n 0 empty

        pub an_entry : a < length o.elements
        unfolding right_item
        an_entry =
            ltb-true a (length o.elements)
            (sym (ap (λ (b : Bool). cond b (ltb a (length o.elements)) (leb (a + n) o.cells)) zero_count) ∙ (both (right_item o item) _ right_item_lem).0)

        pub right_entry : right_element o (get_or o.elements a no_element) ≡ true
        right_entry =
            sym (ap (λ (b : Bool). cond b (element_right o a) true) zero_count) ∙ (both (right_item o item) (cond (eqb n 0) (element_right o a) true) right_item_lem).1

        pub one_spot : left_of o c ≡ an_element (operations.element_at o a) ∷ left_of o (cursor 0 0 (c.item + 1) (c.items - 1))
        unfolding left_of
        one_spot =
            left_is item is
            ∙ ap (λ (b : Bool). spots (cond b (one_element (operations.element_at o a)) (a_span a n) ∷ map (listed o) rest)) zero_count

        pub astray : place_of so (operations.element_at o a) ≡ none → Astray o so c
        astray q =
            record {
              spot = an_element (operations.element_at o a);
              more = left_of o (cursor 0 0 (c.item + 1) (c.items - 1));
              is = one_spot;
              at = ap (element_spot (operations.element_at o a).base) q;
            }

        pub an_element_lem : (p b : ℕ) → b ≡ (operations.element_at o a).base → place_of so (operations.element_at o a) ≡ some p → b + p < o.cells
            → Found o so c (b + p) (cursor 0 0 (c.item + 1) (c.items - 1))
        an_element_lem p b q w l =
            record {
              spot = an_element (operations.element_at o a);
              is = one_spot;
              at = ap (element_spot (operations.element_at o a).base) w ∙ ap (λ (k : ℕ). some (k + p)) (sym q);
              inside = l;
              next = after 0 0 (omega arith);
            }

-- ---- whether any number is left

abbrev pub no_item : ListItem
no_item = record { first = 0; count = 0 }

module _ (o : Object) (c : Cursor) (r : Reached o c) where
  pub left_in_span : 0 < c.cells → SomeLeft o c
  left_in_span h = let f = in_span o [] c r h in record { spot = f.spot; more = _; is = f.is }

  pub left_in_items : c.cells ≡ 0 → (c.items ≡ 0 → ⊥) → SomeLeft o c
  left_in_items e f = by (here o [] c r e f no_item).count refl
    where
      by : (n : ℕ) → (here o [] c r e f no_item).count ≡ n → SomeLeft o c
      by zero q = record { spot = _; more = _; is = one_spot o [] c r e f no_item (here o [] c r e f no_item).first (here o [] c r e f no_item).count refl q }
      by (suc n) q = let g = new_span o [] c r e f no_item (here o [] c r e f no_item).first (here o [] c r e f no_item).count refl (omega arith) in record { spot = g.spot; more = _; is = g.is }

  pub list_over : (n : ℕ) → c.cells ≡ 0 → n ≡ c.items → Left o c (ltb 0 n)
  list_over n e q = by (ltb 0 n) refl
    where
      by : (b : Bool) → ltb 0 n ≡ b → Left o c b
      by true t = left_in_items e (λ z. absurd (omega (arith, ltb-true 0 n t)))
      by false t = at_end_lem o [] c r e (omega (arith, ltb-false 0 n t))

-- ---- in the bytes

module _ (e : Layout) (s : List ℕ) where
  pub item_is : (i a n : ℕ) → i < e.item_count → a ≡ word_at s (e.items + 8 * i) → n ≡ word_at s (e.items + 8 * i + 4)
      → get_or (object_at e s).items i no_item ≡ record { first = a; count = n }
  unfolding item_at
  item_is i a n h p q = item_at_lem e s i no_item h ∙ (λ k. record { first = sym p k; count = sym q k })

  pub start_is : (x a i n : ℕ) → x < e.transfer_count → a ≡ word_at s (e.transfers + 12 * x) → i ≡ word_at s (e.transfers + 12 * x + 4) → n ≡ word_at s (e.transfers + 12 * x + 8)
      → record { word = a; list = record { cell = 0; cells = 0; item = i; items = n } } ≡ start_of (operations.transfer_at (object_at e s) x)
  unfolding transfer_at
  start_is x a i n h p q w = (λ k. record { word = p k; list = record { cell = 0; cells = 0; item = q k; items = w k } }) ∙ ap start_of (sym (transfer_at_lem e s x no_transfer h))

  pub items_inside : (c : Cursor) → Reached (object_at e s) c → (c.items ≡ 0 → ⊥) → c.item < e.item_count
  items_inside c r f = omega (arith, r.items, item_length_lem e s)

module _ (b : Opened) (so : List ℤ) (h : Stored b so) (c : Cursor) (r : Reached (book_of b) c) (z : c.cells ≡ 0) (f : c.items ≡ 0 → ⊥) (a n : ℕ)
    (is : get_or (book_of b).items c.item no_item ≡ record { first = a; count = n }) (empty : n ≡ 0) where
  pub entry_below : a < b.layout.element_count
  entry_below = omega (arith, an_entry (book_of b) so c r z f no_item a n is empty, element_length b.layout b.bytes.now)

  entry_right_lem : right_element (book_of b) (get_or (book_of b).elements a no_element) ≡ true
  entry_right_lem = right_entry (book_of b) so c r z f no_item a n is empty

  pub entry_in : ElementIn b.bytes.now (b.layout.elements + 36 * a) so
  entry_in = element_in_lem b so h a entry_below entry_right_lem

  place_is : place_of so (operations.element_at (book_of b) a) ≡ place_of so (element_at b.bytes.now (b.layout.elements + 36 * a))
  place_is = ap (place_of so) (element_at_lem b.layout b.bytes.now a no_element entry_below)

  pub found_nowhere : place_of so (element_at b.bytes.now (b.layout.elements + 36 * a)) ≡ none → Astray (book_of b) so c
  found_nowhere q = astray (book_of b) so c r z f no_item a n is empty (place_is ∙ q)

  pub found_at : (p w : ℕ) → w ≡ word_at b.bytes.now (b.layout.elements + 36 * a) → place_of so (element_at b.bytes.now (b.layout.elements + 36 * a)) ≡ some p
      → Found (book_of b) so c (w + p) (record { cell = 0; cells = 0; item = c.item + 1; items = c.items - 1 })
  unfolding element_at object_at
  found_at p w q k =
      an_element_lem (book_of b) so c r z f no_item a n is empty p w (q ∙ sym (ap (λ (x : Element). x.base) (element_at_lem b.layout b.bytes.now a no_element entry_below))) (place_is ∙ k)
      (omega (arith, element_cell_lem b so h a entry_below entry_right_lem p (sym k)))

-- ---- the whole list

module _ (o : Object) (x : ℕ) (right : transfer_right o x ≡ true) where
  list_starts : Reached o (start_of (operations.transfer_at o x)).list
  unfolding right_transfer
  list_starts =
      let t = operations.transfer_at o x in
      let parts = both (right_transfer o t) _ right in
      let p₁ = both (ltb t.format (length o.formats)) _ parts.0 in
      let p₂ = both (eqb (format_start o t.format) t.format) _ p₁.1 in
      let p₃ = both (leb (t.first + t.count) (length o.items)) _ p₂.1 in
      record {
        cells = omega arith;
        items = leb-true (t.first + t.count) (length o.items) p₃.0;
        right = (both (format_right o t.format (drop t.format o.formats)) (all (item_right o) (items_at o t)) parts.1).1;
      }

  pub begins : (r : Start) → r ≡ start_of (operations.transfer_at o x) → Begins o x r
  begins r e =
      record {
        is = e;
        scanning = subst (λ (s : Start). Scanning o.formats s.word) (sym e) (starts o x right);
        reached = subst (λ (s : Start). Reached o s.list) (sym e) list_starts;
      }

  pub list_is : left_of o (start_of (operations.transfer_at o x)).list ≡ spots (list_at o (operations.transfer_at o x))
  unfolding left_of
  list_is = refl
