-- The entry of an element that an item uses, in the words of the bytes.
-- Assumes nothing.
use mathlib.Core.Path.{◌≡◌, sym, subst}
use mathlib.Core.Bool.{true}
use mathlib.Core.List.{List}
use mathlib.Core.Option.{some}
use Prim.Native.Nat.{ℕ, ◌+◌, ◌*◌, ◌^◌, ◌≤◌, ◌<◌}
use native.Mathlib.Omega.{arith}
use lib.Dec.{leb}
use lib.ListN.{length, get_or}
use lib.IntN.{ℤ, pos, nat_abs}
use borrow.Author.Tests.{ltb-true, leb-true}
use Rattle.number.specs.Number.{fits}
use Rattle.number.proofs.Laws.{fits_below, fits_yes}
use Rattle.rules_object.specs.Object.{rule_of}
use Rattle.rules_object.specs.Check.{right_subscript, right_element}
use Rattle.rules_object.specs.Operations.{no_element}
use Rattle.rules_object.specs.Machine.{cell, place_of}
use Rattle.rules_object.specs.Bytes.{signed_of}
use Rattle.rules_object.proofs.Passed.{both}
use Rattle.object_words.specs.Word.{word_at}
use Rattle.object_contents.specs.declared.Layout.{Layout}
use Rattle.object_contents.specs.declared.placed.Object.{Object}
use Rattle.object_contents.specs.Layout.{element_at, object_at}
use Rattle.object_contents.proofs.Entries.{element_at_lem, element_inside}
use Rattle.run_subscripts.specs.Elements.{Cell, SubscriptIn, ElementIn}
use Rattle.run_subscripts.proofs.Laws.{place_below}
use Rattle.run_lists.specs.Cursors.{Stored}

module _ (o : Object) (so : List ℤ) (h : Stored o so) where
  abbrev e : Layout
  e = o.layout

  abbrev s : List ℕ
  s = o.bytes.now

  small_here : (z : ℤ) → fits (rule_of (object_at e s)) z ≡ true → nat_abs z < 2 ^ 31
  small_here z t = fits_below (rule_of (object_at e s)) h.narrow z (fits_yes (rule_of (object_at e s)) z t)

  cell_in_lem : (a : ℕ) → a < e.cells → Cell so a
  cell_in_lem a l = record { inside = omega (arith, h.long); small = fits_below (rule_of (object_at e s)) h.narrow (cell so a) (h.fit a l) }

  module _ (x : ℕ) (l : x < e.element_count) (t : right_element (object_at e s) (get_or (object_at e s).elements x no_element) ≡ true) where
    abbrev at : ℕ
    at = e.elements + 36 * x

    right_at_lem : right_element (object_at e s) (element_at s at) ≡ true
    right_at_lem = subst (λ n. right_element (object_at e s) n ≡ true) (element_at_lem e s x no_element l) t

    pub element_span : word_at s at + word_at s (at + 4) * word_at s (at + 8) ≤ e.cells
    unfolding right_element element_at object_at
    element_span =
        let m₁ = both (leb 1 (word_at s (at + 4))) _ right_at_lem in
        let m₂ = both (leb 1 (word_at s (at + 8))) _ m₁.1 in
        let m₃ = both (leb (word_at s at + word_at s (at + 4) * word_at s (at + 8)) e.cells) _ m₂.1 in
        leb-true (word_at s at + word_at s (at + 4) * word_at s (at + 8)) e.cells m₃.0

    pub element_in_lem : ElementIn s at so
    unfolding right_element element_at object_at
    element_in_lem =
        let m₁ = both (leb 1 (word_at s (at + 4))) _ right_at_lem in
        let m₂ = both (leb 1 (word_at s (at + 8))) _ m₁.1 in
        let m₃ = both (leb (word_at s at + word_at s (at + 4) * word_at s (at + 8)) e.cells) _ m₂.1 in
        let m₄ = both (right_subscript (object_at e s) (element_at s at).first) _ m₃.1 in
        let whole = element_inside e s o.placed x l in
        record {
          whole = whole;
          first = part (at + 12) (at + 16) (at + 20) (omega arith) (omega arith) (omega arith) m₄.0;
          second = part (at + 24) (at + 28) (at + 32) (omega arith) (omega arith) (omega arith) m₄.1;
          span = omega (arith, h.long, element_span);
          few = omega (arith, h.few, element_span);
        }
      where
        part : (c d f : ℕ) → c + 12 ≤ length s → c + 4 ≡ d → c + 8 ≡ f
            → right_subscript (object_at e s) (record { times = word_at s c; cell = word_at s d; plus = signed_of (word_at s f) }) ≡ true → SubscriptIn s c so
        part c d f w p₁ p₂ t =
            let t₁ = both _ _ t in
            let t₂ = both _ _ t₁.1 in
            record {
              whole = w;
              times = small_here (pos (word_at s c)) t₁.0;
              at = subst (λ n. Cell so (word_at s n)) (sym p₁) (cell_in_lem (word_at s d) (ltb-true (word_at s d) e.cells t₂.1));
              plus = subst (λ n. nat_abs (signed_of (word_at s n)) < 2 ^ 31) (sym p₂) (small_here (signed_of (word_at s f)) t₂.0);
            }

    -- its cell is one of the object's
    pub element_cell_lem : (n : ℕ) → some n ≡ place_of so (element_at s at) → word_at s at + n < e.cells
    unfolding element_at
    element_cell_lem n q = let b = place_below (word_at s (at + 4)) (word_at s (at + 8)) _ _ n q in omega (arith, element_span)
