-- The book's cards, one after the other: each is `card_of`, and what comes after it.
-- Assumes nothing.
use mathlib.Core.Path.{◌≡◌, refl, sym, ap, ◌∙◌}
use mathlib.Core.Bool.{Bool, true, false}
use mathlib.Core.List.{List, [], ◌∷◌}
use mathlib.Core.Option.{Option, none, some}
use Prim.Native.Nat.{ℕ}
use lib.Dec.{leb}
use lib.ListN.{length, take, drop}
use lib.IntN.{ℤ}
use Rattle.number.specs.declared.Rule.{Rule}
use Rattle.rules_formats.specs.Format.{Field, I, X, H, new_record}
use Rattle.rules_formats.specs.Fields.{field_read}
use Rattle.rules_formats.specs.Walk.{bad_subscript, ran_out, bad_field, Outcome, fine, trouble, then, given, provided, Columns, Taken, taken, on_card, cards}
use Rattle.rules_object.specs.Object.{Object}
use Rattle.rules_object.specs.Machine.{Spot, spot_get, spot_set}
use Rattle.object_contents.specs.declared.placed.Object.{Object as Lent}
use Rattle.object_contents.specs.Book.{book_of}
use Rattle.run_formats.specs.Scan.{fields_at, scan_at}
use Rattle.run_lists.specs.declared.Cursor.{Cursor}
use Rattle.run_lists.specs.Cursors.{left_of}
use Rattle.run_reads.specs.Steps.{on, Card, more, last, follow, step_of, card_of}
use Rattle.run_reads.specs.Takes.{card_at, OneCard, cards_on}

-- what comes after a card
abbrev pub ended : {S Item : Type 0} → List Columns → (List Field → List Item → S → Outcome (Taken S)) → Card S Item → Outcome (Taken S)
ended cs next (more fs is s) = next fs is s
ended cs next (last s) = fine (taken s cs)

module _ {S Item : Type 0} (ceiling : ℕ) (get : S → Item → Option ℤ) (set : S → Item → ℤ → Option S) (scan : List Field) (cs : List Columns) (next : List Field → List Item → S → Outcome (Taken S)) where
  abbrev rest : List Field → List Item → S → Columns → Outcome (Card S Item)
  rest = card_of ceiling get set scan

  abbrev go : List Field → List Item → S → Columns → Outcome (Taken S)
  go = on_card ceiling get set scan cs next

  setting : (fs : List Field) (is js : List Item) (s : S) (columns : Columns) → ((t : S) → go fs js t columns ≡ then (rest fs js t columns) (ended cs next)) → (p : Option S)
      → given bad_subscript p (λ t. go fs js t columns) ≡ then (then (given bad_subscript p (λ t. fine (on t columns js))) (follow fs is s (rest fs))) (ended cs next)
  setting fs is js s columns h none = refl
  setting fs is js s columns h (some t) = h t

  number : (fs : List Field) (is js : List Item) (s : S) (columns : Columns) → ((t : S) → go fs js t columns ≡ then (rest fs js t columns) (ended cs next))
      → (old : Option ℤ) (b : Bool) (v : Option ℤ) (f : ℤ → Option S)
      → given bad_subscript old (λ x. provided bad_field b (given bad_field v (λ y. given bad_subscript (f y) (λ t. go fs js t columns))))
      ≡ then (then (given bad_subscript old (λ x. provided bad_field b (given bad_field v (λ y. given bad_subscript (f y) (λ t. fine (on t columns js)))))) (follow fs is s (rest fs))) (ended cs next)
  number fs is js s columns h none b v f = refl
  number fs is js s columns h (some x) false v f = refl
  number fs is js s columns h (some x) true none f = refl
  number fs is js s columns h (some x) true (some y) f = setting fs is js s columns h (f y)

  passing : (b : Bool) (fs : List Field) (is : List Item) (s : S) (columns : Columns) → go fs is s columns ≡ then (rest fs is s columns) (ended cs next)
      → provided bad_field b (go fs is s columns) ≡ then (then (provided bad_field b (fine (on s columns is))) (follow fs is s (rest fs))) (ended cs next)
  passing false fs is s columns h = refl
  passing true fs is s columns h = h

  pub by_card : (fs : List Field) (is : List Item) (s : S) (columns : Columns) → go fs is s columns ≡ then (rest fs is s columns) (ended cs next)
  unfolding step_of card_of
  by_card [] [] s columns = refl
  by_card [] (i ∷ is) s columns = refl
  by_card (I w ∷ fs) [] s columns = refl
  by_card (I w ∷ fs) (i ∷ is) s columns =
      number fs (i ∷ is) is s (drop w columns) (λ t. by_card fs is t (drop w columns)) (get s i) (leb w (length columns)) (field_read ceiling (take w columns)) (set s i)
  by_card (X n ∷ fs) is s columns = passing (leb n (length columns)) fs is s (drop n columns) (by_card fs is s (drop n columns))
  by_card (H c ∷ fs) is s columns = passing (leb 1 (length columns)) fs is s (drop 1 columns) (by_card fs is s (drop 1 columns))
  by_card (new_record ∷ fs) is s columns = refl

pub no_cards : (o : Object) (k : Rule) (word : ℕ) (c : Cursor) (so : List ℤ) → cards_on o k [] word c so ≡ trouble ran_out
unfolding cards_on
no_cards o k word c so = refl

module _ (ob : Lent) (cs : List Columns) (word : ℕ) (c : Cursor) (before : List ℤ) (card : Columns) where
  abbrev o : Object
  o = book_of ob

  pub by_cards : (l : Outcome (Card (List ℤ) Spot)) → card_at o ob.rule word c before card ≡ l
      → cards_on o ob.rule (card ∷ cs) word c before ≡ then l (ended cs (cards ob.rule.ceiling spot_get spot_set (scan_at o.formats word) cs))
  unfolding cards_on
  by_cards l q =
      by_card ob.rule.ceiling spot_get spot_set (scan_at o.formats word) cs (cards ob.rule.ceiling spot_get spot_set (scan_at o.formats word) cs) (fields_at o.formats word) (left_of o c) before card
      ∙ ap (λ (x : Outcome (Card (List ℤ) Spot)). then x (ended cs (cards ob.rule.ceiling spot_get spot_set (scan_at o.formats word) cs))) q

  pub more_cards : (after : List ℤ) (j : ℕ) (d : Cursor) → OneCard ob word c before card after j d → cards_on o ob.rule (card ∷ cs) word c before ≡ cards_on o ob.rule cs j d after
  unfolding cards_on scan_at
  more_cards after j d l =
      by_cards _ l.is
      ∙ ap (λ (fs : List Field). cards ob.rule.ceiling spot_get spot_set fs cs (fields_at o.formats j) (left_of o d) after) (ap (fields_at o.formats) (sym l.along.same))
