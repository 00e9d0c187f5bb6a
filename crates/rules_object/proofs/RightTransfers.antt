-- Where all entries of an object are right, all that a READ or PRINT uses is right: its transfer, every word of its FORMAT, and every item of its list with its element.
-- Assumes nothing.
use mathlib.Core.Path.{◌≡◌, refl}
use mathlib.Core.Bool.{Bool, true, false, ◌||◌, cond}
use mathlib.Core.List.{List, [], ◌∷◌}
use Prim.Native.Nat.{ℕ, suc, ◌+◌, ◌≤◌, ◌<◌}
use native.Mathlib.Omega.{arith}
use lib.Dec.{ltb, leb, eqb}
use lib.ListN.{length, drop, length-drop}
use borrow.Author.Tests.{ltb-true}
use Rattle.rules_shared.specs.Lists.{all, Each, each_more}
use Rattle.rules_shared.proofs.EachLaws.{each_map, each_take, each_drop}
use Rattle.rules_formats.specs.Words.{is_end}
use Rattle.rules_object.specs.Object.{ListItem, Transfer, Object}
use Rattle.rules_object.specs.Check.{right_format, right_item, right_transfer}
use Rattle.rules_object.specs.Operations.{element_right, format_right, item_right, items_at, transfer_at, transfer_right}
use Rattle.rules_object.specs.Passed.{Passed}
use Rattle.rules_object.proofs.Passed.{both}

pub or_true : (b c : Bool) → c ≡ true → (b || c) ≡ true
or_true true c e = refl
or_true false c e = e

all_right : {A : Type 0} (test : A → Bool) (xs : List A) → Each (λ x. test x ≡ true) xs → all test xs ≡ true
all_right test [] h = refl
all_right test (x ∷ xs) (each_more p ps) = rw p (all_right test xs ps)

pub words_right : (o : Object) → ((i : ℕ) → i < length o.formats → right_format o i ≡ true) → (i : ℕ) (words : List ℕ) → i + length words ≤ length o.formats → format_right o i words ≡ true
words_right o h i [] l = refl
words_right o h i (w ∷ words) l = rw (h i (omega arith)) (or_true (is_end w) (format_right o (suc i) words) (words_right o h (suc i) words (omega arith)))

-- its FORMAT's first word is one of the object's
pub transfer_inside : (o : Object) (t : Transfer) → right_transfer o t ≡ true → t.format < length o.formats
unfolding right_transfer
transfer_inside o t e = ltb-true _ _ (both (ltb t.format (length o.formats)) _ e).0

module _ {bytes : List ℕ} {o : Object} {table : List ℕ} (p : Passed bytes o table) where
  item_right_lem : (i : ListItem) → right_item o i ≡ true → item_right o i ≡ true
  unfolding right_item
  item_right_lem i e = rw e (by (eqb i.count 0) e)
    where
      by : (b : Bool) → cond b (ltb i.first (length o.elements)) (leb (i.first + i.count) o.cells) ≡ true → cond b (element_right o i.first) true ≡ true
      by true q = p.elements i.first (ltb-true _ _ q)
      by false q = refl

  -- the items of a transfer are among the object's
  pub items_right : (t : Transfer) → Each (λ i. right_item o i ≡ true) (items_at o t)
  items_right t = each_take t.count (drop t.first o.items) (each_drop t.first o.items p.items)

  pub transfer_right_lem : (x : ℕ) → x < length o.transfers → transfer_right o x ≡ true
  transfer_right_lem x l =
      let t : Transfer = transfer_at o x in
      let r = p.transfers x l in
      let inside = transfer_inside o t r in
      let words = words_right o p.formats t.format (drop t.format o.formats) (omega (arith, length-drop t.format o.formats)) in
      rw (r, words) (all_right (item_right o) (items_at o t) (each_map item_right_lem (items_right t)))
