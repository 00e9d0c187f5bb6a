-- A transfer with its FORMAT and its list.
-- Assumes nothing.
use mathlib.Core.Path.{◌≡◌, sym, ap}
use Prim.Native.Nat.{ℕ, ◌+◌, ◌*◌, ◌≤◌, ◌<◌}
use mathlib.Core.Bool.{true, false}
use mathlib.Core.List.{List}
use lib.Dec.{ltb, leb, eqb}
use lib.ListN.{length, drop}
use borrow.Author.Tests.{ltb-true, leb-true, eqb-true}
use Rattle.rules_shared.specs.Lists.{all}
use Rattle.rules_object.specs.Object.{Transfer, Object}
use Rattle.rules_object.specs.Check.{format_start, right_transfer}
use Rattle.rules_object.specs.Operations.{no_transfer, format_right, item_right, items_at, transfer_at, transfer_right}
use Rattle.rules_object.proofs.Passed.{both}
use Rattle.object_words.specs.Word.{word_at}
use Rattle.object_contents.specs.declared.Layout.{Layout}
use Rattle.object_contents.specs.Layout as layout
use Rattle.object_contents.specs.Layout.{object_at}
use Rattle.object_contents.proofs.Entries.{transfer_at_lem}

module _ (o : Object) (x : ℕ) where
  pub transfer_not : right_transfer o (transfer_at o x) ≡ false → false ≡ transfer_right o x
  transfer_not e = rw e

  pub format_not : right_transfer o (transfer_at o x) ≡ true → format_right o (transfer_at o x).format (drop (transfer_at o x).format o.formats) ≡ false → false ≡ transfer_right o x
  format_not e f = rw (e, f)

  pub items_say : right_transfer o (transfer_at o x) ≡ true → format_right o (transfer_at o x).format (drop (transfer_at o x).format o.formats) ≡ true
      → all (item_right o) (items_at o (transfer_at o x)) ≡ transfer_right o x
  items_say e f = rw (e, f)

-- what a transfer has that is right
pub record Right (o : Object) (t : Transfer) : Type 0 where
  pub format : t.format < length o.formats
  pub begins : t.format ≡ format_start o t.format
  pub items : t.first + t.count ≤ length o.items

pub right : (o : Object) (t : Transfer) → right_transfer o t ≡ true → Right o t
unfolding right_transfer
right o t e =
    let a = both (ltb t.format (length o.formats)) _ e in
    let b = both (eqb (format_start o t.format) t.format) _ a.1 in
    let c = both (leb (t.first + t.count) (length o.items)) _ b.1 in
    record { format = ltb-true _ _ a.0; begins = sym (eqb-true _ _ b.0); items = leb-true _ _ c.0 }

module _ (e : Layout) (s : List ℕ) (x : ℕ) (h : x < e.transfer_count) where
  pub format_is : (transfer_at (object_at e s) x).format ≡ word_at s (e.transfers + 12 * x)
  unfolding layout.transfer_at
  format_is = ap (λ (t : Transfer). t.format) (transfer_at_lem e s x no_transfer h)

  pub first_is : (transfer_at (object_at e s) x).first ≡ word_at s (e.transfers + 12 * x + 4)
  unfolding layout.transfer_at
  first_is = ap (λ (t : Transfer). t.first) (transfer_at_lem e s x no_transfer h)

  pub count_is : (transfer_at (object_at e s) x).count ≡ word_at s (e.transfers + 12 * x + 8)
  unfolding layout.transfer_at
  count_is = ap (λ (t : Transfer). t.count) (transfer_at_lem e s x no_transfer h)
