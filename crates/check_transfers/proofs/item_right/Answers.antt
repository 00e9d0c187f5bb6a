-- `check_transfers::item_right` meets its contract. Assumes nothing.
use mathlib.Core.Path.{◌≡◌, refl, sym, ap, ◌∙◌}
use mathlib.Core.Bool.{true, false}
use native.Mathlib.Omega.{arith}
use borrow.Author.Tests.{ne_eqb}
use lib.ListN.{get_or}
use Rattle.rules_object.specs.Object.{ListItem}
use Rattle.rules_object.specs.Check.{right_element}
use Rattle.rules_object.specs.Operations.{no_element}
use Rattle.object_contents.specs.Book.{book_of}
use Rattle.object_contents.proofs.Entries.{element_length}
use Rattle.check_formats.specs.Formats.{no_item}
use Rattle.check_transfers.proofs.Items.{item_not, item_cells, item_element, element_inside, item_first, item_count}
use Rattle.check_transfers.proofs.item_right.Goals as goal

pub element_right-requires : goal.element_right-requires
element_right-requires c =
    let e = c.args.o.now.layout in
    let s = c.args.o.now.bytes.now in
    let item : ListItem = get_or (book_of c.args.o.now).items c.args.i no_item in
    let right = sym c.item_right.ensures ∙ c.if-item_right.true in
    let count : item.count ≡ 0 = item_count e s c.args.i c.requires ∙ sym c.load.ensures ∙ c.if-load-ne0.false in
    omega (arith, element_inside (book_of c.args.o.now) item right count, item_first e s c.args.i c.requires, element_length e s)

pub returns-then-load-ne0 : goal.returns-then-load-ne0
returns-then-load-ne0 c =
    let e = c.args.o.now.layout in
    let s = c.args.o.now.bytes.now in
    let o = book_of c.args.o.now in
    let item : ListItem = get_or o.items c.args.i no_item in
    rw (ne_eqb c.load.result 0 c.if-load-ne0.true) (item_cells o item (sym c.item_right.ensures ∙ c.if-item_right.true) (λ q. c.if-load-ne0.true (c.load.ensures ∙ sym (item_count e s c.args.i c.requires) ∙ q)))

pub returns-else-load-ne0 : goal.returns-else-load-ne0
returns-else-load-ne0 c =
    let e = c.args.o.now.layout in
    let s = c.args.o.now.bytes.now in
    let o = book_of c.args.o.now in
    let item : ListItem = get_or o.items c.args.i no_item in
    let right = sym c.item_right.ensures ∙ c.if-item_right.true in
    let count : item.count ≡ 0 = item_count e s c.args.i c.requires ∙ sym c.load.ensures ∙ c.if-load-ne0.false in
    let first = item_first e s c.args.i c.requires ∙ sym c.load-else-load-ne0.ensures in
    c.element_right.ensures ∙ ap (λ x. right_element o (get_or o.elements x no_element)) (sym first) ∙ item_element o item right count
