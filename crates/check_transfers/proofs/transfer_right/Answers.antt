-- `check_transfers::transfer_right` meets its contract. Assumes nothing.
use mathlib.Core.Path.{◌≡◌, sym, ap, subst, ◌∙◌}
use Prim.Native.Nat.{ℕ}
use native.Mathlib.Omega.{arith}
use lib.ListN.{take, drop}
use Rattle.rules_shared.specs.Lists.{all}
use Rattle.rules_object.specs.Check.{format_start}
use Rattle.rules_object.specs.Operations.{format_right, item_right, transfer_at}
use Rattle.object_contents.specs.Book.{book_of}
use Rattle.object_contents.proofs.Entries.{format_length, item_length_lem}
use Rattle.check_transfers.proofs.Used.{transfer_not, format_not, items_say, right, format_is, first_is, count_is}
use Rattle.check_transfers.proofs.transfer_right.Goals as goal

pub whole_right-requires : goal.whole_right-requires
whole_right-requires c =
    let e = c.args.o.now.layout in
    let s = c.args.o.now.bytes.now in
    let o = book_of c.args.o.now in
    let transfer = right o (transfer_at o c.args.x) (sym c.transfer_right.ensures ∙ c.if-not-transfer_right.false) in
    let format = format_is e s c.args.x c.requires ∙ sym c.load-format.ensures in
    (omega (arith, transfer.format, format, format_length e s), subst (λ (n : ℕ). n ≡ format_start o n) format transfer.begins)

pub items_right-requires : goal.items_right-requires
items_right-requires c =
    let e = c.args.o.now.layout in
    let s = c.args.o.now.bytes.now in
    let o = book_of c.args.o.now in
    let transfer = right o (transfer_at o c.args.x) (sym c.transfer_right.ensures ∙ c.if-not-transfer_right.false) in
    omega (arith, transfer.items, first_is e s c.args.x c.requires, count_is e s c.args.x c.requires, item_length_lem e s)

pub returns-then-whole_right : goal.returns-then-whole_right
returns-then-whole_right c =
    let e = c.args.o.now.layout in
    let s = c.args.o.now.bytes.now in
    let o = book_of c.args.o.now in
    let transfer = transfer_at o c.args.x in
    let passes = sym c.transfer_right.ensures ∙ c.if-not-transfer_right.false in
    let format = format_is e s c.args.x c.requires ∙ sym c.load-format.ensures in
    let words = ap (λ (n : ℕ). format_right o n (drop n o.formats)) format ∙ sym c.whole_right.ensures in
    let first = first_is e s c.args.x c.requires ∙ sym c.load-first.ensures in
    let count = count_is e s c.args.x c.requires ∙ sym c.load-count.ensures in
    c.items_right.ensures ∙ ap (λ (n : ℕ). all (item_right o) (take n (drop c.load-first.result o.items))) (sym count) ∙ ap (λ (n : ℕ). all (item_right o) (take transfer.count (drop n o.items))) (sym first)
    ∙ items_say o c.args.x passes (words ∙ c.if-whole_right.true)

pub returns-else-whole_right : goal.returns-else-whole_right
returns-else-whole_right c =
    let o = book_of c.args.o.now in
    let format = format_is c.args.o.now.layout c.args.o.now.bytes.now c.args.x c.requires ∙ sym c.load-format.ensures in
    let words = ap (λ (n : ℕ). format_right o n (drop n o.formats)) format ∙ sym c.whole_right.ensures in
    c.if-whole_right.false ∙ format_not o c.args.x (sym c.transfer_right.ensures ∙ c.if-not-transfer_right.false) (words ∙ c.if-whole_right.false)
