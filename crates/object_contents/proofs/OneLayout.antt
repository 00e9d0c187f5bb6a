-- Some bytes have one layout, and the code one answer.
-- Assumes nothing.
use mathlib.Core.Path.{◌≡◌, refl, sym, ap, ◌∙◌}
use Prim.Native.Nat.{ℕ, ◌/◌}
use mathlib.Core.List.{List}
use Rattle.std.specs.Prelude.{Option, Some, None}
use mathlib.Core.Option.{none, some}
use lib.ListN.{length}
use Rattle.rules_object.specs.Object.{Object}
use Rattle.object_contents.specs.declared.Layout.{Layout}
use Rattle.object_contents.specs.Layout.{object_at}
use Rattle.object_words.specs.Word.{word_at}
use Rattle.object_contents.specs.Opened.{OpenedAt, Opened}
use Rattle.object_contents.specs.Bodies.{first_in, length_in, size_of, layout_in}
use Rattle.object_contents.proofs.Entries.{constant_length, element_length, exit_length, do_length, code_length, line_length, name_length, format_length, item_length_lem, transfer_length}

edition_is : (e : Layout) (s : List ℕ) → (object_at e s).edition ≡ e.edition
unfolding object_at
edition_is e s = refl

digits_are : (e : Layout) (s : List ℕ) → (object_at e s).digits ≡ e.digits
unfolding object_at
digits_are e s = refl

cells_are : (e : Layout) (s : List ℕ) → (object_at e s).cells ≡ e.cells
unfolding object_at
cells_are e s = refl

pub one_layout : (s : List ℕ) (e f : Layout) → OpenedAt s e → OpenedAt s f → e ≡ f
one_layout s e f a b =
    let o : some (object_at e s) ≡ some (object_at f s) = sym a.is ∙ b.is in
    let q : object_at e s ≡ object_at f s = cc in
    let v : e.edition ≡ f.edition = sym (edition_is e s) ∙ ap (λ (x : Object). x.edition) q ∙ edition_is f s in
    let d : e.digits ≡ f.digits = sym (digits_are e s) ∙ ap (λ (x : Object). x.digits) q ∙ digits_are f s in
    let c : e.cells ≡ f.cells = sym (cells_are e s) ∙ ap (λ (x : Object). x.cells) q ∙ cells_are f s in
    let n1 : e.constant_count ≡ f.constant_count = sym (constant_length e s) ∙ ap (λ (x : Object). length x.constants) q ∙ constant_length f s in
    let n2 : e.element_count ≡ f.element_count = sym (element_length e s) ∙ ap (λ (x : Object). length x.elements) q ∙ element_length f s in
    let n3 : e.exit_count ≡ f.exit_count = sym (exit_length e s) ∙ ap (λ (x : Object). length x.exits) q ∙ exit_length f s in
    let n4 : e.do_count ≡ f.do_count = sym (do_length e s) ∙ ap (λ (x : Object). length x.dos) q ∙ do_length f s in
    let n5 : e.code_count ≡ f.code_count = sym (code_length e s) ∙ ap (λ (x : Object). length x.code) q ∙ code_length f s in
    let n6 : e.line_count ≡ f.line_count = sym (line_length e s) ∙ ap (λ (x : Object). length x.lines) q ∙ line_length f s in
    let n7 : e.name_count ≡ f.name_count = sym (name_length e s) ∙ ap (λ (x : Object). length x.names) q ∙ name_length f s in
    let n8 : e.format_count ≡ f.format_count = sym (format_length e s) ∙ ap (λ (x : Object). length x.formats) q ∙ format_length f s in
    let n9 : e.item_count ≡ f.item_count = sym (item_length_lem e s) ∙ ap (λ (x : Object). length x.items) q ∙ item_length_lem f s in
    let n10 : e.transfer_count ≡ f.transfer_count = sym (transfer_length e s) ∙ ap (λ (x : Object). length x.transfers) q ∙ transfer_length f s in
    let pe = a.placed in
    let pf = b.placed in
    let f1 : e.constants ≡ f.constants = cc in
    let f2 : e.elements ≡ f.elements = cc in
    let f3 : e.exits ≡ f.exits = cc in
    let f4 : e.dos ≡ f.dos = cc in
    let f5 : e.code ≡ f.code = cc in
    let f6 : e.lines ≡ f.lines = cc in
    let f7 : e.names ≡ f.names = cc in
    let f8 : e.formats ≡ f.formats = cc in
    let f9 : e.items ≡ f.items = cc in
    let f10 : e.transfers ≡ f.transfers = cc in
    rw (v, d, c, f1, n1, f2, n2, f3, n3, f4, n4, f5, n5, f6, n6, f7, n7, f8, n8, f9, n9, f10, n10)

-- a layout by its fields
pub layout_is : (s : List ℕ) (n : ℕ) (r : Layout)
    → r.edition ≡ word_at s 0 → r.digits ≡ word_at s 4 → r.cells ≡ word_at s 8 → r.constants ≡ first_in s n 0
    → r.constant_count ≡ length_in s n 0 / size_of 0 → r.elements ≡ first_in s n 1 → r.element_count ≡ length_in s n 1 / size_of 1 → r.exits ≡ first_in s n 2
    → r.exit_count ≡ length_in s n 2 / size_of 2 → r.dos ≡ first_in s n 3 → r.do_count ≡ length_in s n 3 / size_of 3 → r.code ≡ first_in s n 4
    → r.code_count ≡ length_in s n 4 / size_of 4 → r.lines ≡ first_in s n 5 → r.line_count ≡ length_in s n 5 / size_of 5 → r.names ≡ first_in s n 6
    → r.name_count ≡ length_in s n 6 / size_of 6 → r.formats ≡ first_in s n 7 → r.format_count ≡ length_in s n 7 / size_of 7 → r.items ≡ first_in s n 8
    → r.item_count ≡ length_in s n 8 / size_of 8 → r.transfers ≡ first_in s n 9 → r.transfer_count ≡ length_in s n 9 / size_of 9 → r ≡ layout_in s n
unfolding layout_in
layout_is s n r v d c f1 n1 f2 n2 f3 n3 f4 n4 f5 n5 f6 n6 f7 n7 f8 n8 f9 n9 f10 n10 = rw (v, d, c, f1, n1, f2, n2, f3, n3, f4, n4, f5, n5, f6, n6, f7, n7, f8, n8, f9, n9, f10, n10)

pub one_answer : (s : List ℕ) (q r : Option Layout) → Opened s q → Opened s r → q ≡ r
one_answer s (Some e) (Some f) a b = ap Some (one_layout s e f a b)
one_answer s (Some e) None a b = let z : some (object_at e s) ≡ none = sym a.is ∙ b in cc
one_answer s None (Some e) a b = let z : some (object_at e s) ≡ none = sym b.is ∙ a in cc
one_answer s None None a b = refl
