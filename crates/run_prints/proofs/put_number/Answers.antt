-- `run_prints::put_number` meets its contract. Assumes nothing.
use mathlib.Core.Path.{◌≡◌, ap, ◌∙◌, subst}
use mathlib.Core.List.{List}
use Prim.Native.Nat.{ℕ, ◌+◌, ◌-◌, ◌≤◌}
use native.Mathlib.Omega.{arith}
use borrow.Author.Rules.{rules}
use lib.ListN.{length, take, drop, length-take, length-drop}
use mir.Syntax.{w64}
use mir.Val.{SFits, to_z, of_z}
use mir.Facts.{to_z-of_z}
use borrow.Rule.Slice.PartMut.{put_mid}
use Rattle.std.specs.Prelude.{Ok}
use Rattle.std.proofs.lemmas.Result.{err_from_is_err_and}
use Rattle.rules_formats.specs.Fields.{printed}
use Rattle.rules_formats.proofs.FieldLaws.{printed_length}
use Rattle.rules_object.specs.Machine.{cell}
use Rattle.object_contents.specs.Book.{book_of}
use Rattle.object_contents.specs.Layout.{object_at}
use Rattle.run_fields.proofs.LineLaws.{part_over}
use Rattle.run_lists.specs.Cursors.{Comes}
use Rattle.run_prints.proofs.FieldLaws.{number_none, number_astray, number_passes, number_put}
use Rattle.run_prints.proofs.put_number.Goals as goal

pub returns-in_err-cell : goal.returns-in_err-cell
returns-in_err-cell c =
    let o = c.args.o.now in
    let so = c.args.store.now in
    let q = c.args.c in
    let line = c.args.line.now in
    let column = c.args.column in
    let w = c.args.width in
    let f = c.requires.filled in
    let p = err_from_is_err_and c.from_residual.result c.from_residual.ensures.1 in
    rw (p.1, p.2, c.in_err-cell.ensures.1) (number_astray (book_of o) so q line column f w c.in_err-cell.ensures.0)

pub returns-in_default : goal.returns-in_default
returns-in_default c =
    let o = c.args.o.now in
    let so = c.args.store.now in
    let q = c.args.c in
    let line = c.args.line.now in
    let column = c.args.column in
    let w = c.args.width in
    let f = c.requires.filled in
    number_none (book_of o) so q line column f w (subst (λ r. Comes (book_of o) so q (Ok r)) c.in_default.is c.in_ok-cell.ensures)

pub returns-then-column-width : goal.returns-then-column-width
returns-then-column-width c =
    let o = c.args.o.now in
    let so = c.args.store.now in
    let q = c.args.c in
    let line = c.args.line.now in
    let column = c.args.column in
    let w = c.args.width in
    let f = c.requires.filled in
    let found = subst (λ r. Comes (book_of c.args.o.now) c.args.store.now c.args.c (Ok r)) c.in-Some.is c.in_ok-cell.ensures in
    number_passes (book_of o) so q line column f w c.in-Some.cell c.in-Some.rest found c.if-column-width.true

pub offset_bounds-store-cell : goal.offset_bounds-store-cell
unfolding object_at
offset_bounds-store-cell c =
    let found = subst (λ r. Comes (book_of c.args.o.now) c.args.store.now c.args.c (Ok r)) c.in-Some.is c.in_ok-cell.ensures in
    omega (arith, found.inside, c.requires.stored.few)

pub bounds-store-cell : goal.bounds-store-cell
unfolding object_at
bounds-store-cell c =
    let found = subst (λ r. Comes (book_of c.args.o.now) c.args.store.now c.args.c (Ok r)) c.in-Some.is c.in_ok-cell.ensures in
    omega (arith, found.inside, c.requires.stored.long)

pub returns : goal.returns
returns c =
    let o = c.args.o.now in
    let so = c.args.store.now in
    let q = c.args.c in
    let line = c.args.line.now in
    let column = c.args.column in
    let w = c.args.width in
    let f = c.requires.filled in
    let found = subst (λ r. Comes (book_of c.args.o.now) c.args.store.now c.args.c (Ok r)) c.in-Some.is c.in_ok-cell.ensures in
    let v = cell so c.in-Some.cell in
    let part = take (column + w - column) (drop column line) in
    let room : column + w ≤ length line = omega (arith, f.wide, f.within, c.if-column-width.false) in
    let long : length part ≡ w = omega (arith, length-take (column + w - column) (drop column line), length-drop column line) in
    let known : SFits w64 v = search rules in
    let is : c.print_field.new.line ≡ printed w v = c.print_field.ensures ∙ ap (λ (n : ℕ). printed n (to_z w64 (of_z w64 v))) long ∙ ap (printed w) (to_z-of_z {w = w64} {z = v} known) in
    number_put (book_of o) so q line column f w c.in-Some.cell c.in-Some.rest found c.if-column-width.false _ (ap (λ (xs : List ℕ). put_mid column (column + w - column) line xs) is ∙ part_over column w line (printed w v) room (printed_length w v))
