-- `run_reads::read_number` meets its contract. Assumes nothing.
use mathlib.Core.Path.{◌≡◌, refl, sym, ap, ◌∙◌, subst}
use Prim.Native.Nat.{ℕ, ◌+◌, ◌-◌, ◌^◌, ◌≤◌}
use native.Mathlib.Omega.{arith}
use lib.ListN.{set, take, drop}
use lib.IntN.{ℤ}
use Rattle.std.specs.Prelude.{Ok}
use Rattle.std.proofs.lemmas.Result.{err_from_is_err_and}
use Rattle.number.proofs.Whole.{back}
use Rattle.rules_formats.specs.Format.{I}
use Rattle.rules_formats.specs.Fields.{field_read}
use Rattle.object_contents.specs.Book.{book_of}
use Rattle.object_contents.specs.Layout.{object_at}
use Rattle.run_fields.specs.Read.{read_of}
use Rattle.run_lists.specs.Cursors.{Comes}
use Rattle.run_lists.specs.declared.Step.TheVariants.{On}
use Rattle.run_reads.specs.Takes.{Does}
use Rattle.run_reads.proofs.FieldLaws.{read_none, read_some, number_none, number_astray, number_passes, number_bad, number_small, number_read}
use Rattle.run_reads.proofs.read_number.Goals as goal

pub returns-in_err-cell : goal.returns-in_err-cell
returns-in_err-cell c =
    let o = c.args.o.now in
    let so = c.args.store.now in
    let q = c.args.c in
    let card = c.args.card.now in
    let column = c.args.column in
    let h = c.requires.stored in
    let wide = c.requires.card_len.0 in
    let low = c.requires.card_len.1 in
    let p = err_from_is_err_and c.from_residual.result c.from_residual.ensures.1 in
    rw (p.1, p.2, c.in_err-cell.ensures.1) (number_astray o q so h card column wide low c.args.width c.in_err-cell.ensures.0, refl)

pub returns-in_default : goal.returns-in_default
returns-in_default c =
    let o = c.args.o.now in
    let so = c.args.store.now in
    let q = c.args.c in
    let card = c.args.card.now in
    let column = c.args.column in
    let h = c.requires.stored in
    let wide = c.requires.card_len.0 in
    let low = c.requires.card_len.1 in
    (number_none o q so h card column wide low c.args.width (subst (λ r. Comes (book_of o) so q (Ok r)) c.in_default.is c.in_ok-cell.ensures), refl)

pub returns-then-column-width : goal.returns-then-column-width
returns-then-column-width c =
    let o = c.args.o.now in
    let so = c.args.store.now in
    let q = c.args.c in
    let card = c.args.card.now in
    let column = c.args.column in
    let h = c.requires.stored in
    let wide = c.requires.card_len.0 in
    let low = c.requires.card_len.1 in
    let found = subst (λ r. Comes (book_of c.args.o.now) c.args.store.now c.args.c (Ok r)) c.in-Some.is c.in_ok-cell.ensures in
    (number_passes o q so h card column wide low c.args.width c.in-Some.cell c.in-Some.rest found c.if-column-width.true, refl)

pub read_field-requires : goal.read_field-requires
read_field-requires c =
    let most = subst (λ r. r.ceiling ≤ 2 ^ 31) (sym c.args.o.now.ruled) c.requires.stored.narrow.most in
    (c.requires.ten, omega (arith, most))

pub returns-in_default-read_field : goal.returns-in_default-read_field
returns-in_default-read_field c =
    let o = c.args.o.now in
    let so = c.args.store.now in
    let q = c.args.c in
    let card = c.args.card.now in
    let column = c.args.column in
    let h = c.requires.stored in
    let wide = c.requires.card_len.0 in
    let low = c.requires.card_len.1 in
    let found = subst (λ r. Comes (book_of c.args.o.now) c.args.store.now c.args.c (Ok r)) c.in-Some.is c.in_ok-cell.ensures in
    let all : column + c.args.width - column ≡ c.args.width = omega arith in
    let read = c.read_field.ensures ∙ ap (λ (n : ℕ). read_of (field_read o.rule.ceiling (take n (drop column card)))) all in
    (number_bad o q so h card column wide low c.args.width c.in-Some.cell c.in-Some.rest found c.if-column-width.false (read_none _ (sym c.in_default-read_field.is ∙ read)), refl)

pub offset_bounds-store-cell : goal.offset_bounds-store-cell
unfolding object_at
offset_bounds-store-cell c =
    let found = subst (λ r. Comes (book_of c.args.o.now) c.args.store.now c.args.c (Ok r)) c.in-Some.is c.in_ok-cell.ensures in
    omega (arith, found.inside, c.requires.stored.few)

pub bounds-store-cell : goal.bounds-store-cell
unfolding object_at
bounds-store-cell c =
    let found = subst (λ r. Comes (book_of c.args.o.now) c.args.store.now c.args.c (Ok r)) c.in-Some.is c.in_ok-cell.ensures in
    omega (arith, found.inside, c.requires.stored.long)

pub returns : goal.returns
returns c =
    let o = c.args.o.now in
    let so = c.args.store.now in
    let q = c.args.c in
    let card = c.args.card.now in
    let column = c.args.column in
    let h = c.requires.stored in
    let wide = c.requires.card_len.0 in
    let low = c.requires.card_len.1 in
    let found = subst (λ r. Comes (book_of c.args.o.now) c.args.store.now c.args.c (Ok r)) c.in-Some.is c.in_ok-cell.ensures in
    let all : column + c.args.width - column ≡ c.args.width = omega arith in
    let read = c.read_field.ensures ∙ ap (λ (n : ℕ). read_of (field_read o.rule.ceiling (take n (drop column card)))) all in
    let v = c.in-Some-read_field.v in
    let is = read_some _ v (sym c.in-Some-read_field.is ∙ read) in
    subst (λ (z : ℤ). Does o q so card column (I c.args.width) (set so c.in-Some.cell z) (Ok (On (column + c.args.width) c.in-Some.rest))) (sym (back v (number_small o q so h card column wide low c.args.width c.in-Some.cell c.in-Some.rest found c.if-column-width.false v is))) (number_read o q so h card column wide low c.args.width c.in-Some.cell c.in-Some.rest found c.if-column-width.false v is)
