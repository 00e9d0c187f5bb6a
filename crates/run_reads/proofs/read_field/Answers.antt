-- `run_reads::read_field` meets its contract. Assumes nothing.
use mathlib.Core.Path.{refl, sym, subst}
use native.Mathlib.Omega.{arith}
use Prim.Native.Nat.{◌+◌}
use Rattle.std.specs.Prelude.{Ok, Err}
use Rattle.object_opcodes.specs.declared.Halt.TheVariants.{BadField}
use Rattle.run_formats.specs.Scan.{field_of}
use Rattle.run_lists.specs.declared.Step.TheVariants.{On, RecordEnds}
use Rattle.run_reads.specs.Takes.{Does}
use Rattle.run_reads.proofs.FieldLaws.{skip_passes, skip_over, text_passes, text_over, slash_ends}
use Rattle.run_reads.proofs.read_field.Goals as goal

pub returns-then-column-n : goal.returns-then-column-n
returns-then-column-n c =
    let o = c.args.o.now in
    let so = c.args.store.now in
    let q = c.args.c in
    let card = c.args.card.now in
    let column = c.args.column in
    let h = c.requires.stored in
    let wide = c.requires.card_len.0 in
    let low = c.requires.card_len.1 in
    subst (λ g. Does o q so card column (field_of g) so (Err BadField)) (sym c.in-Skip.is) (skip_passes o q so h card column wide low c.in-Skip.n c.if-column-n.true, refl)

pub returns-else-column-n : goal.returns-else-column-n
returns-else-column-n c =
    let o = c.args.o.now in
    let so = c.args.store.now in
    let q = c.args.c in
    let card = c.args.card.now in
    let column = c.args.column in
    let h = c.requires.stored in
    let wide = c.requires.card_len.0 in
    let low = c.requires.card_len.1 in
    subst (λ g. Does o q so card column (field_of g) so (Ok (On (column + c.in-Skip.n) q))) (sym c.in-Skip.is) (skip_over o q so h card column wide low c.in-Skip.n c.requires.reached c.if-column-n.false)

pub returns-then-column-eq-WIDTH : goal.returns-then-column-eq-WIDTH
returns-then-column-eq-WIDTH c =
    let o = c.args.o.now in
    let so = c.args.store.now in
    let q = c.args.c in
    let card = c.args.card.now in
    let column = c.args.column in
    let h = c.requires.stored in
    let wide = c.requires.card_len.0 in
    let low = c.requires.card_len.1 in
    subst (λ g. Does o q so card column (field_of g) so (Err BadField)) (sym c.in-Text.is) (text_passes o q so h card column wide low _ (omega (arith, c.if-column-eq-WIDTH.true)), refl)

pub returns-else-column-eq-WIDTH : goal.returns-else-column-eq-WIDTH
returns-else-column-eq-WIDTH c =
    let o = c.args.o.now in
    let so = c.args.store.now in
    let q = c.args.c in
    let card = c.args.card.now in
    let column = c.args.column in
    let h = c.requires.stored in
    let wide = c.requires.card_len.0 in
    let low = c.requires.card_len.1 in
    subst (λ g. Does o q so card column (field_of g) so (Ok (On (column + 1) q))) (sym c.in-Text.is) (text_over o q so h card column wide low _ c.requires.reached (omega (arith, c.if-column-eq-WIDTH.false, low)))

pub returns-in-Slash : goal.returns-in-Slash
returns-in-Slash c =
    let o = c.args.o.now in
    let so = c.args.store.now in
    let q = c.args.c in
    let card = c.args.card.now in
    let column = c.args.column in
    let h = c.requires.stored in
    let wide = c.requires.card_len.0 in
    let low = c.requires.card_len.1 in
    subst (λ g. Does o q so card column (field_of g) so (Ok RecordEnds)) (sym c.in-Slash.is) (slash_ends o q so h card column wide low, refl)
