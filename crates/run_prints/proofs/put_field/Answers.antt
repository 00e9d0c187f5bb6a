-- `run_prints::put_field` meets its contract. Assumes nothing.
use mathlib.Core.Path.{sym, subst}
use native.Mathlib.Omega.{arith}
use Prim.Native.Nat.{◌+◌}
use lib.ListN.{take, set}
use Rattle.std.specs.Prelude.{Ok, Err}
use Rattle.object_opcodes.specs.declared.Halt.TheVariants.{BadField}
use Rattle.object_contents.specs.Book.{book_of}
use Rattle.run_formats.specs.Scan.{field_of}
use Rattle.run_lists.specs.declared.Step.TheVariants.{On, RecordEnds}
use Rattle.run_prints.specs.Puts.{Does}
use Rattle.run_prints.proofs.FieldLaws.{skip_passes, skip_put, text_passes, text_put, slash_ends}
use Rattle.run_prints.proofs.put_field.Goals as goal

pub returns-then-column-n : goal.returns-then-column-n
returns-then-column-n c =
    let o = book_of c.args.o.now in
    let so = c.args.store.now in
    let q = c.args.c in
    let line = c.args.line.now in
    let column = c.args.column in
    let r = c.requires.reached in
    let f = c.requires.filled in
    subst (λ g. Does o so q (take column line) (field_of g) line (Err BadField)) (sym c.in-Skip.is) (skip_passes o so q line column f r c.in-Skip.n c.if-column-n.true)

pub returns-else-column-n : goal.returns-else-column-n
returns-else-column-n c =
    let o = book_of c.args.o.now in
    let so = c.args.store.now in
    let q = c.args.c in
    let line = c.args.line.now in
    let column = c.args.column in
    let r = c.requires.reached in
    let f = c.requires.filled in
    subst (λ g. Does o so q (take column line) (field_of g) line (Ok (On (column + c.in-Skip.n) q))) (sym c.in-Skip.is) (skip_put o so q line column f r c.in-Skip.n c.if-column-n.false)

pub returns-then-column-eq-WIDTH : goal.returns-then-column-eq-WIDTH
returns-then-column-eq-WIDTH c =
    let o = book_of c.args.o.now in
    let so = c.args.store.now in
    let q = c.args.c in
    let line = c.args.line.now in
    let column = c.args.column in
    let r = c.requires.reached in
    let f = c.requires.filled in
    subst (λ g. Does o so q (take column line) (field_of g) line (Err BadField)) (sym c.in-Text.is) (text_passes o so q line column f r c.in-Text.t (omega (arith, c.if-column-eq-WIDTH.true)))

pub returns-else-column-eq-WIDTH : goal.returns-else-column-eq-WIDTH
returns-else-column-eq-WIDTH c =
    let o = book_of c.args.o.now in
    let so = c.args.store.now in
    let q = c.args.c in
    let line = c.args.line.now in
    let column = c.args.column in
    let r = c.requires.reached in
    let f = c.requires.filled in
    subst (λ g. Does o so q (take column line) (field_of g) (set line column c.in-Text.t) (Ok (On (column + 1) q))) (sym c.in-Text.is) (text_put o so q line column f r c.in-Text.t (omega (arith, c.if-column-eq-WIDTH.false, f.within)))

pub returns-in-Slash : goal.returns-in-Slash
returns-in-Slash c =
    let o = book_of c.args.o.now in
    let so = c.args.store.now in
    let q = c.args.c in
    let line = c.args.line.now in
    let column = c.args.column in
    let r = c.requires.reached in
    let f = c.requires.filled in
    subst (λ g. Does o so q (take column line) (field_of g) line (Ok RecordEnds)) (sym c.in-Slash.is) (slash_ends o so q line column f)
