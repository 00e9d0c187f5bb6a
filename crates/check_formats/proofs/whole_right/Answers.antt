-- `check_formats::whole_right` meets its contract. Assumes nothing.
use mathlib.Core.Path.{sym, ap, ◌∙◌}
use Prim.Native.Nat.{◌<◌}
use native.Mathlib.Omega.{arith}
use lib.ListN.{length}
use Rattle.rules_formats.specs.Words.{is_end}
use Rattle.object_contents.specs.Book.{book_of}
use Rattle.object_contents.proofs.Entries.{format_length}
use Rattle.check_formats.proofs.Words.{goes_on, whole_bad, whole_end, whole_more, whole_none}
use Rattle.check_formats.proofs.whole_right.Goals as goal

pub returns-then-not-format_right : goal.returns-then-not-format_right
returns-then-not-format_right c =
    let o = book_of c.args.o.now in
    let there : c.loop-i.i < length o.formats = omega (arith, format_length c.args.o.now.layout c.args.o.now.bytes.now) in
    sym (c.loop-i.invariant.1 ∙ whole_bad o c.loop-i.i there (sym c.format_right.ensures ∙ c.if-not-format_right.true))

pub returns-then-is_end : goal.returns-then-is_end
returns-then-is_end c =
    let o = book_of c.args.o.now in
    let there : c.loop-i.i < length o.formats = omega (arith, format_length c.args.o.now.layout c.args.o.now.bytes.now) in
    let end = sym (c.is_end.ensures ∙ ap is_end c.format_word.ensures) in
    sym (c.loop-i.invariant.1 ∙ whole_end o c.loop-i.i there (sym c.format_right.ensures ∙ c.if-not-format_right.false) (end ∙ c.if-is_end.true))

pub loop-i-preserved : goal.loop-i-preserved
loop-i-preserved c =
    let o = book_of c.args.o.now in
    let there : c.loop-i.i < length o.formats = omega (arith, format_length c.args.o.now.layout c.args.o.now.bytes.now) in
    let end = sym (c.is_end.ensures ∙ ap is_end c.format_word.ensures) in
    (c.loop-i.invariant.0 ∙ goes_on o c.loop-i.i (end ∙ c.if-is_end.false), c.loop-i.invariant.1 ∙ whole_more o c.loop-i.i there (sym c.format_right.ensures ∙ c.if-not-format_right.false) (end ∙ c.if-is_end.false))

pub returns : goal.returns
returns c =
    sym (c.loop-i.invariant.1 ∙ whole_none (book_of c.args.o.now) c.loop-i.i (omega (arith, format_length c.args.o.now.layout c.args.o.now.bytes.now)))
