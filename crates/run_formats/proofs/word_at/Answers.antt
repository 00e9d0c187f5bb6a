-- `run_formats::word_at` meets its contract. Assumes nothing.
use mathlib.Core.Path.{sym, ◌∙◌}
use Prim.Native.Nat.{◌<◌}
use native.Mathlib.Omega.{arith}
use borrow.Author.Rules.{rules}
use Rattle.object_contents.specs.Book.{book_of}
use Rattle.object_contents.proofs.Entries.{format_length, format_at_lem, format_inside}
use Rattle.run_formats.proofs.ScanLaws.{kind_1, kind_2, kind_3, kind_4, end_found, field_found, text_small}
use Rattle.run_formats.proofs.word_at.Goals as goal

pub overflow_mul-word : goal.overflow_mul-word
overflow_mul-word c =
    let o = c.args.o.now in
    let j = c.args.word in
    let below : j < o.layout.format_count = omega (arith, c.requires.to, c.requires.inside, format_length o.layout o.bytes.now) in
    omega (arith, format_inside o.layout o.bytes.now o.placed j below, c.well_formed)

pub overflow_add-o : goal.overflow_add-o
overflow_add-o c =
    let o = c.args.o.now in
    let j = c.args.word in
    let below : j < o.layout.format_count = omega (arith, c.requires.to, c.requires.inside, format_length o.layout o.bytes.now) in
    omega (arith, format_inside o.layout o.bytes.now o.placed j below, c.well_formed)

pub load-w-requires : goal.load-w-requires
load-w-requires c =
    let o = c.args.o.now in
    let j = c.args.word in
    let below : j < o.layout.format_count = omega (arith, c.requires.to, c.requires.inside, format_length o.layout o.bytes.now) in
    format_inside o.layout o.bytes.now o.placed j below

pub returns-in-1 : goal.returns-in-1
returns-in-1 c =
    let o = c.args.o.now in
    let j = c.args.word in
    let below : j < o.layout.format_count = omega (arith, c.requires.to, c.requires.inside, format_length o.layout o.bytes.now) in
    let word = c.load-w.ensures ∙ sym (format_at_lem o.layout o.bytes.now j below) in
    field_found (book_of o).formats j c.requires c.load-w.result c.operation.result c.operand-n.result word c.operation.ensures.0 c.operand-n.ensures.0 (λ e. absurd (omega (arith, e))) _ (kind_1 c.operation.result c.operand-n.result c.in-1.is)

pub returns-in-2 : goal.returns-in-2
returns-in-2 c =
    let o = c.args.o.now in
    let j = c.args.word in
    let below : j < o.layout.format_count = omega (arith, c.requires.to, c.requires.inside, format_length o.layout o.bytes.now) in
    let word = c.load-w.ensures ∙ sym (format_at_lem o.layout o.bytes.now j below) in
    field_found (book_of o).formats j c.requires c.load-w.result c.operation.result c.operand-n.result word c.operation.ensures.0 c.operand-n.ensures.0 (λ e. absurd (omega (arith, e))) _ (kind_2 c.operation.result c.operand-n.result (λ e. absurd (omega (arith, e))) c.in-2.is)

pub overflow_cast-result : goal.overflow_cast-result
overflow_cast-result c =
    let o = c.args.o.now in
    let j = c.args.word in
    let below : j < o.layout.format_count = omega (arith, c.requires.to, c.requires.inside, format_length o.layout o.bytes.now) in
    let word = c.load-w.ensures ∙ sym (format_at_lem o.layout o.bytes.now j below) in
    record { fits = text_small (book_of o).formats j c.requires c.load-w.result c.operation.result c.operand-n.result word c.operation.ensures.0 c.operand-n.ensures.0 (λ e. absurd (omega (arith, e))) c.in-3.is }

pub returns-in-3 : goal.returns-in-3
returns-in-3 c =
    let o = c.args.o.now in
    let j = c.args.word in
    let below : j < o.layout.format_count = omega (arith, c.requires.to, c.requires.inside, format_length o.layout o.bytes.now) in
    let word = c.load-w.ensures ∙ sym (format_at_lem o.layout o.bytes.now j below) in
    field_found (book_of o).formats j c.requires c.load-w.result c.operation.result c.operand-n.result word c.operation.ensures.0 c.operand-n.ensures.0 (λ e. absurd (omega (arith, e))) _ (kind_3 c.operation.result c.operand-n.result (λ e. absurd (omega (arith, e))) (λ e. absurd (omega (arith, e))) c.in-3.is)

pub returns-in-5 : goal.returns-in-5
returns-in-5 c =
    let o = c.args.o.now in
    let j = c.args.word in
    let below : j < o.layout.format_count = omega (arith, c.requires.to, c.requires.inside, format_length o.layout o.bytes.now) in
    let word = c.load-w.ensures ∙ sym (format_at_lem o.layout o.bytes.now j below) in
    end_found (book_of o).formats j c.requires c.load-w.result c.operation.result c.operand-n.result word c.operation.ensures.0 c.operand-n.ensures.0 c.in-5.is

pub returns-in_default : goal.returns-in_default
returns-in_default c =
    let o = c.args.o.now in
    let j = c.args.word in
    let below : j < o.layout.format_count = omega (arith, c.requires.to, c.requires.inside, format_length o.layout o.bytes.now) in
    let word = c.load-w.ensures ∙ sym (format_at_lem o.layout o.bytes.now j below) in
    field_found (book_of o).formats j c.requires c.load-w.result c.operation.result c.operand-n.result word c.operation.ensures.0 c.operand-n.ensures.0 (search rules) _ (kind_4 c.operation.result c.operand-n.result (search rules) (search rules) (search rules))
