-- `read_dos::read_by` meets its contract. Assumes nothing.
use mathlib.Core.Path.{sym, ◌∙◌}
use Rattle.read_tokens.proofs.Chains.{took, refused}
use Rattle.read_dos.proofs.Loops.{two_more, two_read, third_bad, third_more, third_read}
use Rattle.read_dos.proofs.read_by.Goals as goal

pub returns-then-from-text : goal.returns-then-from-text
returns-then-from-text c =
    let s = c.args.text.now in
    two_more s c.args.from c.requires.room.0 c.args.two.last c.args.two.name c.args.two.first c.args.two.limit c.args.two.sizes (λ z. c.if-byte-ne44.true (c.byte.ensures ∙ z)) c.if-from-text.true

pub returns-then-byte-ne44 : goal.returns-then-byte-ne44
returns-then-byte-ne44 c =
    let s = c.args.text.now in
    two_read s c.args.from c.requires.room.0 c.args.two.last c.args.two.name c.args.two.first c.args.two.limit c.args.two.sizes (λ z. c.if-byte-ne44.true (c.byte.ensures ∙ z)) c.if-from-text.false c.requires.one

pub returns-in_err-by : goal.returns-in_err-by
returns-in_err-by c =
    let s = c.args.text.now in
    let cm = sym c.byte.ensures ∙ c.if-byte-ne44.false in
    rw c.from_residual.ensures (third_bad s c.args.from c.requires.room.0 c.args.two.last c.args.two.name c.args.two.first c.args.two.limit c.args.two.sizes cm (refused c.read_parameter.ensures c.in_err-by.was))

pub returns-then-by-text : goal.returns-then-by-text
returns-then-by-text c =
    let s = c.args.text.now in
    let cm = sym c.byte.ensures ∙ c.if-byte-ne44.false in
    let t = took c.read_parameter.ensures c.in_ok-by.was in
    third_more s c.args.from c.requires.room.0 c.args.two.last c.args.two.name c.args.two.first c.args.two.limit c.args.two.sizes cm t c.if-by-text.true

pub returns : goal.returns
returns c =
    let s = c.args.text.now in
    let cm = sym c.byte.ensures ∙ c.if-byte-ne44.false in
    let t = took c.read_parameter.ensures c.in_ok-by.was in
    third_read s c.args.from c.requires.room.0 c.args.two.last c.args.two.name c.args.two.first c.args.two.limit c.args.two.sizes cm t c.if-by-text.false c.join.ensures
