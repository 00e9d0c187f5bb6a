-- `read_forms::read_next` meets its contract. Assumes nothing.
use mathlib.Core.Path.{sym, ◌∙◌}
use native.Mathlib.Omega.{arith}
use Rattle.read_tokens.proofs.Tokens.{inside}
use Rattle.read_tokens.proofs.Chains.{after_reads}
use Rattle.read_forms.proofs.Forms.{next_none}
use Rattle.read_forms.proofs.read_next.Goals as goal

pub returns-then-byte-ne44 : goal.returns-then-byte-ne44
returns-then-byte-ne44 c =
    let s = c.args.text.now in
    let a = c.args.from in
    next_none s a c.requires (λ z. c.if-byte-ne44.true (c.byte.ensures ∙ z))

pub overflow_add-from : goal.overflow_add-from
overflow_add-from c =
    let s = c.args.text.now in
    let a = c.args.from in
    let e = sym c.byte.ensures ∙ c.if-byte-ne44.false in
    let i = inside 44 (omega arith) s a e in
    omega (arith, i)

pub read_number-requires : goal.read_number-requires
read_number-requires c =
    let s = c.args.text.now in
    let a = c.args.from in
    let e = sym c.byte.ensures ∙ c.if-byte-ne44.false in
    let i = inside 44 (omega arith) s a e in
    omega (arith, i)

pub returns : goal.returns
returns c =
    let s = c.args.text.now in
    let a = c.args.from in
    let e = sym c.byte.ensures ∙ c.if-byte-ne44.false in
    after_reads s a 44 _ (omega arith) e c.read_number.ensures
