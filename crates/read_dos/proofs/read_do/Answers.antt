-- `read_dos::read_do` meets its contract. Assumes nothing.
use mathlib.Core.Path.{sym, ◌∙◌}
use Rattle.rules_text.specs.Tokens.{word_do}
use Rattle.read_tokens.proofs.Tokens.{starts_is_word}
use Rattle.read_tokens.proofs.Chains.{took, refused}
use Rattle.read_forms.proofs.Forms.{number_fits}
use Rattle.read_dos.proofs.Loops.{do_no_word, do_no_number, do_no_name, do_no_equals, do_read}
use Rattle.read_dos.proofs.read_do.Goals as goal

pub returns-then-not-starts_with : goal.returns-then-not-starts_with
returns-then-not-starts_with c =
    let s = c.args.text.now in
    do_no_word s (sym (starts_is_word word_do s) ∙ sym c.starts_with.ensures.value ∙ c.if-not-starts_with.true)

pub returns-in_err-last : goal.returns-in_err-last
returns-in_err-last c =
    let s = c.args.text.now in
    let w = sym (starts_is_word word_do s) ∙ sym c.starts_with.ensures.value ∙ c.if-not-starts_with.false in
    rw c.from_residual.ensures (do_no_number s w (refused c.read_number.ensures c.in_err-last.was))

pub read_name-requires : goal.read_name-requires
read_name-requires c =
    let t = took c.read_number.ensures c.in_ok-last.was in
    t.upto.within

pub returns-in_err-name : goal.returns-in_err-name
returns-in_err-name c =
    let s = c.args.text.now in
    let w = sym (starts_is_word word_do s) ∙ sym c.starts_with.ensures.value ∙ c.if-not-starts_with.false in
    let t = took c.read_number.ensures c.in_ok-last.was in
    rw c.from_residual-in_err-name.ensures (do_no_name s w t (refused c.read_name.ensures c.in_err-name.was))

pub returns-then-byte-ne61 : goal.returns-then-byte-ne61
returns-then-byte-ne61 c =
    let s = c.args.text.now in
    let w = sym (starts_is_word word_do s) ∙ sym c.starts_with.ensures.value ∙ c.if-not-starts_with.false in
    let t = took c.read_number.ensures c.in_ok-last.was in
    let u = took c.read_name.ensures c.in_ok-name.was in
    do_no_equals s w t u (λ z. c.if-byte-ne61.true (c.byte.ensures ∙ z))

pub number_of-requires : goal.number_of-requires
number_of-requires c =
    let t = took c.read_number.ensures c.in_ok-last.was in
    number_fits t.tree t.value_is

pub returns : goal.returns
returns c =
    let s = c.args.text.now in
    let w = sym (starts_is_word word_do s) ∙ sym c.starts_with.ensures.value ∙ c.if-not-starts_with.false in
    let t = took c.read_number.ensures c.in_ok-last.was in
    let u = took c.read_name.ensures c.in_ok-name.was in
    let e = sym c.byte.ensures ∙ c.if-byte-ne61.false in
    do_read s w t u e c.number_of.ensures c.read_parameters.ensures
