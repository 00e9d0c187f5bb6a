-- `read_forms::read_go_to` meets its contract. Assumes nothing.
use mathlib.Core.Path.{sym, ◌∙◌}
use Rattle.read_tokens.proofs.Chains.{took, refused}
use Rattle.rules_text.specs.Tokens.{word_go_to}
use Rattle.read_tokens.proofs.Tokens.{starts_is_word}
use Rattle.read_forms.proofs.Forms.{go_to_no_word, go_to_fits, go_to_no_number, go_to_more, go_to_read, number_fits}
use Rattle.read_forms.proofs.read_go_to.Goals as goal

pub returns-then-not-starts_with : goal.returns-then-not-starts_with
returns-then-not-starts_with c =
    let s = c.args.text.now in
    go_to_no_word s (sym (starts_is_word word_go_to s) ∙ sym c.starts_with.ensures.value ∙ c.if-not-starts_with.true)

pub read_number-requires : goal.read_number-requires
read_number-requires c =
    let s = c.args.text.now in
    let w = sym (starts_is_word word_go_to s) ∙ sym c.starts_with.ensures.value ∙ c.if-not-starts_with.false in
    go_to_fits s w

pub returns-in_err-number : goal.returns-in_err-number
returns-in_err-number c =
    let s = c.args.text.now in
    let w = sym (starts_is_word word_go_to s) ∙ sym c.starts_with.ensures.value ∙ c.if-not-starts_with.false in
    rw c.from_residual.ensures (go_to_no_number s w (refused c.read_number.ensures c.in_err-number.was))

pub returns-then-number-text : goal.returns-then-number-text
returns-then-number-text c =
    let s = c.args.text.now in
    let w = sym (starts_is_word word_go_to s) ∙ sym c.starts_with.ensures.value ∙ c.if-not-starts_with.false in
    let t = took c.read_number.ensures c.in_ok-number.was in
    go_to_more s w t c.if-number-text.true

pub number_of-requires : goal.number_of-requires
number_of-requires c =
    let t = took c.read_number.ensures c.in_ok-number.was in
    number_fits t.tree t.value_is

pub returns : goal.returns
returns c =
    let s = c.args.text.now in
    let w = sym (starts_is_word word_go_to s) ∙ sym c.starts_with.ensures.value ∙ c.if-not-starts_with.false in
    let t = took c.read_number.ensures c.in_ok-number.was in
    go_to_read s w t c.number_of.ensures c.if-number-text.false
