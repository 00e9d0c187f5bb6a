-- `read_lists::read_computed` meets its contract. Assumes nothing.
use mathlib.Core.Path.{sym, ◌∙◌}
use Rattle.rules_text.specs.Tokens.{word_go_to}
use Rattle.read_tokens.proofs.Tokens.{starts_is_word}
use Rattle.read_lists.proofs.Lists.{took_list, refused_list, computed_no_word, computed_not_opened, computed_inside, computed_no_list, computed_read}
use Rattle.read_lists.proofs.read_computed.Goals as goal

pub returns-then-not-starts_with : goal.returns-then-not-starts_with
returns-then-not-starts_with c =
    let s = c.args.text.now in
    computed_no_word s (sym (starts_is_word word_go_to s) ∙ sym c.starts_with.ensures.value ∙ c.if-not-starts_with.true)

pub returns-then-byte-ne40 : goal.returns-then-byte-ne40
returns-then-byte-ne40 c =
    let s = c.args.text.now in
    let w = sym (starts_is_word word_go_to s) ∙ sym c.starts_with.ensures.value ∙ c.if-not-starts_with.false in
    computed_not_opened s w (λ z. c.if-byte-ne40.true (c.byte.ensures ∙ z))

pub read_numbers-requires : goal.read_numbers-requires
read_numbers-requires c =
    let s = c.args.text.now in
    let w = sym (starts_is_word word_go_to s) ∙ sym c.starts_with.ensures.value ∙ c.if-not-starts_with.false in
    let o = sym c.byte.ensures ∙ c.if-byte-ne40.false in
    (computed_inside s w o, c.requires)

pub returns-in_err-numbers : goal.returns-in_err-numbers
returns-in_err-numbers c =
    let s = c.args.text.now in
    let w = sym (starts_is_word word_go_to s) ∙ sym c.starts_with.ensures.value ∙ c.if-not-starts_with.false in
    let o = sym c.byte.ensures ∙ c.if-byte-ne40.false in
    rw c.from_residual.ensures (computed_no_list s w o (refused_list c.read_numbers.ensures c.in_err-numbers.was))

pub read_choice-requires : goal.read_choice-requires
read_choice-requires c =
    let t = took_list c.read_numbers.ensures c.in_ok-numbers.was in
    t.upto.within

pub returns : goal.returns
returns c =
    let s = c.args.text.now in
    let w = sym (starts_is_word word_go_to s) ∙ sym c.starts_with.ensures.value ∙ c.if-not-starts_with.false in
    let o = sym c.byte.ensures ∙ c.if-byte-ne40.false in
    let t = took_list c.read_numbers.ensures c.in_ok-numbers.was in
    computed_read s w o t c.read_choice.ensures
