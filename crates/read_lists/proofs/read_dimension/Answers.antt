-- `read_lists::read_dimension` meets its contract. Assumes nothing.
use mathlib.Core.Path.{sym, ◌∙◌}
use Rattle.rules_text.specs.Tokens.{word_dimension}
use Rattle.read_tokens.proofs.Tokens.{starts_is_word}
use Rattle.read_lists.proofs.Lists.{took_list, refused_list, dimension_no_word, dimension_fits, dimension_no_list, dimension_more, dimension_read}
use Rattle.read_lists.proofs.read_dimension.Goals as goal

pub returns-then-not-starts_with : goal.returns-then-not-starts_with
returns-then-not-starts_with c =
    let s = c.args.text.now in
    dimension_no_word s (sym (starts_is_word word_dimension s) ∙ sym c.starts_with.ensures.value ∙ c.if-not-starts_with.true)

pub read_arrays-requires : goal.read_arrays-requires
read_arrays-requires c =
    let s = c.args.text.now in
    let w = sym (starts_is_word word_dimension s) ∙ sym c.starts_with.ensures.value ∙ c.if-not-starts_with.false in
    (dimension_fits s w, c.requires)

pub returns-in_err-arrays : goal.returns-in_err-arrays
returns-in_err-arrays c =
    let s = c.args.text.now in
    let w = sym (starts_is_word word_dimension s) ∙ sym c.starts_with.ensures.value ∙ c.if-not-starts_with.false in
    rw c.from_residual.ensures (dimension_no_list s w (refused_list c.read_arrays.ensures c.in_err-arrays.was))

pub returns-then-arrays-text : goal.returns-then-arrays-text
returns-then-arrays-text c =
    let s = c.args.text.now in
    let w = sym (starts_is_word word_dimension s) ∙ sym c.starts_with.ensures.value ∙ c.if-not-starts_with.false in
    let t = took_list c.read_arrays.ensures c.in_ok-arrays.was in
    dimension_more s w t c.if-arrays-text.true

pub returns : goal.returns
returns c =
    let s = c.args.text.now in
    let w = sym (starts_is_word word_dimension s) ∙ sym c.starts_with.ensures.value ∙ c.if-not-starts_with.false in
    let t = took_list c.read_arrays.ensures c.in_ok-arrays.was in
    dimension_read s w t c.if-arrays-text.false
