-- `read_forms::read_word` meets its contract. Assumes nothing.
use mathlib.Core.Path.{sym, ◌∙◌}
use Rattle.read_forms.proofs.Forms.{word_continue_lem, word_stop_lem, word_end_lem, word_other}
use Rattle.read_forms.proofs.read_word.Goals as goal

pub returns-then-is_word : goal.returns-then-is_word
returns-then-is_word c =
    let s = c.args.text.now in
    word_continue_lem s (sym c.is_word.ensures ∙ c.if-is_word.true)

pub returns-then-is_word-2 : goal.returns-then-is_word-2
returns-then-is_word-2 c =
    let s = c.args.text.now in
    let n1 = sym c.is_word.ensures ∙ c.if-is_word.false in
    word_stop_lem s n1 (sym c.is_word-2.ensures ∙ c.if-is_word-2.true)

pub returns-then-is_word-3 : goal.returns-then-is_word-3
returns-then-is_word-3 c =
    let s = c.args.text.now in
    let n1 = sym c.is_word.ensures ∙ c.if-is_word.false in
    let n2 = sym c.is_word-2.ensures ∙ c.if-is_word-2.false in
    word_end_lem s n1 n2 (sym c.is_word-3.ensures ∙ c.if-is_word-3.true)

pub returns : goal.returns
returns c =
    let s = c.args.text.now in
    let n1 = sym c.is_word.ensures ∙ c.if-is_word.false in
    let n2 = sym c.is_word-2.ensures ∙ c.if-is_word-2.false in
    word_other s n1 n2 (sym c.is_word-3.ensures ∙ c.if-is_word-3.false)
