-- `read_statement::read` meets its contract. Assumes nothing.
use Rattle.read_statement.proofs.Which.{settled, not_this, reads_as, with_words, go_to_words, do_words, word_words, is_assignment, is_go_to, is_computed, is_if, is_do, is_word, is_last}
use Rattle.read_statement.proofs.read.Goals as goal

pub returns-in-Some : goal.returns-in-Some
returns-in-Some c =
    let s = c.args.text.now in
    settled (is_assignment s) c.read_assignment.ensures c.in-Some.is

pub returns-in-Some-read_go_to : goal.returns-in-Some-read_go_to
returns-in-Some-read_go_to c =
    let s = c.args.text.now in
    settled (is_go_to s) (with_words (go_to_words s) c.read_go_to.ensures) c.in-Some-read_go_to.is

pub returns-in-Some-read_computed : goal.returns-in-Some-read_computed
returns-in-Some-read_computed c =
    let s = c.args.text.now in
    settled (is_computed s) c.read_computed.ensures c.in-Some-read_computed.is

pub returns-in-Some-read_if : goal.returns-in-Some-read_if
returns-in-Some-read_if c =
    let s = c.args.text.now in
    settled (is_if s) c.read_if.ensures c.in-Some-read_if.is

pub returns-in-Some-read_do : goal.returns-in-Some-read_do
returns-in-Some-read_do c =
    let s = c.args.text.now in
    settled (is_do s) (with_words (do_words s) c.read_do.ensures) c.in-Some-read_do.is

pub returns-in-Some-read_word : goal.returns-in-Some-read_word
returns-in-Some-read_word c =
    let s = c.args.text.now in
    settled (is_word s) (with_words (word_words s) c.read_word.ensures) c.in-Some-read_word.is

pub returns : goal.returns
returns c =
    let s = c.args.text.now in
    let a = not_this c.read_assignment.ensures.says c.in_default.is in
    let b = not_this c.read_go_to.ensures c.in_default-read_go_to.is in
    let d = not_this c.read_computed.ensures.says c.in_default-read_computed.is in
    let e = not_this c.read_if.ensures.says c.in_default-read_if.is in
    let f = not_this c.read_do.ensures c.in_default-read_do.is in
    let g = not_this c.read_word.ensures c.in_default-read_word.is in
    reads_as (is_last s a b d e f g) c.read_dimension.ensures
