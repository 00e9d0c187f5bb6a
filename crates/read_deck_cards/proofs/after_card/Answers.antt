-- `read_deck_cards::after_card` meets its contract. Assumes nothing.
use mathlib.Core.Path.{sym, ap, ◌∙◌}
use mathlib.Core.Bool.{not}
use Rattle.std.specs.Option.{is_some}
use Rattle.read_deck_cards.proofs.CardByCard.{after_comment, no_characters, no_first, after_first}
use Rattle.read_deck_cards.proofs.after_card.Goals as goal

pub returns-then-is_comment : goal.returns-then-is_comment
returns-then-is_comment c =
    λ k. after_comment k c.args.b c.args.card.now (sym c.is_comment.ensures ∙ c.if-is_comment.true)

pub returns-then-not-all_characters : goal.returns-then-not-all_characters
returns-then-not-all_characters c =
    λ k. no_characters k c.args.b c.args.card.now (sym c.is_comment.ensures ∙ c.if-is_comment.false) (sym c.all_characters.ensures ∙ c.if-not-all_characters.true)

pub returns-then-is_none : goal.returns-then-is_none
returns-then-is_none c =
    λ k. no_first k c.args.b c.args.card.now (sym c.is_comment.ensures ∙ c.if-is_comment.false) (sym c.all_characters.ensures ∙ c.if-not-all_characters.false) (sym c.starts.ensures ∙ c.if-starts.true) (sym (ap is_some c.punched.ensures) ∙ c.is_none.ensures ∙ ap not c.if-is_none.true)

pub returns-then-starts : goal.returns-then-starts
returns-then-starts c =
    λ k. after_first k c.args.b c.args.card.now (sym c.is_comment.ensures ∙ c.if-is_comment.false) (sym c.all_characters.ensures ∙ c.if-not-all_characters.false) (sym c.starts.ensures ∙ c.if-starts.true) (sym (ap is_some c.punched.ensures) ∙ c.is_none.ensures ∙ ap not c.if-is_none.false)
