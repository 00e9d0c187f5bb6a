-- `read_tokens::name_run` meets its contract. Assumes nothing.
use mathlib.Core.Path.{sym, ap, ◌∙◌}
use borrow.Author.Rules.{rules}
use Rattle.rules_object.specs.Check.{is_letter}
use Rattle.rules_text.specs.Tokens.{is_letter_or_digit}
use Rattle.read_tokens.proofs.Runs.{name_none, name_some}
use Rattle.read_tokens.proofs.name_run.Goals as goal

pub returns-then-is_ascii_uppercase : goal.returns-then-is_ascii_uppercase
unfolding is_letter_or_digit
returns-then-is_ascii_uppercase c =
    c.run.ensures is_letter_or_digit (λ x b p. search rules)
    ∙ sym (name_some c.args.s.now (sym (ap is_letter c.byte.ensures) ∙ sym c.is_ascii_uppercase.ensures.value ∙ c.if-is_ascii_uppercase.true))

pub returns-else-is_ascii_uppercase : goal.returns-else-is_ascii_uppercase
returns-else-is_ascii_uppercase c =
    sym (name_none c.args.s.now (sym (ap is_letter c.byte.ensures) ∙ sym c.is_ascii_uppercase.ensures.value ∙ c.if-is_ascii_uppercase.false))
