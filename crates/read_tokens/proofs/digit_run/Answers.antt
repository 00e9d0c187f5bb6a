-- `read_tokens::digit_run` meets its contract. Assumes nothing.
use borrow.Author.Rules.{rules}
use Rattle.rules_object.specs.Check.{is_digit}
use Rattle.rules_text.specs.Tokens.{digit_run}
use Rattle.read_tokens.proofs.digit_run.Goals as goal

pub returns : goal.returns
unfolding digit_run
returns c = c.run.ensures is_digit (λ x b p. search rules)
