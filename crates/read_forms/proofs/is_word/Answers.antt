-- `read_forms::is_word` meets its contract. Assumes nothing.
use mathlib.Core.Path.{◌∙◌}
use Rattle.read_forms.proofs.Forms.{same_is_word}
use Rattle.read_forms.proofs.is_word.Goals as goal

pub returns : goal.returns
returns c = c.eq.ensures ∙ same_is_word c.args.word.now c.args.text.now
