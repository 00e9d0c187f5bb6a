-- `object_words::load` meets its contract: four bytes are the word at their place. Assumes nothing.
use mathlib.Core.Path.{◌∙◌}
use native.Mathlib.Omega.{arith}
use Rattle.object_words.specs.Word.{word_at}
use Rattle.object_words.proofs.load.Goals as goal

pub returns : goal.returns
unfolding word_at
returns c = c.from_le_bytes.ensures ∙ omega arith
