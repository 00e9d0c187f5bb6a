-- `print_numbers::put_words` meets its contract. Assumes nothing.
use Rattle.print_numbers.proofs.PutLaws.{puts_at}
use Rattle.print_numbers.proofs.put_words.Goals as goal

pub returns : goal.returns
returns c = rw c.copy_from_slice.ensures.after (puts_at c.args.words.now c.args.at c.args.out.now c.requires)
