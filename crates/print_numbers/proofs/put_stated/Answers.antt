-- `print_numbers::put_stated` meets its contract. Assumes nothing.
use Rattle.rules_program.specs.Text.{numeral, stated}
use Rattle.print_numbers.proofs.PutLaws.{room_first, room_then, puts_both}
use Rattle.print_numbers.proofs.put_stated.Goals as goal

pub put_words-end-requires : goal.put_words-end-requires
unfolding stated
put_words-end-requires c =
    let w = c.args.words.now in
    let n = numeral c.args.n in
    room_first w n c.requires

pub put_numeral-requires : goal.put_numeral-requires
unfolding stated
put_numeral-requires c =
    let w = c.args.words.now in
    let n = numeral c.args.n in
    room_then w n c.put_words-end.ensures c.requires

pub returns : goal.returns
unfolding stated
returns c =
    let w = c.args.words.now in
    let n = numeral c.args.n in
    puts_both w n c.put_words-end.ensures c.put_numeral.ensures
