-- `read_formats::put` meets its contract. Assumes nothing.
use mathlib.Core.Path.{refl}
use Rattle.read_formats.proofs.PutLaws.{puts_over, puts_one}
use Rattle.read_formats.proofs.put.Goals as goal

pub returns-then-top-ge-MOST : goal.returns-then-top-ge-MOST
returns-then-top-ge-MOST c =
    puts_over c.args.word c.args.words.now c.args.top _ c.requires.0 refl c.if-top-ge-MOST.true

pub returns : goal.returns
returns c =
    puts_one c.args.word c.args.words.now c.args.top c.requires.0 c.if-top-ge-MOST.false
