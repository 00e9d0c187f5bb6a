-- `final_body::put_body` meets its contract: the part is given back with the words in it. Assumes nothing.
use Rattle.final_body.proofs.Words.{put_part}
use Rattle.final_body.proofs.put_body.Goals as goal

pub returns : goal.returns
returns c = put_part c.args.out.now c.args.words.now c.args.at _ c.requires c.put_words.ensures
