-- `read_items::put_element` meets its contract. Assumes nothing.
use Rattle.read_items.specs.Items.{target_words}
use Rattle.read_items.proofs.Tables.{put_more}
use Rattle.read_items.proofs.put_element.Goals as goal

pub returns : goal.returns
unfolding target_words
returns c =
    put_more c.put_named-a.ensures (put_more c.put_words-b.ensures (put_more c.put_subscript-c.ensures c.put_subscript.ensures))
