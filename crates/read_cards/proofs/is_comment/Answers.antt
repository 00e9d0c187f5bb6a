-- `read_cards::is_comment` meets its contract. Assumes nothing.
use Rattle.read_cards.proofs.CardLaws.{comment_is}
use Rattle.read_cards.proofs.is_comment.Goals as goal

pub returns : goal.returns
returns c =
    comment_is c.args.card.now c.told-card
