-- `read_cards::digits` meets its contract. Assumes nothing.
use native.Mathlib.Omega.{arith}
use Rattle.read_cards.proofs.CardLaws.{from_start}
use Rattle.read_cards.proofs.digits.Goals as goal

pub loop-c-init : goal.loop-c-init
loop-c-init c = record { low = omega arith; same = from_start c.args.card.now }
