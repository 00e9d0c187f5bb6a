-- `read_deck_cards::card_by_card` meets its contract. Assumes nothing.
use native.Mathlib.Omega.{arith}
use Rattle.read_deck_cards.proofs.CardByCard.{going_start, going_refused, going_on, going_end}
use Rattle.read_deck_cards.proofs.card_by_card.Goals as goal

pub loop-card-init : goal.loop-card-init
loop-card-init c =
    λ k. going_start k c.args.cards.now

pub after_card-requires : goal.after_card-requires
after_card-requires c =
    let g = c.loop-card.invariant 0 in
    (omega (arith, g.placed, c.requires, c.loop-card-test.true), omega (arith, g.few, c.requires, c.loop-card-test.true))

pub returns-in-Err : goal.returns-in-Err
returns-in-Err c =
    let lp = c.loop-card in
    λ k. going_refused k c.args.cards.now lp.b lp.card-index (lp.invariant k) c.loop-card-test.true c.in-Err.reason (c.in-Err.ensures k)

pub loop-card-preserved : goal.loop-card-preserved
loop-card-preserved c =
    let lp = c.loop-card in
    λ k. going_on k c.args.cards.now lp.b lp.card-index (lp.invariant k) c.loop-card-test.true _ (c.in-Ok.ensures k)

pub returns : goal.returns
returns c =
    let lp = c.loop-card in
    λ k. going_end k c.args.cards.now lp.b lp.card-index (lp.invariant k) (omega (arith, c.loop-card-test.false))
