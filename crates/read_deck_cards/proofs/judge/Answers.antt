-- `read_deck_cards::judge` meets its contract. Assumes nothing.
use mathlib.Core.Path.{ap, subst}
use mathlib.Core.Logic.{⊎_elim}
use Prim.Native.Nat.{◌≤◌}
use native.Mathlib.Omega.{arith}
use lib.ListN.{length}
use Rattle.std.specs.Prelude.{Ok, Err}
use Rattle.rules_shared.specs.House.{house1401}
use Rattle.rules_text.specs.Cards.{nothing_read, card_by_card}
use Rattle.refusals.specs.declared.Reason.TheVariants.{Digits, DeckLength, Statements}
use Rattle.read_cards.proofs.DeckLaws.{cards_length}
use Rattle.read_deck_cards.specs.Judging.{Judges}
use borrow.Author.Tests.{ltb-true, ltb-false, eqb-true, eqb-false, not-true, not-false}
use Rattle.read_deck_cards.proofs.JudgeLaws.{whole_deck, passed_on, digits_below, digits_above, length_none, length_broken, length_above, deck_refused, deck_over, deck_within}
use Rattle.read_deck_cards.proofs.judge.Goals as goal

pub returns-then-k-lt1 : goal.returns-then-k-lt1
returns-then-k-lt1 c =
    let d = c.args.deck.now in
    let k = c.args.k in
    whole_deck Digits c.of.ensures (⊎_elim (λ w. digits_below k d w.if-k-lt1.true) (λ w. digits_above k d (ltb-true _ _ w.if-k-gt-DIGITS.true-raw)) c.then-k-lt1.branch-raw)

pub returns-then-n-eq0 : goal.returns-then-n-eq0
returns-then-n-eq0 c =
    let d = c.args.deck.now in
    let k = c.args.k in
    let lo : 1 ≤ k = omega arith in
    let hi : k ≤ 9 = ltb-false 9 k c.if-k-gt-DIGITS.false-raw in
    whole_deck DeckLength c.of-then-n-eq0.ensures (⊎_elim (λ w. length_none k d lo hi (omega (arith, w.if-n-eq0.true))) (⊎_elim (λ w. length_broken k d lo hi (eqb-false _ _ (not-true _ w.if-n-ne0.true-raw))) (λ w. length_above k d lo hi (ltb-true _ _ w.if-n-gt-LONGEST.true-raw))) c.then-n-eq0.branch-raw)

pub card_by_card-requires : goal.card_by_card-requires
card_by_card-requires c =
    omega (arith, ap length c.cards.ensures, cards_length c.args.deck.now, ltb-false _ _ c.if-n-gt-LONGEST.false-raw)

pub returns-in_err-last : goal.returns-in_err-last
returns-in_err-last c =
    let d = c.args.deck.now in
    let k = c.args.k in
    let lo : 1 ≤ k = omega arith in
    let hi : k ≤ 9 = ltb-false 9 k c.if-k-gt-DIGITS.false-raw in
    let some : 1 ≤ length d = omega (arith, c.if-n-eq0.false) in
    let whole = eqb-true _ _ (not-false _ c.if-n-ne0.false-raw) in
    let most = ltb-false _ _ c.if-n-gt-LONGEST.false-raw in
    let j = subst (λ cards. Judges (card_by_card (house1401 k) 1 nothing_read cards) (Err c.in_err-last.field-0.0)) c.cards.ensures (c.in_err-last.ensures k) in
    passed_on _ c.from_residual.result c.from_residual.ensures.1 (deck_refused k d lo hi some whole most _ j)

pub returns-then-last-gt-STATEMENTS : goal.returns-then-last-gt-STATEMENTS
returns-then-last-gt-STATEMENTS c =
    let d = c.args.deck.now in
    let k = c.args.k in
    let lo : 1 ≤ k = omega arith in
    let hi : k ≤ 9 = ltb-false 9 k c.if-k-gt-DIGITS.false-raw in
    let some : 1 ≤ length d = omega (arith, c.if-n-eq0.false) in
    let whole = eqb-true _ _ (not-false _ c.if-n-ne0.false-raw) in
    let most = ltb-false _ _ c.if-n-gt-LONGEST.false-raw in
    let j = subst (λ cards. Judges (card_by_card (house1401 k) 1 nothing_read cards) (Ok c.in_ok-last.last)) c.cards.ensures (c.in_ok-last.ensures k) in
    whole_deck Statements c.of-then-last-gt-STATEMENTS.ensures (deck_over k d lo hi some whole most _ j c.if-last-gt-STATEMENTS.true)

pub returns : goal.returns
returns c =
    let d = c.args.deck.now in
    let k = c.args.k in
    let lo : 1 ≤ k = omega arith in
    let hi : k ≤ 9 = ltb-false 9 k c.if-k-gt-DIGITS.false-raw in
    let some : 1 ≤ length d = omega (arith, c.if-n-eq0.false) in
    let whole = eqb-true _ _ (not-false _ c.if-n-ne0.false-raw) in
    let most = ltb-false _ _ c.if-n-gt-LONGEST.false-raw in
    let j = subst (λ cards. Judges (card_by_card (house1401 k) 1 nothing_read cards) (Ok c.in_ok-last.last)) c.cards.ensures (c.in_ok-last.ensures k) in
    deck_within k d lo hi some whole most _ j c.if-last-gt-STATEMENTS.false
