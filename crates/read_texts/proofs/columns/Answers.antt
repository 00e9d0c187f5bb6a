-- `read_texts::columns` meets its contract. Assumes nothing.
use mathlib.Core.Path.{◌≡◌, refl, sym, ap, ◌∙◌, subst}
use mathlib.Core.List.{[]}
use Prim.Native.Nat.{◌≤◌}
use native.Mathlib.Omega.{arith}
use lib.ListN.{length, drop, drop_of_length-le}
use Rattle.rules_text.specs.Cards.{cards_of}
use Rattle.read_texts.specs.Taking.{punched_raw, Takes}
use Rattle.read_cards.proofs.DeckLaws.{cards_length}
use Rattle.read_texts.proofs.TakeLaws.{skipped_within}
use Rattle.read_texts.proofs.StatementLaws.{none, rest_is, takes_none, first_is, never_wrong, within, columns_are, takes_some}
use Rattle.read_texts.proofs.columns.Goals as goal

pub returns-in_err-cards : goal.returns-in_err-cards
returns-in_err-cards c =
    let h : length c.cards.result.now ≤ c.args.card = omega (arith, c.in_err-cards.ensures.lookup.0) in
    let e : [] ≡ drop c.args.card (cards_of c.args.deck.now) = sym (drop_of_length-le _ h) ∙ ap (drop c.args.card) c.cards.ensures in
    subst (Takes punched_raw c.args.deck.now c.args.card c.args.raw.now c.args.raw.now) (sym c.from_residual.ensures) (none c.args.deck.now c.args.card e c.args.raw.now refl)

pub offset_bounds-cards-start : goal.offset_bounds-cards-start
offset_bounds-cards-start c =
    omega (arith, c.skipped-start.ensures, skipped_within c.in_ok-cards.cards.now, c.in_ok-cards.ensures.lookup.0.3, ap length c.cards.ensures, cards_length c.args.deck.now)

pub slice_bounds-split_first-count : goal.slice_bounds-split_first-count
slice_bounds-split_first-count c =
    omega (arith, c.skipped-start.ensures, skipped_within c.in_ok-cards.cards.now)

pub slice_bounds-split_first-start : goal.slice_bounds-split_first-start
slice_bounds-split_first-start c =
    omega (arith, c.skipped-start.ensures, skipped_within c.in_ok-cards.cards.now)

pub returns-in_err-first : goal.returns-in_err-first
returns-in_err-first c =
    let e = rest_is c.args.deck.now c.args.card c.in_ok-cards.ensures.lookup.0.2 c.cards.ensures in
    subst (Takes punched_raw c.args.deck.now c.args.card c.args.raw.now c.args.raw.now) (sym c.from_residual-in_err-first.ensures) (takes_none c.args.deck.now c.args.card e c.args.raw.now _ c.skipped-start.ensures c.in_err-first.ensures.cases)

pub returns-in_err-number : goal.returns-in_err-number
returns-in_err-number c =
    let e = rest_is c.args.deck.now c.args.card c.in_ok-cards.ensures.lookup.0.2 c.cards.ensures in
    let f = first_is c.args.deck.now c.args.card e c.requires _ _ _ c.skipped-start.ensures c.in_ok-first.ensures.cases.0 in
    absurd (never_wrong f (sym c.punched.ensures ∙ c.in_err-number.was))

pub overflow_add-end-2 : goal.overflow_add-end-2
overflow_add-end-2 c =
    let e = rest_is c.args.deck.now c.args.card c.in_ok-cards.ensures.lookup.0.2 c.cards.ensures in
    let f = first_is c.args.deck.now c.args.card e c.requires _ _ _ c.skipped-start.ensures c.in_ok-first.ensures.cases.0 in
    omega (arith, within f _ c.skipped.ensures, c.in_ok-cards.ensures.lookup.0.3, ap length c.cards.ensures, cards_length c.args.deck.now)

pub slice_bounds-put-end : goal.slice_bounds-put-end
slice_bounds-put-end c =
    let e = rest_is c.args.deck.now c.args.card c.in_ok-cards.ensures.lookup.0.2 c.cards.ensures in
    let f = first_is c.args.deck.now c.args.card e c.requires _ _ _ c.skipped-start.ensures c.in_ok-first.ensures.cases.0 in
    omega (arith, within f _ c.skipped.ensures)

pub put-requires : goal.put-requires
put-requires c =
    let e = rest_is c.args.deck.now c.args.card c.in_ok-cards.ensures.lookup.0.2 c.cards.ensures in
    let f = first_is c.args.deck.now c.args.card e c.requires _ _ _ c.skipped-start.ensures c.in_ok-first.ensures.cases.0 in
    omega (arith, ap length (columns_are f _ c.skipped.ensures), f.short)

pub returns : goal.returns
returns c =
    let e = rest_is c.args.deck.now c.args.card c.in_ok-cards.ensures.lookup.0.2 c.cards.ensures in
    let f = first_is c.args.deck.now c.args.card e c.requires _ _ _ c.skipped-start.ensures c.in_ok-first.ensures.cases.0 in
    takes_some f c.args.deck.now c.args.card _ _ e (sym c.punched.ensures ∙ c.in_ok-number.was) c.skipped.ensures c.put.ensures
