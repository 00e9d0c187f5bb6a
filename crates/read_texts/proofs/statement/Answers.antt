-- `read_texts::statement` meets its contract. Assumes nothing.
use mathlib.Core.Path.{refl, sym, subst}
use native.Mathlib.Omega.{arith}
use lib.ListN.{length-take}
use Rattle.read_texts.specs.Taking.{punched_text, Takes}
use Rattle.read_texts.proofs.Onward.{text_ended, raw_going, raw_long, raw_short, text_taken}
use Rattle.read_texts.proofs.statement.Goals as goal

pub returns-in_err-taken : goal.returns-in_err-taken
returns-in_err-taken c =
    subst (Takes punched_text c.args.deck.now c.args.card c.args.text.now c.args.text.now) (sym c.from_residual.ensures) (text_ended c.columns.ensures c.args.text.now c.in_err-taken.was)

pub slice_bounds-raw-end : goal.slice_bounds-raw-end
slice_bounds-raw-end c =
    let s = c.columns.ensures in
    let f = c.in_ok-taken.was in
    omega (arith, (raw_going s c.requires f).short, raw_long s c.requires f refl)

pub slice_bounds-text_of-end : goal.slice_bounds-text_of-end
slice_bounds-text_of-end c =
    let s = c.columns.ensures in
    let f = c.in_ok-taken.was in
    omega (arith, (raw_going s c.requires f).short, raw_long s c.requires f refl, length-take c.in_ok-taken.taken.length c.columns.new.raw)

pub text_of-requires : goal.text_of-requires
text_of-requires c =
    raw_short c.columns.ensures c.requires c.in_ok-taken.was

pub returns : goal.returns
returns c =
    text_taken c.columns.ensures c.requires c.in_ok-taken.was refl c.text_of.ensures
