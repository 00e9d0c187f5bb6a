-- `take_deck::draft` meets its contract. Assumes nothing.
use mathlib.Core.Path.{ap, ◌∙◌}
use native.Mathlib.Omega.{arith}
use Rattle.std.specs.Prelude.{Ok}
use Rattle.take_deck.proofs.Round.{round_start, round_ahead, turn_ended, turn_refused, turn_further, turn_on}
use Rattle.take_deck.proofs.draft.Goals as goal

pub loop-kept-init : goal.loop-kept-init
loop-kept-init c = round_start _ _ _ _

pub take_next-requires : goal.take_next-requires
take_next-requires c = round_ahead c.requires c.loop-kept.invariant

pub returns-in-Ok-None : goal.returns-in-Ok-None
returns-in-Ok-None c = λ ps e. turn_ended (c.loop-kept.invariant.going ps e) c.take_next.ensures (c.in-Ok-None.is ∙ ap Ok c.in-Ok-None.field-0-is)

pub returns-in-Err : goal.returns-in-Err
returns-in-Err c = λ ps e. turn_refused (c.loop-kept.invariant.going ps e) c.take_next.ensures _ c.in-Err.is

pub overflow_cast-result : goal.overflow_cast-result
overflow_cast-result c = omega (arith, (c.loop-kept.invariant.going c.requires.punched c.requires.are).fit.statements)

pub overflow_add-result : goal.overflow_add-result
overflow_add-result c = omega (arith, (c.loop-kept.invariant.going c.requires.punched c.requires.are).fit.statements)

pub loop-kept-smaller : goal.loop-kept-smaller
loop-kept-smaller c = omega (arith, turn_further (c.loop-kept.invariant.going c.requires.punched c.requires.are) c.take_next.ensures _ (c.in-Ok-Some.is ∙ ap Ok c.in-Ok-Some.field-0-is))

pub loop-kept-preserved : goal.loop-kept-preserved
loop-kept-preserved c =
    let inv = c.loop-kept.invariant in
    record {
      going = λ ps e. turn_on (inv.going ps e) c.take_next.ensures _ (c.in-Ok-Some.is ∙ ap Ok c.in-Ok-Some.field-0-is);
      items_same = c.take_next.auto.items ∙ inv.items_same;
      room = λ h. c.room.ensures;
    }
