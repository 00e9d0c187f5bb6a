-- `take_parts::enter_do` meets its contract. Assumes nothing.
use mathlib.Core.Path.{refl}
use Rattle.take_parts.proofs.Dos.{counted_other, counted_full, counted_one, enters_other, enters_full, enters_one}
use Rattle.take_parts.proofs.enter_do.Goals as goal

pub returns-in_default : goal.returns-in_default
returns-in_default c =
    (counted_other c.in_default.not-Do c.requires.fit, enters_other c.in_default.not-Do)

pub returns-then-m-ge-DOS : goal.returns-then-m-ge-DOS
returns-then-m-ge-DOS c =
    (counted_full c.in-Do.is c.if-m-ge-DOS.true, enters_full)

pub returns : goal.returns
returns c =
    let h = c.requires in (
      counted_one c.in-Do.is c.if-m-ge-DOS.false h.fit h.room refl,
      enters_one c.in-Do.is c.cell_name.ensures c.cell_of-variable.ensures c.put_do.ensures c.put_loop.ensures refl,
    )
