-- `final_lines::bodies` meets its contract: the entries of the DOs passed have their bodies. Assumes nothing.
use mathlib.Core.Path.{refl}
use native.Mathlib.Omega.{arith}
use Rattle.final_addresses.proofs.DeckEnds.{loops_long}
use Rattle.final_lines.proofs.Entering.{body_small, body_more, body_all}
use Rattle.final_lines.proofs.bodies.Goals as goal

pub bounds-loops-i : goal.bounds-loops-i
bounds-loops-i c = omega (arith, loops_long c.requires.0.are)

pub bounds-starts-loops : goal.bounds-starts-loops
bounds-starts-loops c = omega (arith, body_small c.requires.0.are c.loop-i.i c.loop-i-test.true)

pub loop-i-preserved : goal.loop-i-preserved
loop-i-preserved c = λ house deck told at e. body_more told c.loop-i.dos c.loop-i.i _ c.loop-i-test.true refl at (c.loop-i.invariant house deck told at e)

pub returns : goal.returns
returns c = λ house deck told at e. body_all told c.loop-i.dos c.loop-i.i (omega arith) (c.loop-i.invariant house deck told at e)
