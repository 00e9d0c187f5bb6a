-- `object_contents::bodies_fit` meets its contract: the loop reads the bodies before `kind` as the book does, and the book goes on from there. Assumes nothing.
use Rattle.object_contents.proofs.Bodies.{Going}
use Rattle.object_contents.proofs.bodies_fit.Given as goal

abbrev pub invariant-loop-kind : goal.invariant-loop-kind
invariant-loop-kind l = Going l.o l.kinds l.kind l.at
