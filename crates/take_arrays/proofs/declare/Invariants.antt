-- `take_arrays::declare` meets its contract. Assumes nothing.
use Rattle.take_arrays.proofs.Declaring.{Declaring}
use Rattle.take_arrays.proofs.declare.Given as goal

abbrev pub invariant-loop-i : goal.invariant-loop-i
invariant-loop-i l = Declaring l.arrays l.initial.table l.fn.n l.table l.i l.m
