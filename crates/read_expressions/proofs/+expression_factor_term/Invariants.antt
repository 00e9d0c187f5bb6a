use Prim.Native.Nat.{◌+◌, ◌*◌, ◌-◌}
use lib.ListN.{length}
use Rattle.rules_text.specs.Grammar.{an_expression, a_term, more_terms, more_factors}
use Rattle.read_expressions.proofs.Going.{Going}
use Rattle.read_expressions.proofs.+expression_factor_term.Given as goal

abbrev pub decreases-expression : goal.decreases-expression
decreases-expression l = 3 * length l.s.now + 3

abbrev pub decreases-factor : goal.decreases-factor
decreases-factor l = 3 * length l.s.now + 1

abbrev pub decreases-term : goal.decreases-term
decreases-term l = 3 * length l.s.now + 2

abbrev pub invariant-expression-loop-op : goal.invariant-expression-loop-op
invariant-expression-loop-op l = Going an_expression more_terms l.s l.initial.items l.items l.n l.read.at l.read.value l.read.sizes

abbrev pub decreases-expression-loop-op : goal.decreases-expression-loop-op
decreases-expression-loop-op l = length l.s - l.read.at

abbrev pub invariant-term-loop-op : goal.invariant-term-loop-op
invariant-term-loop-op l = Going a_term more_factors l.s l.initial.items l.items l.n l.read.at l.read.value l.read.sizes

abbrev pub decreases-term-loop-op : goal.decreases-term-loop-op
decreases-term-loop-op l = length l.s - l.read.at
