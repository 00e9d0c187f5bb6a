-- The shape that the grammar gives a form: sums of products of factors, and what a DO's parameter is.
-- Assumes nothing.
use Rattle.std.specs.Prelude.{◌≤◌, length}
use Rattle.std.proofs.Math.Option.{Option, none, some}
use Rattle.number.specs.Number.{add, sub, mul, div}
use Rattle.rules_shared.specs.Limits.{limits}
use Rattle.rules_text.specs.Trees.{Digits, Subscripts, Name, Expr, con, var, elm, neg, par, bin, Form, assign, go_to, computed, ifs, loop, continue, stop, end, dimension}

mutual
  pub data IsSum : Expr → Type 0 where
    first : {e : Expr} → IsProduct e → IsSum e
    minus : {e : Expr} → IsProduct e → IsSum (neg e)
    plus : {a b : Expr} → IsSum a → IsProduct b → IsSum (bin add a b)
    less : {a b : Expr} → IsSum a → IsProduct b → IsSum (bin sub a b)

  pub data IsProduct : Expr → Type 0 where
    only : {e : Expr} → IsFactor e → IsProduct e
    times : {a b : Expr} → IsProduct a → IsFactor b → IsProduct (bin mul a b)
    over : {a b : Expr} → IsProduct a → IsFactor b → IsProduct (bin div a b)

  pub data IsFactor : Expr → Type 0 where
    constant : {c : Digits} → IsFactor (con c)
    name : {v : Name} → IsFactor (var v)
    element : {v : Name} {s : Subscripts} → IsFactor (elm v s)
    parens : {e : Expr} → IsSum e → IsFactor (par e)

-- a DO's parameter is a constant or a name
pub data IsParameter : Expr → Type 0 where
  constant : {c : Digits} → IsParameter (con c)
  name : {v : Name} → IsParameter (var v)

abbrev pub OptionalParameter : Option Expr → Type 0
OptionalParameter none = Unit {0}
OptionalParameter (some e) = IsParameter e

abbrev pub Shaped : Form → Type 0
Shaped (assign t e) = IsSum e
Shaped (go_to n) = Unit {0}
Shaped (computed ns v) = (limits.fewest_exits ≤ length ns) × (length ns ≤ limits.most_exits)
Shaped (ifs e a b c) = IsSum e
Shaped (loop n v p₁ p₂ p₃) = IsParameter p₁ × IsParameter p₂ × OptionalParameter p₃
Shaped continue = Unit {0}
Shaped stop = Unit {0}
Shaped end = Unit {0}
Shaped (dimension arrays) = Unit {0}
