-- What a deck means: steps on its statements and named values. No object, instruction or machine occurs here. 01 "Meaning".
-- Assumes nothing.
use Rattle.std.specs.Prelude.{ℕ, suc, Bool, true, false, ◌&&◌, cond, List, [], ◌∷◌, eqb, ℤ, pos, neg_ℤ}
use Rattle.std.proofs.Math.Option.{Option, none, some}
use Rattle.std.proofs.Math.ListN.{get_elem?}
use Rattle.number.specs.Number.{Rule, Op, Result, value, by_zero, apply, Loss, nothing_lost, first, Trouble, trouble}
use Rattle.rules_shared.specs.Runs.{Outcome, go, halt, run}
use Rattle.rules_shared.specs.Choose.{sign3, exit, SubscriptParts, constant_parts, place, all_positive, Turn, again, over, turn, marked}
use Rattle.rules_text.specs.Trees.{Name, Digits, value_of, Addend, nothing, plus, minus, Subscript, constant, linear, Subscripts, one, two, Expr, con, var, elm, neg, par, bin, Target, cell, element, Form, assign, go_to, computed, ifs, loop, continue, stop, end, dimension, Statement}
use Rattle.rules_deck.specs.Deck.{same_name, position_of, Do, endings, Dims, dims_of, width}

-- ---- halts

-- why a deck halts: at STOP or END, or by a division by zero, a subscript, a computed exit or a DO parameter
pub data Cause : Type 0 where
  stop_reached end_reached zero_divisor wrong_subscript wrong_exit wrong_parameter : Cause

-- ---- named values

-- a plain name, or an array's element by its place from 0
pub data Key : Type 0 where
  plain : Name → Key
  element_at : Name → ℕ → Key

abbrev pub same_key : Key → Key → Bool
same_key (plain x) (plain y) = same_name x y
same_key (plain x) (element_at y q) = false
same_key (element_at x p) (plain y) = false
same_key (element_at x p) (element_at y q) = same_name x y && eqb p q

abbrev pub Values : Type 0
Values = Key → ℤ

abbrev pub put : Values → Key → ℤ → Values
put values x v y = cond (same_key x y) v (values y)

-- ---- expressions

-- a value, or a halt; and what was lost first on the way
pub data Evaluated : Type 0 where
  val : ℤ → Loss → Evaluated
  bad : Cause → Loss → Evaluated

-- a subscript's parts
abbrev pub times : Option Digits → ℕ
times none = 1
times (some c) = value_of c

abbrev pub addend : Addend → ℤ
addend nothing = pos 0
addend (plus c) = pos (value_of c)
addend (minus c) = neg_ℤ (pos (value_of c))

abbrev pub subscript : Values → Subscript → SubscriptParts
subscript values (constant c) = constant_parts (pos (value_of c))
subscript values (linear m v a) = record { times = times m; variable = values (plain v); plus = addend a }

-- first subscript tested first; a single one has the one column
abbrev pub place_in : Values → Dims → Subscripts → Option ℕ
place_in values d (one s) = place d.rows (width d.columns) (subscript values s) (constant_parts (pos 1))
place_in values d (two s t) = place d.rows (width d.columns) (subscript values s) (subscript values t)

abbrev pub element_value : Values → Name → Option ℕ → Evaluated
element_value values v none = bad wrong_subscript nothing_lost
element_value values v (some p) = val (values (element_at v p)) nothing_lost

abbrev pub cause_of : Trouble → Cause
cause_of by_zero = zero_divisor

-- what was lost before counts too
abbrev pub after : Loss → Result → Evaluated
after lost (value v more) = val v (first lost more)
after lost (trouble w) = bad (cause_of w) lost

abbrev pub negated : Evaluated → Evaluated
negated (val v lost) = val (neg_ℤ v) lost
negated (bad h lost) = bad h lost

-- left to right
abbrev pub joined : Rule → Op → Evaluated → Evaluated → Evaluated
joined r o (bad h lost) y = bad h lost
joined r o (val v lost) (bad h more) = bad h (first lost more)
joined r o (val v lost) (val w more) = after (first lost more) (apply r o v w)

abbrev pub eval : Rule → List Statement → Values → Expr → Evaluated
eval r deck values (con c) = val (pos (value_of c)) nothing_lost
eval r deck values (var v) = val (values (plain v)) nothing_lost
eval r deck values (elm v s) = element_value values v (place_in values (dims_of deck v) s)
eval r deck values (neg e) = negated (eval r deck values e)
eval r deck values (par e) = eval r deck values e
eval r deck values (bin o a b) = joined r o (eval r deck values a) (eval r deck values b)

-- ---- statements

-- a DO's limit and step, once it was entered
pub data Bounds : Type 0 where
  not_entered : Bounds
  bounds : ℤ → ℤ → Bounds

-- which statement comes next, the values, the bounds of each DO (by its position), and the sequence number of the first statement that lost digits, or 0
pub record Standing : Type 0 where
  pub at : ℕ
  pub values : Values
  pub entered : ℕ → Bounds
  pub lost : ℕ

abbrev pub begin : Values → Standing
begin values = record { at = 0; values = values; entered = λ q. not_entered; lost = 0 }

-- the standing but for one thing
abbrev pub going_to : ℕ → Standing → Standing
going_to j s = record { at = j; values = s.values; entered = s.entered; lost = s.lost }

abbrev pub setting : Key → ℤ → Standing → Standing
setting x v s = record { at = s.at; values = put s.values x v; entered = s.entered; lost = s.lost }

abbrev pub enter : (ℕ → Bounds) → ℕ → Bounds → ℕ → Bounds
enter inside q b p = cond (eqb q p) b (inside p)

-- the DO that stands there
abbrev pub entering : Bounds → Standing → Standing
entering b s = record { at = s.at; values = s.values; entered = enter s.entered s.at b; lost = s.lost }

-- told what its statement lost
abbrev pub losing : Loss → Standing → Standing
losing more s = record { at = s.at; values = s.values; entered = s.entered; lost = marked s.lost more s.at }

-- At the body's end: the variable takes the sum and the body repeats, or it stays and the outer DOs follow.
abbrev pub turned : Turn → Do → Standing → Outcome Cause Standing → Outcome Cause Standing
turned (again i) d s outer = go (going_to (suc d.position) (setting (plain d.variable) i s))
turned over d s outer = outer

abbrev pub end_of : Bounds → Do → Standing → Outcome Cause Standing → Outcome Cause Standing
end_of not_entered d s outer = outer
end_of (bounds limit step) d s outer = turned (turn (s.values (plain d.variable)) limit step) d s outer

-- the DOs that end with the statement, innermost first; then the next statement
abbrev pub finish : List Do → Standing → Outcome Cause Standing
finish [] s = go (going_to (suc s.at) s)
finish (d ∷ ds) s = end_of (s.entered d.position) d s (finish ds s)

module _ (deck : List Statement) (ends : List Do) (s : Standing) where
  -- a halt leaves the values as they are; what was dropped before it stands
  abbrev pub halted : Cause → Loss → Outcome Cause Standing
  halted h more = halt h (losing more s)

  -- the value is worked first, then the target's subscripts
  abbrev pub stored : Name → ℤ → Loss → Option ℕ → Outcome Cause Standing
  stored v x more none = halted wrong_subscript more
  stored v x more (some p) = finish ends (setting (element_at v p) x (losing more s))

  abbrev pub assigned : Target → Evaluated → Outcome Cause Standing
  assigned t (bad h more) = halted h more
  assigned (cell v) (val x more) = finish ends (setting (plain v) x (losing more s))
  assigned (element v ss) (val x more) = stored v x more (place_in s.values (dims_of deck v) ss)

  abbrev pub goes_to : Digits → Loss → Outcome Cause Standing
  goes_to n more = go (going_to (position_of deck (value_of n)) (losing more s))

  abbrev pub tested : Digits → Digits → Digits → Evaluated → Outcome Cause Standing
  tested a b c (bad h more) = halted h more
  tested a b c (val x more) = goes_to (sign3 x a b c) more

  abbrev pub chosen : Option Digits → Outcome Cause Standing
  chosen none = halted wrong_exit nothing_lost
  chosen (some n) = goes_to n nothing_lost

  -- all parameters must exceed 0
  abbrev pub begun : Name → Bool → ℤ → ℤ → ℤ → Loss → Outcome Cause Standing
  begun v false m₁ m₂ m₃ more = halted wrong_parameter more
  begun v true m₁ m₂ m₃ more = finish ends (entering (bounds m₂ m₃) (setting (plain v) m₁ (losing more s)))

  abbrev pub read : Name → Evaluated → Evaluated → Evaluated → Outcome Cause Standing
  read v (bad h more) e₂ e₃ = halted h more
  read v (val m₁ a) (bad h more) e₃ = halted h (first a more)
  read v (val m₁ a) (val m₂ b) (bad h more) = halted h (first (first a b) more)
  read v (val m₁ a) (val m₂ b) (val m₃ c) = begun v (all_positive m₁ m₂ m₃) m₁ m₂ m₃ (first (first a b) c)

-- a missing third parameter is the constant 1
abbrev pub third : Option Expr → Expr
third none = con (49 ∷ [])
third (some e) = e

abbrev pub exec : Rule → List Statement → List Do → Standing → Form → Outcome Cause Standing
exec r deck ends s (assign t e) = assigned deck ends s t (eval r deck s.values e)
exec r deck ends s (go_to n) = goes_to deck ends s n nothing_lost
exec r deck ends s (computed ns v) = chosen deck ends s (exit ns (s.values (plain v)))
exec r deck ends s (ifs e a b c) = tested deck ends s a b c (eval r deck s.values e)
exec r deck ends s (loop n v p₁ p₂ p₃) = read deck ends s v (eval r deck s.values p₁) (eval r deck s.values p₂) (eval r deck s.values (third p₃))
exec r deck ends s continue = finish ends s
exec r deck ends s stop = halt stop_reached s
exec r deck ends s end = halt end_reached s
exec r deck ends s (dimension arrays) = finish ends s

abbrev pub exec_at : Rule → List Statement → Option Statement → Standing → Outcome Cause Standing
exec_at r deck none s = halt end_reached s
exec_at r deck (some there) s = exec r deck (endings deck there.number) s there.form

-- one statement
unfoldable pub meaning_step : Rule → List Statement → Standing → Outcome Cause Standing
meaning_step r deck s = exec_at r deck (get_elem? deck s.at) s

-- a deck's meaning for at most n statements, from given values
unfoldable pub meaning : Rule → List Statement → Values → ℕ → Outcome Cause Standing
meaning r deck env n = run (meaning_step r deck) n (begin env)
