-- A deck's statements as trees. Names, constants and numbers stand in them as written. 01 "Statements".
-- Assumes nothing.
use Rattle.std.specs.Prelude.{ℕ, suc, ◌+◌, ◌-◌, ◌*◌, max, Bool, true, false, List, [], ◌∷◌, ◌++◌, map}
use Rattle.std.proofs.Math.Option.{Option, none, some}
use Rattle.number.specs.Number.{Op}

-- a letter, then letters or digits: v
abbrev pub Name : Type 0
Name = List ℕ

-- a run of digits: c, an unsigned constant, or n, a statement's number
abbrev pub Digits : Type 0
Digits = List ℕ

-- the number that digits give after v
abbrev pub value_from : ℕ → Digits → ℕ
value_from v [] = v
value_from v (c ∷ s) = value_from (v * 10 + (c - 48)) s

unfoldable pub value_of : Digits → ℕ
value_of s = value_from 0 s

pub data Addend : Type 0 where
  nothing : Addend
  plus minus : Digits → Addend

-- c, or a variable with a multiplier, if one is written, and an addend
pub data Subscript : Type 0 where
  constant : Digits → Subscript
  linear : Option Digits → Name → Addend → Subscript

pub data Subscripts : Type 0 where
  one : Subscript → Subscripts
  two : Subscript → Subscript → Subscripts

pub data Expr : Type 0 where
  con : Digits → Expr
  var : Name → Expr
  elm : Name → Subscripts → Expr
  -- a leading minus, and parentheses
  neg par : Expr → Expr
  bin : Op → Expr → Expr → Expr

-- an assignment's target is a plain cell or an element
pub data Target : Type 0 where
  cell : Name → Target
  element : Name → Subscripts → Target

pub data Array : Type 0 where
  array : Name → Digits → Option Digits → Array

pub data Form : Type 0 where
  assign : Target → Expr → Form
  go_to : Digits → Form
  computed : List Digits → Name → Form
  ifs : Expr → Digits → Digits → Digits → Form
  -- the last statement's number, the variable, and two or three parameters
  loop : Digits → Name → Expr → Expr → Option Expr → Form
  continue stop end : Form
  dimension : List Array → Form

-- a statement with its number, 0 where none is punched
pub record Statement : Type 0 where
  pub number : ℕ
  pub form : Form

-- ---- what stands in a statement, in the order of its text

abbrev pub subscript_names : Subscript → List Name
subscript_names (constant c) = []
subscript_names (linear m v a) = v ∷ []

abbrev pub subscripts_names : Subscripts → List Name
subscripts_names (one s) = subscript_names s
subscripts_names (two s t) = subscript_names s ++ subscript_names t

abbrev pub expr_names : Expr → List Name
expr_names (con c) = []
expr_names (var v) = v ∷ []
expr_names (elm v s) = v ∷ subscripts_names s
expr_names (neg e) = expr_names e
expr_names (par e) = expr_names e
expr_names (bin o a b) = expr_names a ++ expr_names b

abbrev pub target_names : Target → List Name
target_names (cell v) = v ∷ []
target_names (element v s) = v ∷ subscripts_names s

-- a DO's third parameter, where it is written
abbrev pub written : {A : Type 0} → (Expr → List A) → Option Expr → List A
written f none = []
written f (some e) = f e

abbrev pub array_names : List Array → List Name
array_names [] = []
array_names (array v r c ∷ more) = v ∷ array_names more

abbrev pub addend_constants : Addend → List Digits
addend_constants nothing = []
addend_constants (plus c) = c ∷ []
addend_constants (minus c) = c ∷ []

abbrev pub optional : Option Digits → List Digits
optional none = []
optional (some c) = c ∷ []

abbrev pub subscript_constants : Subscript → List Digits
subscript_constants (constant c) = c ∷ []
subscript_constants (linear m v a) = optional m ++ addend_constants a

abbrev pub subscripts_constants : Subscripts → List Digits
subscripts_constants (one s) = subscript_constants s
subscripts_constants (two s t) = subscript_constants s ++ subscript_constants t

abbrev pub expr_constants : Expr → List Digits
expr_constants (con c) = c ∷ []
expr_constants (var v) = []
expr_constants (elm v s) = subscripts_constants s
expr_constants (neg e) = expr_constants e
expr_constants (par e) = expr_constants e
expr_constants (bin o a b) = expr_constants a ++ expr_constants b

abbrev pub target_constants : Target → List Digits
target_constants (cell v) = []
target_constants (element v s) = subscripts_constants s

abbrev pub array_constants : List Array → List Digits
array_constants [] = []
array_constants (array v r c ∷ more) = r ∷ (optional c ++ array_constants more)

-- how deep an expression's own parentheses go
abbrev pub levels : Expr → ℕ
levels (con c) = 0
levels (var v) = 0
levels (elm v s) = 0
levels (neg e) = levels e
levels (par e) = suc (levels e)
levels (bin o a b) = max (levels a) (levels b)

-- ---- what a form has, told once by cases; what else is asked of a form is read off this, but for its spelling, its meaning, its code and their counts

-- what stands in its text beside statement numbers
pub data Phrase : Type 0 where
  -- a target, or a DO's variable
  sets : Target → Phrase
  -- a computed GO TO's variable
  chooses : Name → Phrase
  computes : Expr → Phrase
  -- a DO's third parameter
  steps : Option Expr → Phrase
  declares : List Array → Phrase

-- what a DO opens
pub record Range : Type 0 where
  pub last : Digits
  pub variable : Name

pub record Parts : Type 0 where
  -- in its order
  pub text : List Phrase
  -- the numbers that it jumps to
  pub exits : List Digits
  pub opens : List Range
  -- a run comes to it
  pub executable : Bool
  -- it may be a DO's last statement
  pub may_end : Bool
  pub is_end : Bool
  pub is_dimension : Bool

abbrev pub parts_of : Form → Parts
parts_of (assign t e) =
    record { text = sets t ∷ computes e ∷ []; exits = []; opens = []; executable = true; may_end = true; is_end = false; is_dimension = false }
parts_of (go_to n) = record { text = []; exits = n ∷ []; opens = []; executable = true; may_end = false; is_end = false; is_dimension = false }
parts_of (computed ns v) =
    record { text = chooses v ∷ []; exits = ns; opens = []; executable = true; may_end = false; is_end = false; is_dimension = false }
parts_of (ifs e a b c) =
    record { text = computes e ∷ []; exits = a ∷ b ∷ c ∷ []; opens = []; executable = true; may_end = false; is_end = false; is_dimension = false }
parts_of (loop n v p q r) =
    record {
      text = sets (cell v) ∷ computes p ∷ computes q ∷ steps r ∷ [];
      exits = [];
      opens = record { last = n; variable = v } ∷ [];
      executable = true;
      may_end = false;
      is_end = false;
      is_dimension = false;
    }
parts_of continue = record { text = []; exits = []; opens = []; executable = true; may_end = true; is_end = false; is_dimension = false }
parts_of stop = record { text = []; exits = []; opens = []; executable = true; may_end = false; is_end = false; is_dimension = false }
parts_of end = record { text = []; exits = []; opens = []; executable = true; may_end = true; is_end = true; is_dimension = false }
parts_of (dimension arrays) =
    record { text = declares arrays ∷ []; exits = []; opens = []; executable = false; may_end = true; is_end = false; is_dimension = true }

-- what each gives, one after the other
abbrev pub gathered : {A B : Type 0} → (A → List B) → List A → List B
gathered f [] = []
gathered f (x ∷ []) = f x
gathered f (x ∷ y ∷ more) = f x ++ gathered f (y ∷ more)

abbrev pub phrase_names : Phrase → List Name
phrase_names (sets t) = target_names t
phrase_names (chooses v) = v ∷ []
phrase_names (computes e) = expr_names e
phrase_names (steps r) = written expr_names r
phrase_names (declares arrays) = array_names arrays

unfoldable pub form_names : Form → List Name
form_names f = gathered phrase_names (parts_of f).text

abbrev pub phrase_constants : Phrase → List Digits
phrase_constants (sets t) = target_constants t
phrase_constants (chooses v) = []
phrase_constants (computes e) = expr_constants e
phrase_constants (steps r) = written expr_constants r
phrase_constants (declares arrays) = array_constants arrays

-- every c, wherever it stands
unfoldable pub form_constants : Form → List Digits
form_constants f = gathered phrase_constants (parts_of f).text

-- the numbers that a statement jumps to
unfoldable pub form_exits : Form → List Digits
form_exits f = (parts_of f).exits

-- the number of a DO's last statement
unfoldable pub form_last : Form → List Digits
form_last f = map (λ (d : Range). d.last) (parts_of f).opens

-- every number in its text
abbrev pub form_numbers : Form → List Digits
form_numbers f = form_exits f ++ form_last f

abbrev pub phrase_exprs : Phrase → List Expr
phrase_exprs (sets t) = []
phrase_exprs (chooses v) = []
phrase_exprs (computes e) = e ∷ []
phrase_exprs (steps r) = written (λ e. e ∷ []) r
phrase_exprs (declares arrays) = []

-- the most levels, where some expressions have n
abbrev pub deepest : ℕ → List Expr → ℕ
deepest n [] = n
deepest n (e ∷ es) = deepest (max n (levels e)) es

abbrev pub levels_of : List Expr → ℕ
levels_of [] = 0
levels_of (e ∷ es) = deepest (levels e) es

unfoldable pub form_levels : Form → ℕ
form_levels f = levels_of (gathered phrase_exprs (parts_of f).text)
