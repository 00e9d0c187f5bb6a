-- A deck as a list of statements: where a number stands, which DOs there are, which arrays are declared. Positions count from 0.
-- Assumes nothing.
use Rattle.std.specs.Prelude.{ℕ, zero, suc, Bool, true, false, ◌&&◌, cond, List, [], ◌∷◌, ◌++◌, map, reverse, eqb}
use Rattle.std.proofs.Math.Option.{Option, none, some}
use Rattle.rules_text.specs.Trees.{Name, Digits, value_of, Array, array, Form, Statement, Phrase, sets, chooses, computes, steps, declares, Range, parts_of, gathered}

abbrev pub same_name : Name → Name → Bool
same_name [] [] = true
same_name [] (c ∷ y) = false
same_name (b ∷ x) [] = false
same_name (b ∷ x) (c ∷ y) = eqb b c && same_name x y

-- the position of the statement with number n; past the end where there is none
abbrev pub position_of : List Statement → ℕ → ℕ
position_of [] n = 0
position_of (s ∷ deck) n = cond (eqb s.number n) 0 (suc (position_of deck n))

-- ---- DOs

-- a DO: its position, the number of its last statement, its variable
pub record Do : Type 0 where
  pub position : ℕ
  pub last : ℕ
  pub variable : Name

abbrev pub do_at : ℕ → Range → Do
do_at q d = record { position = q; last = value_of d.last; variable = d.variable }

abbrev pub do_of : ℕ → Form → List Do
do_of q f = map (do_at q) (parts_of f).opens

abbrev pub dos_from : ℕ → List Statement → List Do
dos_from q [] = []
dos_from q (s ∷ deck) = do_of q s.form ++ dos_from (suc q) deck

-- the DOs of a deck, in its order
unfoldable pub dos_of : List Statement → List Do
dos_of deck = dos_from 0 deck

abbrev pub ending_with : ℕ → List Do → List Do
ending_with n [] = []
ending_with n (d ∷ ds) = cond (eqb d.last n) (d ∷ ending_with n ds) (ending_with n ds)

-- the DOs whose last statement has the number n, innermost first: the latest
unfoldable pub endings : List Statement → ℕ → List Do
endings deck n = reverse (ending_with n (dos_of deck))

-- ---- arrays

-- rows and columns; a name that is no array has none
pub record Dims : Type 0 where
  pub rows : ℕ
  pub columns : ℕ

-- columns are 0 for one dimension, as in body 7
abbrev pub columns_of : Option Digits → ℕ
columns_of none = 0
columns_of (some c) = value_of c

pub record Declared : Type 0 where
  pub name : Name
  pub dims : Dims

abbrev pub declare : Array → Declared
declare (array v r c) = record { name = v; dims = record { rows = value_of r; columns = columns_of c } }

abbrev pub phrase_arrays : Phrase → List Array
phrase_arrays (sets t) = []
phrase_arrays (chooses v) = []
phrase_arrays (computes e) = []
phrase_arrays (steps r) = []
phrase_arrays (declares arrays) = arrays

abbrev pub arrays_in : Form → List Array
arrays_in f = gathered phrase_arrays (parts_of f).text

abbrev pub arrays_of : List Statement → List Declared
arrays_of [] = []
arrays_of (s ∷ deck) = map declare (arrays_in s.form) ++ arrays_of deck

abbrev pub dims_in : List Declared → Name → Dims
dims_in [] v = record { rows = 0; columns = 0 }
dims_in (a ∷ arrays) v = cond (same_name a.name v) a.dims (dims_in arrays v)

unfoldable pub dims_of : List Statement → Name → Dims
dims_of deck v = dims_in (arrays_of deck) v

-- one dimension is as good as one column
abbrev pub width : ℕ → ℕ
width zero = 1
width (suc c) = suc c
