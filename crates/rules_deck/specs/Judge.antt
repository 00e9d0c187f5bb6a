-- Refusals of one statement, 11 to 18: tests on what was read, and the tables that it takes room in. 01 "Refusal numbers".
-- Assumes nothing.
use Rattle.std.specs.Prelude.{ℕ, suc, ◌+◌, Bool, true, false, ◌&&◌, ◌||◌, not, cond, List, [], ◌∷◌, ◌++◌, leb, eqb, length}
use Rattle.std.proofs.Math.Option.{Option, none, some}
use Rattle.rules_shared.specs.Limits.{limits}
use Rattle.rules_shared.specs.House.{House}
use Rattle.rules_shared.specs.Refusals.{or_else}
use Rattle.rules_shared.specs.Lists.{all}
use Rattle.rules_text.specs.Trees.{Name, Digits, value_of, Subscripts, one, two, Array, array, Expr, con, var, elm, neg, par, bin, Target, cell, element, written, Form, assign, go_to, computed, ifs, loop, continue, stop, end, dimension, form_names, form_constants, form_exits, form_last, form_levels, Phrase, sets, chooses, computes, steps, declares, parts_of, gathered}
use Rattle.rules_deck.specs.Deck.{same_name, Dims, declare, arrays_in}
use Rattle.rules_deck.specs.Meaning.{third}
use Rattle.rules_deck.specs.Translation.{Held, name, hidden, cell_count, is_the_name, is_array, holds, brings, form_plain, pool}

-- ---- 11 to 14

-- as long as the house has names, the first character I to N
abbrev pub starts_integer : Name → Bool
starts_integer [] = false
starts_integer (c ∷ v) = leb 73 c && leb c 78

unfoldable pub right11 : House → Form → Bool
right11 house f = all (λ v. leb (length v) house.name_length && starts_integer v) (form_names f)

-- at most k digits as written: leading zeros count
unfoldable pub right12 : House → Form → Bool
right12 house f = all (λ c. leb (length c) house.digits) (form_constants f)

-- 0 passes only where it is let
abbrev pub number_within : Bool → Digits → Bool
number_within zero n = (zero || leb 1 (value_of n)) && leb (value_of n) limits.statement_number

unfoldable pub right13 : House → Form → Bool
right13 house f = all (number_within house.zero_exit) (form_exits f) && all (number_within false) (form_last f)

unfoldable pub right14 : Form → Bool
right14 f = leb (form_levels f) limits.parentheses

-- ---- 15: dimension 0; array's name already seen or ending in F

abbrev pub ends_in_f : Name → Bool
ends_in_f [] = false
ends_in_f (c ∷ []) = eqb c 70
ends_in_f (c ∷ d ∷ v) = ends_in_f (d ∷ v)

abbrev pub seen : List Held → Name → Bool
seen held v = holds (is_the_name v) held || holds (is_array v) held

abbrev pub some_cells : Array → Bool
some_cells (array v r none) = leb 1 (value_of r)
some_cells (array v r (some c)) = leb 1 (value_of r) && leb 1 (value_of c)

-- earlier in the same DIMENSION counts as seen; whether names may end in F is told
abbrev pub right_arrays : Bool → List Held → List Array → Bool
right_arrays inF held [] = true
right_arrays inF held (a ∷ more) =
    some_cells a && (not (seen held (declare a).name) && ((inF || not (ends_in_f (declare a).name)) && right_arrays inF (held ++ (Held.array (declare a) ∷ [])) more))

unfoldable pub right15 : House → List Held → Form → Bool
right15 house held f = right_arrays house.array_may_end_in_f held (arrays_in f)

-- ---- 16: element of an undeclared array or wrong subscript count; array name bare

pub record Reference : Type 0 where
  pub name : Name
  pub subscripts : Subscripts

abbrev pub expr_references : Expr → List Reference
expr_references (con c) = []
expr_references (var v) = []
expr_references (elm v s) = record { name = v; subscripts = s } ∷ []
expr_references (neg e) = expr_references e
expr_references (par e) = expr_references e
expr_references (bin o a b) = expr_references a ++ expr_references b

abbrev pub target_references : Target → List Reference
target_references (cell v) = []
target_references (element v s) = record { name = v; subscripts = s } ∷ []

abbrev pub phrase_references : Phrase → List Reference
phrase_references (sets t) = target_references t
phrase_references (chooses v) = []
phrase_references (computes e) = expr_references e
phrase_references (steps r) = written expr_references r
phrase_references (declares arrays) = []

unfoldable pub form_references : Form → List Reference
form_references f = gathered phrase_references (parts_of f).text

-- as many subscripts as dimensions: columns 0 stand for one
abbrev pub right_count : Dims → Subscripts → Bool
right_count d (one s) = eqb d.columns 0
right_count d (two s t) = leb 1 d.columns

abbrev pub right_reference : List Held → Reference → Bool
right_reference [] e = false
right_reference (name v ∷ held) e = right_reference held e
right_reference (Held.array a ∷ held) e = cond (same_name a.name e.name) (right_count a.dims e.subscripts) (right_reference held e)
right_reference (hidden q ∷ held) e = right_reference held e

unfoldable pub right16 : List Held → Form → Bool
right16 held f = all (right_reference held) (form_references f) && all (λ v. not (holds (is_array v) held)) (form_plain f)

-- ---- 18: this statement takes a table over its limit

-- what the statements so far have taken
pub record Taken : Type 0 where
  pub held : List Held
  pub constants : List ℕ
  pub elements : ℕ
  pub exits : ℕ
  pub dos : ℕ
  pub code : ℕ

abbrev pub nothing_taken : Taken
nothing_taken = record { held = []; constants = []; elements = 0; exits = 0; dos = 0; code = 0 }

-- constants in the order of emission; those in subscripts and dimensions are not pooled
abbrev pub expr_pooled : Expr → List ℕ
expr_pooled (con c) = value_of c ∷ []
expr_pooled (var v) = []
expr_pooled (elm v s) = []
expr_pooled (neg e) = expr_pooled e
expr_pooled (par e) = expr_pooled e
expr_pooled (bin o a b) = expr_pooled a ++ expr_pooled b

abbrev pub phrase_pooled : Phrase → List ℕ
phrase_pooled (sets t) = []
phrase_pooled (chooses v) = []
phrase_pooled (computes e) = expr_pooled e
phrase_pooled (steps r) = expr_pooled (third r)
phrase_pooled (declares arrays) = []

unfoldable pub form_pooled : Form → List ℕ
form_pooled f = gathered phrase_pooled (parts_of f).text

abbrev pub pool_all : List ℕ → List ℕ → List ℕ
pool_all pooled [] = pooled
pool_all pooled (c ∷ cs) = pool_all (pool pooled c) cs

abbrev pub expr_words : Expr → ℕ
expr_words (con c) = 1
expr_words (var v) = 1
expr_words (elm v s) = 1
expr_words (neg e) = expr_words e + 1
expr_words (par e) = expr_words e
expr_words (bin o a b) = expr_words a + expr_words b + 1

-- words of code; a DO brings its DOE
unfoldable pub form_words : Form → ℕ
form_words (assign t e) = expr_words e + 1
form_words (go_to n) = 1
form_words (computed ns v) = 2
form_words (ifs e a b c) = expr_words e + 1
form_words (loop n v p₁ p₂ p₃) = expr_words p₁ + expr_words p₂ + expr_words (third p₃) + 2
form_words continue = 0
form_words stop = 1
form_words end = 1
form_words (dimension arrays) = 0

unfoldable pub form_exit_words : Form → ℕ
form_exit_words (assign t e) = 0
form_exit_words (go_to n) = 0
form_exit_words (computed ns v) = suc (length ns)
form_exit_words (ifs e a b c) = 3
form_exit_words (loop n v p₁ p₂ p₃) = 0
form_exit_words continue = 0
form_exit_words stop = 0
form_exit_words end = 0
form_exit_words (dimension arrays) = 0

-- with the statement at position q
unfoldable pub takes : ℕ → Form → Taken → Taken
takes q f t =
    record {
      held = brings q f t.held;
      constants = pool_all t.constants (form_pooled f);
      elements = t.elements + length (form_references f);
      exits = t.exits + form_exit_words f;
      dos = t.dos + length (form_last f);
      code = t.code + form_words f;
    }

-- names are those of body 7: hidden cells have none
abbrev pub name_count : List Held → ℕ
name_count [] = 0
name_count (name v ∷ held) = suc (name_count held)
name_count (Held.array a ∷ held) = suc (name_count held)
name_count (hidden q ∷ held) = name_count held

unfoldable pub right18 : Taken → Bool
right18 t =
    leb (name_count t.held) limits.names && (leb t.dos limits.dos && (leb (length t.constants) limits.constants &&
    (leb t.elements limits.elements && (leb t.exits limits.exits && (leb t.code limits.code && leb (cell_count t.held) limits.cells)))))

-- ---- the lowest number of what is wrong anywhere in the statement at position q

abbrev pub wrong : Bool → ℕ → Option ℕ
wrong true number = none
wrong false number = some number

unfoldable pub judge_form : House → ℕ → Form → Taken → Option ℕ
judge_form house q f t =
    or_else (wrong (right11 house f) 11) (or_else (wrong (right12 house f) 12) (or_else (wrong (right13 house f) 13) (or_else (wrong (right14 f) 14)
    (or_else (wrong (right15 house t.held f) 15) (or_else (wrong (right16 t.held f) 16) (wrong (right18 (takes q f t)) 18))))))
