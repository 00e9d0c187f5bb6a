-- How a statement is spelled: the text of a tree, and the texts that spell a tree. 01 "Statements".
-- These are no readers: nothing here looks for a form in a text. That reading and spelling agree is proved.
-- A tree's own text and the other texts that spell it differ by plus signs only: one may be written before an expression's first term, and no tree keeps it.
-- Assumes nothing.
use Rattle.std.specs.Prelude.{◌≡◌, ℕ, ◌≤◌, Bool, true, ◌&&◌, ◌||◌, cond, List, [], ◌∷◌, ◌++◌, eqb, length}
use Rattle.std.proofs.Math.Option.{Option, none, some}
use Rattle.number.specs.Number.{Op, add, sub, mul, div}
use Rattle.rules_shared.specs.Limits.{limits}
use Rattle.rules_object.specs.Check.{is_letter, is_digit}
use Rattle.rules_shared.specs.Lists.{Each}
use Rattle.rules_text.specs.Trees.{Name, Digits, Addend, nothing, plus, minus, Subscript, constant, linear, Subscripts, one, two, Expr, con, var, elm, neg, par, bin, Target, cell, element, Array, array, Form, assign, go_to, computed, ifs, loop, continue, stop, end, dimension, target_names, target_constants, optional, form_names, form_constants, form_exits, form_last}
use Rattle.rules_text.specs.Tokens.{left_paren, right_paren, star, plus_sign, comma, minus_sign, slash, equals, word_go_to, word_if, word_do, word_continue, word_stop, word_end, word_dimension, is_letter_or_digit}
use Rattle.rules_text.specs.Shaped.{Shaped}

-- ---- the text of a tree

abbrev pub spell_addend : Addend → List ℕ
spell_addend nothing = []
spell_addend (plus c) = plus_sign ∷ c
spell_addend (minus c) = minus_sign ∷ c

abbrev pub spell_subscript : Subscript → List ℕ
spell_subscript (constant c) = c
spell_subscript (linear none v a) = v ++ spell_addend a
spell_subscript (linear (some c) v a) = c ++ (star ∷ v ++ spell_addend a)

abbrev pub spell_subscripts : Subscripts → List ℕ
spell_subscripts (one s) = left_paren ∷ spell_subscript s ++ right_paren ∷ []
spell_subscripts (two s t) = left_paren ∷ spell_subscript s ++ (comma ∷ spell_subscript t ++ right_paren ∷ [])

abbrev pub spell_target : Target → List ℕ
spell_target (cell v) = v
spell_target (element v s) = v ++ spell_subscripts s

abbrev pub spell_op : Op → ℕ
spell_op add = plus_sign
spell_op sub = minus_sign
spell_op mul = star
spell_op div = slash

abbrev pub spell_expr : Expr → List ℕ
spell_expr (con c) = c
spell_expr (var v) = v
spell_expr (elm v s) = v ++ spell_subscripts s
spell_expr (neg e) = minus_sign ∷ spell_expr e
spell_expr (par e) = left_paren ∷ spell_expr e ++ right_paren ∷ []
spell_expr (bin o a b) = spell_expr a ++ spell_op o ∷ spell_expr b

-- a comma before each
abbrev pub spell_more : {A : Type 0} → (A → List ℕ) → List A → List ℕ
spell_more spell [] = []
spell_more spell (a ∷ others) = comma ∷ spell a ++ spell_more spell others

-- a comma between any two
abbrev pub spell_list : {A : Type 0} → (A → List ℕ) → List A → List ℕ
spell_list spell [] = []
spell_list spell (a ∷ others) = spell a ++ spell_more spell others

abbrev pub spell_number : Digits → List ℕ
spell_number n = n

abbrev pub spell_array : Array → List ℕ
spell_array (array v r none) = v ++ (left_paren ∷ r ++ right_paren ∷ [])
spell_array (array v r (some c)) = v ++ (left_paren ∷ r ++ (comma ∷ c ++ right_paren ∷ []))

-- a DO's third parameter, where it is written
abbrev pub spell_by : Option Expr → List ℕ
spell_by none = []
spell_by (some e) = comma ∷ spell_expr e

abbrev pub spell_form : Form → List ℕ
spell_form (assign t e) = spell_target t ++ equals ∷ spell_expr e
spell_form (go_to n) = word_go_to ++ n
spell_form (computed ns v) = word_go_to ++ (left_paren ∷ spell_list spell_number ns ++ right_paren ∷ comma ∷ v)
spell_form (ifs e a b c) = word_if ++ (left_paren ∷ spell_expr e ++ (right_paren ∷ a ++ (comma ∷ b ++ comma ∷ c)))
spell_form (loop n v p q r) = word_do ++ (n ++ (v ++ (equals ∷ spell_expr p ++ (comma ∷ spell_expr q ++ spell_by r))))
spell_form continue = word_continue
spell_form stop = word_stop
spell_form end = word_end
spell_form (dimension arrays) = word_dimension ++ spell_list spell_array arrays

-- ---- the words that names and numbers are

abbrev pub Passes : (ℕ → Bool) → ℕ → Type 0
Passes test c = test c ≡ true

-- one digit or more
pub data IsDigits : Digits → Type 0 where
  is_digits : {c : ℕ} {s : List ℕ} → is_digit c ≡ true → Each (Passes is_digit) s → IsDigits (c ∷ s)

-- a letter, then letters or digits
pub data IsName : Name → Type 0 where
  is_name : {c : ℕ} {s : List ℕ} → is_letter c ≡ true → Each (Passes is_letter_or_digit) s → IsName (c ∷ s)

-- these names and these digits are such words
abbrev pub Words : List Name → List Digits → Type 0
Words names digits = Each IsName names × Each IsDigits digits

abbrev pub IsTarget : Target → Type 0
IsTarget t = Words (target_names t) (target_constants t)

abbrev pub IsArray : Array → Type 0
IsArray (array v r c) = IsName v × IsDigits r × Each IsDigits (optional c)

abbrev pub IsNumberOrName : Expr → Type 0
IsNumberOrName (con c) = IsDigits c
IsNumberOrName (var v) = IsName v
IsNumberOrName (elm v s) = ⊥
IsNumberOrName (neg e) = ⊥
IsNumberOrName (par e) = ⊥
IsNumberOrName (bin o a b) = ⊥

abbrev pub IsBy : Option Expr → Type 0
IsBy none = Unit {0}
IsBy (some e) = IsNumberOrName e

-- ---- the texts that spell an expression: sums of products of factors, as 01 has them

pub data Part : Type 0 where
  a_sum a_product a_factor : Part

pub data SpellsPart : Part → List ℕ → Expr → Type 0 where
  first : {t : List ℕ} {e : Expr} → SpellsPart a_product t e → SpellsPart a_sum t e
  -- the plus that no tree keeps
  after_plus : {t : List ℕ} {e : Expr} → SpellsPart a_product t e → SpellsPart a_sum (plus_sign ∷ t) e
  after_minus : {t : List ℕ} {e : Expr} → SpellsPart a_product t e → SpellsPart a_sum (minus_sign ∷ t) (neg e)
  added : {t u : List ℕ} {a b : Expr} → SpellsPart a_sum t a → SpellsPart a_product u b → SpellsPart a_sum (t ++ plus_sign ∷ u) (bin add a b)
  less : {t u : List ℕ} {a b : Expr} → SpellsPart a_sum t a → SpellsPart a_product u b → SpellsPart a_sum (t ++ minus_sign ∷ u) (bin sub a b)
  only : {t : List ℕ} {e : Expr} → SpellsPart a_factor t e → SpellsPart a_product t e
  times : {t u : List ℕ} {a b : Expr} → SpellsPart a_product t a → SpellsPart a_factor u b → SpellsPart a_product (t ++ star ∷ u) (bin mul a b)
  over : {t u : List ℕ} {a b : Expr} → SpellsPart a_product t a → SpellsPart a_factor u b → SpellsPart a_product (t ++ slash ∷ u) (bin div a b)
  a_number : {c : Digits} → IsDigits c → SpellsPart a_factor c (con c)
  a_name : {v : Name} → IsName v → SpellsPart a_factor v (var v)
  element_factor : (v : Name) (s : Subscripts) → IsTarget (element v s) → SpellsPart a_factor (v ++ spell_subscripts s) (elm v s)
  parens : {t : List ℕ} {e : Expr} → SpellsPart a_sum t e → SpellsPart a_factor (left_paren ∷ t ++ right_paren ∷ []) (par e)

-- ---- the texts that spell a statement: its own text, but for the expressions in it

pub data Spells : List ℕ → Form → Type 0 where
  an_assignment : {u : List ℕ} {e : Expr} (t : Target) → IsTarget t → SpellsPart a_sum u e → Spells (spell_target t ++ equals ∷ u) (assign t e)
  a_go_to : (n : Digits) → IsDigits n → Spells (spell_form (go_to n)) (go_to n)
  a_computed : (ns : List Digits) (v : Name) → Each IsDigits ns → limits.fewest_exits ≤ length ns → length ns ≤ limits.most_exits → IsName v
      → Spells (spell_form (computed ns v)) (computed ns v)
  an_if : {u : List ℕ} {e : Expr} (a b c : Digits) → SpellsPart a_sum u e → IsDigits a → IsDigits b → IsDigits c
      → Spells (word_if ++ (left_paren ∷ u ++ (right_paren ∷ a ++ (comma ∷ b ++ comma ∷ c)))) (ifs e a b c)
  a_do_loop : (n : Digits) (v : Name) (p q : Expr) (r : Option Expr) → IsDigits n → IsName v → IsNumberOrName p → IsNumberOrName q → IsBy r
      → Spells (spell_form (loop n v p q r)) (loop n v p q r)
  a_continue : Spells word_continue continue
  a_stop : Spells word_stop stop
  an_end : Spells word_end end
  a_dimension : (a : Array) (others : List Array) → IsArray a → Each IsArray others → Spells (spell_form (dimension (a ∷ others))) (dimension (a ∷ others))

-- ---- the trees that have a text

abbrev pub SomeArray : Form → Type 0
SomeArray (assign t e) = Unit {0}
SomeArray (go_to n) = Unit {0}
SomeArray (computed ns v) = Unit {0}
SomeArray (ifs e a b c) = Unit {0}
SomeArray (loop n v p q r) = Unit {0}
SomeArray continue = Unit {0}
SomeArray stop = Unit {0}
SomeArray end = Unit {0}
SomeArray (dimension []) = ⊥
SomeArray (dimension (a ∷ others)) = Unit {0}

-- shaped as the grammar says, with words for names and numbers
pub record Spellable (f : Form) : Type 0 where
  pub shape : Shaped f
  pub arrays : SomeArray f
  pub names : Each IsName (form_names f)
  pub constants : Each IsDigits (form_constants f)
  pub exits : Each IsDigits (form_exits f)
  pub last : Each IsDigits (form_last f)

-- ---- the texts of one tree

-- an expression starts after = and after (
abbrev pub opens : ℕ → Bool
opens b = eqb b equals || eqb b left_paren

-- a text without each plus right after = or (; the byte before the text is b
unfoldable pub without_after : ℕ → List ℕ → List ℕ
without_after b [] = []
without_after b (c ∷ t) = cond (opens b && eqb c plus_sign) (without_after c t) (c ∷ without_after c t)

-- no byte is before a statement's text
unfoldable pub without_pluses : List ℕ → List ℕ
without_pluses t = without_after 0 t
