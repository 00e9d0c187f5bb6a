-- The grammar of 01 "Statements": subscripts, expressions, and each statement form as a reader of the whole text.
-- Names of any length and first letter, constants and numbers of any length, and parentheses of any depth are read: 11 to 14 are
-- tested on what was read.
-- Assumes nothing.
use Rattle.std.specs.Prelude.{ℕ, zero, suc, ◌+◌, ◌*◌, Bool, true, false, ◌&&◌, cond, List, [], ◌∷◌, leb, eqb, length}
use Rattle.std.proofs.Math.Option.{Option, none, some}
use Rattle.number.specs.Number.{Op, add, sub, mul, div}
use Rattle.rules_shared.specs.Limits.{limits}
use Rattle.rules_text.specs.Trees.{Digits, Addend, nothing, plus, minus, Subscript, constant, linear, Subscripts, one, two, Expr, con, var, elm, neg, par, bin, Target, cell, element, Array, array, Form, assign, go_to, computed, ifs, loop, continue, stop, end, dimension}
use Rattle.rules_text.specs.Tokens.{left_paren, right_paren, star, plus_sign, comma, minus_sign, slash, equals, word_go_to, word_if, word_do, word_continue, word_stop, word_end, word_dimension, found, bad, Reader, give, give_if, ahead, and_then, after, after_word, choose, starts, starts_digit, whole, number, name, listed}

-- ---- subscripts: v, c, v+c, v-c, c*v, c*v+c, c*v-c

-- what stands after the variable
unfoldable pub addend : Reader Addend
addend =
    choose (starts plus_sign) (after plus_sign (and_then number (λ c. give (plus c))))
    (choose (starts minus_sign) (after minus_sign (and_then number (λ c. give (minus c)))) (give nothing))

-- the variable and its addend, the multiplier being read
unfoldable pub linear_of : Option Digits → Reader Subscript
linear_of multiplier = and_then name (λ v. and_then addend (λ a. give (linear multiplier v a)))

unfoldable pub subscript : Reader Subscript
subscript =
    choose starts_digit
    (and_then number (λ c. choose (starts star) (after star (linear_of (some c))) (give (constant c))))
    (linear_of none)

-- (s) or (s,s)
unfoldable pub subscripts : Reader Subscripts
subscripts =
    after left_paren
    (and_then subscript (λ s. choose (starts comma)
    (after comma (and_then subscript (λ t. after right_paren (give (two s t)))))
    (after right_paren (give (one s)))))

-- v, v(s) or v(s,s): a target, and an operand. A name with a parenthesis after it is an element.
unfoldable pub place : Reader Target
place =
    and_then name (λ v. choose (starts left_paren) (and_then subscripts (λ s. give (element v s))) (give (cell v)))

-- ---- expressions
-- e = optional sign, then terms joined by + -;  t = factors joined by * /;  f = c, v, an element, or ( e )

unfoldable pub operand_of : Target → Expr
operand_of (cell v) = var v
operand_of (element v s) = elm v s

unfoldable pub operand : Reader Expr
operand = choose starts_digit (and_then number (λ c. give (con c))) (and_then place (λ t. give (operand_of t)))

-- a leading sign: whether it is a minus
unfoldable pub sign : Reader Bool
sign =
    choose (starts plus_sign) (after plus_sign (give false)) (choose (starts minus_sign) (after minus_sign (give true)) (give false))

-- the sign is for the first term as a whole; a plus gives nothing
unfoldable pub signed : Bool → Expr → Expr
signed true e = neg e
signed false e = e

-- the operation that a byte is, between terms and between factors
unfoldable pub sum_op : ℕ → Option Op
sum_op c = cond (eqb c plus_sign) (some add) (cond (eqb c minus_sign) (some sub) none)

unfoldable pub product_op : ℕ → Option Op
product_op c = cond (eqb c star) (some mul) (cond (eqb c slash) (some div) none)

-- what is to be read: an expression, a term, a factor, or more terms or more factors after what was read
pub data Mode : Type 0 where
  an_expression a_term a_factor : Mode
  more_terms more_factors : Expr → Mode

-- If an operation stands first, the next part is read and joined to what was read, which is on its left.
unfoldable pub joined : (Mode → Reader Expr) → Mode → (Expr → Mode) → Expr → Option Op → Reader Expr
joined go part again left none s = found left 0
joined go part again left (some o) s = ahead 1 (and_then (go part) (λ right. go (again (bin o left right))) s)

unfoldable pub more : (Mode → Reader Expr) → (ℕ → Option Op) → Mode → (Expr → Mode) → Expr → Reader Expr
more go op part again left [] = found left 0
more go op part again left (c ∷ s) = joined go part again left (op c) s

-- The grammar, a case for each thing to be read. `go` reads the parts.
unfoldable pub step : (Mode → Reader Expr) → Mode → Reader Expr
step go an_expression s = and_then sign (λ negative. and_then (go a_term) (λ first. go (more_terms (signed negative first)))) s
step go a_term s = and_then (go a_factor) (λ first. go (more_factors first)) s
step go a_factor s =
    choose (starts left_paren) (after left_paren (and_then (go an_expression) (λ e. after right_paren (give (par e))))) operand s
step go (more_terms left) s = more go sum_op a_term more_terms left s
step go (more_factors left) s = more go product_op a_factor more_factors left s

-- `parse` closes the recursion by a number of steps that is enough whatever is found: `parse m s ≡ step parse m s`.
unfoldable pub parse_in : ℕ → Mode → Reader Expr
parse_in zero m s = bad
parse_in (suc n) m s = step (parse_in n) m s

unfoldable pub enough : Mode → List ℕ → ℕ
enough an_expression s = 3 * length s + 3
enough a_term s = 3 * length s + 2
enough a_factor s = 3 * length s + 1
enough (more_terms left) s = 3 * length s + 1
enough (more_factors left) s = 3 * length s + 1

unfoldable pub parse : Mode → Reader Expr
parse m s = parse_in (enough m s) m s

unfoldable pub expression : Reader Expr
expression s = parse an_expression s

-- ---- the statement forms

-- v=e, v(s)=e, v(s,s)=e
unfoldable pub assignment : Reader Form
assignment = and_then place (λ t. after equals (and_then expression (λ e. give (assign t e))))

-- GOTOn
unfoldable pub plain_go_to : Reader Form
plain_go_to = after_word word_go_to (and_then number (λ n. give (go_to n)))

unfoldable pub right_exits : List Digits → Bool
right_exits ns = leb limits.fewest_exits (length ns) && leb (length ns) limits.most_exits

-- GOTO(n,..,n),v
unfoldable pub computed_go_to : Reader Form
computed_go_to =
    after_word word_go_to (after left_paren (and_then (listed number) (λ ns. after right_paren
    (after comma (and_then name (λ v. give_if (right_exits ns) (computed ns v)))))))

-- IF(e)n,n,n
unfoldable pub arithmetic_if : Reader Form
arithmetic_if =
    after_word word_if (after left_paren (and_then expression (λ e. after right_paren
    (and_then number (λ below. after comma (and_then number (λ at. after comma (and_then number (λ above. give (ifs e below at above))))))))))

-- an expression that is one c or one v
abbrev pub is_parameter : Expr → Bool
is_parameter (con c) = true
is_parameter (var v) = true
is_parameter (elm v s) = false
is_parameter (neg e) = false
is_parameter (par e) = false
is_parameter (bin o a b) = false

-- A DO's parameter is read as an expression and then tested. No tree keeps a plus that stands first, so it is refused before.
unfoldable pub parameter : Reader Expr
parameter = choose (starts plus_sign) (λ s. bad) (and_then expression (λ e. give_if (is_parameter e) e))

-- DOnv=m,m or DOnv=m,m,m
unfoldable pub do_loop : Reader Form
do_loop =
    after_word word_do (and_then number (λ n. and_then name (λ v. after equals
    (and_then parameter (λ first. after comma (and_then parameter (λ limit.
    choose (starts comma) (after comma (and_then parameter (λ by. give (loop n v first limit (some by)))))
    (give (loop n v first limit none)))))))))

-- v(c) or v(c,c)
unfoldable pub array_shape : Reader Array
array_shape =
    and_then name (λ v. after left_paren (and_then number (λ rows. choose (starts comma)
    (after comma (and_then number (λ columns. after right_paren (give (array v rows (some columns))))))
    (after right_paren (give (array v rows none))))))

-- DIMENSIONv(c),v(c,c)..
unfoldable pub dimensions : Reader Form
dimensions = after_word word_dimension (and_then (listed array_shape) (λ arrays. give (dimension arrays)))

-- ---- what form a text is of

unfoldable pub read_assignment : List ℕ → Option Form
read_assignment = whole assignment

unfoldable pub read_go_to : List ℕ → Option Form
read_go_to = whole plain_go_to

unfoldable pub read_computed : List ℕ → Option Form
read_computed = whole computed_go_to

unfoldable pub read_if : List ℕ → Option Form
read_if = whole arithmetic_if

unfoldable pub read_do : List ℕ → Option Form
read_do = whole do_loop

unfoldable pub read_continue : List ℕ → Option Form
read_continue = whole (after_word word_continue (give continue))

unfoldable pub read_stop : List ℕ → Option Form
read_stop = whole (after_word word_stop (give stop))

unfoldable pub read_end : List ℕ → Option Form
read_end = whole (after_word word_end (give end))

unfoldable pub read_dimension : List ℕ → Option Form
read_dimension = whole dimensions

unfoldable pub present : List (Option Form) → List Form
present [] = []
present (none ∷ others) = present others
present (some f ∷ others) = f ∷ present others

-- every form that the text is of, in 01's order
unfoldable pub readings : List ℕ → List Form
readings s =
    present
    (read_assignment s ∷ read_go_to s ∷ read_computed s ∷ read_if s ∷ read_do s
    ∷ read_continue s ∷ read_stop s ∷ read_end s ∷ read_dimension s ∷ [])

unfoldable pub first_of : List Form → Option Form
first_of [] = none
first_of (f ∷ others) = some f

-- the statement's form; none is refused 10
unfoldable pub form_of : List ℕ → Option Form
form_of s = first_of (readings s)
