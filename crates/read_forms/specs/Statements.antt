-- A statement that was read: what each form gives back, and the words that it leaves in the table of items.
-- Assumes nothing.
use Rattle.std.specs.Prelude.{◌≡◌, ℕ, List, [], ◌∷◌, ◌++◌, map, Bool, ◌&&◌, cond, eqb, length, take, drop, Some, None}
use Rattle.std.specs.Prelude.{Option as Maybe}
use Rattle.std.proofs.Math.Option.{Option, none, some}
use Rattle.rules_text.specs.Trees.{Digits, Expr, con, var, elm, neg, par, bin, Array, array, Form, assign, go_to, computed, ifs, loop, continue, stop, end, dimension, form_names, form_constants, form_levels}
use Rattle.rules_text.specs.Tokens.{comma, word_continue, word_stop, word_end, Reader, give, ahead, and_then, after, all_of, number}
use Rattle.rules_deck.specs.Meaning.{third}
use Rattle.read_cards.specs.declared.Number.{Number}
use Rattle.read_tokens.specs.declared.Sizes.{Sizes}
use Rattle.read_tokens.specs.Words.{capped, name_of, name_words, starts_word}
use Rattle.read_tokens.specs.Sizes.{sizes_of}
use Rattle.read_elements.specs.Values.{target_value}
use Rattle.read_items.specs.Items.{flat, expr_sizes}
use Rattle.read_forms.specs.declared.Parameter.{Parameter}
use Rattle.read_forms.specs.declared.Parameter.TheVariants as parameter
use Rattle.read_forms.specs.declared.Statement.{Statement}
use Rattle.read_forms.specs.declared.Statement.TheVariants as statement

-- ---- the words in the table

-- an array's: 1 or 2 dimensions, its name, rows and columns
unfoldable pub array_words : Array → List ℕ
array_words (array v r none) = 1 ∷ (name_words (name_of v) ++ (capped r ∷ 0 ∷ []))
array_words (array v r (some c)) = 2 ∷ (name_words (name_of v) ++ (capped r ∷ capped c ∷ []))

unfoldable pub all_words : List Array → List ℕ
all_words [] = []
all_words (a ∷ more) = array_words a ++ all_words more

-- an expression's items, a computed GO TO's numbers, a DIMENSION's arrays
unfoldable pub form_words : Form → List ℕ
form_words (assign t e) = flat e
form_words (go_to n) = []
form_words (computed ns v) = map capped ns
form_words (ifs e a b c) = flat e
form_words (loop n v p q r) = []
form_words continue = []
form_words stop = []
form_words end = []
form_words (dimension arrays) = all_words arrays

-- ---- what is given back

abbrev pub as_number : ℕ → Number
as_number n = record { 0 = n }

-- a statement number; 13 is not judged yet
abbrev pub number_value : Digits → Number
number_value n = as_number (capped n)

-- a DO's parameter: the grammar lets no other expression be one
unfoldable pub parameter_value : Expr → Parameter
parameter_value (con c) = parameter.Constant (capped c)
parameter_value (var v) = parameter.Variable (name_of v)
parameter_value (elm v s) = parameter.Constant 0
parameter_value (neg e) = parameter.Constant 0
parameter_value (par e) = parameter.Constant 0
parameter_value (bin o a b) = parameter.Constant 0

unfoldable pub form_sizes : Form → Sizes
form_sizes f = sizes_of (form_names f) (form_constants f) (form_levels f)

unfoldable pub statement_of : Form → Statement
statement_of (assign t e) = statement.Assign (record { target = target_value t; count = length (flat e); sizes = form_sizes (assign t e) })
statement_of (go_to n) = statement.GoTo (number_value n)
statement_of (computed ns v) = statement.Computed (record { exits = length ns; name = name_of v; sizes = form_sizes (computed ns v) })
statement_of (ifs e a b c) =
    statement.If (record { count = length (flat e); below = number_value a; at = number_value b; above = number_value c; sizes = form_sizes (ifs e a b c) })
statement_of (loop n v p q r) =
    statement.Do (record {
      last = number_value n;
      name = name_of v;
      first = parameter_value p;
      limit = parameter_value q;
      by = parameter_value (third r);
      sizes = form_sizes (loop n v p q r);
    })
statement_of continue = statement.Continue
statement_of stop = statement.Stop
statement_of end = statement.End
statement_of (dimension arrays) = statement.Dimension (record { arrays = length arrays; sizes = form_sizes (dimension arrays) })

unfoldable pub answer : Option Form → Maybe Statement
answer none = None
answer (some f) = Some (statement_of f)

unfoldable pub words : Option Form → List ℕ
words none = []
words (some f) = form_words f

-- ---- what readers ensure

-- o is what the book reads, b the table afterwards, whose other words are free, r the answer
pub record Reads (b : List ℕ) (o : Option Form) (r : Maybe Statement) : Type 0 where
  pub says : r ≡ answer o
  pub table : take (length (words o)) b ≡ words o

-- the exits of an IF with the expression e
unfoldable pub exits_of : Expr → Reader Form
exits_of e =
    and_then number (λ below. after comma (and_then number (λ at. after comma (and_then number (λ above. give (ifs e below at above))))))

-- from a place on to the end of the text, after any expression of these sizes whose items are in the table
abbrev pub EndsIf : List ℕ → ℕ → ℕ → Sizes → Maybe Statement → Type 0
EndsIf s from count sizes r =
    (e : Expr) (b : List ℕ) → count ≡ length (flat e) → sizes ≡ expr_sizes e → take (length (flat e)) b ≡ flat e
    → Reads b (all_of (length s) (ahead from (exits_of e (drop from s)))) r

-- ---- the forms that are a word

unfoldable pub only_word : List ℕ → List ℕ → Bool
only_word word s = eqb (length s) (length word) && starts_word word s

unfoldable pub word_form : List ℕ → Option Form
word_form s =
    cond (only_word word_continue s) (some continue) (cond (only_word word_stop s) (some stop) (cond (only_word word_end s) (some end) none))
