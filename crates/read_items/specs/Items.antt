-- An expression's postfix items as words. An item starts with its operation's number: CON 1, LOD 2, LDE 4, ADD 6, SUB 7, MUL 8, DIV 9, NEG 10.
-- A constant has its value, a name its words, an element the name, how many subscripts, and two subscripts: multiplier, name, sign and addend.
-- Assumes nothing.
use Rattle.std.specs.Prelude.{ℕ, List, [], ◌∷◌, ◌++◌}
use Rattle.number.specs.Number.{Op}
use Rattle.rules_object.specs.Operations.{OP, operation_number}
use Rattle.rules_text.specs.Trees.{Expr, con, var, elm, neg, par, bin, expr_names, expr_constants, levels}
use Rattle.read_tokens.specs.declared.Sizes.{Sizes}
use Rattle.read_tokens.specs.Words.{capped, name_of, name_words}
use Rattle.read_tokens.specs.Sizes.{sizes_of}
use Rattle.read_elements.specs.declared.Subscript.{Subscript}
use Rattle.read_elements.specs.declared.Subscripts.{Subscripts}
use Rattle.read_elements.specs.declared.Target.{Target}
use Rattle.read_elements.specs.declared.Target.TheVariants.{Cell, Element}
use Rattle.read_elements.specs.Values.{subscripts_value}

abbrev pub subscript_words : Subscript → List ℕ
subscript_words w = w.times ∷ (name_words w.name ++ (w.minus ∷ w.addend ∷ []))

abbrev pub subscripts_words : Subscripts → List ℕ
subscripts_words p = p.count ∷ (subscript_words p.first ++ subscript_words p.second)

-- a target as an operand
unfoldable pub target_words : Target → List ℕ
target_words (Cell n) = 2 ∷ name_words n
target_words (Element e) = 4 ∷ (name_words e.name ++ subscripts_words e.subscripts)

abbrev pub op_item : Op → ℕ
op_item o = operation_number (OP o)

-- operands first, left before right
unfoldable pub flat : Expr → List ℕ
flat (con c) = 1 ∷ capped c ∷ []
flat (var v) = 2 ∷ name_words (name_of v)
flat (elm v s) = 4 ∷ (name_words (name_of v) ++ subscripts_words (subscripts_value s))
flat (neg e) = flat e ++ 10 ∷ []
flat (par e) = flat e
flat (bin o a b) = (flat a ++ flat b) ++ op_item o ∷ []

unfoldable pub expr_sizes : Expr → Sizes
expr_sizes e = sizes_of (expr_names e) (expr_constants e) (levels e)
