-- What is spelled is read back: subscripts, targets, expressions, and each statement form.
-- Assumes nothing.
use mathlib.Core.Path.{◌≡◌, refl, sym, ap, ◌∙◌, subst}
use mathlib.Core.List.{List, [], ◌∷◌, ◌++◌, append_assoc, append-nil}
use mathlib.Core.Bool.{Bool, true, false, ◌&&◌}
use mathlib.Core.Option.{Option, some, none}
use Prim.Native.Nat.{ℕ, suc, ◌+◌, ◌≤◌}
use native.Mathlib.Omega.{arith}
use lib.ListN.{length}
use lib.Dec.{leb, eqb}
use borrow.Author.Tests.{le-leb}
use Rattle.number.specs.Number.{Op, add, sub, mul, div}
use Rattle.rules_shared.specs.Limits.{limits}
use Rattle.rules_object.specs.Check.{is_digit}
use Rattle.rules_shared.specs.Lists.{Each, each_none, each_more}
use Rattle.rules_shared.proofs.EachLaws.{each_head, each_tail, each_left, each_right}
use Rattle.rules_text.specs.Trees.{Name, Digits, Addend, nothing, plus, minus, Subscript, constant, linear, Subscripts, one, two, Expr, con, var, elm, neg, par, bin, Target, cell, element, Array, array, Form, assign, go_to, computed, ifs, loop, continue, stop, end, dimension, addend_constants, subscript_names, subscript_constants, subscripts_names, subscripts_constants}
use Rattle.rules_text.specs.Tokens.{left_paren, right_paren, star, plus_sign, comma, minus_sign, slash, equals, word_go_to, word_if, word_do, word_continue, word_stop, word_end, word_dimension, is_letter_or_digit, found, Reader, give, ahead, and_then, after, choose, starts, starts_digit, number, listed, whole}
use Rattle.rules_text.specs.Grammar.{addend, linear_of, subscript, subscripts, place, operand_of, operand, sign, signed, sum_op, product_op, an_expression, a_term, a_factor, more_terms, more_factors, joined, more, step, parse, expression, assignment, plain_go_to, right_exits, computed_go_to, arithmetic_if, parameter, do_loop, array_shape, dimensions, read_assignment, read_go_to, read_computed, read_if, read_do, read_continue, read_stop, read_end, read_dimension, form_of}
use Rattle.rules_text.specs.Spelling.{spell_addend, spell_subscript, spell_subscripts, spell_target, spell_expr, spell_list, spell_number, spell_array, spell_by, spell_form, IsDigits, IsName, is_name, Words, IsTarget, IsArray, IsNumberOrName, IsBy, Part, a_sum, a_product, a_factor, SpellsPart, first, after_plus, after_minus, added, less, only, times, over, a_number, a_name, element_factor, parens, Spells, an_assignment, a_go_to, a_computed, an_if, a_do_loop, a_continue, a_stop, an_end, a_dimension}
use Rattle.rules_text.proofs.Parse.{parse_step}
use Rattle.rules_text.proofs.OneForm.{form_is}
use Rattle.rules_text.proofs.Takes.{Takes, takes_as, takes_give, takes_give_if, takes_then, takes_both, takes_after, takes_word, takes_yes, takes_no, takes_whole, Clear, clear_none, clear_byte, takes_number, takes_name, no_digit, starts_digit_lem, letter_no_digit, starts_no_digit, number_not, name_not, takes_list}

-- ---- what may follow

-- a subscript: , or )
record EndsSubscript (rest : List ℕ) : Type 0 where
  no_word : Clear is_letter_or_digit rest
  no_plus : starts plus_sign rest ≡ false
  no_minus : starts minus_sign rest ≡ false
  no_star : starts star rest ≡ false

subscript_comma : (rest : List ℕ) → EndsSubscript (comma ∷ rest)
unfolding is_letter_or_digit starts
subscript_comma rest = record { no_word = clear_byte refl; no_plus = refl; no_minus = refl; no_star = refl }

subscript_paren : (rest : List ℕ) → EndsSubscript (right_paren ∷ rest)
unfolding is_letter_or_digit starts
subscript_paren rest = record { no_word = clear_byte refl; no_plus = refl; no_minus = refl; no_star = refl }

-- an operand
record Ends (rest : List ℕ) : Type 0 where
  no_word : Clear is_letter_or_digit rest
  no_paren : starts left_paren rest ≡ false

-- no operation stands first
data NoOp (op : ℕ → Option Op) : List ℕ → Type 0 where
  no_op_none : NoOp op []
  no_op_byte : {c : ℕ} {s : List ℕ} → op c ≡ none → NoOp op (c ∷ s)

-- a product, and a sum
record EndsProduct (rest : List ℕ) : Type 0 where
  operand : Ends rest
  no_factor : NoOp product_op rest

record EndsSum (rest : List ℕ) : Type 0 where
  product : EndsProduct rest
  no_term : NoOp sum_op rest

ends_byte : (c : ℕ) (rest : List ℕ) → is_letter_or_digit c ≡ false → eqb c left_paren ≡ false → Ends (c ∷ rest)
unfolding starts
ends_byte c rest p q = record { no_word = clear_byte p; no_paren = q }

ends_plus : (rest : List ℕ) → EndsProduct (plus_sign ∷ rest)
unfolding is_letter_or_digit product_op
ends_plus rest = record { operand = ends_byte plus_sign rest refl refl; no_factor = no_op_byte refl }

ends_minus : (rest : List ℕ) → EndsProduct (minus_sign ∷ rest)
unfolding is_letter_or_digit product_op
ends_minus rest = record { operand = ends_byte minus_sign rest refl refl; no_factor = no_op_byte refl }

ends_star : (rest : List ℕ) → Ends (star ∷ rest)
unfolding is_letter_or_digit
ends_star rest = ends_byte star rest refl refl

ends_slash : (rest : List ℕ) → Ends (slash ∷ rest)
unfolding is_letter_or_digit
ends_slash rest = ends_byte slash rest refl refl

ends_equals : (rest : List ℕ) → Ends (equals ∷ rest)
unfolding is_letter_or_digit
ends_equals rest = ends_byte equals rest refl refl

ends_paren : (rest : List ℕ) → EndsSum (right_paren ∷ rest)
unfolding is_letter_or_digit product_op sum_op
ends_paren rest = record { product = record { operand = ends_byte right_paren rest refl refl; no_factor = no_op_byte refl }; no_term = no_op_byte refl }

ends_comma : (rest : List ℕ) → EndsSum (comma ∷ rest)
unfolding is_letter_or_digit product_op sum_op
ends_comma rest = record { product = record { operand = ends_byte comma rest refl refl; no_factor = no_op_byte refl }; no_term = no_op_byte refl }

ends_text : EndsSum []
unfolding starts
ends_text = record { product = record { operand = record { no_word = clear_none; no_paren = refl }; no_factor = no_op_none }; no_term = no_op_none }

-- ---- subscripts and targets

takes_addend : (a : Addend) (rest : List ℕ) → Each IsDigits (addend_constants a) → EndsSubscript rest → Takes addend (spell_addend a ++ rest) a rest
unfolding addend starts
takes_addend nothing rest q k = takes_no _ _ k.no_plus (takes_no _ _ k.no_minus (takes_give _ _))
takes_addend (plus c) rest q k =
    takes_yes _ _ refl (takes_after plus_sign (takes_then _ (takes_number c rest (each_head q) (no_digit k.no_word)) (takes_give _ _)))
takes_addend (minus c) rest q k =
    takes_no _ _ refl (takes_yes _ _ refl (takes_after minus_sign (takes_then _ (takes_number c rest (each_head q) (no_digit k.no_word)) (takes_give _ _))))

addend_clear : (a : Addend) (rest : List ℕ) → EndsSubscript rest → Clear is_letter_or_digit (spell_addend a ++ rest)
unfolding is_letter_or_digit
addend_clear nothing rest k = k.no_word
addend_clear (plus c) rest k = clear_byte refl
addend_clear (minus c) rest k = clear_byte refl

takes_linear : (m : Option Digits) (v : Name) (a : Addend) (rest : List ℕ) → IsName v → Each IsDigits (addend_constants a) → EndsSubscript rest
    → Takes (linear_of m) ((v ++ spell_addend a) ++ rest) (linear m v a) rest
unfolding linear_of
takes_linear m v a rest p q k =
    takes_both _ v (spell_addend a) rest (takes_name v _ p (addend_clear a rest k)) (takes_then _ (takes_addend a rest q k) (takes_give _ _))

takes_subscript : (s : Subscript) (rest : List ℕ) → Words (subscript_names s) (subscript_constants s) → EndsSubscript rest
    → Takes subscript (spell_subscript s ++ rest) s rest
unfolding subscript is_letter_or_digit starts
takes_subscript (constant c) rest q k =
    let p = each_head q.1 in
    takes_yes _ _ (starts_digit_lem c rest p) (takes_then _ (takes_number c rest p (no_digit k.no_word)) (takes_no _ _ k.no_star (takes_give _ _)))
takes_subscript (linear none v a) rest q k =
    let p = each_head q.0 in
    takes_no _ _ (ap starts_digit (append_assoc v (spell_addend a) rest) ∙ starts_no_digit v _ p) (takes_linear none v a rest p q.1 k)
takes_subscript (linear (some c) v a) rest q k =
    let p = each_head q.1 in
    takes_yes _ _ (ap starts_digit (append_assoc c (star ∷ v ++ spell_addend a) rest) ∙ starts_digit_lem c _ p)
    (takes_both _ c (star ∷ v ++ spell_addend a) rest (takes_number c _ p (clear_byte refl))
    (takes_yes _ _ refl (takes_after star (takes_linear (some c) v a rest (each_head q.0) (each_tail q.1) k))))

takes_subscripts : (s : Subscripts) (rest : List ℕ) → Words (subscripts_names s) (subscripts_constants s) → Takes subscripts (spell_subscripts s ++ rest) s rest
unfolding subscripts starts
takes_subscripts (one s) rest q =
    takes_after left_paren (takes_both _ (spell_subscript s) (right_paren ∷ []) rest (takes_subscript s _ q (subscript_paren rest))
    (takes_no _ _ refl (takes_after right_paren (takes_give _ _))))
takes_subscripts (two s t) rest q =
    let p : Words (subscript_names s) (subscript_constants s) = (each_left (subscript_names s) (subscript_names t) q.0, each_left (subscript_constants s) (subscript_constants t) q.1) in
    let r : Words (subscript_names t) (subscript_constants t) = (each_right (subscript_names s) (subscript_names t) q.0, each_right (subscript_constants s) (subscript_constants t) q.1) in
    takes_after left_paren (takes_both _ (spell_subscript s) (comma ∷ spell_subscript t ++ right_paren ∷ []) rest (takes_subscript s _ p (subscript_comma _))
    (takes_yes _ _ refl (takes_after comma (takes_both _ (spell_subscript t) (right_paren ∷ []) rest (takes_subscript t _ r (subscript_paren rest))
    (takes_after right_paren (takes_give _ _))))))

subscripts_clear : (s : Subscripts) (rest : List ℕ) → Clear is_letter_or_digit (spell_subscripts s ++ rest)
unfolding is_letter_or_digit
subscripts_clear (one s) rest = clear_byte refl
subscripts_clear (two s t) rest = clear_byte refl

subscripts_open : (s : Subscripts) (rest : List ℕ) → starts left_paren (spell_subscripts s ++ rest) ≡ true
unfolding starts
subscripts_open (one s) rest = refl
subscripts_open (two s t) rest = refl

pub takes_place : (t : Target) (rest : List ℕ) → IsTarget t → Clear is_letter_or_digit rest → starts left_paren rest ≡ false → Takes place (spell_target t ++ rest) t rest
unfolding place
takes_place (cell v) rest q k n = takes_then _ (takes_name v rest (each_head q.0) k) (takes_no _ _ n (takes_give _ _))
takes_place (element v s) rest q k n =
    takes_both _ v (spell_subscripts s) rest (takes_name v _ (each_head q.0) (subscripts_clear s rest))
    (takes_yes _ _ (subscripts_open s rest) (takes_then _ (takes_subscripts s rest (each_tail q.0, q.1)) (takes_give _ _)))

-- ---- expressions

takes_operand : (t : Target) (rest : List ℕ) → IsTarget t → Ends rest → starts_digit (spell_target t ++ rest) ≡ false → Takes operand (spell_target t ++ rest) (operand_of t) rest
unfolding operand
takes_operand t rest q k n = takes_no _ _ n (takes_then _ (takes_place t rest q k.no_word k.no_paren) (takes_give _ _))

-- nothing more is joined
ends_factors : (e : Expr) (rest : List ℕ) → NoOp product_op rest → Takes (parse (more_factors e)) rest e rest
unfolding step more joined
ends_factors e [] no_op_none = record { text = []; is = refl; reads = parse_step (more_factors e) [] }
ends_factors e (c ∷ s) (no_op_byte n) =
    record { text = []; is = refl; reads = parse_step (more_factors e) (c ∷ s) ∙ ap (λ (o : Option Op). joined parse a_factor more_factors e o s) n }

ends_terms : (e : Expr) (rest : List ℕ) → NoOp sum_op rest → Takes (parse (more_terms e)) rest e rest
unfolding step more joined
ends_terms e [] no_op_none = record { text = []; is = refl; reads = parse_step (more_terms e) [] }
ends_terms e (c ∷ s) (no_op_byte n) =
    record { text = []; is = refl; reads = parse_step (more_terms e) (c ∷ s) ∙ ap (λ (o : Option Op). joined parse a_term more_terms e o s) n }

-- a byte is passed
one_ahead : (c : ℕ) (s rest : List ℕ) (e : Expr) (r : Reader Expr) {q : Reader Expr} → r (c ∷ s) ≡ ahead 1 (q s) → Takes q s e rest → Takes r (c ∷ s) e rest
unfolding ahead
one_ahead c s rest e r n p =
    let long : 1 + length p.text ≡ suc (length p.text) = omega arith in
    record { text = c ∷ p.text; is = ap (λ (l : List ℕ). c ∷ l) p.is; reads = n ∙ ap (ahead 1) p.reads ∙ ap (found e) long }

-- an operation, its right side, and what is joined after that
more_factors_lem : (o : Op) (c : ℕ) (a b e : Expr) (s mid rest : List ℕ) → product_op c ≡ some o → Takes (parse a_factor) s b mid
    → Takes (parse (more_factors (bin o a b))) mid e rest → Takes (parse (more_factors a)) (c ∷ s) e rest
unfolding step more joined
more_factors_lem o c a b e s mid rest n p q =
    let both = takes_then (λ right. parse (more_factors (bin o a right))) p q in
    one_ahead c s rest e (parse (more_factors a)) (parse_step (more_factors a) (c ∷ s) ∙ ap (λ (x : Option Op). joined parse a_factor more_factors a x s) n) both

more_terms_lem : (o : Op) (c : ℕ) (a b e : Expr) (s mid rest : List ℕ) → sum_op c ≡ some o → Takes (parse a_term) s b mid
    → Takes (parse (more_terms (bin o a b))) mid e rest → Takes (parse (more_terms a)) (c ∷ s) e rest
unfolding step more joined
more_terms_lem o c a b e s mid rest n p q =
    let both = takes_then (λ right. parse (more_terms (bin o a right))) p q in
    one_ahead c s rest e (parse (more_terms a)) (parse_step (more_terms a) (c ∷ s) ∙ ap (λ (x : Option Op). joined parse a_term more_terms a x s) n) both

takes_parens : (e : Expr) (t rest : List ℕ) → Takes (parse an_expression) (t ++ right_paren ∷ rest) e (right_paren ∷ rest)
    → Takes (parse a_factor) (left_paren ∷ (t ++ right_paren ∷ []) ++ rest) (par e) rest
unfolding step starts
takes_parens e t rest p =
    takes_as (parse_step a_factor _) (takes_yes _ _ refl (takes_after left_paren
    (takes_both _ t (right_paren ∷ []) rest p (takes_after right_paren (takes_give _ _)))))

-- a sum's first term, after its sign
sum_first : (b : Bool) (g t rest rest' : List ℕ) (a e : Expr) → Takes sign (g ++ (t ++ rest)) b (t ++ rest) → Takes (parse a_term) (t ++ rest) a rest
    → Takes (parse (more_terms (signed b a))) rest e rest' → Takes (parse an_expression) (g ++ (t ++ rest)) e rest'
unfolding step
sum_first b g t rest rest' a e p q r = takes_as (parse_step an_expression _) (takes_then _ p (takes_then _ q r))

-- no sign before what a product starts with
abbrev Unsigned : Part → List ℕ → Type 0
Unsigned a_sum t = Unit {0}
Unsigned a_product t = (b : ℕ) (rest : List ℕ) → suc b ≤ 48 → eqb left_paren b ≡ false → starts b (t ++ rest) ≡ false
Unsigned a_factor t = (b : ℕ) (rest : List ℕ) → suc b ≤ 48 → eqb left_paren b ≡ false → starts b (t ++ rest) ≡ false

unsigned : {part : Part} {t : List ℕ} {e : Expr} → SpellsPart part t e → Unsigned part t
unfolding starts
unsigned (first p) = tt
unsigned (after_plus p) = tt
unsigned (after_minus p) = tt
unsigned (added p q) = tt
unsigned (less p q) = tt
unsigned (only f) = unsigned f
unsigned (times {t} {u} p q) = λ b rest l n. ap (starts b) (append_assoc t (star ∷ u) rest) ∙ unsigned p b _ l n
unsigned (over {t} {u} p q) = λ b rest l n. ap (starts b) (append_assoc t (slash ∷ u) rest) ∙ unsigned p b _ l n
unsigned (a_number {c} q) = λ b rest l n. number_not b c rest l q
unsigned (a_name {v} q) = λ b rest l n. name_not b v rest l q
unsigned (element_factor v s q) = λ b rest l n. ap (starts b) (append_assoc v (spell_subscripts s) rest) ∙ name_not b v _ l (each_head q.0)
unsigned (parens p) = λ b rest l n. n

takes_unsigned : {t : List ℕ} {e : Expr} → SpellsPart a_product t e → (rest : List ℕ) → Takes sign (t ++ rest) false (t ++ rest)
unfolding sign
takes_unsigned p rest =
    takes_no _ _ (unsigned p plus_sign rest (omega arith) refl)
    (takes_no _ _ (unsigned p minus_sign rest (omega arith) refl) (takes_give _ _))

takes_plus : (s : List ℕ) → Takes sign (plus_sign ∷ s) false s
unfolding sign starts
takes_plus s = takes_yes _ _ refl (takes_after plus_sign (takes_give _ _))

takes_minus : (s : List ℕ) → Takes sign (minus_sign ∷ s) true s
unfolding sign starts
takes_minus s = takes_no _ _ refl (takes_yes _ _ refl (takes_after minus_sign (takes_give _ _)))

-- the text t spells the tree a: then reading goes on with what follows
abbrev Goes : Part → List ℕ → Expr → Type 0
Goes a_sum t a =
    (e : Expr) (rest rest' : List ℕ) → EndsProduct rest → Takes (parse (more_terms a)) rest e rest' → Takes (parse an_expression) (t ++ rest) e rest'
Goes a_product t a =
    (e : Expr) (rest rest' : List ℕ) → Ends rest → Takes (parse (more_factors a)) rest e rest' → Takes (parse a_term) (t ++ rest) e rest'
Goes a_factor t a = (rest : List ℕ) → Ends rest → Takes (parse a_factor) (t ++ rest) a rest

-- a product that ends
product_reads : (t : List ℕ) {a : Expr} → Goes a_product t a → (rest : List ℕ) → EndsProduct rest → Takes (parse a_term) (t ++ rest) a rest
product_reads t {a} g rest k = g a rest rest k.operand (ends_factors a rest k.no_factor)

goes : {part : Part} {t : List ℕ} {a : Expr} → SpellsPart part t a → Goes part t a
unfolding step signed sum_op product_op operand operand_of
goes (first {t} {e = a} p) = λ e rest rest' k m.
    sum_first false [] t rest rest' a e (takes_unsigned p rest) (product_reads t (goes p) rest k) m
goes (after_plus {t} {e = a} p) = λ e rest rest' k m.
    sum_first false (plus_sign ∷ []) t rest rest' a e (takes_plus _) (product_reads t (goes p) rest k) m
goes (after_minus {t} {e = a} p) = λ e rest rest' k m.
    sum_first true (minus_sign ∷ []) t rest rest' a e (takes_minus _) (product_reads t (goes p) rest k) m
goes (added {t} {u} {a} {b} p q) = λ e rest rest' k m.
    subst (λ (s : List ℕ). Takes (parse an_expression) s e rest') (sym (append_assoc t (plus_sign ∷ u) rest))
    (goes p e (plus_sign ∷ u ++ rest) rest' (ends_plus _)
    (more_terms_lem add plus_sign a b e (u ++ rest) rest rest' refl (product_reads u (goes q) rest k) m))
goes (less {t} {u} {a} {b} p q) = λ e rest rest' k m.
    subst (λ (s : List ℕ). Takes (parse an_expression) s e rest') (sym (append_assoc t (minus_sign ∷ u) rest))
    (goes p e (minus_sign ∷ u ++ rest) rest' (ends_minus _)
    (more_terms_lem sub minus_sign a b e (u ++ rest) rest rest' refl (product_reads u (goes q) rest k) m))
goes (only f) = λ e rest rest' k m. takes_as (parse_step a_term _) (takes_then _ (goes f rest k) m)
goes (times {t} {u} {a} {b} p q) = λ e rest rest' k m.
    subst (λ (s : List ℕ). Takes (parse a_term) s e rest') (sym (append_assoc t (star ∷ u) rest))
    (goes p e (star ∷ u ++ rest) rest' (ends_star _) (more_factors_lem mul star a b e (u ++ rest) rest rest' refl (goes q rest k) m))
goes (over {t} {u} {a} {b} p q) = λ e rest rest' k m.
    subst (λ (s : List ℕ). Takes (parse a_term) s e rest') (sym (append_assoc t (slash ∷ u) rest))
    (goes p e (slash ∷ u ++ rest) rest' (ends_slash _) (more_factors_lem div slash a b e (u ++ rest) rest rest' refl (goes q rest k) m))
goes (a_number {c} q) = λ rest k.
    takes_as (parse_step a_factor _) (takes_no _ _ (number_not left_paren c rest (omega arith) q)
    (takes_yes _ _ (starts_digit_lem c rest q) (takes_then _ (takes_number c rest q (no_digit k.no_word)) (takes_give _ _))))
goes (a_name {v} q) = λ rest k.
    takes_as (parse_step a_factor _) (takes_no _ _ (name_not left_paren v rest (omega arith) q)
    (takes_operand (cell v) rest (each_more q each_none, each_none) k (starts_no_digit v rest q)))
goes (element_factor v s q) = λ rest k.
    let apart = append_assoc v (spell_subscripts s) rest in
    takes_as (parse_step a_factor _) (takes_no _ _ (ap (starts left_paren) apart ∙ name_not left_paren v _ (omega arith) (each_head q.0))
    (takes_operand (element v s) rest q k (ap starts_digit apart ∙ starts_no_digit v _ (each_head q.0))))
goes (parens {t} {e} p) = λ rest k.
    takes_parens e t rest (goes p e (right_paren ∷ rest) (right_paren ∷ rest) (ends_paren rest).product (ends_terms e (right_paren ∷ rest) (ends_paren rest).no_term))

-- AN EXPRESSION'S TEXT IS READ BACK
takes_expression : {t : List ℕ} {e : Expr} → SpellsPart a_sum t e → (rest : List ℕ) → EndsSum rest → Takes expression (t ++ rest) e rest
unfolding expression
takes_expression {t} {e} p rest k = takes_as refl (goes p e rest rest k.product (ends_terms e rest k.no_term))

-- ---- the parts of statements

takes_parameter : (e : Expr) (rest : List ℕ) → IsNumberOrName e → EndsSum rest → Takes parameter (spell_expr e ++ rest) e rest
unfolding parameter
takes_parameter (con c) rest q k = takes_no _ _ (number_not plus_sign c rest (omega arith) q) (takes_then _ (takes_expression (first (only (a_number q))) rest k) (takes_give_if _ _ _ refl))
takes_parameter (var v) rest q k = takes_no _ _ (name_not plus_sign v rest (omega arith) q) (takes_then _ (takes_expression (first (only (a_name q))) rest k) (takes_give_if _ _ _ refl))
takes_parameter (elm v s) rest q k = absurd q
takes_parameter (neg e) rest q k = absurd q
takes_parameter (par e) rest q k = absurd q
takes_parameter (bin o a b) rest q k = absurd q

takes_array : (a : Array) (rest : List ℕ) → IsArray a → Takes array_shape (spell_array a ++ rest) a rest
unfolding array_shape is_letter_or_digit starts
takes_array (array v r none) rest (qv, qr, qc) =
    takes_both _ v (left_paren ∷ r ++ right_paren ∷ []) rest (takes_name v _ qv (clear_byte refl)) (takes_after left_paren
    (takes_both _ r (right_paren ∷ []) rest (takes_number r _ qr (clear_byte refl)) (takes_no _ _ refl (takes_after right_paren (takes_give _ _)))))
takes_array (array v r (some c)) rest (qv, qr, qc) =
    takes_both _ v (left_paren ∷ r ++ (comma ∷ c ++ right_paren ∷ [])) rest (takes_name v _ qv (clear_byte refl)) (takes_after left_paren
    (takes_both _ r (comma ∷ c ++ right_paren ∷ []) rest (takes_number r _ qr (clear_byte refl)) (takes_yes _ _ refl (takes_after comma
    (takes_both _ c (right_paren ∷ []) rest (takes_number c _ (each_head qc) (clear_byte refl)) (takes_after right_paren (takes_give _ _)))))))

-- a name is no more digits
name_clear : (v x y : List ℕ) → IsName v → Clear is_digit ((v ++ x) ++ y)
name_clear (c ∷ s) x y (is_name p ps) = clear_byte (letter_no_digit c p)
name_clear [] x y x3 = elim x3 [ ]

by_ends : (r : Option Expr) → EndsSum (spell_by r ++ [])
by_ends none = ends_text
by_ends (some e) = ends_comma _

right_exits_lem : (ns : List Digits) → limits.fewest_exits ≤ length ns → length ns ≤ limits.most_exits → right_exits ns ≡ true
unfolding right_exits
right_exits_lem ns l m = both (leb limits.fewest_exits (length ns)) (leb (length ns) limits.most_exits) (le-leb _ _ l) (le-leb _ _ m)
  where
    both : (a b : Bool) → a ≡ true → b ≡ true → a && b ≡ true
    both true b e f = f
    both false b e f = e

takes_exits : (ns : List Digits) (rest : List ℕ) → Each IsDigits ns → limits.fewest_exits ≤ length ns
    → Takes (listed number) (spell_list spell_number ns ++ right_paren ∷ rest) ns (right_paren ∷ rest)
unfolding is_letter_or_digit starts
takes_exits [] rest each_none l = absurd (omega arith)
takes_exits (n ∷ ns) rest (each_more q qs) l =
    takes_list spell_number (λ a others p k. takes_number a others p (no_digit k)) n ns (right_paren ∷ rest) q qs (clear_byte refl) refl

-- ---- the statement forms

takes_assignment : (t : Target) (u : List ℕ) (e : Expr) → IsTarget t → SpellsPart a_sum u e → Takes assignment ((spell_target t ++ equals ∷ u) ++ []) (assign t e) []
unfolding assignment
takes_assignment t u e q p =
    let k = ends_equals (u ++ []) in
    takes_both _ (spell_target t) (equals ∷ u) [] (takes_place t _ q k.no_word k.no_paren)
    (takes_after equals (takes_then _ (takes_expression p [] ends_text) (takes_give _ _)))

takes_go_to : (n : Digits) → IsDigits n → Takes plain_go_to ((word_go_to ++ n) ++ []) (go_to n) []
unfolding plain_go_to
takes_go_to n q = takes_word word_go_to (takes_then _ (takes_number n [] q clear_none) (takes_give _ _))

takes_computed : (ns : List Digits) (v : Name) → Each IsDigits ns → limits.fewest_exits ≤ length ns → length ns ≤ limits.most_exits → IsName v
    → Takes computed_go_to (spell_form (computed ns v) ++ []) (computed ns v) []
unfolding computed_go_to
takes_computed ns v qs l m q =
    takes_word word_go_to (takes_after left_paren (takes_both _ (spell_list spell_number ns) (right_paren ∷ comma ∷ v) [] (takes_exits ns _ qs l)
    (takes_after right_paren (takes_after comma (takes_then _ (takes_name v [] q clear_none) (takes_give_if _ _ _ (right_exits_lem ns l m)))))))

takes_if : (u : List ℕ) (e : Expr) (a b c : Digits) → SpellsPart a_sum u e → IsDigits a → IsDigits b → IsDigits c
    → Takes arithmetic_if ((word_if ++ (left_paren ∷ u ++ (right_paren ∷ a ++ (comma ∷ b ++ comma ∷ c)))) ++ []) (ifs e a b c) []
unfolding arithmetic_if is_letter_or_digit
takes_if u e a b c p qa qb qc =
    takes_word word_if (takes_after left_paren (takes_both _ u (right_paren ∷ a ++ (comma ∷ b ++ comma ∷ c)) [] (takes_expression p _ (ends_paren _))
    (takes_after right_paren (takes_both _ a (comma ∷ b ++ comma ∷ c) [] (takes_number a _ qa (clear_byte refl))
    (takes_after comma (takes_both _ b (comma ∷ c) [] (takes_number b _ qb (clear_byte refl))
    (takes_after comma (takes_then _ (takes_number c [] qc clear_none) (takes_give _ _)))))))))

takes_loop : (n : Digits) (v : Name) (p q : Expr) (r : Option Expr) → IsDigits n → IsName v → IsNumberOrName p → IsNumberOrName q → IsBy r
    → Takes do_loop (spell_form (loop n v p q r) ++ []) (loop n v p q r) []
unfolding do_loop is_letter_or_digit starts
takes_loop n v p q r qn qv qp qq qr =
    takes_word word_do (takes_both _ n (v ++ (equals ∷ spell_expr p ++ (comma ∷ spell_expr q ++ spell_by r))) [] (takes_number n _ qn (name_clear v _ [] qv))
    (takes_both _ v (equals ∷ spell_expr p ++ (comma ∷ spell_expr q ++ spell_by r)) [] (takes_name v _ qv (clear_byte refl))
    (takes_after equals (takes_both _ (spell_expr p) (comma ∷ spell_expr q ++ spell_by r) [] (takes_parameter p _ qp (ends_comma _))
    (takes_after comma (takes_both _ (spell_expr q) (spell_by r) [] (takes_parameter q _ qq (by_ends r)) (third r qr)))))))
  where
    third : (x : Option Expr) → IsBy x
        → Takes (choose (starts comma) (after comma (and_then parameter (λ by. give (loop n v p q (some by))))) (give (loop n v p q none))) (spell_by x ++ []) (loop n v p q x) []
    third none h = takes_no _ _ refl (takes_give _ _)
    third (some e) h = takes_yes _ _ refl (takes_after comma (takes_then _ (takes_parameter e [] h ends_text) (takes_give _ _)))

takes_dimension : (a : Array) (others : List Array) → IsArray a → Each IsArray others
    → Takes dimensions (spell_form (dimension (a ∷ others)) ++ []) (dimension (a ∷ others)) []
unfolding dimensions starts
takes_dimension a others q qs =
    takes_word word_dimension (takes_then _ (takes_list spell_array (λ b rest p k. takes_array b rest p) a others [] q qs clear_none refl) (takes_give _ _))

-- ---- the whole text

all_read : (r : Reader Form) (s : List ℕ) (f : Form) → Takes r (s ++ []) f [] → whole r s ≡ some f
all_read r s f p = subst (λ (t : List ℕ). whole r t ≡ some f) (append-nil s) (takes_whole p)

-- WHAT SPELLS A FORM IS READ AS IT
pub read_back : {s : List ℕ} {f : Form} → Spells s f → form_of s ≡ some f
unfolding read_assignment read_go_to read_computed read_if read_do read_continue read_stop read_end read_dimension
read_back (an_assignment {u} {e} t q p) = form_is _ 0 _ (ap some (all_read assignment _ _ (takes_assignment t u e q p)))
read_back (a_go_to n q) = form_is _ 1 _ (ap some (all_read plain_go_to _ _ (takes_go_to n q)))
read_back (a_computed ns v qs l m q) = form_is _ 2 _ (ap some (all_read computed_go_to _ _ (takes_computed ns v qs l m q)))
read_back (an_if {u} {e} a b c p qa qb qc) = form_is _ 3 _ (ap some (all_read arithmetic_if _ _ (takes_if u e a b c p qa qb qc)))
read_back (a_do_loop n v p q r qn qv qp qq qr) = form_is _ 4 _ (ap some (all_read do_loop _ _ (takes_loop n v p q r qn qv qp qq qr)))
read_back a_continue = form_is _ 5 _ (ap some (all_read _ word_continue continue (takes_word word_continue (takes_give _ _))))
read_back a_stop = form_is _ 6 _ (ap some (all_read _ word_stop stop (takes_word word_stop (takes_give _ _))))
read_back an_end = form_is _ 7 _ (ap some (all_read _ word_end end (takes_word word_end (takes_give _ _))))
read_back (a_dimension a others q qs) = form_is _ 8 _ (ap some (all_read dimensions _ _ (takes_dimension a others q qs)))
