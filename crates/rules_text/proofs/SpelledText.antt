-- What was read as a form spells it: subscripts, targets, expressions, each statement form, and so the whole text.
-- Assumes nothing.
use mathlib.Core.Path.{◌≡◌, refl, sym, ap, ◌∙◌, subst}
use mathlib.Core.List.{List, [], ◌∷◌, ◌++◌, append_assoc, append-nil}
use mathlib.Core.Bool.{Bool, true, false, cond}
use mathlib.Core.Option.{Option, some, none}
use Prim.Native.Nat.{ℕ, zero, suc, ◌+◌}
use native.Mathlib.Omega.{arith}
use lib.ListN.{length, drop}
use lib.Dec.{leb, eqb}
use borrow.Author.Tests.{leb-true, eqb-true}
use Rattle.number.specs.Number.{Op, add, sub, mul, div}
use Rattle.rules_shared.specs.Limits.{limits}
use Rattle.rules_shared.specs.Lists.{Each, each_none, each_more}
use Rattle.rules_shared.proofs.EachLaws.{each_head, each_tail, each_one, each_append}
use Rattle.rules_text.specs.Trees.{Name, Digits, Addend, Subscript, linear, Subscripts, Expr, con, var, elm, neg, par, bin, Target, cell, element, Array, Form, assign, go_to, computed, ifs, loop, dimension, addend_constants, subscript_names, subscript_constants, subscripts_names, subscripts_constants}
use Rattle.rules_text.specs.Tokens.{left_paren, right_paren, star, plus_sign, comma, minus_sign, slash, equals, word_go_to, word_if, word_do, word_continue, word_stop, word_end, word_dimension, Found, found, bad, Reader, give_if, ahead, follow, and_then, choose, starts}
use Rattle.rules_text.specs.Grammar.{addend, linear_of, subscript, subscripts, place, operand_of, operand, sign, signed, sum_op, product_op, Mode, an_expression, a_term, a_factor, more_terms, more_factors, joined, more, step, parse_in, enough, parse, expression, assignment, plain_go_to, right_exits, computed_go_to, arithmetic_if, is_parameter, parameter, do_loop, array_shape, dimensions, read_assignment, read_go_to, read_computed, read_if, read_do, read_continue, read_stop, read_end, read_dimension, present, readings, first_of, form_of}
use Rattle.rules_text.specs.Spelling.{spell_addend, spell_subscript, spell_subscripts, spell_target, spell_expr, spell_number, spell_array, spell_by, spell_form, IsDigits, IsName, Words, IsTarget, IsArray, IsNumberOrName, IsBy, a_sum, a_product, a_factor, SpellsPart, first, after_plus, after_minus, added, less, only, times, over, a_number, a_name, element_factor, parens, Spells, an_assignment, a_go_to, a_computed, an_if, a_do_loop, a_continue, a_stop, an_end, a_dimension}
use Rattle.rules_text.proofs.Readers.{both_true}
use Rattle.rules_text.proofs.ReadForms.{clash}
use Rattle.rules_text.proofs.Tells.{Told, told, told_bad, Tells, told_ahead, tells_map, tells_then, tells_give, tells_give_if, tells_last, tells_after, tells_word, tells_choose, tells_whole, tells_number, tells_name, SpelledList, tells_listed}

-- ---- subscripts and targets

-- the text is the spelling, of words
abbrev AddendText : List ℕ → Addend → Type 0
AddendText t a = (t ≡ spell_addend a) × Each IsDigits (addend_constants a)

abbrev SubscriptText : List ℕ → Subscript → Type 0
SubscriptText t s = (t ≡ spell_subscript s) × Words (subscript_names s) (subscript_constants s)

abbrev SubscriptsText : List ℕ → Subscripts → Type 0
SubscriptsText t s = (t ≡ spell_subscripts s) × Words (subscripts_names s) (subscripts_constants s)

abbrev TargetText : List ℕ → Target → Type 0
TargetText t x = (t ≡ spell_target x) × IsTarget x

tells_addend : Tells AddendText addend
unfolding addend
tells_addend =
    tells_choose _ (tells_after plus_sign (tells_last _ tells_number (λ c t q. ((λ i. plus_sign ∷ q.0 i), each_one q.1))))
    (tells_choose _ (tells_after minus_sign (tells_last _ tells_number (λ c t q. ((λ i. minus_sign ∷ q.0 i), each_one q.1))))
    (tells_give _ (refl, each_none)))

tells_linear : (R : List ℕ → Subscript → Type 0) (m : Option Digits)
    → ((v : Name) (a : Addend) (t u : List ℕ) → t ≡ v → IsName v → AddendText u a → R (t ++ u) (linear m v a)) → Tells R (linear_of m)
unfolding linear_of
tells_linear R m f = tells_then tells_name (λ v t p. tells_last _ tells_addend (λ a u q. f v a t u p.0 p.1 q))

tells_subscript : Tells SubscriptText subscript
unfolding subscript
tells_subscript =
    tells_choose _
    (tells_then tells_number (λ c t p. tells_choose _
    (tells_after star (tells_linear _ (some c) (λ v a x y e n q.
    ((λ i. p.0 i ++ (star ∷ e i ++ q.0 i)), (each_one n, each_more p.1 q.1)))))
    (tells_give _ (append-nil t ∙ p.0, (each_none, each_one p.1)))))
    (tells_linear _ none (λ v a x y e n q. ((λ i. e i ++ q.0 i), (each_one n, q.1))))

tells_subscripts : Tells SubscriptsText subscripts
unfolding subscripts
tells_subscripts =
    tells_after left_paren
    (tells_then tells_subscript (λ s t p. tells_choose _
    (tells_after comma (tells_then tells_subscript (λ r u q. tells_after right_paren (tells_give _
    ((λ i. left_paren ∷ p.0 i ++ (comma ∷ q.0 i ++ right_paren ∷ [])), (each_append p.1.0 q.1.0, each_append p.1.1 q.1.1))))))
    (tells_after right_paren (tells_give _ ((λ i. left_paren ∷ p.0 i ++ right_paren ∷ []), p.1)))))

tells_place : Tells TargetText place
unfolding place
tells_place =
    tells_then tells_name (λ v t p. tells_choose _
    (tells_last _ tells_subscripts (λ s u q. ((λ i. p.0 i ++ q.0 i), (each_more p.1 q.1.0, q.1.1))))
    (tells_give _ (append-nil t ∙ p.0, (each_one p.1, each_none))))

-- ---- expressions

operand_spelled : (x : Target) (t : List ℕ) → TargetText t x → SpellsPart a_factor t (operand_of x)
unfolding operand_of
operand_spelled (cell v) t q = subst (λ (w : List ℕ). SpellsPart a_factor w (var v)) (sym q.0) (a_name (each_head q.1.0))
operand_spelled (element v s) t q = subst (λ (w : List ℕ). SpellsPart a_factor w (Expr.elm v s)) (sym q.0) (element_factor v s q.1)

tells_operand : Tells (SpellsPart a_factor) operand
unfolding operand
tells_operand =
    tells_choose _ (tells_last _ tells_number (λ c t q. subst (λ (w : List ℕ). SpellsPart a_factor w (con c)) (sym q.0) (a_number q.1)))
    (tells_last _ tells_place (λ x t q. operand_spelled x t q))

data SignText : List ℕ → Bool → Type 0 where
  no_sign : SignText [] false
  plus_sign_lem : SignText (plus_sign ∷ []) false
  minus_sign_lem : SignText (minus_sign ∷ []) true

tells_sign : Tells SignText sign
unfolding sign
tells_sign =
    tells_choose _ (tells_after plus_sign (tells_give _ plus_sign_lem))
    (tells_choose _ (tells_after minus_sign (tells_give _ minus_sign_lem)) (tells_give _ no_sign))

signed_first : (g t : List ℕ) (b : Bool) (e : Expr) → SignText g b → SpellsPart a_product t e → SpellsPart a_sum (g ++ t) (signed b e)
unfolding signed
signed_first [] t false e no_sign p = first p
signed_first (c ∷ []) t false e plus_sign_lem p = after_plus p
signed_first (c ∷ []) t true e minus_sign_lem p = after_minus p
signed_first [] t true e x4 p = elim x4 [ ]
signed_first (c ∷ (_ ∷ _)) t b e x7 p = elim x7 [ ]

-- an operation between terms, and between factors
sum_spelled : (c : ℕ) (l u : List ℕ) (a b : Expr) (o : Op) → sum_op c ≡ some o → SpellsPart a_sum l a → SpellsPart a_product u b → SpellsPart a_sum (l ++ c ∷ u) (bin o a b)
unfolding sum_op
sum_spelled c l u a b o n p q = go (eqb c plus_sign) (eqb c minus_sign) refl refl n
  where
    go : (x y : Bool) → eqb c plus_sign ≡ x → eqb c minus_sign ≡ y → cond x (some add) (cond y (some sub) none) ≡ some o → SpellsPart a_sum (l ++ c ∷ u) (bin o a b)
    go true y e f m =
        let same : add ≡ o = cc in
        subst (λ (z : ℕ). SpellsPart a_sum (l ++ z ∷ u) (bin o a b)) (sym (eqb-true c plus_sign e)) (subst (λ (z : Op). SpellsPart a_sum (l ++ plus_sign ∷ u) (bin z a b)) same (added p q))
    go false true e f m =
        let same : sub ≡ o = cc in
        subst (λ (z : ℕ). SpellsPart a_sum (l ++ z ∷ u) (bin o a b)) (sym (eqb-true c minus_sign f)) (subst (λ (z : Op). SpellsPart a_sum (l ++ minus_sign ∷ u) (bin z a b)) same (less p q))
    go false false e f m = let clash : ◌≡◌ {A = ℕ} 0 1 = cc in absurd (omega arith)

product_spelled : (c : ℕ) (l u : List ℕ) (a b : Expr) (o : Op) → product_op c ≡ some o → SpellsPart a_product l a → SpellsPart a_factor u b
    → SpellsPart a_product (l ++ c ∷ u) (bin o a b)
unfolding product_op
product_spelled c l u a b o n p q = go (eqb c star) (eqb c slash) refl refl n
  where
    go : (x y : Bool) → eqb c star ≡ x → eqb c slash ≡ y → cond x (some mul) (cond y (some div) none) ≡ some o → SpellsPart a_product (l ++ c ∷ u) (bin o a b)
    go true y e f m =
        let same : mul ≡ o = cc in
        subst (λ (z : ℕ). SpellsPart a_product (l ++ z ∷ u) (bin o a b)) (sym (eqb-true c star e)) (subst (λ (z : Op). SpellsPart a_product (l ++ star ∷ u) (bin z a b)) same (times p q))
    go false true e f m =
        let same : div ≡ o = cc in
        subst (λ (z : ℕ). SpellsPart a_product (l ++ z ∷ u) (bin o a b)) (sym (eqb-true c slash f)) (subst (λ (z : Op). SpellsPart a_product (l ++ slash ∷ u) (bin z a b)) same (over p q))
    go false false e f m = let clash : ◌≡◌ {A = ℕ} 0 1 = cc in absurd (omega arith)

-- what a mode tells; l is the text of what was read before
abbrev ToldAt : Mode → Reader Expr → Type 0
ToldAt an_expression r = Tells (SpellsPart a_sum) r
ToldAt a_term r = Tells (SpellsPart a_product) r
ToldAt a_factor r = Tells (SpellsPart a_factor) r
ToldAt (more_terms left) r = (l : List ℕ) → SpellsPart a_sum l left → Tells (λ u. SpellsPart a_sum (l ++ u)) r
ToldAt (more_factors left) r = (l : List ℕ) → SpellsPart a_product l left → Tells (λ u. SpellsPart a_product (l ++ u)) r

module _ (go : Mode → Reader Expr) where
  module _ (P Q : List ℕ → Expr → Type 0) (part : Mode) (again : Expr → Mode) (parts : Tells Q (go part))
      (on : (e : Expr) (l : List ℕ) → P l e → Tells (λ u. P (l ++ u)) (go (again e))) (left : Expr) (l : List ℕ) (p : P l left) where
    ended : P (l ++ []) left
    ended = subst (λ (w : List ℕ). P w left) (sym (append-nil l)) p

    tells_joined : (c : ℕ) (s : List ℕ) (o : Option Op) → ((x : Op) → o ≡ some x → (e : Expr) (u : List ℕ) → Q u e → P (l ++ c ∷ u) (bin x left e))
        → Told (λ u. P (l ++ u)) (c ∷ s) (joined go part again left o s)
    unfolding joined
    tells_joined c s none n = told 0 [] (c ∷ s) refl refl ended
    tells_joined c s (some o) n = told_ahead (λ u. P (l ++ u)) (c ∷ s) (c ∷ []) s 1 _ refl refl (both.on s)
      where
        both : Tells (λ u. P (l ++ c ∷ u)) (and_then (go part) (λ right. go (again (bin o left right))))
        both =
            tells_then parts (λ e u q.
            tells_map (λ w x. subst (λ (z : List ℕ). P z x) (append_assoc l (c ∷ u) w)) (on (bin o left e) (l ++ c ∷ u) (n o refl e u q)))

    tells_more : (op : ℕ → Option Op) → ((c : ℕ) (x : Op) → op c ≡ some x → (e : Expr) (u : List ℕ) → Q u e → P (l ++ c ∷ u) (bin x left e))
        → Tells (λ u. P (l ++ u)) (more go op part again left)
    unfolding more
    tells_more op n = record { on = each }
      where
        each : (s : List ℕ) → Told (λ u. P (l ++ u)) s (more go op part again left s)
        each [] = told 0 [] [] refl refl ended
        each (c ∷ s) = tells_joined c s (op c) (n c)

  module _ (parts : (m : Mode) → ToldAt m (go m)) where
    tells_step : (m : Mode) → ToldAt m (step go m)
    unfolding step
    tells_step an_expression =
        tells_then tells_sign (λ b g p. tells_then (parts a_term) (λ e t q.
        tells_map (λ u x. subst (λ (z : List ℕ). SpellsPart a_sum z x) (append_assoc g t u)) (parts (more_terms (signed b e)) (g ++ t) (signed_first g t b e p q))))
    tells_step a_term = tells_then (parts a_factor) (λ e t q. parts (more_factors e) t (only q))
    tells_step a_factor =
        tells_choose _ (tells_after left_paren (tells_then (parts an_expression) (λ e t q. tells_after right_paren (tells_give _ (parens q))))) tells_operand
    tells_step (more_terms left) = λ l p.
        tells_more (SpellsPart a_sum) (SpellsPart a_product) a_term more_terms (parts a_term) (λ e w q. parts (more_terms e) w q) left l p sum_op
        (λ c x n e u q. sum_spelled c l u left e x n p q)
    tells_step (more_factors left) = λ l p.
        tells_more (SpellsPart a_product) (SpellsPart a_factor) a_factor more_factors (parts a_factor) (λ e w q. parts (more_factors e) w q) left l p product_op
        (λ c x n e u q. product_spelled c l u left e x n p q)

tells_in : (n : ℕ) (m : Mode) → ToldAt m (parse_in n m)
unfolding parse_in
tells_in zero an_expression = record { on = λ s. told_bad }
tells_in zero a_term = record { on = λ s. told_bad }
tells_in zero a_factor = record { on = λ s. told_bad }
tells_in zero (more_terms left) = λ l p. record { on = λ s. told_bad }
tells_in zero (more_factors left) = λ l p. record { on = λ s. told_bad }
tells_in (suc n) an_expression = record { on = (tells_step (parse_in n) (tells_in n) an_expression).on }
tells_in (suc n) a_term = record { on = (tells_step (parse_in n) (tells_in n) a_term).on }
tells_in (suc n) a_factor = record { on = (tells_step (parse_in n) (tells_in n) a_factor).on }
tells_in (suc n) (more_terms left) = λ l p. record { on = (tells_step (parse_in n) (tells_in n) (more_terms left) l p).on }
tells_in (suc n) (more_factors left) = λ l p. record { on = (tells_step (parse_in n) (tells_in n) (more_factors left) l p).on }

-- AN EXPRESSION THAT WAS READ IS SPELLED BY WHAT IT WAS READ FROM
pub tells_expression : Tells (SpellsPart a_sum) expression
unfolding expression parse
tells_expression = record { on = λ s. (tells_in (enough an_expression s) an_expression).on s }

-- ---- the statement forms

tells_assignment : Tells Spells assignment
unfolding assignment
tells_assignment =
    tells_then tells_place (λ x t p. tells_after equals (tells_last _ tells_expression (λ e u q.
    subst (λ (w : List ℕ). Spells (w ++ equals ∷ u) (assign x e)) (sym p.0) (an_assignment x p.1 q))))

tells_go_to : Tells Spells plain_go_to
unfolding plain_go_to
tells_go_to =
    tells_word Spells word_go_to (tells_last _ tells_number (λ n t p. subst (λ (w : List ℕ). Spells (word_go_to ++ w) (go_to n)) (sym p.0) (a_go_to n p.1)))

computed_from : (ns : List Digits) (v : Name) (t u : List ℕ) → SpelledList IsDigits spell_number t ns → (u ≡ v) × IsName v → right_exits ns ≡ true
    → Spells (word_go_to ++ (left_paren ∷ t ++ right_paren ∷ comma ∷ u)) (computed ns v)
unfolding right_exits
computed_from ns v t u p q e =
    let both = both_true (leb limits.fewest_exits (length ns)) (leb (length ns) limits.most_exits) e in
    let is : word_go_to ++ (left_paren ∷ t ++ right_paren ∷ comma ∷ u) ≡ spell_form (computed ns v) = (λ i. word_go_to ++ (left_paren ∷ p.0 i ++ right_paren ∷ comma ∷ q.0 i)) in
    subst (λ (w : List ℕ). Spells w (computed ns v)) (sym is)
    (a_computed ns v p.1 (leb-true limits.fewest_exits (length ns) both.0) (leb-true (length ns) limits.most_exits both.1) q.1)

tells_computed : Tells Spells computed_go_to
unfolding computed_go_to
tells_computed =
    tells_word Spells word_go_to (tells_after left_paren (tells_then (tells_listed spell_number tells_number) (λ ns t p.
    tells_after right_paren (tells_after comma (tells_then tells_name (λ v u q. tells_give_if _ _ (λ e.
    subst (λ (w : List ℕ). Spells (word_go_to ++ (left_paren ∷ t ++ right_paren ∷ comma ∷ w)) (computed ns v)) (sym (append-nil u)) (computed_from ns v t u p q e))))))))

if_from : (e : Expr) (a b c : Digits) (u x y z : List ℕ) → SpellsPart a_sum u e → (x ≡ a) × IsDigits a → (y ≡ b) × IsDigits b → (z ≡ c) × IsDigits c
    → Spells (word_if ++ (left_paren ∷ u ++ (right_paren ∷ x ++ (comma ∷ y ++ comma ∷ z)))) (ifs e a b c)
if_from e a b c u x y z p qa qb qc =
    let is : word_if ++ (left_paren ∷ u ++ (right_paren ∷ x ++ (comma ∷ y ++ comma ∷ z))) ≡ word_if ++ (left_paren ∷ u ++ (right_paren ∷ a ++ (comma ∷ b ++ comma ∷ c))) =
    (λ i. word_if ++ (left_paren ∷ u ++ (right_paren ∷ qa.0 i ++ (comma ∷ qb.0 i ++ comma ∷ qc.0 i))))
    in
    subst (λ (w : List ℕ). Spells w (ifs e a b c)) (sym is) (an_if a b c p qa.1 qb.1 qc.1)

tells_if : Tells Spells arithmetic_if
unfolding arithmetic_if
tells_if =
    tells_word Spells word_if (tells_after left_paren (tells_then tells_expression (λ e u p. tells_after right_paren
    (tells_then tells_number (λ a x qa. tells_after comma (tells_then tells_number (λ b y qb. tells_after comma
    (tells_last _ tells_number (λ c z qc. if_from e a b c u x y z p qa qb qc)))))))))

abbrev ParameterText : List ℕ → Expr → Type 0
ParameterText t e = (t ≡ spell_expr e) × IsNumberOrName e

-- one c or v with no plus before it is its own text
alone : (e : Expr) (t rest : List ℕ) → SpellsPart a_sum t e → is_parameter e ≡ true → starts plus_sign (t ++ rest) ≡ false → ParameterText t e
unfolding starts
alone (con c) t rest (first (only (a_number q))) i n = (refl, q)
alone (con c) t rest (after_plus p) i n = absurd (clash (sym n))
alone (var v) t rest (first (only (a_name q))) i n = (refl, q)
alone (var v) t rest (after_plus p) i n = absurd (clash (sym n))
alone (elm v s) t rest p i n = absurd (clash i)
alone (neg e) t rest p i n = absurd (clash i)
alone (par e) t rest p i n = absurd (clash i)
alone (bin o a b) t rest p i n = absurd (clash i)

tells_parameter : Tells ParameterText parameter
unfolding parameter choose and_then follow give_if ahead
tells_parameter = record { on = λ s. unsigned s (starts plus_sign s) refl }
  where
    tested : (s t rest : List ℕ) (e : Expr) (k : ℕ) → s ≡ t ++ rest → k ≡ length t → SpellsPart a_sum t e → starts plus_sign s ≡ false
        → (b : Bool) → is_parameter e ≡ b → Told ParameterText s (ahead k (give_if b e (drop k s)))
    tested s t rest e k is l p n true i = told (k + 0) t rest is (omega arith) (alone e t rest p i (ap (starts plus_sign) (sym is) ∙ n))
    tested s t rest e k is l p n false i = told_bad

    read : (s : List ℕ) (o : Found Expr) → starts plus_sign s ≡ false → Told (SpellsPart a_sum) s o → Told ParameterText s (follow o (λ e. give_if (is_parameter e) e) s)
    read s (found e _) n (told k t rest is l p) = tested s t rest e k is l p n (is_parameter e) refl
    read s bad n told_bad = told_bad

    unsigned : (s : List ℕ) (b : Bool) → starts plus_sign s ≡ b → Told ParameterText s (cond b bad (and_then expression (λ e. give_if (is_parameter e) e) s))
    unsigned s true n = told_bad
    unsigned s false n = read s (expression s) n (tells_expression.on s)

loop_from : (n : Digits) (v : Name) (p q : Expr) (r : Option Expr) (t u x y z : List ℕ) → (t ≡ n) × IsDigits n → (u ≡ v) × IsName v
    → ParameterText x p → ParameterText y q → (z ≡ spell_by r) × IsBy r
    → Spells (word_do ++ (t ++ (u ++ (equals ∷ x ++ (comma ∷ y ++ z))))) (loop n v p q r)
loop_from n v p q r t u x y z qn qv qp qq qr =
    let is : word_do ++ (t ++ (u ++ (equals ∷ x ++ (comma ∷ y ++ z)))) ≡ spell_form (loop n v p q r) =
    (λ i. word_do ++ (qn.0 i ++ (qv.0 i ++ (equals ∷ qp.0 i ++ (comma ∷ qq.0 i ++ qr.0 i)))))
    in
    subst (λ (w : List ℕ). Spells w (loop n v p q r)) (sym is) (a_do_loop n v p q r qn.1 qv.1 qp.1 qq.1 qr.1)

tells_do : Tells Spells do_loop
unfolding do_loop
tells_do =
    tells_word Spells word_do (tells_then tells_number (λ n t qn. tells_then tells_name (λ v u qv. tells_after equals
    (tells_then tells_parameter (λ p x qp. tells_after comma (tells_then tells_parameter (λ q y qq. tells_choose _
    (tells_after comma (tells_last _ tells_parameter (λ r z qr. loop_from n v p q (some r) t u x y (comma ∷ z) qn qv qp qq ((λ i. comma ∷ qr.0 i), qr.1))))
    (tells_give _ (loop_from n v p q none t u x y [] qn qv qp qq (refl, tt))))))))))

tells_array : Tells (λ t a. (t ≡ spell_array a) × IsArray a) array_shape
unfolding array_shape
tells_array =
    tells_then tells_name (λ v t qv. tells_after left_paren (tells_then tells_number (λ r u qr. tells_choose _
    (tells_after comma (tells_then tells_number (λ c x qc. tells_after right_paren (tells_give _
    ((λ i. qv.0 i ++ (left_paren ∷ qr.0 i ++ (comma ∷ qc.0 i ++ right_paren ∷ []))), (qv.1, qr.1, each_one qc.1))))))
    (tells_after right_paren (tells_give _ ((λ i. qv.0 i ++ (left_paren ∷ qr.0 i ++ right_paren ∷ [])), (qv.1, qr.1, each_none)))))))

dimension_from : (arrays : List Array) (t : List ℕ) → SpelledList IsArray spell_array t arrays → Spells (word_dimension ++ t) (dimension arrays)
dimension_from [] t p = absurd p.2
dimension_from (a ∷ others) t p =
    subst (λ (w : List ℕ). Spells (word_dimension ++ w) (dimension (a ∷ others))) (sym p.0) (a_dimension a others (each_head p.1) (each_tail p.1))

tells_dimensions : Tells Spells dimensions
unfolding dimensions
tells_dimensions = tells_word Spells word_dimension (tells_last _ (tells_listed spell_array tells_array) (λ arrays t p. dimension_from arrays t p))

-- ---- the whole text

abbrev SpelledBy : List ℕ → Option Form → Type 0
SpelledBy s o = (f : Form) → o ≡ some f → Spells s f

first_spelled : (s : List ℕ) (os : List (Option Form)) (f : Form) → Each (SpelledBy s) os → first_of (present os) ≡ some f → Spells s f
unfolding first_of present
first_spelled s [] f each_none e =
    let clash : ◌≡◌ {A = ℕ} 0 1 = cc in
    absurd (omega arith)
first_spelled s (none ∷ os) f (each_more p ps) e = first_spelled s os f ps e
first_spelled s (some g ∷ os) f (each_more p ps) e = p f e

-- WHAT WAS READ AS A FORM SPELLS IT
pub read_spells : (s : List ℕ) (f : Form) → form_of s ≡ some f → Spells s f
unfolding form_of readings read_assignment read_go_to read_computed read_if read_do read_continue read_stop read_end read_dimension
read_spells s f e =
    first_spelled s _ f
    (each_more (λ g q. tells_whole assignment s g tells_assignment q)
    (each_more (λ g q. tells_whole plain_go_to s g tells_go_to q)
    (each_more (λ g q. tells_whole computed_go_to s g tells_computed q)
    (each_more (λ g q. tells_whole arithmetic_if s g tells_if q)
    (each_more (λ g q. tells_whole do_loop s g tells_do q)
    (each_more (λ g q. tells_whole _ s g (tells_word Spells word_continue (tells_give _ a_continue)) q)
    (each_more (λ g q. tells_whole _ s g (tells_word Spells word_stop (tells_give _ a_stop)) q)
    (each_more (λ g q. tells_whole _ s g (tells_word Spells word_end (tells_give _ an_end)) q)
    (each_one (λ g q. tells_whole dimensions s g tells_dimensions q))))))))))
    e
