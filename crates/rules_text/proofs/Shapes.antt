-- What was read has the grammar's shape: sums of products of factors, a DO's parameters, 2 to 10 exits.
-- Assumes nothing.
use mathlib.Core.Path.{◌≡◌, refl, subst}
use mathlib.Core.List.{List, [], ◌∷◌}
use mathlib.Core.Bool.{Bool, true, false, cond}
use mathlib.Core.Option.{Option, some, none}
use Prim.Native.Nat.{ℕ, zero, suc}
use native.Mathlib.Omega.{arith}
use lib.ListN.{length}
use lib.Dec.{leb, eqb}
use borrow.Author.Tests.{leb-true}
use Rattle.number.specs.Number.{Op, add, sub, mul, div}
use Rattle.rules_shared.specs.Limits.{limits}
use Rattle.rules_shared.specs.Lists.{Each, each_none, each_more}
use Rattle.rules_shared.proofs.EachLaws.{each_one}
use Rattle.rules_text.specs.Trees.{Expr, bin, Target, Array, Form, continue, stop, end}
use Rattle.rules_text.specs.Tokens.{left_paren, right_paren, plus_sign, comma, minus_sign, equals, word_continue, word_stop, word_end, Reader, give, after_word, name}
use Rattle.rules_text.specs.Grammar.{operand_of, operand, sign, signed, sum_op, product_op, Mode, an_expression, a_term, a_factor, more_terms, more_factors, joined, more, step, parse_in, enough, parse, expression, assignment, plain_go_to, right_exits, computed_go_to, arithmetic_if, parameter, do_loop, array_shape, dimensions, read_assignment, read_go_to, read_computed, read_if, read_do, read_continue, read_stop, read_end, read_dimension, present, readings, first_of, form_of}
use Rattle.rules_text.specs.Shaped.{IsSum, first, minus, plus, less, IsProduct, only, times, over, IsFactor, parens, IsParameter, Shaped}
use Rattle.rules_text.proofs.Readers.{Any, both_true, Sound, sound, sound_bad, sound_ahead, Good, good_then, good_give, good_give_if, good_after, good_word, good_choose, good_listed, good_any, good_number, good_name}
use Rattle.rules_text.proofs.ReadTrees.{good_place}
use Rattle.rules_text.proofs.ReadForms.{is_parameter_lem, whole_good}

abbrev Anything : (A : Type 0) → A → Type 0
Anything A a = Unit {0}

-- ---- expressions

-- what a mode goes on from, and what it gives
abbrev From : Mode → Type 0
From an_expression = Unit {0}
From a_term = Unit {0}
From a_factor = Unit {0}
From (more_terms left) = IsSum left
From (more_factors left) = IsProduct left

abbrev Gives : Mode → Expr → Type 0
Gives an_expression e = IsSum e
Gives a_term e = IsProduct e
Gives a_factor e = IsFactor e
Gives (more_terms left) e = IsSum e
Gives (more_factors left) e = IsProduct e

operand_shape : (t : Target) → IsFactor (operand_of t)
unfolding operand_of
operand_shape (Target.cell v) = IsFactor.name
operand_shape (Target.element v s) = IsFactor.element

good_operand : Good Any IsFactor operand
unfolding operand
good_operand =
    good_choose _ (good_then (good_any good_number) (λ c q. good_give _ IsFactor.constant))
    (good_then (good_any good_place) (λ t q. good_give _ (operand_shape t)))

good_sign : Good Any (Anything Bool) sign
unfolding sign
good_sign =
    good_choose _ (good_after plus_sign tt (good_give _ tt)) (good_choose _ (good_after minus_sign tt (good_give _ tt)) (good_give _ tt))

signed_shape : (b : Bool) (e : Expr) → IsProduct e → IsSum (signed b e)
unfolding signed
signed_shape true e q = minus q
signed_shape false e q = first q

-- an operation between terms, and between factors
sum_shape : (c : ℕ) (left e : Expr) (o : Op) → sum_op c ≡ some o → IsSum left → IsProduct e → IsSum (bin o left e)
unfolding sum_op
sum_shape c left e o = go (eqb c 43) (eqb c 45)
  where
    go : (t u : Bool) → cond t (some add) (cond u (some sub) none) ≡ some o → IsSum left → IsProduct e → IsSum (bin o left e)
    go true u q p r = let x : add ≡ o = cc in subst (λ y. IsSum (bin y left e)) x (plus p r)
    go false true q p r = let x : sub ≡ o = cc in subst (λ y. IsSum (bin y left e)) x (less p r)
    go false false q p r = let z : ◌≡◌ {A = ℕ} 0 1 = cc in absurd (omega arith)

product_shape : (c : ℕ) (left e : Expr) (o : Op) → product_op c ≡ some o → IsProduct left → IsFactor e → IsProduct (bin o left e)
unfolding product_op
product_shape c left e o = go (eqb c 42) (eqb c 47)
  where
    go : (t u : Bool) → cond t (some mul) (cond u (some div) none) ≡ some o → IsProduct left → IsFactor e → IsProduct (bin o left e)
    go true u q p r = let x : mul ≡ o = cc in subst (λ y. IsProduct (bin y left e)) x (times p r)
    go false true q p r = let x : div ≡ o = cc in subst (λ y. IsProduct (bin y left e)) x (over p r)
    go false false q p r = let z : ◌≡◌ {A = ℕ} 0 1 = cc in absurd (omega arith)

module _ (go : Mode → Reader Expr) where
  module _ {P Q : Expr → Type 0} (part : Mode) (again : Expr → Mode) (parts : Good Any P (go part)) (on : (e : Expr) → Q e → Good Any Q (go (again e))) where
    good_joined : (left : Expr) → Q left → (c : ℕ) (s : List ℕ) (o : Option Op) → ((x : Op) → o ≡ some x → (e : Expr) → P e → Q (bin x left e))
        → Sound Any Q (c ∷ s) (joined go part again left o s)
    unfolding joined
    good_joined left q c s none n = sound 0 q (omega arith) each_none
    good_joined left q c s (some o) n =
        sound_ahead (c ∷ s) 1 _ (omega arith) (each_one tt) ((good_then parts (λ e r. on (bin o left e) (n o refl e r))).on s)

    good_more : (op : ℕ → Option Op) (left : Expr) → Q left → ((c : ℕ) (x : Op) → op c ≡ some x → (e : Expr) → P e → Q (bin x left e))
        → (s : List ℕ) → Sound Any Q s (more go op part again left s)
    unfolding more
    good_more op left q n [] = sound 0 q (omega arith) each_none
    good_more op left q n (c ∷ s) = good_joined left q c s (op c) (n c)

  module _ (parts : (m : Mode) → From m → Good Any (Gives m) (go m)) where
    good_step : (m : Mode) → From m → (s : List ℕ) → Sound Any (Gives m) s (step go m s)
    unfolding step
    good_step an_expression q =
        (good_then good_sign (λ b u. good_then (parts a_term tt) (λ e r. parts (more_terms (signed b e)) (signed_shape b e r)))).on
    good_step a_term q = (good_then (parts a_factor tt) (λ e r. parts (more_factors e) (only r))).on
    good_step a_factor q =
        (good_choose _ (good_after left_paren tt (good_then (parts an_expression tt) (λ e r. good_after right_paren tt (good_give _ (parens r))))) good_operand
        ).on
    good_step (more_terms left) q = good_more a_term more_terms (parts a_term tt) (λ e r. parts (more_terms e) r) sum_op left q (λ c x u e r. sum_shape c left e x u q r)
    good_step (more_factors left) q =
        good_more a_factor more_factors (parts a_factor tt) (λ e r. parts (more_factors e) r) product_op left q (λ c x u e r. product_shape c left e x u q r)

good_in : (n : ℕ) (m : Mode) → From m → Good Any (Gives m) (parse_in n m)
unfolding parse_in
good_in zero m q = record { on = λ s. sound_bad }
good_in (suc n) m q = record { on = good_step (parse_in n) (good_in n) m q }

good_expression : Good Any IsSum expression
unfolding expression parse
good_expression = record { on = λ s. (good_in (enough an_expression s) an_expression tt).on s }

-- ---- forms

good_assignment : Good Any Shaped assignment
unfolding assignment
good_assignment = good_then (good_any good_place) (λ t p. good_after equals tt (good_then good_expression (λ e q. good_give _ q)))

good_if : Good Any Shaped arithmetic_if
unfolding arithmetic_if
good_if =
    good_word (each_more tt (each_one tt)) (good_after left_paren tt (good_then good_expression (λ e q. good_after right_paren tt
    (good_then (good_any good_number) (λ a p. good_after comma tt (good_then (good_any good_number) (λ b p'. good_after comma tt
    (good_then (good_any good_number) (λ c p''. good_give _ q)))))))))

good_go_to : Good Any Shaped plain_go_to
unfolding plain_go_to
good_go_to = good_word (each_more tt (each_more tt (each_more tt (each_one tt)))) (good_then (good_any good_number) (λ n q. good_give _ tt))

good_computed : Good Any Shaped computed_go_to
unfolding computed_go_to right_exits
good_computed =
    good_word (each_more tt (each_more tt (each_more tt (each_one tt)))) (good_after left_paren tt (good_then (good_listed tt (good_any good_number)) (λ ns qs.
    good_after right_paren tt (good_after comma tt (good_then (good_any good_name) (λ v q. good_give_if _ _ (λ e.
    let two = both_true (leb limits.fewest_exits (length ns)) (leb (length ns) limits.most_exits) e in
    (leb-true limits.fewest_exits (length ns) two.0, leb-true (length ns) limits.most_exits two.1))))))))

good_parameter : Good Any IsParameter parameter
unfolding parameter
good_parameter = good_choose _ (record { on = λ s. sound_bad }) (good_then good_expression (λ e q. good_give_if _ _ (λ t. is_parameter_lem e t)))

good_do : Good Any Shaped do_loop
unfolding do_loop
good_do =
    good_word (each_more tt (each_one tt)) (good_then (good_any good_number) (λ n qn. good_then (good_any good_name) (λ v qv.
    good_after equals tt (good_then good_parameter (λ p qp. good_after comma tt (good_then good_parameter (λ q qq.
    good_choose _ (good_after comma tt (good_then good_parameter (λ r qr. good_give _ (qp, qq, qr)))) (good_give _ (qp, qq, tt)))))))))

-- the others have no shape
all_any : (w : List ℕ) → Each Any w
all_any [] = each_none
all_any (c ∷ w) = each_more tt (all_any w)

good_bare : (w : List ℕ) (f : Form) → Shaped f → Good Any Shaped (after_word w (give f))
good_bare w f q = good_word (all_any w) (good_give f q)

good_dimensions : Good Any Shaped dimensions
unfolding dimensions array_shape
good_dimensions = good_word (all_any _) (good_then (good_listed tt shape) (λ arrays q. good_give _ tt))
  where
    shape : Good Any (Anything Array) array_shape
    shape =
        good_then (good_any good_name) (λ v q. good_after left_paren tt (good_then (good_any good_number) (λ r p. good_choose _
        (good_after comma tt (good_then (good_any good_number) (λ c p'. good_after right_paren tt (good_give _ tt))))
        (good_after right_paren tt (good_give _ tt)))))

-- ---- the whole text

abbrev IsShaped : Option Form → Type 0
IsShaped o = (f : Form) → o ≡ some f → Shaped f

first_shaped : (os : List (Option Form)) (f : Form) → Each IsShaped os → first_of (present os) ≡ some f → Shaped f
unfolding first_of present
first_shaped [] f each_none e = let clash : ◌≡◌ {A = ℕ} 0 1 = cc in absurd (omega arith)
first_shaped (none ∷ os) f (each_more p ps) e = first_shaped os f ps e
first_shaped (some g ∷ os) f (each_more p ps) e = p f e

pub shaped : (s : List ℕ) (f : Form) → form_of s ≡ some f → Shaped f
unfolding form_of readings read_assignment read_go_to read_computed read_if read_do read_continue read_stop read_end read_dimension
shaped s f e =
    first_shaped _ f
    (each_more (λ g q. (whole_good assignment s g good_assignment q).0)
    (each_more (λ g q. (whole_good plain_go_to s g good_go_to q).0)
    (each_more (λ g q. (whole_good computed_go_to s g good_computed q).0)
    (each_more (λ g q. (whole_good arithmetic_if s g good_if q).0)
    (each_more (λ g q. (whole_good do_loop s g good_do q).0)
    (each_more (λ g q. (whole_good _ s g (good_bare word_continue continue tt) q).0)
    (each_more (λ g q. (whole_good _ s g (good_bare word_stop stop tt) q).0)
    (each_more (λ g q. (whole_good _ s g (good_bare word_end end tt) q).0)
    (each_one (λ g q. (whole_good dimensions s g good_dimensions q).0))))))))))
    e
