-- What was read is as the grammar says: every name and every run of digits in a subscript, target or expression; and no = was read.
-- Assumes nothing.
use mathlib.Core.Path.{◌≡◌, refl, sym, subst}
use mathlib.Core.List.{List, [], ◌∷◌, ◌++◌}
use mathlib.Core.Bool.{Bool, true, false, cond}
use mathlib.Core.Option.{Option, some, none}
use Prim.Native.Nat.{ℕ, zero, suc}
use native.Mathlib.Omega.{arith}
use lib.Dec.{eqb}
use borrow.Author.Tests.{eqb-true}
use Rattle.number.specs.Number.{Op}
use Rattle.rules_shared.specs.Lists.{Each, each_none, each_more}
use Rattle.rules_shared.proofs.EachLaws.{each_one, each_append}
use Rattle.rules_text.specs.Trees.{Name, Digits, Addend, Subscript, Subscripts, Expr, neg, par, bin, Target, cell, element, subscript_names, subscripts_names, expr_names, target_names, addend_constants, optional, subscript_constants, subscripts_constants, expr_constants, target_constants}
use Rattle.rules_text.specs.Tokens.{left_paren, right_paren, star, plus_sign, comma, minus_sign, slash, Reader}
use Rattle.rules_text.specs.Grammar.{addend, linear_of, subscript, subscripts, place, operand_of, operand, sign, signed, sum_op, product_op, Mode, an_expression, a_term, a_factor, more_terms, more_factors, joined, more, step, parse_in, enough, parse, expression}
use Rattle.rules_text.specs.Spelling.{IsDigits, IsName}
use Rattle.rules_text.proofs.Readers.{NotEquals, Sound, sound, sound_bad, sound_ahead, Good, good_then, good_give, good_after, good_choose, good_number, good_name}

-- these names and these runs of digits are right
abbrev pub Right : List Name → List Digits → Type 0
Right names digits = Each IsName names × Each IsDigits digits

pub right_join : {n m : List Name} {c d : List Digits} → Right n c → Right m d → Right (n ++ m) (c ++ d)
right_join p q = (each_append p.0 q.0, each_append p.1 q.1)

abbrev pub RightSubscript : Subscript → Type 0
RightSubscript s = Right (subscript_names s) (subscript_constants s)

abbrev pub RightSubscripts : Subscripts → Type 0
RightSubscripts s = Right (subscripts_names s) (subscripts_constants s)

abbrev pub RightTarget : Target → Type 0
RightTarget t = Right (target_names t) (target_constants t)

abbrev pub RightExpr : Expr → Type 0
RightExpr e = Right (expr_names e) (expr_constants e)

-- ---- subscripts and targets

abbrev RightAddend : Addend → Type 0
RightAddend a = Each IsDigits (addend_constants a)

good_addend : Good NotEquals RightAddend addend
unfolding addend
good_addend =
    good_choose _ (good_after plus_sign refl (good_then good_number (λ c q. good_give _ (each_one q))))
    (good_choose _ (good_after minus_sign refl (good_then good_number (λ c q. good_give _ (each_one q)))) (good_give _ each_none))

good_linear : (m : Option Digits) → Each IsDigits (optional m) → Good NotEquals RightSubscript (linear_of m)
unfolding linear_of
good_linear m qm = good_then good_name (λ v qv. good_then good_addend (λ a qa. good_give _ (each_one qv, each_append qm qa)))

good_subscript : Good NotEquals RightSubscript subscript
unfolding subscript
good_subscript =
    good_choose _
    (good_then good_number (λ c q. good_choose _ (good_after star refl (good_linear (some c) (each_one q))) (good_give _ (each_none, each_one q))))
    (good_linear none each_none)

pub good_subscripts : Good NotEquals RightSubscripts subscripts
unfolding subscripts
good_subscripts =
    good_after left_paren refl
    (good_then good_subscript (λ s p. good_choose _
    (good_after comma refl (good_then good_subscript (λ t q. good_after right_paren refl (good_give _ (right_join p q)))))
    (good_after right_paren refl (good_give _ p))))

pub good_place : Good NotEquals RightTarget place
unfolding place
good_place =
    good_then good_name (λ v p. good_choose _
    (good_then good_subscripts (λ s q. good_give _ (each_more p q.0, q.1)))
    (good_give _ (each_one p, each_none)))

-- ---- expressions

right_operand : (t : Target) → RightTarget t → RightExpr (operand_of t)
unfolding operand_of
right_operand (cell v) q = q
right_operand (element v s) q = q

pub good_operand : Good NotEquals RightExpr operand
unfolding operand
good_operand =
    good_choose _ (good_then good_number (λ c q. good_give _ (each_none, each_one q)))
    (good_then good_place (λ t q. good_give _ (right_operand t q)))

abbrev Anything : Bool → Type 0
Anything b = Unit {0}

good_sign : Good NotEquals Anything sign
unfolding sign
good_sign =
    good_choose _ (good_after plus_sign refl (good_give _ tt)) (good_choose _ (good_after minus_sign refl (good_give _ tt)) (good_give _ tt))

-- a byte that is one of two operations
plain_op : (a b : ℕ) (x y : Op) → NotEquals a → NotEquals b → (c : ℕ) (o : Op) → cond (eqb c a) (some x) (cond (eqb c b) (some y) none) ≡ some o → NotEquals c
plain_op a b x y pa pb c o = go (eqb c a) (eqb c b) refl refl
  where
    go : (t u : Bool) → eqb c a ≡ t → eqb c b ≡ u → cond t (some x) (cond u (some y) none) ≡ some o → NotEquals c
    go true u e f q = subst NotEquals (sym (eqb-true c a e)) pa
    go false true e f q = subst NotEquals (sym (eqb-true c b f)) pb
    go false false e f q = cc

-- what holds of every operand and is kept by signs, parentheses and operations
pub record Kept (Q : Expr → Type 0) : Type 0 where
  pub at_operand : Good NotEquals Q operand
  pub at_sign : (e : Expr) → Q e → Q (neg e)
  pub at_parentheses : (e : Expr) → Q e → Q (par e)
  pub at_operation : (o : Op) (a b : Expr) → Q a → Q b → Q (bin o a b)

module _ {Q : Expr → Type 0} (kept : Kept Q) where
  -- it holds of the tree that a mode goes on from
  abbrev pub AtMode : Mode → Type 0
  AtMode an_expression = Unit {0}
  AtMode a_term = Unit {0}
  AtMode a_factor = Unit {0}
  AtMode (more_terms left) = Q left
  AtMode (more_factors left) = Q left

  at_signed : (b : Bool) (e : Expr) → Q e → Q (signed b e)
  unfolding signed
  at_signed true e q = kept.at_sign e q
  at_signed false e q = q

  module _ (go : Mode → Reader Expr) (parts : (m : Mode) → AtMode m → Good NotEquals Q (go m)) where
    good_joined : (part : Mode) (again : Expr → Mode) (left : Expr) → AtMode part → ((e : Expr) → Q e → AtMode (again e)) → Q left
        → (c : ℕ) (s : List ℕ) (o : Option Op) → ((x : Op) → o ≡ some x → NotEquals c)
        → Sound NotEquals Q (c ∷ s) (joined go part again left o s)
    unfolding joined
    good_joined part again left p a q c s none n = sound 0 q (omega arith) each_none
    good_joined part again left p a q c s (some o) n =
        sound_ahead (c ∷ s) 1 _ (omega arith) (each_one (n o refl))
        ((good_then (parts part p) (λ e r. parts (again (bin o left e)) (a (bin o left e) (kept.at_operation o left e q r)))).on s)

    good_more : (op : ℕ → Option Op) → ((c : ℕ) (o : Op) → op c ≡ some o → NotEquals c)
        → (part : Mode) (again : Expr → Mode) (left : Expr) → AtMode part → ((e : Expr) → Q e → AtMode (again e)) → Q left
        → (s : List ℕ) → Sound NotEquals Q s (more go op part again left s)
    unfolding more
    good_more op n part again left p a q [] = sound 0 q (omega arith) each_none
    good_more op n part again left p a q (c ∷ s) = good_joined part again left p a q c s (op c) (n c)

    good_step : (m : Mode) → AtMode m → (s : List ℕ) → Sound NotEquals Q s (step go m s)
    unfolding step sum_op product_op
    good_step an_expression q =
        (good_then good_sign (λ b u. good_then (parts a_term tt) (λ e r. parts (more_terms (signed b e)) (at_signed b e r)))).on
    good_step a_term q = (good_then (parts a_factor tt) (λ e r. parts (more_factors e) r)).on
    good_step a_factor q =
        (good_choose _
        (good_after left_paren refl (good_then (parts an_expression tt) (λ e r. good_after right_paren refl (good_give _ (kept.at_parentheses e r)))))
        kept.at_operand
        ).on
    good_step (more_terms left) q = good_more sum_op (plain_op plus_sign minus_sign _ _ refl refl) a_term more_terms left tt (λ e r. r) q
    good_step (more_factors left) q = good_more product_op (plain_op star slash _ _ refl refl) a_factor more_factors left tt (λ e r. r) q

  good_in : (n : ℕ) (m : Mode) → AtMode m → Good NotEquals Q (parse_in n m)
  unfolding parse_in
  good_in zero m q = record { on = λ s. sound_bad }
  good_in (suc n) m q = record { on = good_step (parse_in n) (good_in n) m q }

  pub good_parse : (m : Mode) → AtMode m → Good NotEquals Q (parse m)
  unfolding parse
  good_parse m q = record { on = λ s. (good_in (enough m s) m q).on s }

right_kept : Kept RightExpr
right_kept =
    record {
      at_operand = good_operand;
      at_sign = λ e q. q;
      at_parentheses = λ e q. q;
      at_operation = λ o a b p q. right_join p q;
    }

pub good_expression : Good NotEquals RightExpr expression
unfolding expression
good_expression = record { on = (good_parse right_kept an_expression tt).on }
