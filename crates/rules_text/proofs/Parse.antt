-- The laws of the grammar's recursions: `parse` meets `step`, and `listed` its own step, with no bound on the steps.
-- Assumes nothing.
use mathlib.Core.Path.{◌≡◌, refl, ap, ◌∙◌}
use mathlib.Core.List.{List, [], ◌∷◌}
use mathlib.Core.Bool.{Bool, cond}
use mathlib.Core.Option.{Option, some, none}
use Prim.Native.Nat.{ℕ, zero, suc, ◌≤◌, ◌<◌}
use native.Mathlib.Omega.{arith}
use lib.ListN.{length, drop, length-drop}
use lib.Dec.{eqb}
use Rattle.number.specs.Number.{Op}
use Rattle.rules_text.specs.Trees.{Expr, bin}
use Rattle.rules_text.specs.Tokens.{left_paren, comma, Found, found, bad, Reader, give, ahead, follow, and_then, after, choose, starts, listed_up_to, listed}
use Rattle.rules_text.specs.Grammar.{operand, sign, signed, sum_op, product_op, Mode, an_expression, a_term, a_factor, more_terms, more_factors, joined, more, step, parse_in, enough, parse}

-- ---- readers that agree on the rests of a text give the same on the text

module _ {A B : Type 0} where
  pub and_then_cong : (r r' : Reader A) (h h' : A → Reader B) (s : List ℕ) → r s ≡ r' s
      → ((a : A) (k : ℕ) → h a (drop k s) ≡ h' a (drop k s)) → and_then r h s ≡ and_then r' h' s
  unfolding and_then follow
  and_then_cong r r' h h' s p q = ap (λ (o : Found A). follow o h s) p ∙ same (r' s)
    where
      same : (o : Found A) → follow o h s ≡ follow o h' s
      same (found a k) = ap (ahead k) (q a k)
      same bad = refl

module _ {A : Type 0} where
  pub after_cong : (c : ℕ) (r r' : Reader A) (s : List ℕ) → ((x : ℕ) (t : List ℕ) → s ≡ x ∷ t → r t ≡ r' t) → after c r s ≡ after c r' s
  unfolding after
  after_cong c r r' [] h = refl
  after_cong c r r' (x ∷ s) h = ap (λ (o : Found A). cond (eqb x c) (ahead 1 o) bad) (h x s refl)

  pub choose_cong : (test : List ℕ → Bool) (r r' q q' : Reader A) (s : List ℕ) → r s ≡ r' s → q s ≡ q' s → choose test r q s ≡ choose test r' q' s
  unfolding choose
  choose_cong test r r' q q' s e f = ap (λ (o : Found A). cond (test s) o (q s)) e ∙ ap (λ (o : Found A). cond (test s) (r' s) o) f

-- ---- expressions

abbrev Go : Type 0
Go = Mode → Reader Expr

-- two readers of the parts that agree on all that needs fewer steps
abbrev Agree : Go → Go → ℕ → Type 0
Agree go go' b = (m : Mode) (s : List ℕ) → enough m s < b → go m s ≡ go' m s

joined_cong : (go go' : Go) (part : Mode) (again : Expr → Mode) (left : Expr) (o : Option Op) (s : List ℕ) → go part s ≡ go' part s
    → ((e : Expr) (k : ℕ) → go (again e) (drop k s) ≡ go' (again e) (drop k s)) → joined go part again left o s ≡ joined go' part again left o s
unfolding joined
joined_cong go go' part again left none s p q = refl
joined_cong go go' part again left (some o) s p q =
    ap (ahead 1) (and_then_cong (go part) (go' part) _ _ s p (λ e k. q (bin o left e) k))

more_cong : (go go' : Go) (op : ℕ → Option Op) (part : Mode) (again : Expr → Mode) (left : Expr) (s : List ℕ)
    → ((x : ℕ) (t : List ℕ) → s ≡ x ∷ t → (go part t ≡ go' part t) × ((e : Expr) (k : ℕ) → go (again e) (drop k t) ≡ go' (again e) (drop k t)))
    → more go op part again left s ≡ more go' op part again left s
unfolding more
more_cong go go' op part again left [] h = refl
more_cong go go' op part again left (x ∷ s) h = joined_cong go go' part again left (op x) s (h x s refl).0 (h x s refl).1

step_cong : (go go' : Go) (m : Mode) (s : List ℕ) → Agree go go' (enough m s) → step go m s ≡ step go' m s
unfolding step enough
step_cong go go' an_expression s h =
    and_then_cong sign sign _ _ s refl (λ n k.
    and_then_cong (go a_term) (go' a_term) _ _ (drop k s) (h a_term (drop k s) (omega (arith, length-drop k s))) (λ e j.
    h (more_terms (signed n e)) (drop j (drop k s)) (omega (arith, length-drop j (drop k s), length-drop k s))))
step_cong go go' a_term s h =
    and_then_cong (go a_factor) (go' a_factor) _ _ s (h a_factor s (omega arith)) (λ e k. h (more_factors e) (drop k s) (omega (arith, length-drop k s)))
step_cong go go' a_factor s h =
    choose_cong (starts left_paren) _ _ operand operand s
    (after_cong left_paren _ _ s (λ x t e.
    and_then_cong (go an_expression) (go' an_expression) _ _ t (h an_expression t (omega (arith, ap length e))) (λ a k. refl)))
    refl
step_cong go go' (more_terms left) s h =
    more_cong go go' sum_op a_term more_terms left s
    (λ x t e. (h a_term t (omega (arith, ap length e)), λ a k. h (more_terms a) (drop k t) (omega (arith, ap length e, length-drop k t))))
step_cong go go' (more_factors left) s h =
    more_cong go go' product_op a_factor more_factors left s
    (λ x t e. (h a_factor t (omega (arith, ap length e)), λ a k. h (more_factors a) (drop k t) (omega (arith, ap length e, length-drop k t))))

one_needed : (m : Mode) (s : List ℕ) → 1 ≤ enough m s
unfolding enough
one_needed an_expression s = omega arith
one_needed a_term s = omega arith
one_needed a_factor s = omega arith
one_needed (more_terms left) s = omega arith
one_needed (more_factors left) s = omega arith

-- any number of steps that is enough gives the same
same_in : (f g : ℕ) (m : Mode) (s : List ℕ) → enough m s ≤ f → enough m s ≤ g → parse_in f m s ≡ parse_in g m s
unfolding parse_in
same_in zero g m s hf hg = absurd (omega (arith, one_needed m s))
same_in (suc f) zero m s hf hg = absurd (omega (arith, one_needed m s))
same_in (suc f) (suc g) m s hf hg =
    step_cong (parse_in f) (parse_in g) m s (λ m' s' l. same_in f g m' s' (omega arith) (omega arith))

-- THE LAW: `parse` meets the grammar
pub parse_step : (m : Mode) (s : List ℕ) → parse m s ≡ step parse m s
unfolding parse parse_in
parse_step m s =
    same_in (enough m s) (suc (enough m s)) m s (omega arith) (omega arith)
    ∙ step_cong (parse_in (enough m s)) parse m s (λ m' s' l. same_in (enough m s) (enough m' s') m' s' (omega arith) (omega arith))

-- ---- lists

module _ {A : Type 0} where
  -- one, and more of them where a comma follows
  unfoldable pub list_step : Reader A → Reader (List A) → Reader (List A)
  list_step r rest =
      and_then r (λ a. choose (starts comma) (after comma (and_then rest (λ more. give (a ∷ more)))) (give (a ∷ [])))

  list_cong : (r : Reader A) (rest rest' : Reader (List A)) (s : List ℕ) → ((t : List ℕ) → length t < length s → rest t ≡ rest' t)
      → list_step r rest s ≡ list_step r rest' s
  unfolding list_step
  list_cong r rest rest' s h =
      and_then_cong r r _ _ s refl (λ a k.
      choose_cong (starts comma) _ _ _ _ (drop k s)
      (after_cong comma _ _ (drop k s) (λ x t e.
      and_then_cong rest rest' _ _ t (h t (omega (arith, ap length e, length-drop k s))) (λ l j. refl)))
      refl)

  same_list : (f g : ℕ) (r : Reader A) (s : List ℕ) → length s < f → length s < g → listed_up_to f r s ≡ listed_up_to g r s
  unfolding listed_up_to list_step
  same_list zero g r s hf hg = absurd (omega arith)
  same_list (suc f) zero r s hf hg = absurd (omega arith)
  same_list (suc f) (suc g) r s hf hg =
      list_cong r (listed_up_to f r) (listed_up_to g r) s (λ t l. same_list f g r t (omega arith) (omega arith))

  pub listed_step : (r : Reader A) (s : List ℕ) → listed r s ≡ list_step r (listed r) s
  unfolding listed listed_up_to list_step
  listed_step r s =
      list_cong r (listed_up_to (length s) r) (listed r) s (λ t l. same_list (length s) (suc (length t)) r t (omega arith) (omega arith))
