-- How many machine steps a deck's statements take: one for each word of their code that is reached. Read off the meaning; no machine occurs here.
-- Assumes nothing.
use Rattle.std.specs.Prelude.{ℕ, zero, suc, ◌+◌, Bool, true, false, List, [], ◌∷◌, ℤ}
use Rattle.std.proofs.Math.Option.{Option, none, some}
use Rattle.std.proofs.Math.ListN.{get_elem?}
use Rattle.number.specs.Number.{Rule}
use Rattle.rules_shared.specs.Runs.{steps_from}
use Rattle.rules_shared.specs.Choose.{all_positive, Turn, again, over, turn}
use Rattle.rules_text.specs.Trees.{Name, Expr, con, var, elm, neg, par, bin, Target, cell, element, Form, assign, go_to, computed, ifs, loop, continue, stop, end, dimension, Statement}
use Rattle.rules_deck.specs.Deck.{Do, endings, dims_of}
use Rattle.rules_deck.specs.Meaning.{plain, element_at, Values, put, Evaluated, val, bad, place_in, eval, Bounds, not_entered, bounds, Standing, enter, third, meaning_step}

-- ---- expressions

-- one more, unless it halted before
abbrev pub and_one : Evaluated → ℕ → ℕ
and_one (val v lost) n = n + 1
and_one (bad h lost) n = n

-- both operands and the operation, or as far as a halt
abbrev pub joined_steps : Evaluated → Evaluated → ℕ → ℕ → ℕ
joined_steps (bad h lost) y a b = a
joined_steps (val v lost) (bad h more) a b = a + b
joined_steps (val v lost) (val w more) a b = a + b + 1

abbrev pub expr_steps : Rule → List Statement → Values → Expr → ℕ
expr_steps r deck env (con c) = 1
expr_steps r deck env (var v) = 1
expr_steps r deck env (elm v s) = 1
expr_steps r deck env (neg e) = and_one (eval r deck env e) (expr_steps r deck env e)
expr_steps r deck env (par e) = expr_steps r deck env e
expr_steps r deck env (bin o a b) = joined_steps (eval r deck env a) (eval r deck env b) (expr_steps r deck env a) (expr_steps r deck env b)

-- ---- statements

-- the ends of DOs that are reached
abbrev pub turned_steps : Turn → ℕ → ℕ
turned_steps (again i) outer = 1
turned_steps over outer = 1 + outer

abbrev pub end_steps : Bounds → Do → Values → ℕ → ℕ
end_steps not_entered d env outer = outer
end_steps (bounds limit step) d env outer = turned_steps (turn (env (plain d.variable)) limit step) outer

abbrev pub finish_steps : List Do → Values → (ℕ → Bounds) → ℕ
finish_steps [] env inside = 0
finish_steps (d ∷ ds) env inside = end_steps (inside d.position) d env (finish_steps ds env inside)

-- n steps were taken before
module _ (deck : List Statement) (ends : List Do) (j : ℕ) (env : Values) (inside : ℕ → Bounds) where
  abbrev pub stored_steps : Name → ℤ → Option ℕ → ℕ → ℕ
  stored_steps v x none n = n + 1
  stored_steps v x (some p) n = n + 1 + finish_steps ends (put env (element_at v p) x) inside

  abbrev pub assigned_steps : Target → Evaluated → ℕ → ℕ
  assigned_steps t (bad h more) n = n
  assigned_steps (cell v) (val x more) n = n + 1 + finish_steps ends (put env (plain v) x) inside
  assigned_steps (element v s) (val x more) n = stored_steps v x (place_in env (dims_of deck v) s) n

  abbrev pub begun_steps : Name → Bool → ℤ → ℤ → ℤ → ℕ → ℕ
  begun_steps v false m₁ m₂ m₃ n = n + 1
  begun_steps v true m₁ m₂ m₃ n = n + 1 + finish_steps ends (put env (plain v) m₁) (enter inside j (bounds m₂ m₃))

  abbrev pub read_steps : Name → Evaluated → Evaluated → Evaluated → ℕ → ℕ → ℕ → ℕ
  read_steps v (bad h more) e₂ e₃ a b c = a
  read_steps v (val m₁ x) (bad h more) e₃ a b c = a + b
  read_steps v (val m₁ x) (val m₂ y) (bad h more) a b c = a + b + c
  read_steps v (val m₁ x) (val m₂ y) (val m₃ z) a b c = begun_steps v (all_positive m₁ m₂ m₃) m₁ m₂ m₃ (a + b + c)

abbrev pub form_steps : Rule → List Statement → List Do → ℕ → Values → (ℕ → Bounds) → Form → ℕ
form_steps r deck ends j env inside (assign t e) = assigned_steps deck ends j env inside t (eval r deck env e) (expr_steps r deck env e)
form_steps r deck ends j env inside (go_to n) = 1
form_steps r deck ends j env inside (computed ns v) = 2
form_steps r deck ends j env inside (ifs e a b c) = and_one (eval r deck env e) (expr_steps r deck env e)
form_steps r deck ends j env inside (loop n v p₁ p₂ p₃) =
    read_steps deck ends j env inside v (eval r deck env p₁) (eval r deck env p₂) (eval r deck env (third p₃)) (expr_steps r deck env p₁) (expr_steps r deck env p₂)
    (expr_steps r deck env (third p₃))
form_steps r deck ends j env inside continue = finish_steps ends env inside
form_steps r deck ends j env inside stop = 1
form_steps r deck ends j env inside end = 1
form_steps r deck ends j env inside (dimension arrays) = finish_steps ends env inside

abbrev pub steps_at : Rule → List Statement → Option Statement → Standing → ℕ
steps_at r deck none m = 0
steps_at r deck (some s) m = form_steps r deck (endings deck s.number) m.at m.values m.entered s.form

-- one statement
unfoldable pub statement_steps : Rule → List Statement → Standing → ℕ
statement_steps r deck m = steps_at r deck (get_elem? deck m.at) m

-- at most n statements
abbrev pub meaning_steps : Rule → List Statement → ℕ → Standing → ℕ
meaning_steps r deck zero m = 0
meaning_steps r deck (suc n) m = statement_steps r deck m + steps_from (meaning_step r deck m) (λ t. meaning_steps r deck n t)
