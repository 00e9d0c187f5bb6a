-- Numbers of at most k digits, on the stack, in the store and at a DO's end.
-- Assumes nothing.
use mathlib.Core.Path.{◌≡◌, refl, sym, subst}
use mathlib.Core.Bool.{Bool, true, false, not, cond}
use mathlib.Core.List.{List, [], ◌∷◌}
use Prim.Native.Nat.{ℕ, zero, suc, ◌+◌, ◌-◌, ◌≤◌, ◌<◌}
use native.Mathlib.Omega.{arith}
use lib.Dec.{T, ltb, leb→le, ltb→lt, nltb→le}
use lib.ListN.{length, set}
use lib.IntN.{ℤ, pos, negsuc, nat_abs, ◌+ℤ◌, sub_ℕ}
use lib.Signed.{le_z}
use Rattle.number.proofs.Laws.{digits_some}
use Rattle.rules_object.specs.Object.{Object, rule_of}
use Rattle.rules_object.specs.Machine.{cell, top, under}
use Rattle.rules_shared.specs.Choose.{positive, Turn, again, over, turn}
use Rattle.rules_object.specs.Safe.{Within}
use Rattle.rules_shared.specs.Lists.{Each, each_none, each_more}

module _ (o : Object) where
  pub zero_within : Within o (pos 0)
  zero_within = digits_some o.digits

  pub top_within : (s : List ℤ) → Each (Within o) s → Within o (top s)
  top_within [] h = zero_within
  top_within (v ∷ s) (each_more h hs) = h

  pub under_within : (s : List ℤ) → Each (Within o) s → Each (Within o) (under s)
  under_within [] h = each_none
  under_within (v ∷ s) (each_more h hs) = hs

  pub set_within : (c : List ℤ) (a : ℕ) (v : ℤ) → ((b : ℕ) → b < o.cells → Within o (cell c b)) → Within o v → (b : ℕ) → b < o.cells → Within o (cell (set c a v) b)
  set_within c a v h w b l = by c a b (h b l)
    where
      by : (c : List ℤ) (a b : ℕ) → Within o (cell c b) → Within o (cell (set c a v) b)
      by [] a b h = h
      by (z ∷ c) zero zero h = w
      by (z ∷ c) zero (suc b) h = h
      by (z ∷ c) (suc a) zero h = h
      by (z ∷ c) (suc a) (suc b) h = by c a b h

  -- the end of a turn: the sum is exact, and is taken only where the limit allows it
  sub_within : (b a : ℕ) → b < (rule_of o).ceiling → a < (rule_of o).ceiling → Within o (sub_ℕ b a)
  sub_within b a h g = by (ltb b a) (ltb→lt b a) (nltb→le b a)
    where
      by : (t : Bool) → (T t → b < a) → (T (not t) → a ≤ b) → nat_abs (cond t (negsuc (a - suc b)) (pos (b - a))) < (rule_of o).ceiling
      by true f f' = omega (arith, f tt)
      by false f f' = omega arith

  sum_within : (i s l : ℤ) → T (positive s) → Within o i → Within o s → Within o l → T (le_z (i +ℤ s) l) → Within o (i +ℤ s)
  sum_within (pos a) (pos b) (pos c) p hi hs hl t = omega (arith, leb→le (a + b) c t)
  sum_within (negsuc a) (pos b) l p hi hs hl t = sub_within b (suc a) hs hi
  sum_within (pos a) (pos b) (negsuc _) p hi hs hl t = elim t [ ]
  sum_within (pos a) (negsuc _) l p hi hs hl t = elim p [ ]
  sum_within (negsuc a) (negsuc _) l p hi hs hl t = elim p [ ]

  abbrev pub TurnWithin : Turn → Type 0
  TurnWithin (again v) = Within o v
  TurnWithin over = Unit {0}

  pub turn_within : (variable limit step : ℤ) → positive step ≡ true → Within o variable → Within o limit → Within o step → TurnWithin (turn variable limit step)
  unfolding turn
  turn_within i l s p hi hl hs = by (le_z (i +ℤ s) l) (λ t. t)
    where
      by : (d : Bool) → (T d → T (le_z (i +ℤ s) l)) → TurnWithin (cond d (again (i +ℤ s)) over)
      by true q = sum_within i s l (subst T (sym p) tt) hi hs hl (q tt)
      by false q = tt

pub under_length : (s : List ℤ) → length (under s) ≡ length s - 1
under_length [] = refl
under_length (v ∷ s) = omega arith
