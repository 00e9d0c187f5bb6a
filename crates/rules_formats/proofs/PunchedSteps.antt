-- The reader of a FORMAT column by column: `list` is what its column says, with `list` for what follows. The number that closes its recursion is no more seen.
-- Assumes nothing.
use mathlib.Core.Path.{◌≡◌, refl, sym, ap, ◌∙◌}
use mathlib.Core.List.{List, [], ◌∷◌, ◌++◌}
use Prim.Native.Nat.{ℕ, ◌≤◌}
use native.Mathlib.Omega.{arith}
use lib.Dec.{leb}
use lib.ListN.{length, take, drop, length-append, take-append-drop}
use Rattle.rules_formats.specs.Format.{Format, number, skip, text, slash, group}
use Rattle.rules_formats.specs.Punched.{Mark, a_blank, a_comma, a_stroke, a_left, a_right, an_i, an_x, an_h, other, a_digit, mark_of, Found, found, bad, provided, number_from, right_number, Place, first, after_comma, after_slash, after_field, may_field, may_comma, may_slash, before, width_of, group_of, counted, after_count, column, list_up_to, list}
use Rattle.rules_formats.proofs.PunchedTells.{ToldNumber, told_number, number_told, Told, told, told_bad, list_told}
use Rattle.rules_formats.proofs.PunchedTakes.{enough}

shorter : (cs t rest : List ℕ) → cs ≡ t ++ rest → length rest ≤ length cs
shorter cs t rest e = omega (arith, ap length e, length-append t rest)

module _ (n : ℕ) where
  width_same : (k r : ℕ) (cs : List ℕ) (o : Found ℕ) → ToldNumber k cs o → length cs ≤ n → width_of (list_up_to n) r o ≡ width_of list r o
  width_same k r cs (found w _) (told_number t rest e m) l =
      ap (λ (x : Found Format). provided (right_number w) (before (number r w) x)) (enough n after_field rest (omega (arith, shorter cs t rest e)))
  width_same k r cs bad x'' l = elim x'' [ ]

  group_same : (r : ℕ) (cs : List ℕ) → length cs ≤ n → group_of (list_up_to n) r (list_up_to n first cs) ≡ group_of list r (list first cs)
  group_same r cs l = go (list_up_to n first cs) (list_told n first cs) ∙ ap (group_of list r) (enough n first cs l)
    where
      go : (o : Found Format) → Told first cs o → group_of (list_up_to n) r o ≡ group_of list r o
      go (found inner _) (told t rest e s b) = ap (before (group r inner)) (enough n after_field rest (omega (arith, shorter cs t rest e)))
      go bad told_bad = refl

  counted_same : (k : ℕ) (m : Mark) (cs : List ℕ) → length cs ≤ n → counted (list_up_to n) k m cs ≡ counted list k m cs
  counted_same k an_i cs l = width_same 0 k cs (number_from 0 cs) (number_told 0 cs) l
  counted_same k an_x cs l = ap (before (skip k)) (enough n after_field cs l)
  counted_same k an_h cs l =
      ap (λ (x : Found Format). provided (leb k (length cs)) (before (text (take k cs)) x))
      (enough n after_field (drop k cs) (omega (arith, shorter cs (take k cs) (drop k cs) (sym (take-append-drop k cs)))))
  counted_same k a_left cs l = group_same k cs l
  counted_same k a_blank cs l = refl
  counted_same k a_comma cs l = refl
  counted_same k a_stroke cs l = refl
  counted_same k a_right cs l = refl
  counted_same k other cs l = refl
  counted_same k (a_digit d) cs l = refl

  count_same : (k : ℕ) (cs : List ℕ) (o : Found ℕ) → ToldNumber k cs o → length cs ≤ n → after_count (list_up_to n) o ≡ after_count list o
  count_same k cs (found v []) (told_number t rest e m) l = refl
  count_same k cs (found v (c ∷ left)) (told_number t rest e m) l =
      ap (provided (right_number v)) (counted_same v (mark_of c) left (omega (arith, shorter cs t (c ∷ left) e)))
  count_same k cs bad x'' l = elim x'' [ ]

  column_same : (p : Place) (m : Mark) (cs : List ℕ) → length cs ≤ n → column (list_up_to n) p m cs ≡ column list p m cs
  column_same p a_blank cs l = enough n p cs l
  column_same p a_comma cs l = ap (provided (may_comma p)) (enough n after_comma cs l)
  column_same p a_stroke cs l = ap (λ (x : Found Format). provided (may_slash p) (before slash x)) (enough n after_slash cs l)
  column_same p a_right cs l = refl
  column_same p an_i cs l = ap (provided (may_field p)) (width_same 0 1 cs (number_from 0 cs) (number_told 0 cs) l)
  column_same p a_left cs l = ap (provided (may_field p)) (group_same 1 cs l)
  column_same p (a_digit d) cs l = ap (provided (may_field p)) (count_same d cs (number_from d cs) (number_told d cs) l)
  column_same p an_x cs l = refl
  column_same p an_h cs l = refl
  column_same p other cs l = refl

pub list_none : (p : Place) → list p [] ≡ bad
unfolding list
list_none p = refl

pub list_step_lem : (p : Place) (c : ℕ) (cs : List ℕ) → list p (c ∷ cs) ≡ column list p (mark_of c) cs
unfolding list
list_step_lem p c cs = column_same (length cs) p (mark_of c) cs (omega arith)
