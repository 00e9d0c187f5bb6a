-- A number's digits from the last to the first, at a line's end; and what stands there then.
-- Assumes nothing.
use mathlib.Core.Path.{◌≡◌, refl, sym, ap, subst, ◌∙◌}
use mathlib.Core.Bool.{Bool}
use mathlib.Core.List.{List, [], ◌∷◌, ◌++◌, append-nil, append_assoc}
use Prim.Native.Nat.{ℕ, zero, suc, ◌+◌, ◌-◌, ◌/◌, ◌%◌, ◌≤◌, ◌<◌}
use native.Mathlib.Omega.{arith}
use borrow.Author.Tests.{le-leb, lt-leb}
use Rattle.std.specs.Prelude.{Option, Some, None}
use lib.ListN.{length, take, drop, get_or, set, replicate, length-append, length-set, length-take, length-drop, length-replicate, replicate-append-replicate, drop_of_length-le}
use lib.Seq.{take_all, take-suc, set_at}
use Rattle.std.proofs.lemmas.Grind.{drop-set_at}
use Rattle.std.specs.Prelude.{◌≤ℤ◌, ◌<ℤ◌}
use Rattle.std.proofs.lemmas.Int.{ints}
use lib.IntN.{ℤ, pos, negsuc, nat_abs}
use Rattle.rules_formats.specs.Fields.{blank, asterisk, numeral_from, numeral, signed, justified, holds, printed}
use Rattle.rules_formats.proofs.Numerals.{numeral_one, numeral_more}
use Rattle.run_fields.specs.Put.{Digits}

-- ---- digits

-- those of `left` are still to stand before `at`
pub record Putting (n left at : ℕ) (before line : List ℕ) : Type 0 where
  pub long : length line ≡ length before
  pub within : at ≤ length before
  pub line_is : line ≡ take at before ++ drop at line
  pub number_is : numeral n ≡ numeral left ++ drop at line

numeral_some : (n : ℕ) → 1 ≤ length (numeral n)
unfolding numeral
numeral_some n = go n (n / 10) n
  where
    go : (more q m : ℕ) → 1 ≤ length (numeral_from more q m)
    go zero q m = omega arith
    go (suc more) zero m = omega arith
    go (suc more) (suc q) m = simp length-append (omega arith)

pub put_start : (n : ℕ) (line : List ℕ) → Putting n n (length line) line line
put_start n line =
    let none : drop (length line) line ≡ [] = drop_of_length-le line (omega arith) in
    record {
      long = refl;
      within = omega arith;
      line_is = sym (rw (none, append-nil) (take_all (length line) line (omega arith)));
      number_is = sym (rw none (append-nil (numeral n)));
    }

module _ (n left at : ℕ) (before line : List ℕ) (p : Putting n left at before line) where
  pub put_no_room : at ≡ 0 → Digits n before line None
  put_no_room e =
      let all : numeral n ≡ numeral left ++ line = rw e at p.number_is in
      (p.long, omega (arith, p.long, ap (length {A = ℕ}) all, length-append (numeral left) line, numeral_some left))

  module _ (some : 0 < at) where
    -- with the next digit
    line_next : set line (at - 1) (48 + left % 10) ≡ take (at - 1) before ++ (48 + left % 10) ∷ drop at line
    line_next =
        let k : ℕ = at - 1 in
        let t : List ℕ = drop at line in
        let h : k < length before = omega (arith, p.within) in
        let e : at ≡ suc k = omega arith in
        ap (λ (l : List ℕ). set l k (48 + left % 10))
        (p.line_is ∙ ap (λ (m : ℕ). take m before ++ t) e ∙ ap (λ (l : List ℕ). l ++ t) (take-suc before k 0 h) ∙ append_assoc (take k before) (get_or before k 0 ∷ []) t)
        ∙ set_at (take k before) (get_or before k 0) t (48 + left % 10) k (omega (arith, length-take k before))

    tail_next : drop (at - 1) (set line (at - 1) (48 + left % 10)) ≡ (48 + left % 10) ∷ drop at line
    tail_next =
        let e : at - 1 + 1 ≡ at = omega arith in
        drop-set_at line (at - 1) (at - 1) (48 + left % 10) refl (omega (arith, p.long, p.within))
        ∙ ap (λ (k : ℕ). (48 + left % 10) ∷ drop k line) e

    pub put_last : left / 10 ≡ 0 → Digits n before (set line (at - 1) (48 + left % 10)) (Some (at - 1))
    put_last e =
        let small : left % 10 ≡ left = omega arith in
        let is : numeral n ≡ (48 + left % 10) ∷ drop at line = p.number_is ∙ ap (λ (l : List ℕ). l ++ drop at line) (numeral_one left (omega arith)) ∙ ap (λ (k : ℕ). (48 + k) ∷ drop at line) (sym small) in
        (omega (arith, ap (length {A = ℕ}) is, length-drop at line, p.long, p.within), line_next ∙ ap (λ (l : List ℕ). take (at - 1) before ++ l) (sym is))

    pub put_next : (left / 10 ≡ 0 → ⊥) → Putting n (left / 10) (at - 1) before (set line (at - 1) (48 + left % 10))
    put_next e =
        record {
          long = length-set line (at - 1) (48 + left % 10) ∙ p.long;
          within = omega (arith, p.within);
          line_is = line_next ∙ ap (λ (l : List ℕ). take (at - 1) before ++ l) (sym tail_next);
          number_is =
              p.number_is
              ∙ ap (λ (l : List ℕ). l ++ drop at line) (numeral_more left (omega arith))
              ∙ append_assoc (numeral (left / 10)) ((48 + left % 10) ∷ []) (drop at line)
              ∙ ap (λ (l : List ℕ). numeral (left / 10) ++ l) (sym tail_next);
        }

-- ---- the field

too_narrow : (w : ℕ) (v : ℤ) → w < length (signed v) → replicate w asterisk ≡ printed w v
unfolding printed holds
too_narrow w v h = sym (ap (λ (b : Bool). justified b w (signed v)) (lt-leb (length (signed v)) w h))

fits : (w : ℕ) (v : ℤ) → length (signed v) ≤ w → replicate (w - length (signed v)) blank ++ signed v ≡ printed w v
unfolding printed holds
fits w v h = sym (ap (λ (b : Bool). justified b w (signed v)) (le-leb (length (signed v)) w h))

front_blank : (i w c : ℕ) → i ≤ w → take i (replicate w c) ≡ replicate i c
front_blank zero w c h = refl
front_blank (suc i) zero c h = absurd (omega arith)
front_blank (suc i) (suc w) c h = ap (λ (l : List ℕ). c ∷ l) (front_blank i w c (omega arith))

signed_below : (v : ℤ) → v <ℤ pos 0 → signed v ≡ 45 ∷ numeral (nat_abs v)
unfolding signed
signed_below (pos n) e = absurd (omega (arith, ints))
signed_below (negsuc n) e = refl

signed_above : (v : ℤ) → pos 0 ≤ℤ v → signed v ≡ numeral (nat_abs v)
unfolding signed
signed_above (pos n) e = refl
signed_above (negsuc n) e = absurd (omega (arith, ints))

module _ (v : ℤ) (w : ℕ) (line : List ℕ) where
  module _ (at : ℕ) (d : Digits (nat_abs v) (replicate w blank) line (Some at)) where
    room : at + length (numeral (nat_abs v)) ≡ w
    room = d.0 ∙ length-replicate w blank

    line_is : line ≡ replicate at blank ++ numeral (nat_abs v)
    line_is = d.1 ∙ ap (λ (l : List ℕ). l ++ numeral (nat_abs v)) (front_blank at w blank (omega (arith, room)))

    pub put_above : pos 0 ≤ℤ v → line ≡ printed w v
    put_above e =
        let s : signed v ≡ numeral (nat_abs v) = signed_above v e in
        let n : at ≡ w - length (signed v) = omega (arith, room, ap (length {A = ℕ}) s) in
        line_is ∙ rw (← s, n) (fits w v (omega (arith, room, ap (length {A = ℕ}) s)))

    pub put_below : v <ℤ pos 0 → 0 < at → set line (at - 1) 45 ≡ printed w v
    put_below e h =
        let k : ℕ = at - 1 in
        let s : signed v ≡ 45 ∷ numeral (nat_abs v) = signed_below v e in
        let one : at ≡ k + 1 = omega arith in
        let n : k ≡ w - length (signed v) = omega (arith, room, ap (length {A = ℕ}) s) in
        ap (λ (x : List ℕ). set x k 45) (line_is ∙ ap (λ (m : ℕ). replicate m blank ++ numeral (nat_abs v)) one ∙ ap (λ (x : List ℕ). x ++ numeral (nat_abs v)) (sym (replicate-append-replicate k 1 blank)) ∙ append_assoc (replicate k blank) (blank ∷ []) (numeral (nat_abs v)))
        ∙ set_at (replicate k blank) blank (numeral (nat_abs v)) 45 k (length-replicate k blank)
        ∙ ap (λ (x : List ℕ). replicate k blank ++ x) (sym s)
        ∙ ap (λ (m : ℕ). replicate m blank ++ signed v) n
        ∙ fits w v (omega (arith, room, ap (length {A = ℕ}) s))

    pub stars_below : v <ℤ pos 0 → at ≡ 0 → replicate w asterisk ≡ printed w v
    stars_below e h = too_narrow w v (omega (arith, room, ap (length {A = ℕ}) (signed_below v e)))

  pub stars : (r : Option ℕ) → ((at : ℕ) → r ≡ Some at → ⊥) → Digits (nat_abs v) (replicate w blank) line r → replicate w asterisk ≡ printed w v
  stars (Some at) other d = absurd (other at refl)
  stars None other d = too_narrow w v (omega (arith, d.1, length-replicate w blank, signed_long v))
    where
      signed_long : (u : ℤ) → length (numeral (nat_abs u)) ≤ length (signed u)
      signed_long (pos n) = omega (arith, ap (length {A = ℕ}) (signed_above (pos n) (omega (arith, ints))))
      signed_long (negsuc n) = omega (arith, ap (length {A = ℕ}) (signed_below (negsuc n) (omega (arith, ints))))

-- the digits of a value on a line that was filled
pub digits_as : {m n : ℕ} {before blanks : List ℕ} (line : List ℕ) (r : Option ℕ) → m ≡ n → before ≡ blanks → Digits m before line r → Digits n blanks line r
digits_as {m} {n} {before} {blanks} line r e b d = subst (λ (o : List ℕ). Digits n o line r) b (subst (λ (k : ℕ). Digits k before line r) e d)

pub long : (n : ℕ) (before line : List ℕ) (r : Option ℕ) → Digits n before line r → length line ≡ length before
long n before line None d = d.0
long n before line (Some at) d = omega (arith, d.0, ap (length {A = ℕ}) d.1, length-append (take at before) (numeral n), length-take at before)
