-- A number's run, column by column.
-- Assumes nothing.
use mathlib.Core.Path.{◌≡◌, refl, sym, ap, ◌∙◌, subst}
use mathlib.Core.Bool.{Bool, true, false, ◌&&◌, ◌||◌, cond}
use mathlib.Core.List.{List, ◌∷◌}
use Prim.Native.Nat.{ℕ, ◌+◌, ◌-◌, ◌*◌, ◌≤◌, ◌<◌}
use native.Mathlib.Numerals.{add-one}
use native.Mathlib.Omega.{arith}
use Rattle.std.proofs.lemmas.Bool.Decides.{nat_tests}
use borrow.Author.Tests.{le-leb, lt-leb, eq-eqb, ne_eqb}
use lib.Dec.{leb}
use lib.ListN.{length, drop, get_or, drop_of_length-le}
use lib.Seq.{drop-cons}
use Rattle.rules_formats.specs.Fields.{is_blank, is_digit}
use Rattle.rules_formats.specs.Punched.{found, grown, number_from, right_number}
use Rattle.read_formats.specs.declared.Run.{Run}
use Rattle.std.specs.Prelude.{Option, Some, None}
use Rattle.read_formats.specs.Reads.{Capped, exact, large, Grown, run_of, Counts}

-- the column at i, and those after it
pub split : (s : List ℕ) (i : ℕ) → i < length s → drop i s ≡ get_or s i 0 ∷ drop (i + 1) s
split s i h = drop-cons s i 0 h ∙ ap (λ (k : ℕ). get_or s i 0 ∷ drop k s) (sym (add-one i))

-- ---- columns of a run

pub blank_run : (c : ℕ) → c ≡ 32 → true ≡ is_blank c || is_digit c
blank_run c e = sym (ap (λ (b : Bool). b || is_digit c) (eq-eqb c 32 e))

pub no_run : (c : ℕ) → (c ≡ 32 → ⊥) → c < 48 → false ≡ is_blank c || is_digit c
no_run c n h = sym (ap (λ (b : Bool). b || is_digit c) (ne_eqb c 32 n) ∙ ap (λ (b : Bool). b && leb c 57) (lt-leb 48 c h))

pub digit_run_lem : (c : ℕ) → (c ≡ 32 → ⊥) → 48 ≤ c → leb c 57 ≡ is_blank c || is_digit c
digit_run_lem c n h = sym (ap (λ (b : Bool). b || is_digit c) (ne_eqb c 32 n) ∙ ap (λ (b : Bool). b && leb c 57) (le-leb 48 c h))

low_is_blank : (c : ℕ) → is_blank c || is_digit c ≡ true → c < 48 → is_blank c ≡ true
low_is_blank c e h = go (is_blank c) refl
  where
    go : (b : Bool) → is_blank c ≡ b → b ≡ true
    go true p = refl
    go false p = sym (ap (λ (b : Bool). b && leb c 57) (lt-leb 48 c h)) ∙ sym (ap (λ (b : Bool). b || is_digit c) p) ∙ e

pub grown_blank : (n c : ℕ) → n ≤ 100000 → is_blank c || is_digit c ≡ true → c < 48 → Grown n c n
grown_blank n c l e h =
    record {
      low = l;
      is = λ v k. subst (λ (x : ℕ). Capped x n) (sym (ap (λ (b : Bool). cond b v (v * 10 + (c - 48))) (low_is_blank c e h))) k;
    }

grown_digit : (v c : ℕ) → 48 ≤ c → grown v c ≡ v * 10 + (c - 48)
grown_digit v c h = ap (λ (b : Bool). cond b v (v * 10 + (c - 48))) (ne_eqb c 32 (λ e. omega arith))

pub grown_over : (n c d r : ℕ) → n ≤ 100000 → 48 ≤ c → d + 48 ≡ c → 99999 < n * 10 + d → r ≡ 100000 → Grown n c r
grown_over n c d r l h e g f = record { low = omega (arith, f); is = λ v k. subst (λ (x : ℕ). Capped x r) (sym (grown_digit v c h)) (go v k) }
  where
    go : (v : ℕ) → Capped v n → Capped (v * 10 + (c - 48)) r
    go v (exact k q) = large (omega arith) f
    go v (large k q) = large (omega arith) f

pub grown_fits : (n c d : ℕ) → n ≤ 100000 → 48 ≤ c → d + 48 ≡ c → n * 10 + d ≤ 99999 → Grown n c (n * 10 + d)
grown_fits n c d l h e g = record { low = omega arith; is = λ v k. subst (λ (x : ℕ). Capped x (n * 10 + d)) (sym (grown_digit v c h)) (go v k) }
  where
    go : (v : ℕ) → Capped v n → Capped (v * 10 + (c - 48)) (n * 10 + d)
    go v (exact k q) = exact (omega arith) (omega arith)
    go v (large k q) = absurd (omega arith)

-- ---- the run

at_least : (v : ℕ) → right_number v ≡ true → 1 ≤ v
at_least v e = grind (arith, nat_tests)

at_most : (v : ℕ) → right_number v ≡ true → v ≤ 99999
at_most v e = grind (arith, nat_tests)

same_run : (w v i : ℕ) → Capped w v → run_of v i ≡ run_of w i
same_run w v i (exact l q) = ap (λ (x : ℕ). run_of x i) q
same_run w v i (large l q) = rw (q, lt-leb w 99999 l, le-leb 1 w (omega arith)) refl

pub record Counting (columns : List ℕ) (at n v i : ℕ) : Type 0 where
  pub w : ℕ
  pub capped : Capped w v
  pub small : v ≤ 100000
  pub is : number_from n (drop at columns) ≡ number_from w (drop i columns)
  pub onward : at ≤ i
  pub within : i ≤ length columns

pub counting_start : (columns : List ℕ) (at n : ℕ) → n ≤ 99999 → at ≤ length columns → Counting columns at n n at
counting_start columns at n l h = record { w = n; capped = exact l refl; small = omega arith; is = refl; onward = omega arith; within = h }

stops : (w c : ℕ) (cs : List ℕ) → is_blank c || is_digit c ≡ false → number_from w (c ∷ cs) ≡ found w (c ∷ cs)
stops w c cs e = ap (λ (b : Bool). cond b (number_from (grown w c) cs) (found w (c ∷ cs))) e

goes : (w c : ℕ) (cs : List ℕ) → is_blank c || is_digit c ≡ true → number_from w (c ∷ cs) ≡ number_from (grown w c) cs
goes w c cs e = ap (λ (b : Bool). cond b (number_from (grown w c) cs) (found w (c ∷ cs))) e

module _ (columns : List ℕ) (at n v i : ℕ) (k : Counting columns at n v i) where
  pub counting_more : i < length columns → is_blank (get_or columns i 0) || is_digit (get_or columns i 0) ≡ true → (r : ℕ) → Grown v (get_or columns i 0) r → Counting columns at n r (i + 1)
  counting_more h e r g =
      record {
        w = grown k.w (get_or columns i 0);
        capped = g.is k.w k.capped;
        small = g.low;
        is = k.is ∙ ap (number_from k.w) (split columns i h) ∙ goes k.w (get_or columns i 0) (drop (i + 1) columns) e;
        onward = omega (arith, k.onward);
        within = omega arith;
      }

  done : number_from k.w (drop i columns) ≡ found k.w (drop i columns) → Counts columns at n (run_of v i)
  done e = record { v = k.w; end = i; is = k.is ∙ e; onward = k.onward; within = k.within; told = same_run k.w v i k.capped }

  pub counted_stop : i < length columns → is_blank (get_or columns i 0) || is_digit (get_or columns i 0) ≡ false → Counts columns at n (run_of v i)
  counted_stop h e = done (ap (number_from k.w) (split columns i h) ∙ stops k.w (get_or columns i 0) (drop (i + 1) columns) e ∙ ap (found k.w) (sym (split columns i h)))

  pub counted_end : length columns ≤ i → Counts columns at n (run_of v i)
  counted_end h = done (ap (number_from k.w) (drop_of_length-le columns h) ∙ ap (found k.w) (sym (drop_of_length-le columns h)))

-- ---- what a number's run tells

-- there is one
pub record Counted (columns : List ℕ) (at n : ℕ) (r : Run) : Type 0 where
  pub is : number_from n (drop at columns) ≡ found r.value (drop r.at columns)
  pub onward : at ≤ r.at
  pub within : r.at ≤ length columns
  pub right : right_number r.value ≡ true
  pub least : 1 ≤ r.value
  pub most : r.value ≤ 99999

module _ (columns : List ℕ) (at n : ℕ) where
  pub counted_some : (r : Run) → Counts columns at n (Some r) → Counted columns at n r
  counted_some r k = go (right_number k.v) refl k.told
    where
      go : (b : Bool) → right_number k.v ≡ b → ◌≡◌ {A = Option Run} (Some r) (cond b (Some (record { value = k.v; at = k.end })) None) → Counted columns at n r
      go true q e =
          let same : r ≡ record { value = k.v; at = k.end } = cc e in
          subst (Counted columns at n) (sym same) (record { is = k.is; onward = k.onward; within = k.within; right = q; least = at_least k.v q; most = at_most k.v q })
      go false q e = cc e

  pub counted_none : (k : Counts columns at n None) → right_number k.v ≡ false
  counted_none k = go (right_number k.v) refl k.told
    where
      go : (b : Bool) → right_number k.v ≡ b → ◌≡◌ {A = Option Run} None (cond b (Some (record { value = k.v; at = k.end })) None) → right_number k.v ≡ false
      go true q e = cc e
      go false q e = q
