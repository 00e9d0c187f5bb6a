-- The laws of runs of bytes, over plain lists.
-- Assumes nothing.
use mathlib.Core.Path.{◌≡◌, refl, sym, ap, ◌∙◌, subst}
use mathlib.Core.List.{List, [], ◌∷◌}
use mathlib.Core.Bool.{Bool, true, false, cond}
use Prim.Native.Nat.{ℕ, zero, suc, ◌+◌, ◌≤◌, ◌<◌}
use native.Mathlib.Omega.{arith}
use native.Mathlib.Numerals.{add-one}
use lib.ListN.{length, take, drop, get_or, drop_of_length-le}
use lib.Seq.{drop-cons, length-take-le}
use Rattle.rules_object.specs.Check.{is_letter}
use Rattle.rules_text.specs.Tokens.{is_letter_or_digit, run, name_run}
use Rattle.rules_text.proofs.Readers.{run_le}

-- ---- runs

module _ (test : ℕ → Bool) (s : List ℕ) (i : ℕ) where
  pub run_end : length s ≤ i → run test (drop i s) ≡ 0
  unfolding run
  run_end h = ap (run test) (drop_of_length-le s h)

  at : i < length s → run test (drop i s) ≡ cond (test (get_or s i 0)) (suc (run test (drop (suc i) s))) 0
  unfolding run
  at h = ap (run test) (drop-cons s i 0 h)

  pub run_stop : i < length s → test (get_or s i 0) ≡ false → run test (drop i s) ≡ 0
  run_stop h e = at h ∙ ap (λ (b : Bool). cond b (suc (run test (drop (suc i) s))) 0) e

  pub run_more : i < length s → test (get_or s i 0) ≡ true → run test (drop i s) ≡ 1 + run test (drop (i + 1) s)
  run_more h e =
      let d : run test (drop i s) ≡ suc (run test (drop (suc i) s)) = at h ∙ ap (λ (b : Bool). cond b (suc (run test (drop (suc i) s))) 0) e in
      let f : run test (drop (suc i) s) ≡ run test (drop (i + 1) s) = ap (λ (k : ℕ). run test (drop k s)) (sym (add-one i)) in
      omega arith

-- a name's run is a run of letters and digits where a letter stands first
pub name_none : (s : List ℕ) → is_letter (get_or s 0 0) ≡ false → name_run s ≡ 0
unfolding name_run
name_none [] e = refl
name_none (c ∷ s) e = rw e

pub name_some : (s : List ℕ) → is_letter (get_or s 0 0) ≡ true → name_run s ≡ run is_letter_or_digit s
unfolding name_run run is_letter_or_digit
name_some [] e = refl
name_some (c ∷ s) e = rw e

-- a byte within a run passes its test
pub in_run : (test : ℕ → Bool) (s : List ℕ) (i : ℕ) → i < run test s → test (get_or s i 0) ≡ true
unfolding run
in_run test [] i h = absurd (omega arith)
in_run test (c ∷ s) i h = go (test c) refl i h (in_run test s)
  where
    go : (b : Bool) → test c ≡ b → (i : ℕ) → i < cond b (suc (run test s)) 0 → ((j : ℕ) → j < run test s → test (get_or s j 0) ≡ true)
        → test (get_or (c ∷ s) i 0) ≡ true
    go true e zero h more = e
    go true e (suc i) h more = more i (omega arith)
    go false e i h more = absurd (omega arith)

-- a run is all of its own bytes
pub run_whole : (test : ℕ → Bool) (s : List ℕ) → run test (take (run test s) s) ≡ run test s
unfolding run
run_whole test [] = refl
run_whole test (c ∷ s) = go (test c) refl (run_whole test s)
  where
    go : (b : Bool) → test c ≡ b → run test (take (run test s) s) ≡ run test s → run test (take (cond b (suc (run test s)) 0) (c ∷ s)) ≡ cond b (suc (run test s)) 0
    go true e h = ap (λ (b : Bool). cond b (suc (run test (take (run test s) s))) 0) e ∙ ap (λ (n : ℕ). suc n) h
    go false e h = refl

pub all_run : (test : ℕ → Bool) (s : List ℕ) (k : ℕ) → k ≡ run test s → length (take k s) ≤ run test (take k s)
all_run test s k e = subst (λ (n : ℕ). length (take n s) ≤ run test (take n s)) (sym e) (omega (arith, run_whole test s, length-take-le (run test s) s (run_le test s)))
