-- Numbers copied one by one, and put back.
-- Assumes nothing.
use mathlib.Core.Path.{◌≡◌, sym, ap, ◌∙◌}
use mathlib.Core.List.{List, ◌++◌}
use Prim.Native.Nat.{ℕ, suc, ◌+◌, ◌≤◌, ◌<◌}
use native.Mathlib.Omega.{arith}
use native.Mathlib.Numerals.{add-one}
use lib.ListN.{length, get_or, take, drop, set, take-append-drop}
use lib.Seq.{drop-cons, take-suc, set_at, take_at, append_snoc, length-take-le}
use lib.IntN.{ℤ, pos}

-- the first i of n are copied
pub record Copied (from to : List ℤ) (n : ℕ) (now : List ℤ) (i : ℕ) : Type 0 where
  pub low : i ≤ n
  pub is : now ≡ take i from ++ drop i to

module _ (from to : List ℤ) (n : ℕ) (f : n ≤ length from) (t : n ≤ length to) where
  pub one_more : (now : List ℤ) (i : ℕ) → Copied from to n now i → i < n → Copied from to n (set now i (get_or from i (pos 0))) (i + 1)
  one_more now i c h =
      let v : ℤ = get_or from i (pos 0) in
      let a : length (take i from) ≡ i = length-take-le i from (omega arith) in
      let e : suc i ≡ i + 1 = sym (add-one i) in
      record {
        low = omega arith;
        is =
            ap (λ (l : List ℤ). set l i v) c.is
            ∙ ap (λ (l : List ℤ). set (take i from ++ l) i v) (drop-cons to i (pos 0) (omega arith))
            ∙ set_at (take i from) (get_or to i (pos 0)) (drop (suc i) to) v i a
            ∙ sym (append_snoc (take i from) v (drop (suc i) to))
            ∙ ap (λ (l : List ℤ). l ++ drop (suc i) to) (sym (take-suc from i (pos 0) (omega arith)))
            ∙ ap (λ (m : ℕ). take m from ++ drop m to) e;
      }

-- what was kept and is put back
pub put_back : (n : ℕ) (before now kept copy : List ℤ) → n ≤ length before → copy ≡ take n before ++ drop n kept → drop n now ≡ drop n before
    → take n copy ++ drop n now ≡ before
put_back n before now kept copy h c r =
    ap (λ (l : List ℤ). take n l ++ drop n now) c
    ∙ ap (λ (l : List ℤ). l ++ drop n now) (take_at (take n before) (drop n kept) n (length-take-le n before h))
    ∙ ap (λ (l : List ℤ). take n before ++ l) r
    ∙ take-append-drop n before
