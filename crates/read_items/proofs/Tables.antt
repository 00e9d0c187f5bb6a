-- Words put into a table, one after the other.
-- Assumes nothing.
use mathlib.Core.Path.{◌≡◌, refl, ap, ◌∙◌}
use mathlib.Core.List.{List, [], ◌∷◌, ◌++◌, append_assoc}
use Prim.Native.Nat.{ℕ, ◌+◌, ◌<◌}
use native.Mathlib.Omega.{arith}
use native.Mathlib.Numerals.{add-one}
use lib.ListN.{length, take, set, length-append}
use lib.Seq.{take-suc-set}
use Rattle.read_items.specs.Parsed.{Put}

pub put_one : (a : List ℕ) (n w : ℕ) → n < length a → Put a (set a n w) n (w ∷ []) (n + 1)
put_one a n w l =
    record { top = refl; table = ap (λ (k : ℕ). take k (set a n w)) (add-one n) ∙ take-suc-set a n w l }

pub put_more : {A : Type 0} {a b c : List A} {n m r : ℕ} {ws vs : List A} → Put a b n ws m → Put b c m vs r → Put a c n (ws ++ vs) r
put_more {A} {a} {b} {c} {n} {m} {r} {ws} {vs} p q =
    record {
      top = q.top ∙ ap (λ (k : ℕ). k + length vs) p.top ∙ sizes;
      table = q.table ∙ ap (λ (l : List A). l ++ vs) p.table ∙ append_assoc (take n a) ws vs;
    }
  where
    sizes : n + length ws + length vs ≡ n + length (ws ++ vs)
    sizes = omega (arith, length-append ws vs)
