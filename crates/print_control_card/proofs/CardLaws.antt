-- The control card, as code tells it.
-- Assumes nothing.
use Prim.Native.Nat.{ℕ, ◌≤◌, ◌<◌}
use mathlib.Core.Path.{◌≡◌, refl, sym, ap, ap₂, ◌∙◌}
use mathlib.Core.Bool.{Bool, true, ◌&&◌, cond}
use mathlib.Core.List.{List, [], ◌∷◌}
use mathlib.Core.Option.{none}
use native.Mathlib.Omega.{arith}
use lib.Dec.{eqb}
use lib.ListN.{length, get_or, take, drop, length-take}
use lib.Seq.{length-take-le}
use borrow.Author.Tests.{eq-eqb, ne_eqb}
use Rattle.rules_shared.specs.Lists.{all}
use Rattle.rules_program.specs.Program.{is_blank, first_column, control_of, control_digits}
use Rattle.std.specs.List.{list_all}

all_same : (cs : List ℕ) → list_all (λ c. eqb c 32) cs ≡ all is_blank cs
all_same [] = refl
all_same (c ∷ cs) = ap (λ (b : Bool). eqb c 32 && b) (all_same cs)

pub control_short : (s : List ℕ) → length s < 80 → none ≡ control_digits s
unfolding control_digits
control_short s h = sym (go (take 80 s) (omega (arith, length-take 80 s)))
  where
    go : (l : List ℕ) → length l < 80 → control_of l ≡ none
    go [] i = refl
    go (c ∷ rest) i = simp (ne_eqb (length (c ∷ rest)) 80 (λ e. omega arith))

pub control_is : (s : List ℕ) → 80 ≤ length s → (b : Bool) → b ≡ list_all (λ c. eqb c 32) (take 79 (drop 1 s)) → cond b (first_column (get_or s 0 0)) none ≡ control_digits s
unfolding control_digits
control_is [] h b e = absurd (omega arith)
control_is (c ∷ s) h b e =
    let l : eqb (length (c ∷ take 79 s)) 80 ≡ true = eq-eqb (length (c ∷ take 79 s)) 80 (omega (arith, length-take-le 79 s (omega arith))) in
    sym (ap₂ (λ (x y : Bool). cond (x && y) (first_column c) none) l (sym (e ∙ all_same (take 79 s))))
