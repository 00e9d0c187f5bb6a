-- Lists made by `list_from`, place by place.
-- Assumes nothing.
use mathlib.Core.Path.{◌≡◌, refl, sym, ap, ◌∙◌}
use Prim.Native.Nat.{ℕ, zero, suc, ◌+◌, ◌<◌}
use native.Mathlib.Nat.{add-zero, add-suc, suc-add}
use native.Mathlib.Omega.{arith}
use mathlib.Core.List.{List, [], ◌∷◌, ◌++◌}
use lib.ListN.{length, get_or}
use Rattle.object_contents.specs.Layout.{list_from}

module _ {A : Type 0} (f : ℕ → A) where
  pub length_from : (n i : ℕ) → length (list_from n i f) ≡ n
  length_from zero i = refl
  length_from (suc n) i = ap suc (length_from n (suc i))

  pub get_d_from : (n i j : ℕ) (d : A) → j < n → get_or (list_from n i f) j d ≡ f (i + j)
  get_d_from zero i j d h = absurd (omega arith)
  get_d_from (suc n) i zero d h = ap f (sym (add-zero i))
  get_d_from (suc n) i (suc j) d h = get_d_from n (suc i) j d (omega arith) ∙ ap f (suc-add i j ∙ sym (add-suc i j))

  -- from the first on
  pub get_d_all : (n j : ℕ) (d : A) → j < n → get_or (list_from n 0 f) j d ≡ f j
  get_d_all n j d h = let e : 0 + j ≡ j = omega arith in get_d_from n 0 j d h ∙ ap f e

  pub from_snoc : (n i : ℕ) → list_from (suc n) i f ≡ list_from n i f ++ (f (i + n) ∷ [])
  from_snoc zero i = ap (λ (j : ℕ). f j ∷ []) (sym (add-zero i))
  from_snoc (suc n) i = ap (λ (l : List A). f i ∷ l) (from_snoc n (suc i) ∙ ap (λ (j : ℕ). list_from n (suc i) f ++ (f j ∷ [])) (suc-add i n ∙ sym (add-suc i n)))
