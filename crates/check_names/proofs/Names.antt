-- A name byte by byte.
-- Assumes nothing.
use mathlib.Core.Path.{◌≡◌, refl, ap, ◌∙◌}
use Prim.Native.Nat.{ℕ, suc, ◌+◌, ◌-◌, ◌≤◌, ◌<◌}
use native.Mathlib.Decide.{dec_lt}
use native.Mathlib.Numerals.{add-one}
use native.Mathlib.Omega.{arith}
use mathlib.Core.Bool.{true, false, ◌&&◌, ◌||◌}
use mathlib.Core.List.{List, ◌∷◌}
use lib.Dec.{leb, eqb}
use lib.ListN.{length, get_or, drop}
use lib.Seq.{drop-cons}
use Rattle.std.specs.List.{list_all}
use Rattle.std.proofs.lemmas.List.Recursion.{same_from_clauses}
use Rattle.rules_object.specs.Check.{is_letter, is_digit, blanks, name_tail, right_name}
use Rattle.check_names.specs.Names.{NameEnd}

all_blank : (s : List ℕ) → list_all (λ c. eqb c 32) s ≡ blanks s
all_blank = same_from_clauses (list_all (λ c. eqb c 32)) blanks (λ c r. eqb c 32 && r) refl (λ _ _. refl) (λ _ _. refl)

module _ (s : List ℕ) (eight : length s ≡ 8) where
  rest_at : (k : ℕ) → k < 8 → drop k s ≡ get_or s k 0 ∷ drop (k + 1) s
  rest_at k h = drop-cons s k 0 (omega arith) ∙ rw (add-one k)

  pub tail_more : (k : ℕ) → k < 6 → (is_letter (get_or s k 0) || is_digit (get_or s k 0)) ≡ true → name_tail (6 - k) (drop k s) ≡ name_tail (6 - (k + 1)) (drop (k + 1) s)
  tail_more k h q =
      let f : 6 - k ≡ suc (6 - (k + 1)) = omega arith in
      rw (f, rest_at k (omega arith), q)

  pub tail_stops : (k : ℕ) → k ≤ 6 → (is_letter (get_or s k 0) || is_digit (get_or s k 0)) ≡ false → name_tail (6 - k) (drop k s) ≡ blanks (drop k s)
  tail_stops k h q = go (dec_lt k 6)
    where
      go : Dec (k < 6) → name_tail (6 - k) (drop k s) ≡ blanks (drop k s)
      go (yes l) = let f : 6 - k ≡ suc (6 - (k + 1)) = omega arith in rw (f, rest_at k (omega arith), q)
      go (no l) = let f : 6 - k ≡ 0 = omega arith in rw f

  pub name_says : (end : ℕ) → NameEnd s end → (leb 73 (get_or s 0 0) && (leb (get_or s 0 0) 78 && list_all (λ c. eqb c 32) (drop end s))) ≡ right_name s
  name_says end n =
      let first : right_name s ≡ right_name (get_or s 0 0 ∷ drop 1 s) = ap right_name (rest_at 0 (omega arith)) in
      rw (all_blank (drop end s), first, n.rest)
