-- The contents kind after kind.
-- Assumes nothing.
use mathlib.Core.Path.{◌≡◌, sym, ap, ◌∙◌}
use Prim.Native.Nat.{ℕ, suc, ◌+◌, ◌*◌, ◌≤◌, ◌<◌}
use native.Mathlib.Nat.{add-zero}
use native.Mathlib.Omega.{arith}
use mathlib.Core.List.{List, [], ◌∷◌, ◌++◌}
use lib.ListN.{length, get_or, take, length-append, length-map}
use lib.Seq.{length-take-le}
use Rattle.std.proofs.lemmas.List.{take_more}
use Rattle.std.specs.Borrow.{Bor}
use Rattle.rules_object.specs.Bytes.{concat, body_table}
use Rattle.final_body.specs.Bodies.{tables}
use Rattle.final_body.proofs.Words.{tables_append, bodies_more, bodies_room}

table_more : (k at : ℕ) (xs : List (List ℕ)) (y : List ℕ)
    → body_table k at (xs ++ (y ∷ [])) ≡ body_table k at xs ++ ((k + length xs) ∷ (at + 4 * length (concat xs)) ∷ 4 * length y ∷ [])
table_more k at [] y = rw (add-zero k, add-zero at)
table_more k at (x ∷ xs) y =
    let kind : suc k + length xs ≡ k + suc (length xs) = omega arith in
    let first : at + 4 * length x + 4 * length (concat xs) ≡ at + 4 * length (x ++ concat xs) = omega (arith, length-append x (concat xs)) in
    ap (λ (l : List ℕ). k ∷ at ∷ 4 * length x ∷ l)
    (table_more (suc k) (at + 4 * length x) xs y
    ∙ ap (λ (n : ℕ). body_table (suc k) (at + 4 * length x) xs ++ (n ∷ (at + 4 * length x + 4 * length (concat xs)) ∷ 4 * length y ∷ [])) kind
    ∙ ap (λ (n : ℕ). body_table (suc k) (at + 4 * length x) xs ++ ((k + suc (length xs)) ∷ n ∷ 4 * length y ∷ [])) first)

module _ (bodies : List (Bor (List ℕ))) (i : ℕ) (d : Bor (List ℕ)) (h : i < length bodies) where
  abbrev body : List ℕ
  body = (get_or bodies i d).now

  abbrev before : List (List ℕ)
  before = tables (take i bodies)

  -- where the next body starts
  pub next_start : (n at : ℕ) → at ≡ n + 4 * length (concat before) → at + 4 * length body ≡ n + 4 * length (concat (tables (take (i + 1) bodies)))
  next_start n at e = omega (arith, ap length (bodies_more bodies i d h), length-append (concat before) body)

  pub next_within : (n at : ℕ) → at ≡ n + 4 * length (concat before) → at + 4 * length body ≤ n + 4 * length (concat (tables bodies))
  next_within n at e = omega (arith, bodies_room bodies i d h)

  pub next_entry : (k n at : ℕ) → at ≡ n + 4 * length (concat before)
      → body_table k n before ++ ((i + k) ∷ at ∷ 4 * length body ∷ []) ≡ body_table k n (tables (take (i + 1) bodies))
  next_entry k n at e =
      let kind : i + k ≡ k + length before = omega (arith, length-map (take i bodies) (λ b. b.now), length-take-le i bodies (omega arith)) in
      ap (λ (x : ℕ). body_table k n before ++ (x ∷ at ∷ 4 * length body ∷ [])) kind
      ∙ ap (λ (x : ℕ). body_table k n before ++ ((k + length before) ∷ x ∷ 4 * length body ∷ [])) e
      ∙ sym (ap (λ (bs : List (Bor (List ℕ))). body_table k n (tables bs)) (take_more bodies i d h)
      ∙ ap (body_table k n) (tables_append (take i bodies) (get_or bodies i d ∷ []))
      ∙ table_more k n before body)
