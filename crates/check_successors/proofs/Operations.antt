-- The operations by number: what 43 says of an operand, and where control goes.
-- Assumes nothing.
use mathlib.Core.Path.{◌≡◌, refl, sym, ap, ◌∙◌, subst}
use mathlib.Core.Bool.{Bool, true, false}
use mathlib.Core.List.{List, [], ◌∷◌}
use Prim.Native.Nat.{ℕ, zero, suc, ◌+◌, ◌<◌}
use native.Mathlib.Decide.{dec_lt, ℕ_discrete}
use native.Mathlib.Numerals.{add-one}
use native.Mathlib.Omega.{arith}
use lib.Dec.{ltb, leb}
use lib.ListN.{length, get_or, take, drop, length-drop, get_or-eq_default}
use lib.Seq.{length-take-le, get_or-take, get_or-drop}
use borrow.Author.Tests.{ltb-true}
use Rattle.rules_shared.specs.Limits.{limits}
use Rattle.rules_object.specs.Object.{Object}
use Rattle.rules_object.specs.Operations.{meant, no_loop, operations, unknown, operation_at, exit_at, operation_number, successors}
use Rattle.rules_object.proofs.Passed.{both}
use Rattle.check_operands.specs.Operands.{operand_right}

-- ---- the tables of eighteen

pub number_is : (o : Object) (op x : ℕ) → op < 18 → operation_number (meant o op x) ≡ op
number_is o zero x l = refl
number_is o (suc zero) x l = refl
number_is o (suc (suc zero)) x l = refl
number_is o (suc (suc (suc zero))) x l = refl
number_is o (suc (suc (suc (suc zero)))) x l = refl
number_is o (suc (suc (suc (suc (suc zero))))) x l = refl
number_is o (suc (suc (suc (suc (suc (suc zero)))))) x l = refl
number_is o (suc (suc (suc (suc (suc (suc (suc zero))))))) x l = refl
number_is o (suc (suc (suc (suc (suc (suc (suc (suc zero)))))))) x l = refl
number_is o (suc (suc (suc (suc (suc (suc (suc (suc (suc zero))))))))) x l = refl
number_is o (suc (suc (suc (suc (suc (suc (suc (suc (suc (suc zero)))))))))) x l = refl
number_is o (suc (suc (suc (suc (suc (suc (suc (suc (suc (suc (suc zero))))))))))) x l = refl
number_is o (suc (suc (suc (suc (suc (suc (suc (suc (suc (suc (suc (suc zero)))))))))))) x l = refl
number_is o (suc (suc (suc (suc (suc (suc (suc (suc (suc (suc (suc (suc (suc zero))))))))))))) x l = refl
number_is o (suc (suc (suc (suc (suc (suc (suc (suc (suc (suc (suc (suc (suc (suc zero)))))))))))))) x l = refl
number_is o (suc (suc (suc (suc (suc (suc (suc (suc (suc (suc (suc (suc (suc (suc (suc zero))))))))))))))) x l = refl
number_is o (suc (suc (suc (suc (suc (suc (suc (suc (suc (suc (suc (suc (suc (suc (suc (suc zero)))))))))))))))) x l = refl
number_is o (suc (suc (suc (suc (suc (suc (suc (suc (suc (suc (suc (suc (suc (suc (suc (suc (suc zero))))))))))))))))) x l = refl
number_is o (suc (suc (suc (suc (suc (suc (suc (suc (suc (suc (suc (suc (suc (suc (suc (suc (suc (suc k)))))))))))))))))) x l = absurd (omega arith)

-- every operation but HLT, JMP, BR3, BRC and DOE
plain : (o : Object) (a op x : ℕ) → op < 18 → (op ≡ 0 → ⊥) → (op ≡ 11 → ⊥) → (op ≡ 12 → ⊥) → (op ≡ 13 → ⊥) → (op ≡ 15 → ⊥) → successors a (meant o op x) ≡ suc a ∷ []
plain o a zero x l n₀ n₁ n₂ n₃ n₄ = absurd (n₀ refl)
plain o a (suc zero) x l n₀ n₁ n₂ n₃ n₄ = refl
plain o a (suc (suc zero)) x l n₀ n₁ n₂ n₃ n₄ = refl
plain o a (suc (suc (suc zero))) x l n₀ n₁ n₂ n₃ n₄ = refl
plain o a (suc (suc (suc (suc zero)))) x l n₀ n₁ n₂ n₃ n₄ = refl
plain o a (suc (suc (suc (suc (suc zero))))) x l n₀ n₁ n₂ n₃ n₄ = refl
plain o a (suc (suc (suc (suc (suc (suc zero)))))) x l n₀ n₁ n₂ n₃ n₄ = refl
plain o a (suc (suc (suc (suc (suc (suc (suc zero))))))) x l n₀ n₁ n₂ n₃ n₄ = refl
plain o a (suc (suc (suc (suc (suc (suc (suc (suc zero)))))))) x l n₀ n₁ n₂ n₃ n₄ = refl
plain o a (suc (suc (suc (suc (suc (suc (suc (suc (suc zero))))))))) x l n₀ n₁ n₂ n₃ n₄ = refl
plain o a (suc (suc (suc (suc (suc (suc (suc (suc (suc (suc zero)))))))))) x l n₀ n₁ n₂ n₃ n₄ = refl
plain o a (suc (suc (suc (suc (suc (suc (suc (suc (suc (suc (suc zero))))))))))) x l n₀ n₁ n₂ n₃ n₄ = absurd (n₁ refl)
plain o a (suc (suc (suc (suc (suc (suc (suc (suc (suc (suc (suc (suc zero)))))))))))) x l n₀ n₁ n₂ n₃ n₄ = absurd (n₂ refl)
plain o a (suc (suc (suc (suc (suc (suc (suc (suc (suc (suc (suc (suc (suc zero))))))))))))) x l n₀ n₁ n₂ n₃ n₄ = absurd (n₃ refl)
plain o a (suc (suc (suc (suc (suc (suc (suc (suc (suc (suc (suc (suc (suc (suc zero)))))))))))))) x l n₀ n₁ n₂ n₃ n₄ = refl
plain o a (suc (suc (suc (suc (suc (suc (suc (suc (suc (suc (suc (suc (suc (suc (suc zero))))))))))))))) x l n₀ n₁ n₂ n₃ n₄ = absurd (n₄ refl)
plain o a (suc (suc (suc (suc (suc (suc (suc (suc (suc (suc (suc (suc (suc (suc (suc (suc zero)))))))))))))))) x l n₀ n₁ n₂ n₃ n₄ = refl
plain o a (suc (suc (suc (suc (suc (suc (suc (suc (suc (suc (suc (suc (suc (suc (suc (suc (suc zero))))))))))))))))) x l n₀ n₁ n₂ n₃ n₄ = refl
plain o a (suc (suc (suc (suc (suc (suc (suc (suc (suc (suc (suc (suc (suc (suc (suc (suc (suc (suc k)))))))))))))))))) x l n₀ n₁ n₂ n₃ n₄ = absurd (omega arith)

-- ---- lists of one, of three, and of a count

one : (t k : ℕ) → k < 1 → t ≡ get_or (t ∷ []) k 0
one t zero l = refl
one t (suc k) l = absurd (omega arith)

three_at : (exits : List ℕ) (x k : ℕ) → k < 3 → get_or exits (x + k) 0 ≡ get_or (get_or exits x 0 ∷ get_or exits (x + 1) 0 ∷ get_or exits (x + 2) 0 ∷ []) k 0
three_at exits x zero l = let e : x + 0 ≡ x = omega arith in ap (λ (j : ℕ). get_or exits j 0) e
three_at exits x (suc zero) l = refl
three_at exits x (suc (suc zero)) l = refl
three_at exits x (suc (suc (suc k))) l = absurd (omega arith)

module _ (exits : List ℕ) (x : ℕ) (fits : x + get_or exits x 0 < length exits) where
  count_is : get_or exits x 0 ≡ length (take (get_or exits x 0) (drop (x + 1) exits))
  count_is = sym (length-take-le (get_or exits x 0) (drop (x + 1) exits) (omega (arith, fits, length-drop (x + 1) exits)))

  many_at : (k : ℕ) → k < length (take (get_or exits x 0) (drop (x + 1) exits)) → get_or exits (x + 1 + k) 0 ≡ get_or (take (get_or exits x 0) (drop (x + 1) exits)) k 0
  many_at k l = sym (get_or-take (get_or exits x 0) (drop (x + 1) exits) k 0 (omega (arith, l, count_is)) ∙ get_or-drop (x + 1) exits k 0)

-- ---- an operand that passes 43

module _ (o : Object) (op x : ℕ) (right : operand_right o op x ≡ true) where
  pub known : op < 18
  unfolding operand_right
  known = go (dec_lt op 18)
    where
      go : Dec (op < 18) → op < 18
      go (yes l) = l
      go (no l) =
          let d : operation_at op ≡ unknown = get_or-eq_default operations unknown {n = op} (omega arith) in
          let f : ◌≡◌ {A = Bool} false true = sym (ap (λ p. p.operand_right o x) d) ∙ right in
          absurd (let z : ◌≡◌ {A = ℕ} 0 1 = cc in omega arith)

  right_at_lem : (n : ℕ) → op ≡ n → operand_right o n x ≡ true
  right_at_lem n q = subst (λ (j : ℕ). operand_right o j x ≡ true) q right

  pub three_fit : op ≡ 12 → x + 2 < length o.exits
  unfolding operand_right
  three_fit q = ltb-true _ _ (both (ltb (x + 2) (length o.exits)) _ (right_at_lem 12 q)).0

  pub count_fits : op ≡ 13 → x + get_or o.exits x 0 < length o.exits
  unfolding operand_right
  count_fits q =
      let r₁ = (both (leb limits.fewest_exits (exit_at o x)) _ (right_at_lem 13 q)).1 in
      let r₂ = (both (leb (exit_at o x) limits.most_exits) _ r₁).1 in
      ltb-true _ _ (both (ltb (x + exit_at o x) (length o.exits)) _ r₂).0

  pub do_fits : op ≡ 15 → x < length o.dos
  unfolding operand_right
  do_fits q = ltb-true _ _ (right_at_lem 15 q)

  -- how many successors

  width_at : (a n : ℕ) → op ≡ n → length (successors a (meant o n x)) ≡ length (successors a (meant o op x))
  width_at a n q = ap (λ (j : ℕ). length (successors a (meant o j x))) (sym q)

  pub width_none : op ≡ 0 → (a : ℕ) → 0 ≡ length (successors a (meant o op x))
  width_none q a = width_at a 0 q

  pub width_three : op ≡ 12 → (a : ℕ) → 3 ≡ length (successors a (meant o op x))
  width_three q a = width_at a 12 q

  pub width_count : op ≡ 13 → (a : ℕ) → get_or o.exits x 0 ≡ length (successors a (meant o op x))
  width_count q a = count_is o.exits x (count_fits q) ∙ width_at a 13 q

  pub width_two : op ≡ 15 → (a : ℕ) → 2 ≡ length (successors a (meant o op x))
  width_two q a = width_at a 15 q

  pub width_else : (op ≡ 0 → ⊥) → (op ≡ 12 → ⊥) → (op ≡ 13 → ⊥) → (op ≡ 15 → ⊥) → (a : ℕ) → 1 ≡ length (successors a (meant o op x))
  width_else n₀ n₂ n₃ n₄ a = go (ℕ_discrete op 11)
    where
      go : Dec (op ≡ 11) → 1 ≡ length (successors a (meant o op x))
      go (yes q) = width_at a 11 q
      go (no n₁) = sym (ap length (plain o a op x known n₀ n₁ n₂ n₃ n₄))

  -- each of them

  module _ (a k : ℕ) (below : k < length (successors a (meant o op x))) where
    below_at : (n : ℕ) → op ≡ n → k < length (successors a (meant o n x))
    below_at n q = subst (λ (j : ℕ). k < length (successors a (meant o j x))) q below

    next_at : (n : ℕ) → op ≡ n → get_or (successors a (meant o n x)) k 0 ≡ get_or (successors a (meant o op x)) k 0
    next_at n q = ap (λ (j : ℕ). get_or (successors a (meant o j x)) k 0) (sym q)

    pub below_three : op ≡ 12 → k < 3
    below_three q = below_at 12 q

    pub below_count : op ≡ 13 → k < get_or o.exits x 0
    below_count q = omega (arith, below, width_count q a)

    pub next_jump : op ≡ 11 → x ≡ get_or (successors a (meant o op x)) k 0
    next_jump q = one x k (below_at 11 q) ∙ next_at 11 q

    pub next_three : op ≡ 12 → get_or o.exits (x + k) 0 ≡ get_or (successors a (meant o op x)) k 0
    next_three q = three_at o.exits x k (below_at 12 q) ∙ next_at 12 q

    pub next_count : op ≡ 13 → get_or o.exits (x + 1 + k) 0 ≡ get_or (successors a (meant o op x)) k 0
    next_count q = many_at o.exits x (count_fits q) k (below_at 13 q) ∙ next_at 13 q

    pub next_body : op ≡ 15 → k ≡ 0 → (get_or o.dos x no_loop).body ≡ get_or (successors a (meant o op x)) k 0
    next_body q z = ap (λ (j : ℕ). get_or (successors a (meant o 15 x)) j 0) (sym z) ∙ next_at 15 q

    pub next_past : op ≡ 15 → (k ≡ 0 → ⊥) → a + 1 ≡ get_or (successors a (meant o op x)) k 0
    next_past q z =
        let l : k < 2 = below_at 15 q in
        let e : k ≡ 1 = omega (arith, l, z) in
        add-one a ∙ ap (λ (j : ℕ). get_or (successors a (meant o 15 x)) j 0) (sym e) ∙ next_at 15 q

    pub next_else : (op ≡ 11 → ⊥) → (op ≡ 12 → ⊥) → (op ≡ 13 → ⊥) → (op ≡ 15 → ⊥) → a + 1 ≡ get_or (successors a (meant o op x)) k 0
    next_else n₁ n₂ n₃ n₄ =
        let n₀ : op ≡ 0 → ⊥ = λ q. let l : k < 0 = below_at 0 q in omega arith in
        let e : successors a (meant o op x) ≡ suc a ∷ [] = plain o a op x known n₀ n₁ n₂ n₃ n₄ in
        let l : k < 1 = subst (λ (t : List ℕ). k < length t) e below in
        add-one a ∙ one (suc a) k l ∙ ap (λ (t : List ℕ). get_or t k 0) (sym e)
