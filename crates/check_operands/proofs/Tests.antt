-- The tests by operation, and of a word.
-- Assumes nothing.
use mathlib.Core.Path.{◌≡◌, refl, sym, ap, subst}
use Prim.Native.Nat.{ℕ, zero, suc, ◌+◌, ◌/◌, ◌%◌, ◌^◌, ◌≤◌, ◌<◌}
use native.Mathlib.Omega.{arith}
use mathlib.Core.Bool.{Bool, true, false}
use mathlib.Core.List.{List}
use lib.Dec.{ltb, eqb}
use borrow.Author.Tests.{eqb-true, eqb-false}
use lib.ListN.{get_or, get_or-eq_default}
use Rattle.rules_object.specs.Object.{Object}
use Rattle.rules_object.specs.Operations.{operation_of, operand_of, operations, unknown, right43, entry_right}
use Rattle.rules_shared.specs.Lists.{first_bad, first_from}
use Rattle.object_contents.specs.declared.Layout.{Layout}
use Rattle.object_contents.specs.Layout.{object_at}
use Rattle.object_contents.proofs.Entries.{constant_length, element_length, do_length, code_length, transfer_length}
use Rattle.check_entries.proofs.Firsts.{first_of}
use Rattle.check_operands.specs.Operands.{operand_right, entry_right_at}
use Rattle.check_operands.proofs.Exits.{right_at}

-- ---- operations that stand one after the other

abbrev pub Each : (ℕ → Type 0) → ℕ → ℕ → Type 0
Each P k zero = Unit {0}
Each P k (suc d) = P k × Each P (suc k) d

same_or_not : {Q : Type 0} (n k : ℕ) → (n ≡ k → Q) → ((n ≡ k → ⊥) → Q) → Q
same_or_not {Q} n k f g = go (eqb n k) refl
  where
    go : (t : Bool) → eqb n k ≡ t → Q
    go true q = f (eqb-true n k q)
    go false q = g (eqb-false n k q)

pub one_of : (P : ℕ → Type 0) (k d n : ℕ) → k ≤ n → n < k + d → Each P k d → P n
one_of P k zero n l h e = absurd (omega arith)
one_of P k (suc d) n l h e = same_or_not n k (λ q. subst P (sym q) e.0) (λ f. one_of P (suc k) d n (omega arith) (omega arith) e.1)

module _ (e : Layout) (s : List ℕ) (x : ℕ) where
  pub constant_in : ltb x e.constant_count ≡ right_at e s x 1
  unfolding operand_right
  constant_in = rw (constant_length e s)

  pub cell_in_lem : (n : ℕ) → 2 ≤ n → n < 4 → ltb x e.cells ≡ right_at e s x n
  unfolding operand_right object_at
  cell_in_lem n l h = one_of (λ k. ltb x e.cells ≡ right_at e s x k) 2 2 n l h (refl, (refl, tt))

  pub element_in_lem : (n : ℕ) → 4 ≤ n → n < 6 → ltb x e.element_count ≡ right_at e s x n
  unfolding operand_right
  element_in_lem n l h = one_of (λ k. ltb x e.element_count ≡ right_at e s x k) 4 2 n l h (rw (element_length e s), (rw (element_length e s), tt))

  pub zero_in : (n : ℕ) → 6 ≤ n → n < 11 → eqb x 0 ≡ right_at e s x n
  unfolding operand_right
  zero_in n l h = one_of (λ k. eqb x 0 ≡ right_at e s x k) 6 5 n l h (refl, (refl, (refl, (refl, (refl, tt)))))

  pub code_in : ltb x e.code_count ≡ right_at e s x 11
  unfolding operand_right
  code_in = rw (code_length e s)

  pub do_in : (n : ℕ) → 14 ≤ n → n < 16 → ltb x e.do_count ≡ right_at e s x n
  unfolding operand_right
  do_in n l h = one_of (λ k. ltb x e.do_count ≡ right_at e s x k) 14 2 n l h (rw (do_length e s), (rw (do_length e s), tt))

  -- the same, as `grind` applies it
  pub do_said : (n : ℕ) → 14 ≤ n → n < 16 → right_at e s x n ≡ ltb x e.do_count
  do_said n l h = sym (do_in n l h)

  pub transfer_in : (n : ℕ) → 16 ≤ n → n < 18 → ltb x e.transfer_count ≡ right_at e s x n
  unfolding operand_right
  transfer_in n l h = one_of (λ k. ltb x e.transfer_count ≡ right_at e s x k) 16 2 n l h (rw (transfer_length e s), (rw (transfer_length e s), tt))

pub no_operation : (o : Object) (operation x : ℕ) → 18 ≤ operation → false ≡ operand_right o operation x
unfolding operand_right
no_operation o operation x h = sym (ap (λ p. p.operand_right o x) (get_or-eq_default operations unknown {n = operation} h))

-- an instruction that uses no entry
pub no_use : (o : Object) (operation x : ℕ) → (operation ≡ 1 → ⊥) → (operation ≡ 4 → ⊥) → (operation ≡ 5 → ⊥) → (operation ≡ 14 → ⊥) → (operation ≡ 15 → ⊥)
    → (operation ≡ 16 → ⊥) → (operation ≡ 17 → ⊥) → true ≡ entry_right_at o operation x
unfolding entry_right_at
no_use o zero x a b c d f g h = refl
no_use o (suc zero) x a b c d f g h = absurd (a refl)
no_use o (suc (suc zero)) x a b c d f g h = refl
no_use o (suc (suc (suc zero))) x a b c d f g h = refl
no_use o (suc (suc (suc (suc zero)))) x a b c d f g h = absurd (b refl)
no_use o (suc (suc (suc (suc (suc zero))))) x a b c d f g h = absurd (c refl)
no_use o (suc (suc (suc (suc (suc (suc zero)))))) x a b c d f g h = refl
no_use o (suc (suc (suc (suc (suc (suc (suc zero))))))) x a b c d f g h = refl
no_use o (suc (suc (suc (suc (suc (suc (suc (suc zero)))))))) x a b c d f g h = refl
no_use o (suc (suc (suc (suc (suc (suc (suc (suc (suc zero))))))))) x a b c d f g h = refl
no_use o (suc (suc (suc (suc (suc (suc (suc (suc (suc (suc zero)))))))))) x a b c d f g h = refl
no_use o (suc (suc (suc (suc (suc (suc (suc (suc (suc (suc (suc zero))))))))))) x a b c d f g h = refl
no_use o (suc (suc (suc (suc (suc (suc (suc (suc (suc (suc (suc (suc zero)))))))))))) x a b c d f g h = refl
no_use o (suc (suc (suc (suc (suc (suc (suc (suc (suc (suc (suc (suc (suc zero))))))))))))) x a b c d f g h = refl
no_use o (suc (suc (suc (suc (suc (suc (suc (suc (suc (suc (suc (suc (suc (suc zero)))))))))))))) x a b c d f g h = absurd (d refl)
no_use o (suc (suc (suc (suc (suc (suc (suc (suc (suc (suc (suc (suc (suc (suc (suc zero))))))))))))))) x a b c d f g h = absurd (f refl)
no_use o (suc (suc (suc (suc (suc (suc (suc (suc (suc (suc (suc (suc (suc (suc (suc (suc zero)))))))))))))))) x a b c d f g h = absurd (g refl)
no_use o (suc (suc (suc (suc (suc (suc (suc (suc (suc (suc (suc (suc (suc (suc (suc (suc (suc zero))))))))))))))))) x a b c d f g h = absurd (h refl)
no_use o (suc (suc (suc (suc (suc (suc (suc (suc (suc (suc (suc (suc (suc (suc (suc (suc (suc (suc k)))))))))))))))))) x a b c d f g h = refl

pub word_is : (o : Object) (w operation x : ℕ) → operation ≡ w / 2 ^ 24 → x ≡ w % 2 ^ 24 → operand_right o operation x ≡ right43 o w
unfolding operand_right right43 operation_of operand_of
word_is o w operation x p q = rw (p, q)

pub entry_is : (o : Object) (w operation x : ℕ) → operation ≡ w / 2 ^ 24 → x ≡ w % 2 ^ 24 → entry_right_at o operation x ≡ entry_right o w
unfolding entry_right_at entry_right operation_of operand_of
entry_is o w operation x p q = rw (p, q)

module _ (e : Layout) (s : List ℕ) where
  pub words_are : first_bad (right43 (object_at e s)) (object_at e s).code 0 ≡ first_from (λ i. right43 (object_at e s) (get_or (object_at e s).code i 0)) e.code_count 0
  words_are = first_of (right43 (object_at e s)) (object_at e s).code 0 e.code_count (code_length e s)
