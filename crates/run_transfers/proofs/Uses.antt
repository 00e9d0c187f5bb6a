-- What the word of a READ or PRINT says: its transfer stands in the object and is right, and the book's step is that of the statement.
-- Assumes nothing.
use mathlib.Core.Path.{◌≡◌, sym, ap, ap₂, ◌∙◌, subst}
use mathlib.Core.Bool.{true}
use mathlib.Core.List.{List}
use mathlib.Core.Logic.{◌⊎◌, inl, inr}
use Prim.Native.Nat.{ℕ, ◌*◌, ◌+◌, ◌/◌, ◌%◌, ◌^◌, ◌≤◌, ◌<◌}
use native.Mathlib.Nat.{pow-le-pow_right}
use native.Mathlib.Omega.{arith}
use borrow.Author.Tests.{ltb-true}
use lib.ListN.{length}
use lib.IntN.{ℤ}
use Rattle.number.specs.Number.{Fits, digits_rule}
use Rattle.number.specs.Number as numbers
use Rattle.number.specs.Code.{Narrow}
use Rattle.rules_object.specs.Object.{Object, rule_of}
use Rattle.rules_object.specs.Operations.{Instr, operation_of, operand_of, operation_at, a_transfer, transfer_right, meant, decode, right43, entry_right, instruction}
use Rattle.rules_object.specs.Machine.{State, cell, act, step}
use Rattle.rules_object.proofs.Limited.{limited}
use Rattle.object_words.specs.Word.{word_at}
use Rattle.object_contents.specs.declared.Layout.{Layout}
use Rattle.object_contents.specs.declared.placed.Object.{Object as Lent}
use Rattle.object_contents.specs.Layout.{object_at}
use Rattle.object_contents.proofs.Entries.{code_at, code_inside, transfer_length}
use Rattle.run_operations.proofs.Known.{bounds}
use Rattle.run_lists.specs.Cursors.{Stored}
use Rattle.run_transfers.specs.Transfers.{word_in, Ready}

module _ (ob : Lent) (i : ℕ) (so kept : List ℤ) (h : Ready ob i so kept) where
  abbrev e : Layout
  e = ob.layout

  abbrev s : List ℕ
  s = ob.bytes.now

  abbrev o : Object
  o = object_at e s

  pub stored : Stored ob so
  stored =
      let b = bounds ob h.right in
      record {
        narrow = subst Narrow ob.ruled b.narrow;
        few = b.cells;
        long = h.long;
        fit = λ a l. subst (λ (q : numbers.Rule). Fits q (cell so a)) ob.ruled (h.fit a l);
      }

  pub ceiling_is : ob.rule.ceiling ≡ (rule_of o).ceiling
  ceiling_is = ap (λ (q : numbers.Rule). q.ceiling) ob.ruled

  pub some_digit : 10 ≤ ob.rule.ceiling
  unfolding digits_rule
  some_digit =
      let l = pow-le-pow_right {n = 10} (omega arith) (limited o ob.placed.edition h.right).some_digits in
      omega (arith, l, ceiling_is)

  pub word_inside : e.code + 4 * i + 4 ≤ length s
  word_inside = code_inside e s ob.placed i h.inside

  -- the word, its operation and its operand
  module _ (w op x : ℕ) (load : w ≡ word_at s (e.code + 4 * i)) (first : op ≡ w / 2 ^ 24) (rest : x ≡ w % 2 ^ 24) where
    word_is : w ≡ word_in o i
    word_is = load ∙ sym (code_at e s i h.inside)

    operation_is : op ≡ operation_of (word_in o i)
    unfolding operation_of
    operation_is = first ∙ ap (λ v. v / 2 ^ 24) word_is

    operand_is : x ≡ operand_of (word_in o i)
    unfolding operand_of
    operand_is = rest ∙ ap (λ v. v % 2 ^ 24) word_is

    pub not_read_lem : (op ≡ 16 → ⊥) → op ≡ 17
    not_read_lem n = by h.is
      where
        by : (operation_of (word_in o i) ≡ 16) ⊎ (operation_of (word_in o i) ≡ 17) → op ≡ 17
        by (inl q) = absurd (n (operation_is ∙ q))
        by (inr q) = operation_is ∙ q

    -- as the operation n, which uses a transfer
    module _ (n : ℕ) (is : op ≡ n) where
      found : (P : ℕ → ℕ → Type 0) → P (operation_of (word_in o i)) (operand_of (word_in o i)) → P n x
      found P p = subst (λ m. P m x) is (subst (λ m. P m x) (sym operation_is) (subst (λ y. P (operation_of (word_in o i)) y) (sym operand_is) p))

      pub inside : (operation_at n).operand_right o x ≡ a_transfer o x → x < e.transfer_count
      unfolding right43
      inside q = let l = ltb-true x (length o.transfers) (sym q ∙ found (λ m y. (operation_at m).operand_right o y ≡ true) h.operand) in omega (arith, transfer_length e s)

      pub right : (operation_at n).entry_right o x ≡ transfer_right o x → transfer_right o x ≡ true
      unfolding entry_right
      right q = sym q ∙ found (λ m y. (operation_at m).entry_right o y ≡ true) h.entry

      pub step_is : (t : State) → t.index ≡ i → act (rule_of o) (meant o n x) t ≡ step o t
      unfolding step decode
      step_is t q =
          let m : meant o n x ≡ instruction o i = ap₂ (meant o) (sym is ∙ operation_is) operand_is in
          ap (λ (j : Instr). act (rule_of o) j t) (m ∙ ap (instruction o) (sym q))
