-- The flow of an object's code, by the words at their places.
-- Assumes nothing.
use mathlib.Core.Path.{◌≡◌, refl, sym, ap, ◌∙◌, subst}
use Rattle.number.specs.Number.{digits_rule}
use Rattle.rules_object.specs.Object.{rule_of}
use mathlib.Core.Bool.{true}
use mathlib.Core.List.{List}
use Prim.Native.Nat.{ℕ, ◌+◌, ◌*◌, ◌/◌, ◌%◌, ◌^◌, ◌≤◌, ◌<◌}
use native.Mathlib.Omega.{arith}
use lib.ListN.{length, get_or}
use Rattle.rules_object.specs.Operations.{Instr, operation_of, operand_of, meant, decode, right43, operation_at, operation_number, successors, instruction, flow_of}
use Rattle.rules_object.specs.Heights.{waiting}
use Rattle.rules_object.specs.Filling.{Filling}
use Rattle.rules_object.proofs.Fills.{there}
use Rattle.rules_object.proofs.Limited.{limited}
use Rattle.object_words.specs.Word.{word_at}
use Rattle.object_contents.specs.Layout.{object_at}
use Rattle.object_contents.specs.declared.Layout.{Layout}
use Rattle.object_contents.specs.declared.placed.Object.{Object}
use Rattle.object_contents.specs.Book.{book_of}
use Rattle.object_contents.proofs.Entries.{code_length, code_at}
use Rattle.check_operands.specs.Operands.{operand_right}
use Rattle.check_successors.proofs.Operations.{number_is, known}
use Rattle.check_heights.specs.Judged.{Judged}

pub flow_length : (e : Layout) (s : List ℕ) → (flow_of (object_at e s)).n ≡ e.code_count
unfolding flow_of
flow_length e s = code_length e s

-- what waits last is inside the code
pub waits_inside : (e : Layout) (s H W : List ℕ) (b : ℕ) {a : ℕ} → waiting W b ≡ a → Filling (flow_of (object_at e s)) H W (b + 1) → a < e.code_count
waits_inside e s H W b {a} is f = omega (arith, (there (flow_of (object_at e s)) H W b a is f).0, flow_length e s)

pub code_within : (o : Object) → Judged o.layout o.bytes.now → o.layout.code_count ≤ 4096
code_within o j = omega (arith, (limited (book_of o) o.placed.edition j.right).code, code_length o.layout o.bytes.now)

-- ---- the instruction at a, by its word's operation and operand

pub record Decoded (e : Layout) (s : List ℕ) (a op x : ℕ) : Type 0 where
  pub right : operand_right (object_at e s) op x ≡ true
  pub means : meant (object_at e s) op x ≡ instruction (object_at e s) a

pub decoded : (o : Object) (a w op x : ℕ) → Judged o.layout o.bytes.now → a < o.layout.code_count → w ≡ word_at o.bytes.now (o.layout.code + 4 * a) → op ≡ w / 2 ^ 24 → x ≡ w % 2 ^ 24 → Decoded o.layout o.bytes.now a op x
unfolding operand_right right43 decode operation_of operand_of
decoded object a w op x j i ew eo ex =
    let o = book_of object in
    let at_a : w ≡ get_or o.code a 0 = ew ∙ sym (code_at object.layout object.bytes.now a i) in
    let r : right43 o w ≡ true = subst (λ (y : ℕ). right43 o y ≡ true) (sym at_a) (j.words a i) in
    record {
      right = subst (λ (y : ℕ). operand_right o op y ≡ true) (sym ex) (subst (λ (y : ℕ). operand_right o y (w % 2 ^ 24) ≡ true) (sym eo) r);
      means = ap (λ (y : ℕ). meant o y x) eo ∙ ap (λ (y : ℕ). meant o (w / 2 ^ 24) y) ex ∙ ap (decode o) at_a;
    }

module _ {e : Layout} {s : List ℕ} {a op x : ℕ} (d : Decoded e s a op x) where
  pub op_known : op < 18
  op_known = known (object_at e s) op x d.right

  numbered : op ≡ operation_number (instruction (object_at e s) a)
  numbered = sym (number_is (object_at e s) op x op_known) ∙ ap operation_number d.means

  pub takes_is : (p : ℕ) → p ≡ (operation_at op).pops → p ≡ (flow_of (object_at e s)).takes a
  unfolding flow_of
  takes_is p q = q ∙ ap (λ (y : ℕ). (operation_at y).pops) numbered

  pub gives_is : (p : ℕ) → p ≡ (operation_at op).pushes → p ≡ (flow_of (object_at e s)).gives a
  unfolding flow_of
  gives_is p q = q ∙ ap (λ (y : ℕ). (operation_at y).pushes) numbered

  pub width_is : (n : ℕ) → n ≡ length (successors a (meant (object_at e s) op x)) → n ≡ (flow_of (object_at e s)).width a
  unfolding flow_of
  width_is n q = q ∙ ap (λ (y : Instr). length (successors a y)) d.means

  pub next_is : (k t : ℕ) → t ≡ get_or (successors a (meant (object_at e s) op x)) k 0 → (flow_of (object_at e s)).next a k ≡ t
  unfolding flow_of
  next_is k t q = sym (q ∙ ap (λ (y : Instr). get_or (successors a y) k 0) d.means)

-- ---- the rule of the object's numbers, by its digits

pub digits_low : {e : Layout} {s : List ℕ} → Judged e s → e.digits < 10
unfolding object_at
digits_low {e} {s} j = let l = limited (object_at e s) j.placed.edition j.right in omega (arith, l.digits)

pub rule_is : (e : Layout) (s : List ℕ) → digits_rule e.digits ≡ rule_of (object_at e s)
unfolding object_at
rule_is e s = refl
