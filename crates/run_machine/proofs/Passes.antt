-- What the guard's number says of the instruction and of the book's step. Assumes nothing.
use mathlib.Core.Path.{◌≡◌, refl, sym, ap, ap₂, ◌∙◌, subst}
use mathlib.Core.Bool.{Bool, true, false, ◌&&◌, cond}
use Prim.Native.Nat.{ℕ, ◌+◌, ◌-◌, ◌/◌, ◌%◌, ◌^◌, ◌≤◌, ◌<◌}
use lib.Dec.{leb}
use lib.ListN.{length}
use borrow.Author.Tests.{ltb-true, leb-true, lt-ltb}
use Rattle.rules_shared.specs.Runs.{halt}
use Rattle.rules_object.specs.Halts.{Halt, halt_number, bad_stack, bad_instruction}
use Rattle.std.specs.Prelude.{Result, Ok, Err}
use Rattle.object_opcodes.specs.declared.Halt as opcodes
use Rattle.object_opcodes.specs.declared.Halt.TheVariants.{BadStack, BadInstruction}
use Rattle.object_opcodes.specs.Halts.{number_of}
use Rattle.rules_object.specs.Object.{Object}
use Rattle.rules_object.specs.Check.{in_code}
use Rattle.rules_object.specs.Operations.{Instr, operation_of, operand_of, meant, decode, right43, entry_right, pops, pushes, instruction}
use Rattle.rules_object.specs.Machine.{State, step, bench_step}
use Rattle.rules_object.specs.Safe.{Right}
use Rattle.run_operations.specs.Ready.{Ready}
use Rattle.run_operations.proofs.Known.{both}
use Rattle.run_guards.specs.Guarding.{room_for, word_of, guard_of}
use Rattle.run_guards.proofs.Guards.{room_there}

-- ---- where it finds nothing

pub record Passes (o : Object) (i h : ℕ) : Type 0 where
  pub inside : i < length o.code
  pub operand : right43 o (word_of o i) ≡ true
  pub entry : entry_right o (word_of o i) ≡ true
  pub popped : pops (instruction o i) ≤ h
  pub pushed : h - pops (instruction o i) + pushes (instruction o i) ≤ 40

abbrev Answer : Type 0
Answer = Result (Unit {0}) opcodes.Halt

cond_ok : (a b : Bool) → ◌≡◌ {A = Answer} (cond a (cond b (Ok tt) (Err BadStack)) (Err BadInstruction)) (Ok tt) → (a ≡ true) × (b ≡ true)
cond_ok true true e = (refl, refl)
cond_ok true false e = absurd cc
cond_ok false b e = absurd cc

pub guard_passes : (o : Object) (i h : ℕ) → guard_of o i h ≡ Ok tt → Passes o i h
unfolding guard_of room_for
guard_passes o i h e =
    let n = instruction o i in
    let q = cond_ok (in_code o i && (right43 o (word_of o i) && entry_right o (word_of o i))) (leb (pops n) h && leb (h - pops n + pushes n) 40) e in
    let a = both (in_code o i) _ q.0 in
    let b = both (right43 o (word_of o i)) _ a.1 in
    let c = both (leb (pops n) h) _ q.1 in
    record { inside = ltb-true _ _ a.0; operand = b.0; entry = b.1; popped = leb-true _ _ c.0; pushed = leb-true _ _ c.1 }

pub passes_ready : (o : Object) (i h w op x : ℕ) → Passes o i h → w ≡ word_of o i → op ≡ w / 2 ^ 24 → x ≡ w % 2 ^ 24 → Ready o op x h
unfolding right43 entry_right decode operation_of operand_of
passes_ready o i h w op x p e f g =
    let f' : op ≡ operation_of (word_of o i) = f ∙ ap (λ v. v / 2 ^ 24) e in
    let g' : x ≡ operand_of (word_of o i) = g ∙ ap (λ v. v % 2 ^ 24) e in
    subst (λ n. Ready o n x h) (sym f')
    (subst (λ n. Ready o (operation_of (word_of o i)) n h) (sym g')
    (record { operand = p.operand; entry = p.entry; popped = p.popped; pushed = p.pushed }))

pub instruction_is : (o : Object) (i w op x : ℕ) → w ≡ word_of o i → op ≡ w / 2 ^ 24 → x ≡ w % 2 ^ 24 → meant o op x ≡ instruction o i
unfolding decode operation_of operand_of
instruction_is o i w op x e f g = ap₂ (meant o) (f ∙ ap (λ v. v / 2 ^ 24) e) (g ∙ ap (λ v. v % 2 ^ 24) e)

-- ---- the guard and the book's step

module _ (o : Object) (t : State) where
  abbrev n : Instr
  n = instruction o t.index

  abbrev A : Bool
  A = in_code o t.index && (right43 o (word_of o t.index) && entry_right o (word_of o t.index))

  abbrev B : Bool
  B = leb (pops n) (length t.stack) && leb (length t.stack - pops n + pushes n) 40

  pub guard_none : guard_of o t.index (length t.stack) ≡ Ok tt → bench_step o t ≡ step o t
  unfolding guard_of room_for bench_step
  guard_none e = let q = cond_ok A B e in ap₂ (λ a b. cond a (cond b (step o t) (halt bad_stack t)) (halt bad_instruction t)) q.0 q.1

  pub guard_stops : (g : opcodes.Halt) → Err g ≡ guard_of o t.index (length t.stack) → (x : Halt) × ((bench_step o t ≡ halt x t) × (number_of g ≡ halt_number x))
  unfolding guard_of room_for bench_step halt_number
  guard_stops g e = by A B e
    where
      by : (a b : Bool) → ◌≡◌ {A = Answer} (Err g) (cond a (cond b (Ok tt) (Err BadStack)) (Err BadInstruction)) → (x : Halt) × ((cond a (cond b (step o t) (halt bad_stack t)) (halt bad_instruction t) ≡ halt x t) × (number_of g ≡ halt_number x))
      by true true e = absurd cc
      by true false e = (bad_stack, (refl, let q : g ≡ BadStack = cc in ap number_of q))
      by false b e = (bad_instruction, (refl, let q : g ≡ BadInstruction = cc in ap number_of q))

  pub right_guard : Right o t → guard_of o t.index (length t.stack) ≡ Ok tt
  unfolding guard_of
  right_guard r =
      let k = instruction o t.index in
      ap (λ a. cond a (room_for (pops k) (pushes k) (length t.stack)) (Err BadInstruction)) (and_true (lt-ltb _ _ r.inside) (and_true r.operand r.entry))
      ∙ sym (room_there (pops k) (pushes k) (length t.stack) r.popped r.pushed)
    where
      and_true : {a b : Bool} → a ≡ true → b ≡ true → (a && b) ≡ true
      and_true {a} {b} p q = rw (p, q) refl
