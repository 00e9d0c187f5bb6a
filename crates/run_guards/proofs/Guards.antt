-- The guard's number, test by test, as the code finds it. Assumes nothing.
use mathlib.Core.Path.{◌≡◌, refl, sym, ap, ap₂, ◌∙◌}
use mathlib.Core.Bool.{true, false, ◌&&◌, cond}
use mathlib.Core.List.{List}
use Prim.Native.Nat.{ℕ, zero, suc, ◌+◌, ◌-◌, ◌*◌, ◌/◌, ◌%◌, ◌^◌, ◌≤◌, ◌<◌}
use native.Mathlib.Omega.{arith}
use lib.Dec.{leb}
use lib.ListN.{length}
use Rattle.std.specs.Prelude.{Ok, Err}
use Rattle.object_opcodes.specs.declared.Halt.TheVariants.{BadStack, BadInstruction}
use borrow.Author.Tests.{lt-ltb, le-ltb, lt-leb, le-leb}
use Rattle.rules_object.specs.Object.{Object}
use Rattle.rules_object.specs.Check.{in_code}
use Rattle.rules_object.specs.Operations.{operation_of, operand_of, meant, decode, right43, entry_right, operation_at, operation_number, pops, pushes, instruction}
use Rattle.object_words.specs.Word.{word_at}
use Rattle.object_contents.specs.declared.Layout.{Layout}
use Rattle.object_contents.specs.Layout.{object_at}
use Rattle.object_contents.proofs.Entries.{code_length, code_at}
use Rattle.run_guards.specs.Guarding.{room_for, word_of, guard_of}

-- ---- the tables, by operation

-- an operation whose operand is right is one of the table, and its number is its own
module _ (o : Object) where
  pub in_table : (op x : ℕ) → (operation_at op).operand_right o x ≡ true → (op < 18) × (operation_number (meant o op x) ≡ op)
  in_table zero x e = (omega arith, refl)
  in_table (suc zero) x e = (omega arith, refl)
  in_table (suc (suc zero)) x e = (omega arith, refl)
  in_table (suc (suc (suc zero))) x e = (omega arith, refl)
  in_table (suc (suc (suc (suc zero)))) x e = (omega arith, refl)
  in_table (suc (suc (suc (suc (suc zero))))) x e = (omega arith, refl)
  in_table (suc (suc (suc (suc (suc (suc zero)))))) x e = (omega arith, refl)
  in_table (suc (suc (suc (suc (suc (suc (suc zero))))))) x e = (omega arith, refl)
  in_table (suc (suc (suc (suc (suc (suc (suc (suc zero)))))))) x e = (omega arith, refl)
  in_table (suc (suc (suc (suc (suc (suc (suc (suc (suc zero))))))))) x e = (omega arith, refl)
  in_table (suc (suc (suc (suc (suc (suc (suc (suc (suc (suc zero)))))))))) x e = (omega arith, refl)
  in_table (suc (suc (suc (suc (suc (suc (suc (suc (suc (suc (suc zero))))))))))) x e = (omega arith, refl)
  in_table (suc (suc (suc (suc (suc (suc (suc (suc (suc (suc (suc (suc zero)))))))))))) x e = (omega arith, refl)
  in_table (suc (suc (suc (suc (suc (suc (suc (suc (suc (suc (suc (suc (suc zero))))))))))))) x e = (omega arith, refl)
  in_table (suc (suc (suc (suc (suc (suc (suc (suc (suc (suc (suc (suc (suc (suc zero)))))))))))))) x e = (omega arith, refl)
  in_table (suc (suc (suc (suc (suc (suc (suc (suc (suc (suc (suc (suc (suc (suc (suc zero))))))))))))))) x e = (omega arith, refl)
  in_table (suc (suc (suc (suc (suc (suc (suc (suc (suc (suc (suc (suc (suc (suc (suc (suc zero)))))))))))))))) x e = (omega arith, refl)
  in_table (suc (suc (suc (suc (suc (suc (suc (suc (suc (suc (suc (suc (suc (suc (suc (suc (suc zero))))))))))))))))) x e = (omega arith, refl)
  in_table (suc (suc (suc (suc (suc (suc (suc (suc (suc (suc (suc (suc (suc (suc (suc (suc (suc (suc op)))))))))))))))))) x e = absurd (let z : ◌≡◌ {A = ℕ} 0 1 = cc in omega arith)

  pub word_in_table : (w : ℕ) → right43 o w ≡ true → (w / 2 ^ 24 < 18) × (operation_number (decode o w) ≡ w / 2 ^ 24)
  unfolding right43 decode operation_of operand_of
  word_in_table w e = in_table (w / 2 ^ 24) (w % 2 ^ 24) e

-- ---- room

module _ (a b h : ℕ) where
  pub room_few : h < a → Err BadStack ≡ room_for a b h
  unfolding room_for
  room_few l = ap (λ t. cond (t && leb (h - a + b) 40) (Ok tt) (Err BadStack)) (sym (lt-leb a h l))

  pub room_full : a ≤ h → 40 < h - a + b → Err BadStack ≡ room_for a b h
  unfolding room_for
  room_full l m = ap₂ (λ t u. cond (t && u) (Ok tt) (Err BadStack)) (sym (le-leb a h l)) (sym (lt-leb (h - a + b) 40 m))

  pub room_there : a ≤ h → h - a + b ≤ 40 → Ok tt ≡ room_for a b h
  unfolding room_for
  room_there l m = ap₂ (λ t u. cond (t && u) (Ok tt) (Err BadStack)) (sym (le-leb a h l)) (sym (le-leb (h - a + b) 40 m))

-- ---- the guard, as the code finds it

module _ (e : Layout) (s : List ℕ) (i h : ℕ) where
  abbrev o : Object
  o = object_at e s

  abbrev W : ℕ
  W = word_of o i

  pub word_is : i < e.code_count → W ≡ word_at s (e.code + 4 * i)
  word_is l = code_at e s i l

  inside_is : i < e.code_count → in_code o i ≡ true
  inside_is l = lt-ltb i (length o.code) (omega (arith, code_length e s))

  pub guard_past : e.code_count ≤ i → Err BadInstruction ≡ guard_of o i h
  unfolding guard_of
  guard_past l =
      ap (λ t. cond (t && (right43 o W && entry_right o W)) (room_for (pops (instruction o i)) (pushes (instruction o i)) h) (Err BadInstruction)) (sym (le-ltb i (length o.code) (omega (arith, code_length e s))))

  module _ (l : i < e.code_count) (w : ℕ) (is : w ≡ word_at s (e.code + 4 * i)) where
    W-is : w ≡ W
    W-is = is ∙ sym (word_is l)

    pub guard_43 : right43 o w ≡ false → Err BadInstruction ≡ guard_of o i h
    unfolding guard_of
    guard_43 f =
        ap₂ (λ t u. cond (t && (u && entry_right o W)) (room_for (pops (instruction o i)) (pushes (instruction o i)) h) (Err BadInstruction)) (sym (inside_is l)) (sym f ∙ ap (right43 o) W-is)

    pub guard_42 : right43 o w ≡ true → entry_right o w ≡ false → Err BadInstruction ≡ guard_of o i h
    unfolding guard_of
    guard_42 f g =
        ap₂ (λ t u. cond (t && (true && u)) (room_for (pops (instruction o i)) (pushes (instruction o i)) h) (Err BadInstruction)) (sym (inside_is l)) (sym g ∙ ap (entry_right o) W-is)
        ∙ ap (λ u. cond (in_code o i && (u && entry_right o W)) (room_for (pops (instruction o i)) (pushes (instruction o i)) h) (Err BadInstruction)) (sym f ∙ ap (right43 o) W-is)

    pub guard_room : right43 o w ≡ true → entry_right o w ≡ true → (op : ℕ) → op ≡ w / 2 ^ 24 → room_for (operation_at op).pops (operation_at op).pushes h ≡ guard_of o i h
    unfolding guard_of
    guard_room f g op q =
        let n : op ≡ operation_number (instruction o i) = q ∙ sym (word_in_table o w f).1 ∙ ap (λ v. operation_number (decode o v)) W-is in
        ap (λ m. room_for (operation_at m).pops (operation_at m).pushes h) n
        ∙ ap₂ (λ t u. cond (t && (true && u)) (room_for (pops (instruction o i)) (pushes (instruction o i)) h) (Err BadInstruction)) (sym (inside_is l)) (sym g ∙ ap (entry_right o) W-is)
        ∙ ap (λ u. cond (in_code o i && (u && entry_right o W)) (room_for (pops (instruction o i)) (pushes (instruction o i)) h) (Err BadInstruction)) (sym f ∙ ap (right43 o) W-is)
