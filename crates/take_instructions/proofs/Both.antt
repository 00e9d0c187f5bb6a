-- Code put after code.
-- Assumes nothing.
use mathlib.Core.Path.{◌≡◌, refl, sym, ap, ◌∙◌, subst}
use Prim.Native.Nat.{ℕ, ◌+◌, ◌≤◌}
use native.Mathlib.Omega.{arith}
use mathlib.Core.Bool.{false}
use mathlib.Core.List.{List, [], ◌∷◌, ◌++◌, append_assoc}
use lib.ListN.{length, take, length-append}
use Rattle.rules_shared.specs.Limits.{limits}
use Rattle.rules_object.specs.Operations.{Instr}
use Rattle.rules_deck.specs.Translation.{Tables, emit, tables_after, word_of, tables_of}
use Rattle.rules_deck.proofs.TableLaws.{tables_append}
use Rattle.take_draft.specs.declared.Counts.{Counts}
use Rattle.take_draft.specs.Kept.{Tabled, tables_fit}
use Rattle.std.specs.Prelude.{Option, Some, None}
use Rattle.take_instructions.specs.Emits.{Beside, Wrote, EmitsWith, Emits}
use Rattle.take_instructions.proofs.Fits.{Grown, grown, still_full}

pub emit_append : (T : Tables) (a b : List Instr) → emit T (a ++ b) ≡ emit T a ++ emit (tables_of T a) b
emit_append T [] b = refl
emit_append T (i ∷ a) b = ap (λ (l : List ℕ). word_of T i ∷ l) (emit_append (tables_after T i) a b)

pub beside_both : {n m l : Counts} → Beside n m → Beside m l → Beside n l
beside_both p q =
    record {
      names = q.names ∙ p.names;
      cells = q.cells ∙ p.cells;
      dos = q.dos ∙ p.dos;
      jumps = q.jumps ∙ p.jumps;
      statements = q.statements ∙ p.statements;
    }

pub has_room : {d : ℕ} {T : Tables} {code : List Instr} {w c e w' : List ℕ} {n m : Counts} → Wrote T code w c e w' n m → m.code + (m.dos + d) ≤ limits.code
    → EmitsWith d T code w c e w' n (Some m)
has_room {d} {T} {code} {w} {c} {e} {w'} {n} {m} h l =
    record {
      wrote = λ k q. let same : m ≡ k = cc in subst (λ (x : Counts). Wrote T code w c e w' n x) same h;
      room = λ k q. let same : m ≡ k = cc in subst (λ (x : Counts). x.code + (x.dos + d) ≤ limits.code) same l;
      full = λ q. let z : ◌≡◌ {A = ℕ} 0 1 = cc in absurd (omega arith);
    }

pub no_room_lem : {d : ℕ} {T : Tables} {code : List Instr} {w c e w' : List ℕ} {n : Counts} → tables_fit (tables_of T code) (n.code + length code) (n.dos + d) ≡ false
    → EmitsWith d T code w c e w' n None
no_room_lem h =
    record {
      wrote = λ k q. let z : ◌≡◌ {A = ℕ} 0 1 = cc in absurd (omega arith);
      room = λ k q. let z : ◌≡◌ {A = ℕ} 0 1 = cc in absurd (omega arith);
      full = λ q. h;
    }

module _ (T : Tables) (a b : List Instr) where
  pub wrote_both : {w c₁ e₁ w₁ c₂ e₂ w₂ : List ℕ} {n m l : Counts} → Wrote T a w c₁ e₁ w₁ n m → Wrote (tables_of T a) b w₁ c₂ e₂ w₂ m l
      → Wrote T (a ++ b) w c₂ e₂ w₂ n l
  wrote_both {w} {c₁} {e₁} {w₁} {c₂} {e₂} {w₂} {n} {m} {l} p q =
      record {
        tables = subst (λ (U : Tables). Tabled U c₂ e₂ l) (sym (tables_append T a b)) q.tables;
        words_are =
            q.words_are ∙ ap (λ (ws : List ℕ). ws ++ emit (tables_of T a) b) p.words_are ∙ append_assoc (take n.code w) (emit T a) (emit (tables_of T a) b)
            ∙ ap (λ (ws : List ℕ). take n.code w ++ ws) (sym (emit_append T a b));
        code_count = omega (arith, p.code_count, q.code_count, length-append a b);
        beside = beside_both p.beside q.beside;
        fit = q.fit;
      }

  -- what does not fit does not fit with more after it
  pub full_both : (n : Counts) (d : ℕ) → tables_fit (tables_of T a) (n.code + length a) (n.dos + 0) ≡ false
      → tables_fit (tables_of T (a ++ b)) (n.code + length (a ++ b)) (n.dos + d) ≡ false
  full_both n d h =
      still_full (tables_of T a) (tables_of T (a ++ b)) (n.code + length a) (n.code + length (a ++ b)) (n.dos + 0) (n.dos + d)
      (subst (λ (U : Tables). Grown (tables_of T a) U) (sym (tables_append T a b)) (grown (tables_of T a) b)) (omega (arith, length-append a b)) h

  pub full_then : {d : ℕ} {w c₁ e₁ w₁ c₂ e₂ w₂ : List ℕ} {n : Counts} {r : Option Counts} → Emits T a w c₁ e₁ w₁ n r → r ≡ None
      → EmitsWith d T (a ++ b) w c₂ e₂ w₂ n None
  full_then {d} {n = n} h e = no_room_lem (full_both n d (h.full e))

  -- one after the other, where the first has room
  pub emits_both : {d : ℕ} {w c₁ e₁ w₁ c₂ e₂ w₂ : List ℕ} {n m : Counts} {r : Option Counts} → Wrote T a w c₁ e₁ w₁ n m
      → EmitsWith d (tables_of T a) b w₁ c₂ e₂ w₂ m r → EmitsWith d T (a ++ b) w c₂ e₂ w₂ n r
  emits_both {d} {n = n} {m} p q =
      record {
        wrote = λ l e. wrote_both p (q.wrote l e);
        room = q.room;
        full =
            λ e.
            still_full (tables_of (tables_of T a) b) (tables_of T (a ++ b)) (m.code + length b) (n.code + length (a ++ b)) (m.dos + d) (n.dos + d)
            (subst (λ (U : Tables). Grown (tables_of (tables_of T a) b) U) (sym (tables_append T a b)) (grown (tables_of (tables_of T a) b) []))
            (omega (arith, length-append a b, p.code_count, p.beside.dos)) (q.full e);
      }
