-- One instruction: its word at the end of the code, its entry in its table.
-- Assumes nothing.
use mathlib.Core.Path.{◌≡◌, refl, sym, ap, ◌∙◌, subst}
use Prim.Native.Nat.{ℕ, ◌+◌, ◌*◌, ◌%◌, ◌^◌, ◌≤◌, ◌<◌}
use native.Mathlib.Omega.{arith}
use native.Mathlib.Nat.{mod-eq_of_lt}
use native.Mathlib.Numerals.{add-one}
use mathlib.Core.List.{List, [], ◌∷◌, ◌++◌}
use lib.ListN.{length, take, set}
use lib.Seq.{take-suc-set}
use Rattle.rules_shared.specs.Limits.{limits}
use Rattle.rules_object.specs.Operations.{Instr, operation_number}
use Rattle.rules_deck.specs.Translation.{Tables, tables_after, operand, word_of}
use Rattle.take_draft.specs.declared.Counts.{Counts}
use Rattle.take_draft.specs.Counts.{with_word}
use Rattle.take_draft.specs.Kept.{Tabled, Fit}
use Rattle.std.specs.Prelude.{Option, Some, None}
use Rattle.take_instructions.specs.Emits.{Beside, Grows, EmitsWith, Appends}
use Rattle.take_instructions.proofs.Fits.{code_over}

-- ---- one word

pub appended : (ws : List ℕ) (n : Counts) (op x w : ℕ) → length ws ≡ 4096 → n.code + n.dos < 4096 → w ≡ op * 2 ^ 24 + x % 2 ^ 24
    → Appends ws (set ws n.code w) n op x (Some (with_word n))
appended ws n op x w long room is =
    record {
      counts = λ m e. let same : with_word n ≡ m = cc in sym same;
      word = λ m e small.
          let same : with_word n ≡ m = cc in
          let is' : w ≡ op * 2 ^ 24 + x = is ∙ ap (λ (y : ℕ). op * 2 ^ 24 + y) (mod-eq_of_lt small) in
          ap (λ (k : Counts). take k.code (set ws n.code w)) (sym same) ∙ ap (λ (k : ℕ). take k (set ws n.code w)) (add-one n.code)
          ∙ take-suc-set ws n.code w (omega (arith, long, room)) ∙ ap (λ (y : ℕ). take n.code ws ++ (y ∷ [])) is';
      room = λ m e. room;
      full = λ e. let z : ◌≡◌ {A = ℕ} 0 1 = cc in absurd (omega arith);
    }

pub not_appended : (ws : List ℕ) (n : Counts) (op x : ℕ) → 4096 ≤ n.code + n.dos → Appends ws ws n op x None
not_appended ws n op x h =
    record {
      counts = λ m e. let z : ◌≡◌ {A = ℕ} 0 1 = cc in absurd (omega arith);
      word = λ m e. let z : ◌≡◌ {A = ℕ} 0 1 = cc in absurd (omega arith);
      room = λ m e. let z : ◌≡◌ {A = ℕ} 0 1 = cc in absurd (omega arith);
      full = λ e. h;
    }

-- ---- the counts

-- an entry more in a table, and no code yet
pub record Between (n k : Counts) : Type 0 where
  pub beside : Beside n k
  pub code : k.code ≡ n.code

pub itself : (n : Counts) → Between n n
itself n = record { beside = record { names = refl; cells = refl; dos = refl; jumps = refl; statements = refl }; code = refl }

module _ {ws ws' : List ℕ} {n k : Counts} {op x : ℕ} {r : Option Counts} (b : Between n k) (f : Fit k) (a : Appends ws ws' k op x r) where
  besides : (m : Counts) → r ≡ Some m → Beside n m
  besides m e =
      let q = a.counts m e in
      record {
        names = ap (λ (y : Counts). y.names) q ∙ b.beside.names;
        cells = ap (λ (y : Counts). y.cells) q ∙ b.beside.cells;
        dos = ap (λ (y : Counts). y.dos) q ∙ b.beside.dos;
        jumps = ap (λ (y : Counts). y.jumps) q ∙ b.beside.jumps;
        statements = ap (λ (y : Counts). y.statements) q ∙ b.beside.statements;
      }

  fits : (m : Counts) → r ≡ Some m → Fit m
  fits m e =
      subst (λ (y : Counts). Fit y) (sym (a.counts m e))
      (record {
        names = f.names;
        cells = f.cells;
        constants = f.constants;
        elements = f.elements;
        exits = f.exits;
        dos = f.dos;
        code = omega (arith, a.room m e);
        statements = f.statements;
        jumps = f.jumps;
      })

  rooms : (d : ℕ) → k.code + (k.dos + d) < limits.code → (m : Counts) → r ≡ Some m → m.code + (m.dos + d) ≤ limits.code
  rooms d h m e =
      let c = ap (λ (y : Counts). y.code) (a.counts m e) in
      let g = ap (λ (y : Counts). y.dos) (a.counts m e) in
      omega (arith, h, c, g)

  roomy : (m : Counts) → r ≡ Some m → k.code + (k.dos + 0) < limits.code
  roomy m e = omega (arith, a.room m e)

  pub grows_with : (d : ℕ) → ((m : Counts) → r ≡ Some m → k.code + (k.dos + d) < limits.code) → Grows d n r
  grows_with d h = record { fit = fits; beside = besides; room = λ m e. rooms d (h m e) m e }

  pub grows : Grows 0 n r
  grows = grows_with 0 roomy

  module _ (T : Tables) (i : Instr) {c e : List ℕ} (t : Tabled (tables_after T i) c e k) (o : op ≡ operation_number i) (p : x ≡ operand T i) (s : x < 2 ^ 24) where
    word_is : op * 2 ^ 24 + x ≡ word_of T i
    unfolding word_of
    word_is = ap (λ (y : ℕ). y * 2 ^ 24 + x) o ∙ ap (λ (y : ℕ). operation_number i * 2 ^ 24 + y) p

    pub one_with : (d : ℕ) → ((m : Counts) → r ≡ Some m → k.code + (k.dos + d) < limits.code) → EmitsWith d T (i ∷ []) ws c e ws' n r
    one_with d h =
        record {
          wrote = λ m q.
              let same = a.counts m q in
              let code_is = ap (λ (y : Counts). y.code) same in
              record {
                tables = subst (λ (y : Counts). Tabled (tables_after T i) c e y) (sym same)
                    (record {
                      constants_are = t.constants_are;
                      constants_count = t.constants_count;
                      elements_are = t.elements_are;
                      elements_count = t.elements_count;
                      exits_count = t.exits_count;
                    });
                words_are = a.word m q s ∙ ap (λ (j : ℕ). take j ws ++ ((op * 2 ^ 24 + x) ∷ [])) b.code ∙ ap (λ (y : ℕ). take n.code ws ++ (y ∷ [])) word_is;
                code_count = omega (arith, code_is, b.code);
                beside = besides m q;
                fit = fits m q;
              };
          room = λ m q. rooms d (h m q) m q;
          full = λ q. code_over (tables_after T i) (n.code + 1) (n.dos + d) (omega (arith, a.full q, b.code, b.beside.dos));
        }

    pub one : EmitsWith 0 T (i ∷ []) ws c e ws' n r
    one = one_with 0 roomy

-- nothing was put
pub no_counts_lem : (d : ℕ) (n : Counts) → Grows d n None
no_counts_lem d n =
    record {
      fit = λ m e. let z : ◌≡◌ {A = ℕ} 0 1 = cc in absurd (omega arith);
      beside = λ m e. let z : ◌≡◌ {A = ℕ} 0 1 = cc in absurd (omega arith);
      room = λ m e. let z : ◌≡◌ {A = ℕ} 0 1 = cc in absurd (omega arith);
    }
