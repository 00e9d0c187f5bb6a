-- The instructions that end a form, and a plain name's.
-- Assumes nothing.
use mathlib.Core.Path.{◌≡◌, refl}
use Prim.Native.Nat.{ℕ, ◌+◌, ◌-◌, ◌≤◌, ◌<◌}
use native.Mathlib.Omega.{arith}
use mathlib.Core.List.{List, [], ◌∷◌}
use lib.ListN.{length, length-append}
use Rattle.rules_object.specs.Operations.{HLT, JMP, BR3, BRC, DOI}
use Rattle.rules_deck.specs.Translation.{Tables, add_exits, tables_after}
use Rattle.take_draft.specs.declared.Counts.{Counts}
use Rattle.take_draft.specs.Counts.{with_exits}
use Rattle.take_draft.specs.Kept.{Tabled, Fit}
use Rattle.std.specs.Prelude.{Option, None}
use Rattle.take_instructions.specs.Emits.{Grows, Appends}
use Rattle.take_instructions.specs.Emitting.{EmitsJump, EmitsHalt, EmitsThree, EmitsChoose, EmitsEnter}
use Rattle.take_instructions.proofs.Fits.{exits_over, code_over}
use Rattle.take_instructions.proofs.Both.{no_room_lem}
use Rattle.take_instructions.proofs.One.{Between, itself, grows_with, grows, one_with, one, no_counts_lem}

-- ---- no table

module _ {ws ws' : List ℕ} {n : Counts} {r : Option Counts} (f : Fit n) where
  pub halted : {x : ℕ} → Appends ws ws' n 0 x r → Grows 0 n r × EmitsHalt x ws ws' n r
  halted {x} a = (grows (itself n) f a, λ s T c e t. one (itself n) f a T (HLT x) t refl refl s)

  pub jumped : {number : ℕ} → Appends ws ws' n 11 number r → Grows 0 n r × EmitsJump number ws ws' n r
  jumped {number} a = (grows (itself n) f a, λ s T c e t. one (itself n) f a T (JMP number) t refl refl s)

  pub entered : (n.code + n.dos < 4095) → Appends ws ws' n 14 n.dos r → Grows 1 n r × EmitsEnter ws ws' n r
  entered h a = (
    grows_with (itself n) f a 1 (λ m q. omega (arith, h)),
    λ d T c e t. one_with (itself n) f a T (DOI n.dos d) t refl refl (omega (arith, f.dos)) 1 (λ m q. omega (arith, h)),
  )

pub not_entered_lem : (ws : List ℕ) (n : Counts) → 4095 ≤ n.code + n.dos → Grows 1 n None × EmitsEnter ws ws n None
not_entered_lem ws n h = (no_counts_lem 1 n, λ d T c e t. no_room_lem (code_over T (n.code + 1) (n.dos + 1) (omega (arith, h))))

-- ---- exits

module _ (n : Counts) where
  exits_between : (x : ℕ) → Between n (with_exits n x)
  exits_between x = record { beside = record { names = refl; cells = refl; dos = refl; jumps = refl; statements = refl }; code = refl }

  exits_fit : (x : ℕ) → Fit n → n.exits ≤ x → x ≤ 1024 → Fit (with_exits n x)
  exits_fit x f h k =
      record {
        names = f.names;
        cells = f.cells;
        constants = f.constants;
        elements = f.elements;
        exits = k;
        dos = f.dos;
        code = f.code;
        statements = f.statements;
        jumps = omega (arith, f.jumps, h);
      }

  exits_tabled : (T : Tables) (ts : List ℕ) (x : ℕ) {c e : List ℕ} → Tabled T c e n → x ≡ n.exits + length ts
      → Tabled (add_exits T ts) c e (with_exits n x)
  exits_tabled T ts x t q =
      record {
        constants_are = t.constants_are;
        constants_count = t.constants_count;
        elements_are = t.elements_are;
        elements_count = t.elements_count;
        exits_count = omega (arith, q, t.exits_count, length-append T.exits ts);
      }

  module _ {ws ws' : List ℕ} {r : Option Counts} (f : Fit n) where
    pub branched : n.exits ≤ 1021 → Appends ws ws' (with_exits n (n.exits + 3)) 12 n.exits r → Grows 0 n r × EmitsThree ws ws' n r
    branched h a =
        let b = exits_between (n.exits + 3) in
        let g = exits_fit (n.exits + 3) f (omega arith) (omega (arith, h)) in
        (grows b g a, λ x y z T c e t. one b g a T (BR3 x y z) (exits_tabled T (x ∷ y ∷ z ∷ []) (n.exits + 3) t refl) refl t.exits_count (omega (arith, h)))

    pub chosen : (count : ℕ) → count < 1024 - n.exits → Appends ws ws' (with_exits n (n.exits + count + 1)) 13 n.exits r → Grows 0 n r × EmitsChoose count ws ws' n r
    chosen count h a =
        let b = exits_between (n.exits + count + 1) in
        let g = exits_fit (n.exits + count + 1) f (omega arith) (omega (arith, h)) in (
          grows b g a,
          λ ts k T c e t.
              let size : n.exits + count + 1 ≡ n.exits + length (length ts ∷ ts) = omega (arith, k) in
              one b g a T (BRC ts) (exits_tabled T (length ts ∷ ts) (n.exits + count + 1) t size) refl t.exits_count (omega (arith, f.exits)),
        )

  pub not_branched : (ws : List ℕ) → 1021 < n.exits → Grows 0 n None × EmitsThree ws ws n None
  not_branched ws h = (
    no_counts_lem 0 n,
    λ x y z T c e t. no_room_lem (exits_over (tables_after T (BR3 x y z)) (n.code + 1) (n.dos + 0) (omega (arith, h, t.exits_count, length-append T.exits (x ∷ y ∷ z ∷ [])))),
  )

  pub not_chosen : (ws : List ℕ) (count : ℕ) → 1024 - n.exits ≤ count → Grows 0 n None × EmitsChoose count ws ws n None
  not_chosen ws count h = (
    no_counts_lem 0 n,
    λ ts k T c e t.
        no_room_lem (exits_over (tables_after T (BRC ts)) (n.code + 1) (n.dos + 0) (omega (arith, h, k, t.exits_count, length-append T.exits (length ts ∷ ts)))),
  )
