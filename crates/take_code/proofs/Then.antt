-- One part of the code after another; and forms that no instruction ends.
-- Assumes nothing.
use mathlib.Core.Path.{◌≡◌, refl, sym, ap, ◌∙◌, subst}
use Prim.Native.Nat.{ℕ, ◌+◌, ◌≤◌}
use native.Mathlib.Omega.{arith}
use mathlib.Core.Logic.{◌⊎◌, inl, inr}
use mathlib.Core.List.{List, [], ◌++◌, append-nil}
use lib.ListN.{length, take}
use Rattle.rules_shared.specs.Limits.{limits}
use Rattle.rules_object.specs.Operations.{Instr, DOI}
use Rattle.rules_text.specs.Trees.{Form, assign, go_to, computed, ifs, loop, continue, stop, end, dimension, form_last}
use Rattle.rules_deck.specs.Translation.{Held, Tables}
use Rattle.take_draft.specs.declared.Counts.{Counts}
use Rattle.take_draft.specs.Parts.{items_code, form_items, form_ending}
use Rattle.take_draft.specs.Names.{Lists, dims_held}
use Rattle.take_draft.specs.Draft.{no_loop, draft_code}
use Rattle.take_draft.specs.Kept.{Tabled, Fit}
use Rattle.take_draft.proofs.FormParts.{form_code_lem}
use Rattle.std.specs.Prelude.{Option, Some, None}
use Rattle.take_instructions.specs.Emits.{Beside, Grows, EmitsWith}
use Rattle.take_operands.specs.Operands.{EmitsItems}
use Rattle.take_instructions.proofs.Both.{beside_both, emits_both, full_then, has_room}
use Rattle.take_kinds.specs.declared.Kind.TheVariants as kind
use Rattle.take_plans.specs.declared.Plan.{Plan}
use Rattle.take_plans.specs.Plans.{form_plan}
use Rattle.take_code.specs.Endings.{does_of, EmitsEnding, EmitsPlan}
use Rattle.take_code.proofs.Ends.{does_as, of_kind_lem}

-- ---- counts

pub grows_none : (d : ℕ) (n : Counts) {r : Option Counts} → r ≡ None → Grows d n r
grows_none d n e = record { fit = λ m q. absurd cc; beside = λ m q. absurd cc; room = λ m q. absurd cc }

beside_same : (n : Counts) → Beside n n
beside_same n = record { names = refl; cells = refl; dos = refl; jumps = refl; statements = refl }

pub grows_same : (n : Counts) → Fit n → Grows 0 n (Some n)
grows_same n h =
    record {
      fit = λ m e. let same : n ≡ m = cc in subst Fit same h;
      beside = λ m e. let same : n ≡ m = cc in subst (Beside n) same (beside_same n);
      room = λ m e. let same : n ≡ m = cc in subst (λ (x : Counts). x.code + (x.dos + 0) ≤ limits.code) same (omega (arith, h.code));
    }

pub grows_then : {d : ℕ} {n m : Counts} {a r : Option Counts} → Grows 0 n a → a ≡ Some m → Grows d m r → Grows d n r
grows_then {m = m} g e h = record { fit = h.fit; beside = λ k q. beside_both (g.beside m e) (h.beside k q); room = h.room }

-- ---- CONTINUE and DIMENSION

pub does_nothing : (p : Plan) → (p.kind ≡ kind.Continue) ⊎ (p.kind ≡ kind.Dimension) → does_of p ≡ 0
does_nothing p (inl z) = does_as p _ z
does_nothing p (inr z) = does_as p _ z

pub record Quiet (held : List Held) (i : Instr) (f : Form) : Type 0 where
  pub code : form_ending held (dims_held held) i f ≡ []
  pub does : length (form_last f) ≡ 0

quiet_continue : (held : List Held) (i : Instr) (f : Form) → (form_plan f).kind ≡ kind.Continue → Quiet held i f
unfolding form_last form_plan
quiet_continue held i (assign t e) z = absurd cc
quiet_continue held i (go_to n) z = absurd cc
quiet_continue held i (computed ns v) z = absurd cc
quiet_continue held i (ifs e j k l) z = absurd cc
quiet_continue held i (loop n v p q r) z = absurd cc
quiet_continue held i continue z = record { code = refl; does = refl }
quiet_continue held i stop z = absurd cc
quiet_continue held i end z = absurd cc
quiet_continue held i (dimension arrays) z = absurd cc

quiet_dimension : (held : List Held) (i : Instr) (f : Form) → (form_plan f).kind ≡ kind.Dimension → Quiet held i f
unfolding form_last form_plan
quiet_dimension held i (assign t e) z = absurd cc
quiet_dimension held i (go_to n) z = absurd cc
quiet_dimension held i (computed ns v) z = absurd cc
quiet_dimension held i (ifs e j k l) z = absurd cc
quiet_dimension held i (loop n v p q r) z = absurd cc
quiet_dimension held i continue z = absurd cc
quiet_dimension held i stop z = absurd cc
quiet_dimension held i end z = absurd cc
quiet_dimension held i (dimension arrays) z = record { code = refl; does = refl }

nothing_more : (T : Tables) (words constants elements : List ℕ) (n : Counts) → Fit n → Tabled T constants elements n
    → EmitsWith 0 T [] words constants elements words n (Some n)
nothing_more T words constants elements n h t =
    has_room (record { tables = t; words_are = sym (append-nil (take n.code words)); code_count = omega arith; beside = beside_same n; fit = h }) (omega (arith, h.code))

module _ {p : Plan} {names elements words : List ℕ} {n : Counts} (h : Fit n) where
  ends_quiet : ((held : List Held) (i : Instr) (f : Form) → p ≡ form_plan f → Quiet held i f) → EmitsEnding p names elements words elements words n (Some n)
  ends_quiet still digits f held T constants e l t r k =
      let w = still held (DOI n.dos no_loop) f e in
      subst (λ (m : ℕ). EmitsWith m T (form_ending held (dims_held held) (DOI n.dos no_loop) f) words constants elements words n (Some n)) (sym w.does)
      (subst (λ (is : List Instr). EmitsWith 0 T is words constants elements words n (Some n)) (sym w.code) (nothing_more T words constants elements n h t))

  pub ends_nothing : (p.kind ≡ kind.Continue) ⊎ (p.kind ≡ kind.Dimension) → EmitsEnding p names elements words elements words n (Some n)
  ends_nothing (inl z) = ends_quiet (λ held i f e. quiet_continue held i f (of_kind_lem p f e kind.Continue z))
  ends_nothing (inr z) = ends_quiet (λ held i f e. quiet_dimension held i f (of_kind_lem p f e kind.Dimension z))

-- ---- items, then what ends the form

lists_as : {held : List Held} {names : List ℕ} {n m : Counts} → Beside n m → Lists held names n.names n.cells → Lists held names m.names m.cells
lists_as {held} {names} {n} {m} b l =
    subst (λ (x : ℕ). Lists held names x m.cells) (sym b.names) (subst (λ (x : ℕ). Lists held names n.names x) (sym b.cells) l)

module _ {p : Plan} {items names constants elements words constants₁ elements₁ words₁ : List ℕ} {n : Counts} {a : Option Counts}
    (s : EmitsItems (take p.count items) names constants elements words constants₁ elements₁ words₁ n a) where
  pub plan_full : (elements' words' : List ℕ) {r : Option Counts} → a ≡ None → r ≡ None → EmitsPlan p items names constants elements words constants₁ elements' words' n r
  plan_full elements' words' e none digits f held T q l t r k j =
      subst (EmitsWith (length (form_last f)) T (draft_code n.dos held f) words constants₁ elements' words' n) (sym none) (
      subst (λ (is : List Instr). EmitsWith (length (form_last f)) T is words constants₁ elements' words' n None)
      (sym (form_code_lem held (dims_held held) (DOI n.dos no_loop) f))
      (full_then T (items_code held (dims_held held) (form_items f)) (form_ending held (dims_held held) (DOI n.dos no_loop) f)
      (s held (form_items f) T l t q.operands j) e))

  pub plan_then : {m : Counts} {r : Option Counts} {elements' words' : List ℕ} → a ≡ Some m → EmitsEnding p names elements₁ words₁ elements' words' m r
      → EmitsPlan p items names constants elements words constants₁ elements' words' n r
  plan_then {m} {r} {elements'} {words'} e g digits f held T q l t z k j =
      let wrote = (s held (form_items f) T l t q.operands j).wrote m e in
      let ending = g digits f held _ constants₁ q.plan (lists_as wrote.beside l) wrote.tables z k in
      subst (λ (is : List Instr). EmitsWith (length (form_last f)) T is words constants₁ elements' words' n r)
      (ap (λ (d : ℕ). items_code held (dims_held held) (form_items f) ++ form_ending held (dims_held held) (DOI d no_loop) f) wrote.beside.dos ∙ sym (form_code_lem held (dims_held held) (DOI n.dos no_loop) f))
      (emits_both T (items_code held (dims_held held) (form_items f)) (form_ending held (dims_held held) (DOI m.dos no_loop) f) wrote ending)
