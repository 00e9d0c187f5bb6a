-- What ends each form, by its number; and code after the items.
-- Assumes nothing.
use mathlib.Core.Path.{◌≡◌, sym, ap, ◌∙◌, subst}
use Prim.Native.Nat.{ℕ, ◌^◌, ◌<◌}
use native.Mathlib.Omega.{arith}
use mathlib.Core.Bool.{true}
use mathlib.Core.List.{List, [], ◌∷◌, map}
use lib.Dec.{leb}
use lib.ListN.{length, length-map}
use borrow.Author.Tests.{leb-true}
use Rattle.rules_shared.specs.House.{house1401}
use Rattle.rules_object.specs.Operations.{Instr, LOD, BRC, DOI}
use Rattle.rules_shared.proofs.EachLaws.{each_head}
use Rattle.rules_text.specs.Trees.{Name, Digits, value_of, Form, go_to, computed, form_exits, form_last}
use Rattle.rules_deck.specs.Translation.{Held, is_the_name, holds, cell_of, Tables}
use Rattle.rules_deck.specs.Judge.{right13}
use Rattle.rules_text.proofs.Readers.{both_true}
use Rattle.read_tokens.specs.Words.{capped, name_of}
use Rattle.read_tokens.specs.declared.Name as code
use Rattle.take_draft.specs.declared.Counts.{Counts}
use Rattle.take_draft.specs.Parts.{Item, form_first, form_ending}
use Rattle.take_draft.specs.Names.{Told, Known, dims_held}
use Rattle.take_draft.specs.Draft.{no_loop}
use Rattle.rules_deck.proofs.Houses.{lawful1401}
use Rattle.take_draft.proofs.ReadForm.{right_number, number_exact, right13_capped}
use Rattle.std.specs.Prelude.{Option, Some, None}
use Rattle.take_instructions.specs.Emits.{Grows, EmitsWith}
use Rattle.take_instructions.specs.Emitting.{EmitsJump, EmitsHalt, EmitsThree, EmitsChoose, EmitsEnter}
use Rattle.take_operands.specs.Operands.{EmitsStore, EmitsLoad}
use Rattle.take_instructions.proofs.Both.{emits_both, full_then}
use Rattle.take_kinds.specs.declared.Kind.{Kind}
use Rattle.take_kinds.specs.declared.Kind.TheVariants as kind
use Rattle.take_plans.specs.declared.Plan.{Plan}
use Rattle.take_plans.specs.Plans.{form_plan}
use Rattle.take_plans.proofs.ByKind.{at_assign, at_go_to, at_computed, at_if, at_do, at_stop_lem, at_end_lem}
use Rattle.take_marks.specs.Marks.{cell_name}
use Rattle.take_code.specs.Endings.{does_by, does_of, EmitsEnding}

-- ---- DOEs

pub does_as : (p : Plan) (k : Kind) → p.kind ≡ k → does_of p ≡ does_by k
unfolding does_of
does_as p k z = ap does_by z

pub grows_as : (p : Plan) {d : ℕ} {n : Counts} {r : Option Counts} → does_of p ≡ d → Grows d n r → Grows (does_of p) n r
grows_as p {d} {n} {r} e g = subst (λ (x : ℕ). Grows x n r) (sym e) g

-- ---- by kind

module _ (p : Plan) (f : Form) (e : p ≡ form_plan f) where
  pub of_kind_lem : (k : Kind) → p.kind ≡ k → (form_plan f).kind ≡ k
  of_kind_lem k z = sym (ap (λ (x : Plan). x.kind) e) ∙ z

-- what a form's ending is to ensure
abbrev pub Ends : ℕ → Plan → List Held → Tables → List ℕ → List ℕ → List ℕ → List ℕ → Counts → Option Counts → Form → Type 0
Ends digits p held T constants words elements' words' n r f =
    p ≡ form_plan f → right13 (house1401 digits) f ≡ true → Known held (form_first f)
    → EmitsWith (length (form_last f)) T (form_ending held (dims_held held) (DOI n.dos no_loop) f) words constants elements' words' n r

low_number : (n : ℕ) → right_number n ≡ true → n < 2 ^ 24
low_number n h = let b = leb-true n 99999 (both_true (leb 1 n) (leb n 99999) h).1 in omega arith

go_to_right : (digits : ℕ) (n : Digits) → right13 (house1401 digits) (go_to n) ≡ true → right_number (capped n) ≡ true
unfolding form_exits form_last
go_to_right digits n h = (both_true (right_number (capped n)) true (sym (right13_capped (lawful1401 digits) (go_to n)) ∙ h)).0

module _ {p : Plan} {names elements words elements' words' : List ℕ} {n : Counts} {r : Option Counts} where
  pub ends_store : p.kind ≡ kind.Assignment → EmitsStore p.target names elements words elements' words' n r → EmitsEnding p names elements words elements' words' n r
  unfolding form_last form_plan
  ends_store z s digits f held T constants e l t h k =
      at_assign (Ends digits p held T constants words elements' words' n r) (λ target x e' h' k'. s held target T constants l t (ap (λ (y : Plan). y.target) e') k')
      f (of_kind_lem p f e kind.Assignment z) e h k

module _ {p : Plan} {names elements words words' : List ℕ} {n : Counts} {r : Option Counts} where
  pub ends_jump : p.kind ≡ kind.GoTo → EmitsJump p.below.0 words words' n r → EmitsEnding p names elements words elements words' n r
  unfolding form_last form_plan
  ends_jump z s digits f held T constants e l t h k =
      at_go_to (Ends digits p held T constants words elements words' n r)
      (λ m e' h' k'.
      let right = go_to_right digits m h' in
      let b : p.below.0 ≡ capped m = ap (λ (y : Plan). y.below.0) e' in
      let i : p.below.0 ≡ value_of m = b ∙ number_exact m right in
      let low : p.below.0 < 2 ^ 24 = subst (λ (x : ℕ). x < 2 ^ 24) (sym b) (low_number (capped m) right) in
      subst (λ (x : ℕ). EmitsWith 0 T (Instr.JMP x ∷ []) words constants elements words' n r) i (s low T constants elements t))
      f (of_kind_lem p f e kind.GoTo z) e h k

  pub ends_three : p.kind ≡ kind.If → EmitsThree words words' n r → EmitsEnding p names elements words elements words' n r
  unfolding form_last form_plan
  ends_three z s digits f held T constants e l t h k =
      at_if (Ends digits p held T constants words elements words' n r) (λ x a b c e' h' k'. s (value_of a) (value_of b) (value_of c) T constants elements t) f (of_kind_lem p f e kind.If z) e h k

  pub ends_enter : p.kind ≡ kind.Do → EmitsEnter words words' n r → EmitsEnding p names elements words elements words' n r
  unfolding form_last form_plan
  ends_enter z s digits f held T constants e l t h k =
      at_do (Ends digits p held T constants words elements words' n r) (λ m v a b c e' h' k'. s no_loop T constants elements t) f (of_kind_lem p f e kind.Do z) e h k

  pub ends_stop : p.kind ≡ kind.Stop → EmitsHalt 0 words words' n r → EmitsEnding p names elements words elements words' n r
  unfolding form_last form_plan
  ends_stop z s digits f held T constants e l t h k =
      at_stop_lem (Ends digits p held T constants words elements words' n r) (λ e' h' k'. s (omega arith) T constants elements t) f (of_kind_lem p f e kind.Stop z) e h k

  pub ends_end : p.kind ≡ kind.End → EmitsHalt 1 words words' n r → EmitsEnding p names elements words elements words' n r
  unfolding form_last form_plan
  ends_end z s digits f held T constants e l t h k =
      at_end_lem (Ends digits p held T constants words elements words' n r) (λ e' h' k'. s (omega arith) T constants elements t) f (of_kind_lem p f e kind.End z) e h k

-- ---- a computed GO TO

plain_told : {held : List Held} {v : Name} → Known held (Item.plain v ∷ []) → Told v × (holds (is_the_name v) held ≡ true)
plain_told {held} {v} h = (each_head {P = Told} h.told, each_head {P = λ (w : Name). holds (is_the_name w) held ≡ true} h.plains)

name_is : {p : Plan} (ns : List Digits) (v : Name) → p ≡ form_plan (computed ns v) → cell_name p.target ≡ name_of v
unfolding form_plan cell_name
name_is ns v e = ap (λ (y : Plan). cell_name y.target) e

listed_is : {p : Plan} (ns : List Digits) (v : Name) → p ≡ form_plan (computed ns v) → p.listed ≡ length ns
unfolding form_plan
listed_is ns v e = ap (λ (y : Plan). y.listed) e

module _ {p : Plan} {names words middle words' : List ℕ} {n : Counts} {a : Option Counts} {name : code.Name} (z : p.kind ≡ kind.Computed) (w : name ≡ cell_name p.target)
    (s : EmitsLoad name names words middle n a) where
  pub choose_full : {r : Option Counts} → a ≡ None → r ≡ None → (elements : List ℕ) → EmitsEnding p names elements words elements words' n r
  unfolding form_last
  choose_full {r} q none elements digits f held T constants e l t h k =
      at_computed (Ends digits p held T constants words elements words' n r)
      (λ ns v e' h' k'.
      let known = plain_told k' in
      subst (EmitsWith 0 T (LOD (cell_of held v) ∷ BRC (map value_of ns) ∷ []) words constants elements words' n) (sym none)
      (full_then T (LOD (cell_of held v) ∷ []) (BRC (map value_of ns) ∷ []) (s held v T constants elements l t (w ∙ name_is ns v e') known.0 known.1) q))
      f (of_kind_lem p f e kind.Computed z) e h k

  pub choose_then : {m : Counts} {r : Option Counts} → a ≡ Some m → EmitsChoose p.listed middle words' m r
      → (elements : List ℕ) → EmitsEnding p names elements words elements words' n r
  unfolding form_last
  choose_then {m} {r} q c elements digits f held T constants e l t h k =
      at_computed (Ends digits p held T constants words elements words' n r)
      (λ ns v e' h' k'.
      let known = plain_told k' in
      let wrote = (s held v T constants elements l t (w ∙ name_is ns v e') known.0 known.1).wrote m q in
      emits_both T (LOD (cell_of held v) ∷ []) (BRC (map value_of ns) ∷ []) wrote
      (c (map value_of ns) (length-map ns value_of ∙ sym (listed_is ns v e')) T constants elements wrote.tables))
      f (of_kind_lem p f e kind.Computed z) e h k
