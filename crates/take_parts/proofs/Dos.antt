-- A DO's entries.
-- Assumes nothing.
use mathlib.Core.Path.{◌≡◌, refl, sym, ap, ◌∙◌, subst}
use Prim.Native.Nat.{ℕ, suc, ◌+◌, ◌*◌, ◌-◌, ◌≤◌, ◌<◌}
use native.Mathlib.Numerals.{add-one}
use native.Mathlib.Omega.{arith}
use mathlib.Core.Bool.{true, false}
use mathlib.Core.List.{List, [], ◌∷◌, ◌++◌, map, append-nil}
use lib.ListN.{take}
use Rattle.rules_shared.specs.Limits.{limits}
use Rattle.rules_object.specs.Bytes.{concat}
use Rattle.rules_object.specs.Bytes as object
use Rattle.rules_shared.proofs.EachLaws.{each_head}
use Rattle.rules_text.specs.Trees.{Name, Digits, Expr, Form, assign, go_to, computed, ifs, loop, continue, stop, end, dimension}
use Rattle.rules_deck.specs.Translation.{Held, hidden, cell_count, is_the_name, is_hidden, holds, cell_of, limit_of, appear, form_plain, brings}
use Rattle.read_tokens.specs.Words.{name_of}
use Rattle.read_tokens.specs.declared.Name as code
use Rattle.read_items.specs.Parsed.{Put}
use Rattle.take_draft.specs.declared.Counts.{Counts}
use Rattle.take_draft.specs.Counts.{with_do}
use Rattle.take_draft.specs.Parts.{form_first}
use Rattle.take_draft.specs.Names.{Told, Lists, Known}
use Rattle.take_draft.specs.Draft.{loop_words, entries_of}
use Rattle.take_draft.specs.Kept.{Fit}
use Rattle.take_name_table.specs.Lookups.{CellOf}
use Rattle.take_name_table.proofs.Growth.{cells_append}
use Rattle.std.specs.Prelude.{Some, None}
use Rattle.take_kinds.specs.declared.Kind.TheVariants.{Do}
use Rattle.take_plans.specs.declared.Plan.{Plan}
use Rattle.take_plans.specs.Plans.{form_plan}
use Rattle.take_plans.proofs.ByKind.{at_do}
use Rattle.take_marks.specs.Marks.{cell_name}
use Rattle.take_code.specs.Endings.{does_of}
use Rattle.take_code.proofs.Ends.{does_as, of_kind_lem}
use Rattle.take_parts.specs.Steps.{Counted, Entered, Enters}
use Rattle.take_parts.proofs.HiddenCells.{appear_fresh, limit_last}

-- ---- the counts

pub counted_other : {p : Plan} {m : Counts} → (p.kind ≡ Do → ⊥) → Fit m → Counted p m (Some m)
counted_other {p} {m} z h =
    record {
      other = λ l e k. cc;
      one = λ l e k. absurd (z k);
      fit = λ l e. let same : m ≡ l = cc in subst Fit same h;
      full = λ e. absurd cc;
    }

pub counted_full : {p : Plan} {m : Counts} → p.kind ≡ Do → 64 ≤ m.dos → Counted p m None
counted_full z h =
    record {
      other = λ l e k. absurd cc;
      one = λ l e k. absurd cc;
      fit = λ l e. absurd cc;
      full = λ e. (z, h);
    }

fit_do : {m : Counts} → Fit m → m.dos < 64 → m.code + (m.dos + 1) ≤ limits.code → Fit (with_do m)
fit_do h l c =
    record {
      names = h.names;
      cells = h.cells;
      constants = h.constants;
      elements = h.elements;
      exits = h.exits;
      dos = omega arith;
      code = c;
      statements = h.statements;
      jumps = h.jumps;
    }

pub counted_one : {p : Plan} {m k : Counts} → p.kind ≡ Do → m.dos < 64 → Fit m → m.code + (m.dos + does_of p) ≤ limits.code → k ≡ with_do m → Counted p m (Some k)
counted_one {p} {m} {k} z h f c w =
    let fits : Fit (with_do m) = fit_do f h (subst (λ (d : ℕ). m.code + (m.dos + d) ≤ limits.code) (does_as p Do z) c) in
    record {
      other = λ l e x. absurd (x z);
      one = λ l e x. let same : k ≡ l = cc in sym same ∙ w;
      fit = λ l e. let same : k ≡ l = cc in subst Fit (sym w ∙ same) fits;
      full = λ e. absurd cc;
    }

-- ---- no DO

record NoDo (held : List Held) (q j : ℕ) (f : Form) : Type 0 where
  entries : entries_of held q f ≡ []
  loops : loop_words q j f ≡ []

no_do_lem : (held : List Held) (q j : ℕ) (f : Form) → ((form_plan f).kind ≡ Do → ⊥) → NoDo held q j f
unfolding form_plan
no_do_lem held q j (loop n v a b c) z = absurd (z refl)
no_do_lem held q j (assign t e) z = record { entries = refl; loops = refl }
no_do_lem held q j (go_to n) z = record { entries = refl; loops = refl }
no_do_lem held q j (computed ns v) z = record { entries = refl; loops = refl }
no_do_lem held q j (ifs e a b c) z = record { entries = refl; loops = refl }
no_do_lem held q j continue z = record { entries = refl; loops = refl }
no_do_lem held q j stop z = record { entries = refl; loops = refl }
no_do_lem held q j end z = record { entries = refl; loops = refl }
no_do_lem held q j (dimension arrays) z = record { entries = refl; loops = refl }

pub enters_other : {p : Plan} {names dos loops : List ℕ} {m : Counts} → (p.kind ≡ Do → ⊥) → Enters p names dos loops dos loops m (Some m)
enters_other {p} {names} {dos} {loops} {m} z f held e l k h =
    let w = no_do_lem (brings m.statements f held) m.statements m.jumps f (λ x. z (ap (λ (y : Plan). y.kind) e ∙ x)) in
    record {
      dos_are = λ i s. let same : m ≡ i = cc in
          ap (λ (c : Counts). take (4 * c.dos) dos) (sym same) ∙ sym (append-nil (take (4 * m.dos) dos))
          ∙ ap (λ (x : List _). take (4 * m.dos) dos ++ concat (map object.loop_words x)) (sym w.entries);
      loops_are = λ i s. let same : m ≡ i = cc in
          ap (λ (c : Counts). take (2 * c.dos) loops) (sym same) ∙ sym (append-nil (take (2 * m.dos) loops)) ∙ ap (λ (x : List ℕ). take (2 * m.dos) loops ++ x) (sym w.loops);
    }

pub enters_full : {p : Plan} {names dos loops dos' loops' : List ℕ} {m : Counts} → Enters p names dos loops dos' loops' m None
enters_full f held e l k h =
    record {
      dos_are = λ i s. absurd cc;
      loops_are = λ i s. absurd cc;
    }

-- ---- a DO

variable_word : {p : Plan} (n : Digits) (v : Name) (a b : Expr) (c : _) → p ≡ form_plan (loop n v a b c) → cell_name p.target ≡ name_of v
unfolding form_plan cell_name
variable_word n v a b c e = ap (λ (y : Plan). cell_name y.target) e

abbrev EntersAs : Plan → List ℕ → List ℕ → List ℕ → List ℕ → List ℕ → Counts → Counts → List Held → Form → Type 0
EntersAs p names dos loops dos' loops' m k held f =
    p ≡ form_plan f → Lists (brings m.statements f held) names m.names m.cells → Known (brings m.statements f held) (form_first f)
    → Entered m.statements f held dos loops dos' loops' m (Some k)

pub enters_one : {p : Plan} {names dos loops dos' loops' : List ℕ} {m k : Counts} {word : code.Name} {variable a b : ℕ} → p.kind ≡ Do → word ≡ cell_name p.target → CellOf names m.names word variable
    → Put dos dos' (4 * m.dos) (variable ∷ (m.cells - 2) ∷ (m.cells - 2 + 1) ∷ 0 ∷ []) a → Put loops loops' (2 * m.dos) (m.statements ∷ m.jumps ∷ []) b → k ≡ with_do m
    → Enters p names dos loops dos' loops' m (Some k)
enters_one {p} {names} {dos} {loops} {dos'} {loops'} {m} {k} {word} {variable} {a} {b} z w c u x y f held e l g h =
    at_do (EntersAs p names dos loops dos' loops' m k held) make f (of_kind_lem p f e Do z) e l g
  where
    q : ℕ
    q = m.statements

    make : (n : Digits) (v : Name) (i j : Expr) (o : _) → EntersAs p names dos loops dos' loops' m k held (loop n v i j o)
    make n v i j o e' l' g' =
        let F = loop n v i j o in
        let H = brings q F held in
        let X = appear held (form_plain F) in
        let fresh : holds (is_hidden q) X ≡ false = appear_fresh q (form_plain F) held h in
        let vis : variable ≡ cell_of H v = c.is H m.cells v l' (each_head {P = Told} g'.told) (w ∙ variable_word n v i j o e') (each_head {P = λ (y : Name). holds (is_the_name y) H ≡ true} g'.plains) in
        let cells : m.cells ≡ cell_count X + 2 = l'.cells_are ∙ cells_append X (hidden q ∷ []) in
        let lim : m.cells - 2 ≡ limit_of H q = let t : m.cells - 2 ≡ cell_count X = omega arith in t ∙ sym (limit_last q X fresh) in
        let step : m.cells - 2 + 1 ≡ suc (limit_of H q) = add-one (m.cells - 2) ∙ ap suc lim in
        let entry : variable ∷ (m.cells - 2) ∷ (m.cells - 2 + 1) ∷ 0 ∷ [] ≡ cell_of H v ∷ limit_of H q ∷ suc (limit_of H q) ∷ 0 ∷ [] = cc in
        let four : a ≡ 4 * (m.dos + 1) = omega (arith, u.top) in
        let two : b ≡ 2 * (m.dos + 1) = omega (arith, x.top) in
        record {
          dos_are = λ d s. let same : k ≡ d = cc in
              ap (λ (r : Counts). take (4 * r.dos) dos') (sym same ∙ y) ∙ ap (λ (r : ℕ). take r dos') (sym four) ∙ u.table ∙ ap (λ (r : List ℕ). take (4 * m.dos) dos ++ r) entry;
          loops_are = λ d s. let same : k ≡ d = cc in
              ap (λ (r : Counts). take (2 * r.dos) loops') (sym same ∙ y) ∙ ap (λ (r : ℕ). take r loops') (sym two) ∙ x.table;
        }
