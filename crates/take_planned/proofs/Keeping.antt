-- The tables hold the draft with the statement, and 18 of it.
-- Assumes nothing.
use mathlib.Core.Path.{◌≡◌, refl, sym, ap, ◌∙◌, subst}
use Prim.Native.Nat.{ℕ, ◌+◌, ◌*◌, ◌≤◌}
use native.Mathlib.Omega.{arith}
use mathlib.Core.Bool.{Bool, true, false, ◌&&◌}
use mathlib.Core.List.{List, [], ◌∷◌, ◌++◌, map, append_assoc}
use lib.Dec.{leb}
use lib.ListN.{length, take, length-append}
use borrow.Author.Tests.{le-leb, lt-leb}
use Rattle.rules_object.specs.Object.{Loop}
use Rattle.rules_object.specs.Operations.{Instr}
use Rattle.rules_object.specs.Bytes.{concat}
use Rattle.rules_object.specs.Bytes as object
use Rattle.rules_text.specs.Trees.{Form, form_last, Statement}
use Rattle.rules_deck.specs.Translation.{Held, brings, Tables, emit, tables_of, cell_count}
use Rattle.rules_deck.specs.Judge.{Taken, takes, right18, form_exit_words, name_count}
use Rattle.take_draft.specs.declared.Counts.{Counts}
use Rattle.take_draft.specs.Names.{names_fit}
use Rattle.take_draft.specs.Draft.{entries_of, draft_code, Draft, drafts}
use Rattle.take_draft.specs.Kept.{Words, Tabled, tables_fit, Fit, Kept, Matches}
use Rattle.take_draft.proofs.Matching.{emit_length, entries_count, matches_next, right18_fits}
use Rattle.std.specs.Prelude.{Option, Some, None}
use Rattle.take_kinds.specs.declared.Kind.TheVariants.{Do}
use Rattle.take_plans.specs.Plans.{form_plan}
use Rattle.take_parts.specs.Steps.{Filled}
use Rattle.take_planned.proofs.Counting.{After, one_last}

pub entries_both : (a b : List Loop) → concat (map object.loop_words (a ++ b)) ≡ concat (map object.loop_words a) ++ concat (map object.loop_words b)
entries_both [] b = refl
entries_both (d ∷ a) b = ap (λ (l : List ℕ). object.loop_words d ++ l) (entries_both a b) ∙ sym (append_assoc (object.loop_words d) (concat (map object.loop_words a)) (concat (map object.loop_words b)))

pub tabled_as : {T T' : Tables} {constants elements : List ℕ} {m r : Counts} → T ≡ T' → r.constants ≡ m.constants → r.elements ≡ m.elements → r.exits ≡ m.exits
    → Tabled T constants elements m → Tabled T' constants elements r
tabled_as {T} {T'} {constants} {elements} {m} {r} e a b c t =
    subst (λ (U : Tables). Tabled U constants elements r) e
    (record {
      constants_are = ap (λ (i : ℕ). take i constants) a ∙ t.constants_are;
      constants_count = a ∙ t.constants_count;
      elements_are = ap (λ (i : ℕ). take (9 * i) elements) b ∙ t.elements_are;
      elements_count = b ∙ t.elements_count;
      exits_count = c ∙ t.exits_count;
    })

-- 18 as a test
abbrev pub fitting : List Held → Tables → ℕ → ℕ → Bool
fitting held T code dos = names_fit held && (leb dos 64 && tables_fit T code dos)

abbrev pub punched : Form → ℕ → Statement
punched f number = record { number = number; form = f }

-- what is held then, and the form's code
abbrev pub later_of : Draft → Counts → Form → List Held
later_of D n f = brings n.statements f D.held

abbrev pub more_of : Draft → Counts → Form → List Instr
more_of D n f = draft_code n.dos (later_of D n f) f

inner_false : (a b c : Bool) → (a && c) ≡ false → (a && (b && c)) ≡ false
inner_false true true c e = e
inner_false true false c e = refl
inner_false false b c e = refl

middle_false : (a b c : Bool) → b ≡ false → (a && (b && c)) ≡ false
middle_false true b c e = ap (λ (x : Bool). x && c) e
middle_false false b c e = refl

all_true : (a b c d e g h : Bool) → a ≡ true → b ≡ true → c ≡ true → d ≡ true → e ≡ true → g ≡ true → h ≡ true → ((a && b) && (c && (d && (e && (g && h))))) ≡ true
all_true a b c d e g h p q r s t u v = rw (p, q, r, s, t, u, v)

module _ {D : Draft} {lent : Words} {n : Counts} (kept : Kept D lent n) (f : Form) (number : ℕ) where
  pub same_code : (more_of D n f) ≡ draft_code (length D.dos) (later_of D n f) f
  same_code = ap (λ (d : ℕ). draft_code d (later_of D n f) f) kept.dos_count

  pub same_tables : tables_of D.tables (more_of D n f) ≡ (drafts n.statements (punched f number) D).tables
  unfolding drafts
  same_tables = ap (tables_of D.tables) same_code

  pub dos_long : length (drafts n.statements (punched f number) D).dos ≡ n.dos + length (form_last f)
  unfolding drafts
  dos_long = omega (arith, kept.dos_count, entries_count (later_of D n f) n.statements f, length-append D.dos (entries_of (later_of D n f) n.statements f))

  pub code_long : length (drafts n.statements (punched f number) D).code ≡ n.code + length (more_of D n f)
  unfolding drafts
  code_long =
      omega (arith, kept.code_count, length-append D.code (emit D.tables (draft_code (length D.dos) (later_of D n f) f)), emit_length D.tables (draft_code (length D.dos) (later_of D n f) f), ap length same_code)

  -- 18 by the counts
  pub test_18 : (t : Taken) → Matches t D → right18 (takes n.statements f t) ≡ fitting (later_of D n f) (tables_of D.tables (more_of D n f)) (n.code + length (more_of D n f)) (n.dos + length (form_last f))
  unfolding drafts
  test_18 t M =
      right18_fits (takes n.statements f t) (drafts n.statements (punched f number) D) (matches_next n.statements (punched f number) M)
      ∙ ap (λ (d : ℕ). fitting (later_of D n f) (drafts n.statements (punched f number) D).tables (length (drafts n.statements (punched f number) D).code) d) dos_long
      ∙ ap (λ (c : ℕ). fitting (later_of D n f) (drafts n.statements (punched f number) D).tables c (n.dos + length (form_last f))) code_long
      ∙ ap (λ (T : Tables). fitting (later_of D n f) T (n.code + length (more_of D n f)) (n.dos + length (form_last f))) (sym same_tables)

  pub exits_grow : {t : Taken} → Matches t D → length (tables_of D.tables (more_of D n f)).exits ≡ n.exits + form_exit_words f
  unfolding takes
  exits_grow M = omega (arith, (matches_next n.statements (punched f number) M).exits, M.exits, kept.tables.exits_count, ap (λ (T : Tables). length T.exits) same_tables)

  -- ---- 18

  module _ {t : Taken} (M : Matches t D) {names' constants' elements' code' : List ℕ} {r : Option Counts}
      (filled : Filled n.statements f D.held D.tables lent.code names' constants' elements' code' n r) where
    pub full_18 : r ≡ None → right18 (takes n.statements f t) ≡ false
    full_18 e = test_18 t M ∙ inner_false (names_fit (later_of D n f)) (leb (n.dos + length (form_last f)) 64) (tables_fit (tables_of D.tables (more_of D n f)) (n.code + length (more_of D n f)) (n.dos + length (form_last f))) (filled.full e)

    pub fits_18 : {m l : Counts} → r ≡ Some m → m.dos ≡ n.dos → After f m l → Fit l → right18 (takes n.statements f t) ≡ true
    fits_18 {m} {l} e d s h =
        let lists = filled.lists m e in
        let tabled = filled.tables m e in
        let T = tables_of D.tables (more_of D n f) in
        let c = filled.code_count m e in
        let a₁ : leb (name_count (later_of D n f)) 100 ≡ true = le-leb (name_count (later_of D n f)) 100 (omega (arith, lists.names_are, lists.names_fit)) in
        let a₂ : leb (cell_count (later_of D n f)) 4096 ≡ true = le-leb (cell_count (later_of D n f)) 4096 (omega (arith, lists.cells_are, lists.cells_fit)) in
        let a₃ : leb (n.dos + length (form_last f)) 64 ≡ true = le-leb (n.dos + length (form_last f)) 64 (omega (arith, h.dos, s.dos)) in
        let a₄ : leb (length T.constants) 256 ≡ true = le-leb (length T.constants) 256 (omega (arith, tabled.constants_count, s.constants, h.constants)) in
        let a₅ : leb (length T.elements) 256 ≡ true = le-leb (length T.elements) 256 (omega (arith, tabled.elements_count, s.elements, h.elements)) in
        let a₆ : leb (length T.exits) 1024 ≡ true = le-leb (length T.exits) 1024 (omega (arith, tabled.exits_count, s.exits, h.exits)) in
        let a₇ : leb (n.code + length (more_of D n f) + (n.dos + length (form_last f))) 4096 ≡ true = le-leb (n.code + length (more_of D n f) + (n.dos + length (form_last f))) 4096 (omega (arith, c, s.code, s.dos, h.code)) in
        test_18 t M ∙ all_true (leb (name_count (later_of D n f)) 100) (leb (cell_count (later_of D n f)) 4096) (leb (n.dos + length (form_last f)) 64) (leb (length T.constants) 256)
        (leb (length T.elements) 256) (leb (length T.exits) 1024) (leb (n.code + length (more_of D n f) + (n.dos + length (form_last f))) 4096) a₁ a₂ a₃ a₄ a₅ a₆ a₇

  pub dos_18 : {t : Taken} → Matches t D → (form_plan f).kind ≡ Do → 64 ≤ n.dos → right18 (takes n.statements f t) ≡ false
  dos_18 {t} M z h = test_18 t M ∙ middle_false (names_fit (later_of D n f)) (leb (n.dos + length (form_last f)) 64) (tables_fit (tables_of D.tables (more_of D n f)) (n.code + length (more_of D n f)) (n.dos + length (form_last f))) (lt-leb (n.dos + length (form_last f)) 64 (omega (arith, one_last f z)))
