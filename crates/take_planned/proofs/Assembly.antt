-- The tables hold the draft with the statement.
-- Assumes nothing.
use mathlib.Core.Path.{◌≡◌, sym, ap, ◌∙◌, subst}
use Prim.Native.Nat.{ℕ, ◌+◌, ◌*◌, ◌-◌, ◌<◌}
use native.Mathlib.Omega.{arith}
use mathlib.Core.Bool.{true}
use mathlib.Core.List.{List, [], ◌∷◌, ◌++◌, map}
use lib.ListN.{length, take, length-append}
use Rattle.rules_shared.specs.House.{house1401}
use Rattle.rules_object.specs.Operations.{Instr}
use Rattle.rules_object.specs.Bytes.{concat}
use Rattle.rules_object.specs.Bytes as object
use Rattle.rules_text.specs.Trees.{Form}
use Rattle.rules_deck.specs.Translation.{Held, emit}
use Rattle.rules_deck.specs.Judge.{Taken, right13}
use Rattle.take_draft.specs.declared.Counts.{Counts}
use Rattle.take_draft.specs.Names.{Lists}
use Rattle.take_draft.specs.Draft.{kind_of, set_word, jump_words, own_words, loop_words, entries_of, Draft, drafts}
use Rattle.take_draft.specs.Kept.{Words, Fit, Kept, Matches}
use Rattle.take_draft.proofs.Matching.{own_words_lem, jump_count}
use Rattle.std.specs.Prelude.{Option, Some}
use Rattle.take_kinds.specs.Kinds.{word_of}
use Rattle.take_plans.specs.declared.Plan.{Plan}
use Rattle.take_plans.specs.Plans.{Plans}
use Rattle.take_plans.proofs.ByKind.{plan_kind}
use Rattle.take_marks.specs.Marks.{numbers_of, set_of}
use Rattle.take_parts.specs.Steps.{Filled, Entered, Marked}
use Rattle.rules_deck.proofs.Houses.{lawful1401}
use Rattle.take_planned.proofs.Counting.{After, book_numbers, set_word_lem}
use Rattle.take_planned.proofs.Keeping.{entries_both, tabled_as, punched, later_of, more_of, same_code, same_tables, dos_long, code_long, exits_grow}

lists_at : {held : List Held} {names : List ℕ} {a b c d : ℕ} → c ≡ a → d ≡ b → Lists held names a b → Lists held names c d
lists_at {held} {names} {a} {b} {c} {d} e g l = subst (λ (x : ℕ). Lists held names x d) (sym e) (subst (λ (x : ℕ). Lists held names a x) (sym g) l)

module _ {D : Draft} {lent : Words} {n : Counts} (kept : Kept D lent n) (f : Form) (number : ℕ)
    {p : Plan} {items : List ℕ} (plans : Plans f items p) (k : ℕ) (right : right13 (house1401 k) f ≡ true) {m l r : Counts} (md : m.dos ≡ n.dos) (mj : m.jumps ≡ n.jumps) (ms : m.statements ≡ n.statements)
    (s : After f m l) {words : ℕ} (lent' : Words) (marks : Marked p number words items lent.rows lent.jumps lent'.rows lent'.jumps l r) where
  numbers : numbers_of p items ≡ jump_words f
  numbers = book_numbers (lawful1401 k) f plans right

  pub r_statements : r.statements ≡ n.statements + 1
  r_statements = ap (λ (c : Counts). c.statements) marks.is ∙ ap (λ (x : ℕ). x + 1) (s.statements ∙ ms)

  r_jumps : r.jumps ≡ n.jumps + length (jump_words f)
  r_jumps =
      let a : r.jumps ≡ l.jumps + length (numbers_of p items) = ap (λ (c : Counts). c.jumps) marks.is in
      let b : length (numbers_of p items) ≡ length (jump_words f) = ap length numbers in
      omega (arith, s.jumps)

  module _ {a : Option Counts} (ea : a ≡ Some m)
      (filled : Filled n.statements f D.held D.tables lent.code lent'.names lent'.constants lent'.elements lent'.code n a) where
    pub fit_after : {t : Taken} → Matches t D → Fit l → Fit n → n.statements < 400 → Fit r
    fit_after M h g few =
        let i = marks.is in
        let x = exits_grow kept f number M in
        let y = (filled.tables m ea).exits_count in
        let z : r.exits ≡ l.exits = ap (λ (c : Counts). c.exits) i in
        record {
          names = let e : r.names ≡ l.names = ap (λ (c : Counts). c.names) i in omega (arith, h.names);
          cells = let e : r.cells ≡ l.cells = ap (λ (c : Counts). c.cells) i in omega (arith, h.cells);
          constants = let e : r.constants ≡ l.constants = ap (λ (c : Counts). c.constants) i in omega (arith, h.constants);
          elements = let e : r.elements ≡ l.elements = ap (λ (c : Counts). c.elements) i in omega (arith, h.elements);
          exits = omega (arith, h.exits);
          dos = let e : r.dos ≡ l.dos = ap (λ (c : Counts). c.dos) i in omega (arith, h.dos);
          code = let e : r.code ≡ l.code = ap (λ (c : Counts). c.code) i in let e' : r.dos ≡ l.dos = ap (λ (c : Counts). c.dos) i in omega (arith, h.code);
          statements = omega (arith, r_statements);
          jumps = omega (arith, r_jumps, r_statements, jump_count f, g.jumps, s.exits);
        }

    row_is : words ≡ m.code - n.code
        → number ∷ word_of p.kind ∷ set_of p ∷ words ∷ length (numbers_of p items) ∷ [] ≡ number ∷ kind_of f ∷ set_word f ∷ own_words f ∷ length (jump_words f) ∷ []
    row_is w =
        let kind : word_of p.kind ≡ kind_of f = ap (λ (x : Plan). word_of x.kind) plans.plan ∙ plan_kind f in
        let g : set_of p ≡ set_word f = ap set_of plans.plan ∙ set_word_lem f in
        let o : words ≡ own_words f = omega (arith, filled.code_count m ea, own_words_lem n.dos (later_of D n f) f) in
        let c : length (numbers_of p items) ≡ length (jump_words f) = ap length numbers in
        cc

    pub kept_after : words ≡ m.code - n.code → {b : Option Counts} → b ≡ Some l → Entered n.statements f D.held lent.dos lent.loops lent'.dos lent'.loops m b
        → Kept (drafts n.statements (punched f number) D) lent' r
    unfolding drafts
    kept_after w {b} eb entered =
        let i = marks.is in
        let rd : r.dos ≡ l.dos = ap (λ (c : Counts). c.dos) i in
        let rc : r.code ≡ m.code = ap (λ (c : Counts). c.code) i ∙ s.code in
        let q = n.statements in
        record {
          held = lists_at (ap (λ (c : Counts). c.names) i ∙ s.names) (ap (λ (c : Counts). c.cells) i ∙ s.cells) (filled.lists m ea);
          tables =
              tabled_as (same_tables kept f number) (ap (λ (c : Counts). c.constants) i ∙ s.constants) (ap (λ (c : Counts). c.elements) i ∙ s.elements)
              (ap (λ (c : Counts). c.exits) i ∙ s.exits) (filled.tables m ea);
          dos_are =
              ap (λ (x : ℕ). take (4 * x) lent'.dos) rd ∙ entered.dos_are l eb
              ∙ ap (λ (x : ℕ). take (4 * x) lent.dos ++ concat (map object.loop_words (entries_of (later_of D n f) q f))) md
              ∙ ap (λ (x : List ℕ). x ++ concat (map object.loop_words (entries_of (later_of D n f) q f))) kept.dos_are
              ∙ sym (entries_both D.dos (entries_of (later_of D n f) q f));
          dos_count = omega (arith, s.dos, dos_long kept f number);
          loops_are =
              ap (λ (x : ℕ). take (2 * x) lent'.loops) rd ∙ entered.loops_are l eb ∙ ap (λ (x : ℕ). take (2 * x) lent.loops ++ loop_words q m.jumps f) md
              ∙ ap (λ (x : List ℕ). x ++ loop_words q m.jumps f) kept.loops_are ∙ ap (λ (x : ℕ). D.loops ++ loop_words q x f) (mj ∙ kept.jumps_count);
          code_is =
              ap (λ (x : ℕ). take x lent'.code) rc ∙ filled.words_are m ea ∙ ap (λ (x : List ℕ). x ++ emit D.tables (more_of D n f)) kept.code_is
              ∙ ap (λ (x : List Instr). D.code ++ emit D.tables x) (same_code kept f number);
          code_count = omega (arith, filled.code_count m ea, code_long kept f number);
          rows_are =
              marks.rows_are ∙ ap (λ (x : ℕ). take (5 * x) lent.rows ++ (number ∷ word_of p.kind ∷ set_of p ∷ words ∷ length (numbers_of p items) ∷ [])) (s.statements ∙ ms)
              ∙ ap (λ (x : List ℕ). x ++ (number ∷ word_of p.kind ∷ set_of p ∷ words ∷ length (numbers_of p items) ∷ [])) kept.rows_are ∙ ap (λ (x : List ℕ). D.rows ++ x) (row_is w);
          jumps_are =
              marks.jumps_are ∙ ap (λ (x : ℕ). take x lent.jumps ++ numbers_of p items) (s.jumps ∙ mj) ∙ ap (λ (x : List ℕ). x ++ numbers_of p items) kept.jumps_are
              ∙ ap (λ (x : List ℕ). D.jumps ++ x) numbers;
          jumps_count = omega (arith, r_jumps, kept.jumps_count, length-append D.jumps (jump_words f));
        }
