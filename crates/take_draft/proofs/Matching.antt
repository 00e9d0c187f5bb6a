-- 18 against the draft: what the statements have taken is what the draft has, so that 18 is a test on the draft's counts.
-- Assumes nothing.
use mathlib.Core.Path.{◌≡◌, refl, sym, ap, ◌∙◌}
use Prim.Native.Nat.{ℕ, suc, ◌+◌, ◌≤◌}
use native.Mathlib.Omega.{arith}
use mathlib.Core.Bool.{Bool, true, false, ◌&&◌}
use mathlib.Core.List.{List, [], ◌∷◌, ◌++◌, map, append-nil}
use mathlib.Core.Option.{Option, none, some}
use lib.Dec.{leb}
use lib.ListN.{length, length-append, length-map}
use Rattle.rules_shared.specs.Limits.{limits}
use Rattle.rules_object.specs.Operations.{Instr, HLT, LOD, STO, NEG, JMP, BR3, BRC, DOI}
use Rattle.rules_text.specs.Trees.{Name, value_of, Expr, Target, cell, element, written, Form, assign, go_to, computed, ifs, loop, continue, stop, end, dimension, Statement, form_exits, form_last, Range, parts_of}
use Rattle.rules_deck.specs.Deck.{Dims}
use Rattle.rules_deck.specs.Meaning.{third}
use Rattle.rules_deck.specs.Translation.{Held, cell_count, brings, store_code, form_code, Tables, tables_after, emit}
use Rattle.rules_deck.specs.Judge.{expr_references, target_references, form_references, expr_pooled, form_pooled, pool_all, form_exit_words, Taken, nothing_taken, takes, name_count, right18}
use Rattle.rules_deck.specs.Accepted.{taken_from}
use Rattle.rules_deck.proofs.TableLaws.{Brings, brings_none, brings_both, expr_brings, form_length}
use Rattle.take_draft.specs.Names.{dims_held, names_fit}
use Rattle.take_draft.specs.Draft.{jump_words, own_words, entries_of, no_loop, draft_code, Draft, no_draft, drafts, draft_from, draft_of, entry_for}
use Rattle.take_draft.specs.Kept.{tables_fit, Matches}

-- ---- what a form's code brings to the tables

-- an instruction that brings nothing
abbrev pub Quiet : Instr → Type 0
Quiet i = Brings (i ∷ []) [] 0 0

quiet_halt : (x : ℕ) → Quiet (HLT x)
quiet_halt x = record { constants = λ T. refl; elements = λ T. omega arith; exits = λ T. omega arith; items = λ T. refl; transfers = λ T. refl }

quiet_load : (a : ℕ) → Quiet (LOD a)
quiet_load a = record { constants = λ T. refl; elements = λ T. omega arith; exits = λ T. omega arith; items = λ T. refl; transfers = λ T. refl }

quiet_store : (a : ℕ) → Quiet (STO a)
quiet_store a = record { constants = λ T. refl; elements = λ T. omega arith; exits = λ T. omega arith; items = λ T. refl; transfers = λ T. refl }

quiet_jump : (a : ℕ) → Quiet (JMP a)
quiet_jump a = record { constants = λ T. refl; elements = λ T. omega arith; exits = λ T. omega arith; items = λ T. refl; transfers = λ T. refl }

pub quiet_enter : (d : ℕ) → Quiet (DOI d no_loop)
quiet_enter d = record { constants = λ T. refl; elements = λ T. omega arith; exits = λ T. omega arith; items = λ T. refl; transfers = λ T. refl }

three_exits_lem : (a b c : ℕ) → Brings (BR3 a b c ∷ []) [] 0 3
three_exits_lem a b c = record { constants = λ T. refl; elements = λ T. omega arith; exits = λ T. length-append T.exits (a ∷ b ∷ c ∷ []); items = λ T. refl; transfers = λ T. refl }

many_exits : (ts : List ℕ) → Brings (BRC ts ∷ []) [] 0 (suc (length ts))
many_exits ts = record { constants = λ T. refl; elements = λ T. omega arith; exits = λ T. length-append T.exits (length ts ∷ ts); items = λ T. refl; transfers = λ T. refl }

brings_as : {code : List Instr} {cs : List ℕ} {n x : ℕ} (ds : List ℕ) (m y : ℕ) → Brings code cs n x → cs ≡ ds → n ≡ m → x ≡ y → Brings code ds m y
brings_as {code} {cs} {n} {x} ds m y h e f g = rw (← e, ← f, ← g) h

third_references : (p : Option Expr) → length (expr_references (third p)) ≡ length (written expr_references p)
third_references none = refl
third_references (some e) = refl

module _ (held : List Held) (dims : Name → Dims) where
  target_brings : (t : Target) → Brings (store_code held dims t ∷ []) [] (length (target_references t)) 0
  target_brings (cell v) = quiet_store _
  target_brings (element v s) = record { constants = λ T. refl; elements = λ T. length-append T.elements _; exits = λ T. omega arith; items = λ T. refl; transfers = λ T. refl }

  pub form_brings : (address : ℕ → ℕ) (entry : Instr) → Quiet entry → (f : Form) → Brings (form_code held dims address entry f) (form_pooled f) (length (form_references f)) (form_exit_words f)
  unfolding form_pooled form_references form_exit_words
  form_brings address entry quiet (assign t e) =
      brings_as (expr_pooled e) (length (target_references t ++ expr_references e)) 0 (brings_both (expr_brings held dims e) (target_brings t)) (append-nil (expr_pooled e))
      (simp length-append (omega arith)) (omega arith)
  form_brings address entry quiet (go_to n) = quiet_jump _
  form_brings address entry quiet (computed ns v) =
      brings_as [] 0 (suc (length ns)) (brings_both (quiet_load _) (many_exits (map (λ n. address (value_of n)) ns))) refl (omega arith)
      (omega (arith, length-map ns (λ n. address (value_of n))))
  form_brings address entry quiet (ifs e a b c) =
      brings_as (expr_pooled e) (length (expr_references e)) 3 (brings_both (expr_brings held dims e) (three_exits_lem (address (value_of a)) (address (value_of b)) (address (value_of c))))
      (append-nil (expr_pooled e)) (omega arith) (omega arith)
  form_brings address entry quiet (loop n v p₁ p₂ p₃) =
      let r = third_references p₃ in
      brings_as (expr_pooled p₁ ++ (expr_pooled p₂ ++ expr_pooled (third p₃))) (length (expr_references p₁ ++ (expr_references p₂ ++ written expr_references p₃))) 0
      (brings_both (expr_brings held dims p₁) (brings_both (expr_brings held dims p₂) (brings_both (expr_brings held dims (third p₃)) quiet)))
      (ap (λ (l : List ℕ). expr_pooled p₁ ++ (expr_pooled p₂ ++ l)) (append-nil (expr_pooled (third p₃))))
      (simp length-append (omega arith))
      (omega arith)
  form_brings address entry quiet continue = brings_none
  form_brings address entry quiet stop = quiet_halt 0
  form_brings address entry quiet end = quiet_halt 1
  form_brings address entry quiet (dimension arrays) = brings_none

-- ---- how long

pub emit_length : (T : Tables) (is : List Instr) → length (emit T is) ≡ length is
emit_length T [] = refl
emit_length T (i ∷ is) = ap suc (emit_length (tables_after T i) is)

pub entries_count : (held : List Held) (q : ℕ) (f : Form) → length (entries_of held q f) ≡ length (form_last f)
unfolding form_last
entries_count held q f = go (parts_of f).opens
  where
    go : (ds : List Range) → length (map (entry_for held q) ds) ≡ length (map (λ (d : Range). d.last) ds)
    go [] = refl
    go (d ∷ ds) = ap suc (go ds)

pub own_words_lem : (d : ℕ) (held : List Held) (f : Form) → own_words f ≡ length (draft_code d held f)
own_words_lem d held f =
    omega (arith, form_length [] (dims_held []) (λ n. n) NEG f, form_length held (dims_held held) (λ n. n) (DOI d no_loop) f)

pub jump_count : (f : Form) → length (jump_words f) ≤ 1 + form_exit_words f
unfolding form_exits form_last form_exit_words
jump_count (assign t e) = omega arith
jump_count (go_to n) = omega arith
jump_count (computed ns v) = omega (arith, length-map (ns ++ []) value_of, length-append ns [])
jump_count (ifs e a b c) = omega arith
jump_count (loop n v p₁ p₂ p₃) = omega arith
jump_count continue = omega arith
jump_count stop = omega arith
jump_count end = omega arith
jump_count (dimension arrays) = omega arith

-- ---- 18

pub matches_none : Matches nothing_taken no_draft
matches_none = record { held = refl; constants = refl; elements = refl; exits = refl; dos = refl; code = omega arith }

pub matches_next : (q : ℕ) (s : Statement) {t : Taken} {D : Draft} → Matches t D → Matches (takes q s.form t) (drafts q s D)
unfolding takes drafts
matches_next q s {t} {D} m =
    let f = s.form in
    let later = brings q f D.held in
    let code = draft_code (length D.dos) later f in
    let b = form_brings later (dims_held later) (λ n. n) (DOI (length D.dos) no_loop) (quiet_enter (length D.dos)) f in
    let n = entries_count later q f in
    let l = form_length later (dims_held later) (λ n. n) (DOI (length D.dos) no_loop) f in
    let w = emit_length D.tables code in
    record {
      held = ap (brings q f) m.held;
      constants = ap (λ (p : List ℕ). pool_all p (form_pooled f)) m.constants ∙ sym (b.constants D.tables);
      elements = omega (arith, m.elements, b.elements D.tables);
      exits = omega (arith, m.exits, b.exits D.tables);
      dos = omega (arith, m.dos, length-append D.dos (entries_of later q f));
      code = omega (arith, m.code, length-append D.dos (entries_of later q f), length-append D.code (emit D.tables code));
    }

pub matches_from : (q : ℕ) (deck : List Statement) {t : Taken} {D : Draft} → Matches t D → Matches (taken_from q deck t) (draft_from q deck D)
matches_from q [] m = m
matches_from q (s ∷ deck) m = matches_from (suc q) deck (matches_next q s m)

pub matches_deck : (deck : List Statement) → Matches (taken_from 0 deck nothing_taken) (draft_of deck)
unfolding draft_of
matches_deck deck = matches_from 0 deck matches_none

last_second : (a b c d e g h : Bool) → (a && (b && (c && (d && (e && (g && h)))))) ≡ ((a && h) && (b && (c && (d && (e && g)))))
last_second false b c d e g h = refl
last_second true false c d e g true = refl
last_second true false c d e g false = refl
last_second true true false d e g true = refl
last_second true true false d e g false = refl
last_second true true true false e g true = refl
last_second true true true false e g false = refl
last_second true true true true false g true = refl
last_second true true true true false g false = refl
last_second true true true true true true true = refl
last_second true true true true true false true = refl
last_second true true true true true true false = refl
last_second true true true true true false false = refl

pub right18_fits : (t : Taken) (D : Draft) → Matches t D
    → right18 t ≡ (names_fit D.held && (leb (length D.dos) limits.dos && tables_fit D.tables (length D.code) (length D.dos)))
unfolding right18
right18_fits t D m =
    rw (m.held, m.constants, m.elements, m.exits, m.dos, m.code)
    (last_second (leb (name_count D.held) limits.names) (leb (length D.dos) limits.dos) (leb (length D.tables.constants) limits.constants)
    (leb (length D.tables.elements) limits.elements) (leb (length D.tables.exits) limits.exits) (leb (length D.code + length D.dos) limits.code)
    (leb (cell_count D.held) limits.cells))
