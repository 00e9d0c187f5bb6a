-- Cells first, then code.
-- Assumes nothing.
use mathlib.Core.Path.{◌≡◌, refl, sym, ap, subst}
use Prim.Native.Nat.{ℕ, ◌≤◌}
use mathlib.Core.Bool.{Bool, true, false, ◌&&◌}
use mathlib.Core.List.{List}
use Rattle.rules_shared.specs.House.{house1401}
use Rattle.rules_shared.specs.Lists.{Each}
use Rattle.rules_text.specs.Trees.{Form, form_names}
use Rattle.rules_deck.specs.Judge.{right15}
use Rattle.rules_deck.specs.Translation.{Held, Tables, brings}
use Rattle.take_draft.specs.declared.Counts.{Counts}
use Rattle.take_draft.specs.Counts.{with_names}
use Rattle.take_draft.specs.Parts.{items_words, form_first, form_items}
use Rattle.take_draft.specs.Names.{Lists, Told, names_fit}
use Rattle.take_draft.specs.Kept.{Tabled, Fit}
use Rattle.std.specs.Prelude.{Option, Some, None}
use Rattle.take_name_table.specs.declared.counted.Extent.{Extent}
use Rattle.take_name_table.specs.Appears.{Appeared}
use Rattle.take_instructions.specs.Emits.{Grows}
use Rattle.take_plans.specs.declared.Plan.{Plan}
use Rattle.take_plans.specs.Plans.{Plans, Readied}
use Rattle.take_code.specs.Endings.{does_of, Emitting, EmitsPlan}
use Rattle.take_parts.specs.Steps.{Onward, Fills}

pub onward_full : (p : Plan) (n : Counts) {r : Option Counts} → r ≡ None → Onward p n r
onward_full p n none =
    record {
      fit = λ m e. absurd cc;
      dos = λ m e. absurd cc;
      jumps = λ m e. absurd cc;
      statements = λ m e. absurd cc;
      room = λ m e. absurd cc;
    }

pub onward : {p : Plan} {n : Counts} {a b : ℕ} {r : Option Counts} → Grows (does_of p) (with_names n a b) r → Onward p n r
onward g =
    record {
      fit = g.fit;
      dos = λ m e. (g.beside m e).dos;
      jumps = λ m e. (g.beside m e).jumps;
      statements = λ m e. (g.beside m e).statements;
      room = g.room;
    }

pub fit_names : {n : Counts} {a b : ℕ} → Fit n → a ≤ 100 → b ≤ 4096 → Fit (with_names n a b)
fit_names h x y =
    record {
      names = x;
      cells = y;
      constants = h.constants;
      elements = h.elements;
      exits = h.exits;
      dos = h.dos;
      code = h.code;
      statements = h.statements;
      jumps = h.jumps;
    }

pub emitting : {p : Plan} {first items : List ℕ} {m : Counts} → Readied p first items → Fit m → Emitting p items m
emitting h f = record { worded = record { items = form_items h.form; are = h.plans.operands }; room = h.plans.room; fit = f }

tables_same : {T : Tables} {constants elements : List ℕ} {n : Counts} {a b : ℕ} → Tabled T constants elements n → Tabled T constants elements (with_names n a b)
tables_same t =
    record {
      constants_are = t.constants_are;
      constants_count = t.constants_count;
      elements_are = t.elements_are;
      elements_count = t.elements_count;
      exits_count = t.exits_count;
    }

first_false : (a b : Bool) → a ≡ false → (a && b) ≡ false
first_false a b e = ap (λ (c : Bool). c && b) e

second_false : (a b : Bool) → b ≡ false → (a && b) ≡ false
second_false true b e = e
second_false false b e = refl

-- with the names and cells before, n
abbrev TakesFrom : Plan → List ℕ → List ℕ → List ℕ → List ℕ → Counts → Option Extent → Type 0
TakesFrom p first items names names' n g =
    (digits : ℕ) (f : Form) (held : List Held) (q : ℕ) → Plans f items p → first ≡ items_words (form_first f) → Lists held names n.names n.cells → Each Told (form_names f)
    → right15 (house1401 digits) held f ≡ true → Appeared (brings q f held) names' g

module _ {p : Plan} {first items names constants elements words names' : List ℕ} {n : Counts} {g : Option Extent} (h : TakesFrom p first items names names' n g) where
  pub cells_full : (constants' elements' words' : List ℕ) {r : Option Counts} → g ≡ None → r ≡ None → Fills p first items names constants elements words names' constants' elements' words' n r
  cells_full constants' elements' words' e none digits q f held T s u l t r =
      record {
        lists = λ m z. absurd cc;
        tables = λ m z. absurd cc;
        words_are = λ m z. absurd cc;
        code_count = λ m z. absurd cc;
        full = λ z. first_false (names_fit (brings q f held)) _ (subst (Appeared (brings q f held) names') e (h digits f held q s u l r.told r.right_15));
      }

  pub cells_then : {m : Extent} {constants' elements' words' : List ℕ} {a : Option Counts} → g ≡ Some m
      → EmitsPlan p items names' constants elements words constants' elements' words' (with_names n m.names m.cells) a
      → Fills p first items names constants elements words names' constants' elements' words' n a
  cells_then {m} {constants'} {elements'} {words'} {a} e d digits q f held T s u l t r =
      let now : Lists (brings q f held) names' m.names m.cells = subst (Appeared (brings q f held) names') e (h digits f held q s u l r.told r.right_15) in
      let emits = d digits f (brings q f held) T s now (tables_same t) r.right_13 r.known_first r.known_items in
      record {
        lists = λ i z.
            let b = (emits.wrote i z).beside in
            subst (λ (x : ℕ). Lists (brings q f held) names' x i.cells) (sym b.names) (subst (λ (x : ℕ). Lists (brings q f held) names' m.names x) (sym b.cells) now);
        tables = λ i z. (emits.wrote i z).tables;
        words_are = λ i z. (emits.wrote i z).words_are;
        code_count = λ i z. (emits.wrote i z).code_count;
        full = λ z. second_false (names_fit (brings q f held)) _ (emits.full z);
      }
