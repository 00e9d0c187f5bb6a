-- The counts after a form's cells, code and entries; and what its plan marks, in the book's words.
-- Assumes nothing.
use mathlib.Core.Path.{◌≡◌, refl, sym, ap, ◌∙◌, subst}
use Prim.Native.Nat.{ℕ, ◌+◌}
use native.Mathlib.Omega.{arith}
use mathlib.Core.Bool.{true}
use mathlib.Core.List.{List, [], ◌∷◌, ◌++◌, map, append-nil}
use lib.Dec.{leb}
use lib.ListN.{length, take, length-map}
use borrow.Author.Tests.{leb-true}
use Rattle.rules_shared.specs.House.{House}
use Rattle.rules_shared.specs.Lists.{all, Each, each_none, each_more}
use Rattle.rules_text.specs.Trees.{Target, cell, element, Form, assign, go_to, computed, ifs, loop, continue, stop, end, dimension, form_exits, form_last}
use Rattle.rules_deck.specs.Lawful.{Lawful}
use Rattle.rules_deck.specs.Judge.{right13}
use Rattle.rules_deck.specs.Whole.{form_sets}
use Rattle.rules_text.proofs.Readers.{both_true}
use Rattle.read_tokens.specs.Words.{capped, name_of}
use Rattle.read_elements.specs.Values.{target_value}
use Rattle.take_draft.specs.declared.Counts.{Counts}
use Rattle.take_draft.specs.Counts.{with_do}
use Rattle.take_draft.specs.Draft.{set_word, jump_words}
use Rattle.take_draft.proofs.ReadForm.{right_number, right13_capped, numbers_exact}
use Rattle.std.specs.Prelude.{Option, Some}
use Rattle.take_kinds.specs.declared.Kind.TheVariants.{Do}
use Rattle.take_plans.specs.declared.Plan.{Plan}
use Rattle.take_plans.specs.Plans.{form_plan, listed_words, Plans}
use Rattle.take_plans.proofs.ByKind.{at_do}
use Rattle.take_marks.specs.Marks.{numbers_of, Low, cell_name, set_of}
use Rattle.take_parts.specs.Steps.{Counted}

-- ---- a DO counted

pub record After (f : Form) (m l : Counts) : Type 0 where
  pub names : l.names ≡ m.names
  pub cells : l.cells ≡ m.cells
  pub constants : l.constants ≡ m.constants
  pub elements : l.elements ≡ m.elements
  pub exits : l.exits ≡ m.exits
  pub code : l.code ≡ m.code
  pub jumps : l.jumps ≡ m.jumps
  pub statements : l.statements ≡ m.statements
  pub dos : l.dos ≡ m.dos + length (form_last f)

abbrev OneLast : Form → Type 0
OneLast f = length (form_last f) ≡ 1

pub one_last : (f : Form) → (form_plan f).kind ≡ Do → OneLast f
unfolding form_last
one_last = at_do OneLast (λ n v a b c. refl)

pub after : {p : Plan} {m l : Counts} {r : Option Counts} (f : Form) → p ≡ form_plan f → Counted p m r → r ≡ Some l → After f m l
unfolding form_plan form_last
after {p} {m} {l} {r} f e c s = go f e
  where
    same : (g : Form) → l ≡ m → length (form_last g) ≡ 0 → After g m l
    same g x z =
        record {
          names = ap (λ (n : Counts). n.names) x;
          cells = ap (λ (n : Counts). n.cells) x;
          constants = ap (λ (n : Counts). n.constants) x;
          elements = ap (λ (n : Counts). n.elements) x;
          exits = ap (λ (n : Counts). n.exits) x;
          code = ap (λ (n : Counts). n.code) x;
          jumps = ap (λ (n : Counts). n.jumps) x;
          statements = ap (λ (n : Counts). n.statements) x;
          dos = let y = ap (λ (n : Counts). n.dos) x in omega arith;
        }

    more : (g : Form) → l ≡ with_do m → length (form_last g) ≡ 1 → After g m l
    more g x z =
        record {
          names = ap (λ (n : Counts). n.names) x;
          cells = ap (λ (n : Counts). n.cells) x;
          constants = ap (λ (n : Counts). n.constants) x;
          elements = ap (λ (n : Counts). n.elements) x;
          exits = ap (λ (n : Counts). n.exits) x;
          code = ap (λ (n : Counts). n.code) x;
          jumps = ap (λ (n : Counts). n.jumps) x;
          statements = ap (λ (n : Counts). n.statements) x;
          dos = let y : l.dos ≡ m.dos + 1 = ap (λ (n : Counts). n.dos) x in omega arith;
        }

    go : (g : Form) → p ≡ form_plan g → After g m l
    go (assign t x) q = same (assign t x) (c.other l s (λ z. absurd (let y = sym z ∙ ap (λ (x : Plan). x.kind) q in cc))) refl
    go (go_to n) q = same (go_to n) (c.other l s (λ z. absurd (let y = sym z ∙ ap (λ (x : Plan). x.kind) q in cc))) refl
    go (computed ns v) q = same (computed ns v) (c.other l s (λ z. absurd (let y = sym z ∙ ap (λ (x : Plan). x.kind) q in cc))) refl
    go (ifs x i j k) q = same (ifs x i j k) (c.other l s (λ z. absurd (let y = sym z ∙ ap (λ (x : Plan). x.kind) q in cc))) refl
    go (loop n v i j k) q = more (loop n v i j k) (c.one l s (ap (λ (x : Plan). x.kind) q)) refl
    go continue q = same continue (c.other l s (λ z. absurd (let y = sym z ∙ ap (λ (x : Plan). x.kind) q in cc))) refl
    go stop q = same stop (c.other l s (λ z. absurd (let y = sym z ∙ ap (λ (x : Plan). x.kind) q in cc))) refl
    go end q = same end (c.other l s (λ z. absurd (let y = sym z ∙ ap (λ (x : Plan). x.kind) q in cc))) refl
    go (dimension arrays) q = same (dimension arrays) (c.other l s (λ z. absurd (let y = sym z ∙ ap (λ (x : Plan). x.kind) q in cc))) refl

-- ---- the plan's marks

target_set : (t : Target) → (cell_name (target_value t)).0 ≡ set_word (assign t (Rattle.rules_text.specs.Trees.Expr.con []))
unfolding cell_name target_value form_sets name_of
target_set (cell v) = refl
target_set (element v s) = refl

pub set_word_lem : (f : Form) → set_of (form_plan f) ≡ set_word f
unfolding set_of form_plan cell_name form_sets name_of
set_word_lem (assign t e) = target_set t
set_word_lem (go_to n) = refl
set_word_lem (computed ns v) = refl
set_word_lem (ifs e a b c) = refl
set_word_lem (loop n v a b c) = refl
set_word_lem continue = refl
set_word_lem stop = refl
set_word_lem end = refl
set_word_lem (dimension arrays) = refl

capped_numbers : (f : Form) (items : List ℕ) → take (length (listed_words f)) items ≡ listed_words f → numbers_of (form_plan f) items ≡ map capped (form_exits f ++ form_last f)
unfolding numbers_of form_plan form_exits form_last listed_words
capped_numbers (assign t e) items h = refl
capped_numbers (go_to n) items h = refl
capped_numbers (computed ns v) items h =
    subst (λ (k : ℕ). take k items ≡ map capped ns) (length-map ns capped) h ∙ ap (map capped) (sym (append-nil ns))
capped_numbers (ifs e a b c) items h = refl
capped_numbers (loop n v a b c) items h = refl
capped_numbers continue items h = refl
capped_numbers stop items h = refl
capped_numbers end items h = refl
capped_numbers (dimension arrays) items h = refl

pub plan_numbers : {p : Plan} {items : List ℕ} (f : Form) → Plans f items p → numbers_of p items ≡ map capped (form_exits f ++ form_last f)
plan_numbers {p} {items} f h = ap (λ (x : Plan). numbers_of x items) h.plan ∙ capped_numbers f items h.listed

pub book_numbers : {house : House} → Lawful house → {p : Plan} {items : List ℕ} (f : Form) → Plans f items p → right13 house f ≡ true → numbers_of p items ≡ jump_words f
book_numbers lawful f h r = plan_numbers f h ∙ numbers_exact lawful f r

all_low : (l : List ℕ) → all right_number l ≡ true → Each Low l
all_low [] h = each_none
all_low (n ∷ l) h =
    let w = both_true (right_number n) (all right_number l) h in
    each_more (leb-true n 99999 (both_true (leb 1 n) (leb n 99999) w.0).1) (all_low l w.1)

pub low_numbers : {house : House} → Lawful house → {p : Plan} {items : List ℕ} (f : Form) → Plans f items p → right13 house f ≡ true → Each Low (numbers_of p items)
low_numbers lawful {p} {items} f h r = subst (Each Low) (sym (plan_numbers f h)) (all_low _ (sym (right13_capped lawful f) ∙ r))
