-- Reading and spelling agree: a text is read as a form exactly if it spells it, every form that can be spelled is read back, and a form's texts
-- differ from its own by plus signs only.
-- Assumes nothing.
use mathlib.Core.Path.{◌≡◌, refl, sym, ◌∙◌}
use mathlib.Core.Logic.{◌↔◌}
use mathlib.Core.List.{List, [], ◌∷◌, ◌++◌}
use mathlib.Core.Option.{Option, some, none}
use Prim.Native.Nat.{ℕ}
use native.Mathlib.Omega.{arith}
use Rattle.number.specs.Number.{Op, add, sub, mul, div}
use Rattle.rules_shared.specs.Lists.{Each, each_none, each_more}
use Rattle.rules_shared.proofs.EachLaws.{each_head, each_tail, each_left, each_right}
use Rattle.rules_text.specs.Trees.{Expr, con, var, elm, neg, par, bin, expr_names, expr_constants, optional, written, element, target_names, target_constants, Array, array, array_names, array_constants, Form, assign, go_to, computed, ifs, loop, continue, stop, end, dimension, form_names, form_constants, form_exits, form_last}
use Rattle.rules_text.specs.Grammar.{form_of}
use Rattle.rules_text.specs.Shaped.{IsSum, IsProduct, IsFactor, IsParameter, OptionalParameter}
use Rattle.rules_text.specs.Spelling.{spell_expr, spell_form, Words, IsArray, IsNumberOrName, IsBy, a_sum, a_product, a_factor, SpellsPart, first, after_minus, added, less, only, times, over, a_number, a_name, element_factor, parens, Spells, an_assignment, a_go_to, a_computed, an_if, a_do_loop, a_continue, a_stop, an_end, a_dimension, SomeArray, Spellable, without_pluses}
use Rattle.rules_text.proofs.ReadForms.{read_names, read_constants, read_exits, read_last}
use Rattle.rules_text.proofs.Shapes.{shaped}
use Rattle.rules_text.proofs.ReadBack.{read_back}
use Rattle.rules_text.proofs.SpelledText.{read_spells}
use Rattle.rules_text.proofs.Pluses.{only_pluses}

-- ---- a form that can be spelled is spelled by its text

abbrev WordsOf : Expr → Type 0
WordsOf e = Words (expr_names e) (expr_constants e)

left_words : (a b : Expr) (o : Op) → WordsOf (bin o a b) → WordsOf a
left_words a b o w = (each_left (expr_names a) (expr_names b) w.0, each_left (expr_constants a) (expr_constants b) w.1)

right_words_lem : (a b : Expr) (o : Op) → WordsOf (bin o a b) → WordsOf b
right_words_lem a b o w = (each_right (expr_names a) (expr_names b) w.0, each_right (expr_constants a) (expr_constants b) w.1)

mutual
  spelled_sum : {e : Expr} → IsSum e → WordsOf e → SpellsPart a_sum (spell_expr e) e
  spelled_sum (IsSum.first p) w = first (spelled_product p w)
  spelled_sum (IsSum.minus p) w = after_minus (spelled_product p w)
  spelled_sum (IsSum.plus {a} {b} p q) w = added (spelled_sum p (left_words a b add w)) (spelled_product q (right_words_lem a b add w))
  spelled_sum (IsSum.less {a} {b} p q) w = less (spelled_sum p (left_words a b sub w)) (spelled_product q (right_words_lem a b sub w))

  spelled_product : {e : Expr} → IsProduct e → WordsOf e → SpellsPart a_product (spell_expr e) e
  spelled_product (IsProduct.only p) w = only (spelled_factor p w)
  spelled_product (IsProduct.times {a} {b} p q) w = times (spelled_product p (left_words a b mul w)) (spelled_factor q (right_words_lem a b mul w))
  spelled_product (IsProduct.over {a} {b} p q) w = over (spelled_product p (left_words a b div w)) (spelled_factor q (right_words_lem a b div w))

  spelled_factor : {e : Expr} → IsFactor e → WordsOf e → SpellsPart a_factor (spell_expr e) e
  spelled_factor IsFactor.constant w = a_number (each_head w.1)
  spelled_factor IsFactor.name w = a_name (each_head w.0)
  spelled_factor (IsFactor.element {v} {s}) w = element_factor v s w
  spelled_factor (IsFactor.parens p) w = parens (spelled_sum p w)

parameter_words_lem : (e : Expr) → IsParameter e → WordsOf e → IsNumberOrName e
parameter_words_lem (con c) IsParameter.constant w = each_head w.1
parameter_words_lem (var v) IsParameter.name w = each_head w.0
parameter_words_lem (elm _ _) x4 w = elim x4 [ ]
parameter_words_lem (neg _) x4 w = elim x4 [ ]
parameter_words_lem (par _) x5 w = elim x5 [ ]
parameter_words_lem (bin _ _ _) x8 w = elim x8 [ ]

by_words : (r : Option Expr) → OptionalParameter r → Words (written expr_names r) (written expr_constants r) → IsBy r
by_words none p w = tt
by_words (some e) p w = parameter_words_lem e p w

each_array : (arrays : List Array) → Words (array_names arrays) (array_constants arrays) → Each IsArray arrays
each_array [] w = each_none
each_array (array v r c ∷ others) w =
    let one : IsArray (array v r c) = (each_head w.0, each_head w.1, each_left (optional c) (array_constants others) (each_tail w.1)) in
    each_more one
    (each_array others (each_tail w.0, each_right (optional c) (array_constants others) (each_tail w.1)))

-- EVERY FORM THAT CAN BE SPELLED IS SPELLED BY ITS TEXT
spelled : (f : Form) → Spellable f → Spells (spell_form f) f
unfolding form_names form_constants form_exits form_last
spelled (assign t e) p =
    an_assignment t (each_left (target_names t) (expr_names e) p.names, each_left (target_constants t) (expr_constants e) p.constants)
    (spelled_sum p.shape (each_right (target_names t) (expr_names e) p.names, each_right (target_constants t) (expr_constants e) p.constants))
spelled (go_to n) p = a_go_to n (each_head p.exits)
spelled (computed ns v) p = a_computed ns v p.exits p.shape.0 p.shape.1 (each_head p.names)
spelled (ifs e a b c) p =
    an_if a b c (spelled_sum p.shape (p.names, p.constants)) (each_head p.exits) (each_head (each_tail p.exits)) (each_head (each_tail (each_tail p.exits)))
spelled (loop n v x y z) p =
    let names = each_tail p.names in
    let others = each_right (expr_names x) (expr_names y ++ written expr_names z) names in
    let constants = each_right (expr_constants x) (expr_constants y ++ written expr_constants z) p.constants in
    a_do_loop n v x y z (each_head p.last) (each_head p.names)
    (parameter_words_lem x p.shape.0 (each_left (expr_names x) (expr_names y ++ written expr_names z) names, each_left (expr_constants x) (expr_constants y ++ written expr_constants z) p.constants))
    (parameter_words_lem y p.shape.1 (each_left (expr_names y) (written expr_names z) others, each_left (expr_constants y) (written expr_constants z) constants))
    (by_words z p.shape.2 (each_right (expr_names y) (written expr_names z) others, each_right (expr_constants y) (written expr_constants z) constants))
spelled continue p = a_continue
spelled stop p = a_stop
spelled end p = an_end
spelled (dimension []) p = absurd p.arrays
spelled (dimension (a ∷ others)) p =
    let all = each_array (a ∷ others) (p.names, p.constants) in
    a_dimension a others (each_head all) (each_tail all)

-- EVERY FORM THAT CAN BE SPELLED IS READ BACK
pub spell_read : (f : Form) → Spellable f → form_of (spell_form f) ≡ some f
spell_read f p = read_back (spelled f p)

-- ---- what is spelled by some text can be spelled

some_array : {s : List ℕ} {f : Form} → Spells s f → SomeArray f
some_array (an_assignment t q p) = tt
some_array (a_go_to n q) = tt
some_array (a_computed ns v qs l m q) = tt
some_array (an_if a b c p qa qb qc) = tt
some_array (a_do_loop n v p q r qn qv qp qq qr) = tt
some_array a_continue = tt
some_array a_stop = tt
some_array an_end = tt
some_array (a_dimension a others q qs) = tt

spellable : {s : List ℕ} {f : Form} → Spells s f → Spellable f
spellable {s} {f} p =
    let e = read_back p in
    record {
      shape = shaped s f e;
      arrays = some_array p;
      names = read_names s f e;
      constants = read_constants s f e;
      exits = read_exits s f e;
      last = read_last s f e;
    }

-- WHAT IS READ IS ITS FORM'S OWN TEXT, BUT FOR PLUS SIGNS
pub own_text : (s : List ℕ) (f : Form) → form_of s ≡ some f → Spellable f × (without_pluses s ≡ spell_form f)
own_text s f e = let p = read_spells s f e in (spellable p, only_pluses p)

-- A TEXT IS READ AS A FORM EXACTLY IF IT SPELLS IT
pub read_exactly : (s : List ℕ) (f : Form) → (form_of s ≡ some f) ↔ Spells s f
read_exactly s f = (λ e. read_spells s f e, λ p. read_back p)

-- A TEXT HAS NO FORM (10) EXACTLY IF IT SPELLS NONE
pub none_spelled : (s : List ℕ) → form_of s ≡ none → (f : Form) → Spells s f → ⊥
none_spelled s e f p =
    let same : none ≡ some f = sym e ∙ read_back p in
    let clash : ◌≡◌ {A = ℕ} 0 1 = cc in
    omega arith

pub none_read : (s : List ℕ) → ((f : Form) → Spells s f → ⊥) → form_of s ≡ none
none_read s h = go (form_of s) refl
  where
    go : (o : Option Form) → form_of s ≡ o → form_of s ≡ none
    go none e = e
    go (some f) e = absurd (h f (read_spells s f e))

-- NO TEXT SPELLS TWO FORMS
pub one_spelled : {s : List ℕ} {f g : Form} → Spells s f → Spells s g → f ≡ g
one_spelled {s} {f} {g} p q =
    let same : some f ≡ some g = sym (read_back p) ∙ read_back q in
    cc
