-- A form's names, constants, references and values against its first operand and its items.
-- Assumes nothing.
use mathlib.Core.Path.{◌≡◌, refl, sym, ap, ◌∙◌, subst}
use mathlib.Core.Logic.{◌⊎◌, inl, inr}
use mathlib.Core.Bool.{Bool, true, false, ◌&&◌, not}
use mathlib.Core.List.{List, [], ◌∷◌, ◌++◌, append-nil}
use mathlib.Core.Option.{Option, none, some}
use Rattle.rules_shared.specs.Lists.{all}
use Rattle.rules_text.specs.Trees.{Name, Digits, Expr, con, var, expr_names, expr_constants, Target, cell, element, target_names, target_constants, written, Form, assign, go_to, computed, ifs, loop, continue, stop, end, dimension, form_names, form_constants, bin, elm, neg, par}
use Rattle.rules_deck.specs.Meaning.{third}
use Rattle.rules_deck.specs.Translation.{Held, is_array, holds, expr_plain, target_plain, form_plain}
use Rattle.rules_deck.specs.Judge.{Reference, expr_references, target_references, form_references, right_reference, right16}
use Rattle.rules_deck.specs.Accepted.{Among, here, there}
use Rattle.rules_text.specs.Shaped.{IsParameter}
use Rattle.rules_deck.proofs.TestLaws.{only, among_left, among_right, among_append}
use Rattle.read_elements.specs.Values.{target_value}
use Rattle.read_items.specs.Items.{target_words}
use Rattle.read_forms.specs.Statements.{parameter_value}
use Rattle.take_draft.specs.Parts.{items_of, item_words, items_words, parameter_words, item_plain, items_plain, item_references, items_references, item_names, items_names, item_constants, items_constants, right_items, target_item, form_first, form_items}
use Rattle.take_draft.proofs.FormParts.{plain_append, references_append, names_append, constants_append, expr_plain_lem, expr_references_lem, expr_names_lem, expr_constants_lem}

-- ---- a target, a parameter

pub target_words_lem : (t : Target) → target_words (target_value t) ≡ item_words (target_item t)
unfolding target_words target_value
target_words_lem (cell v) = refl
target_words_lem (element v s) = refl

pub parameter_words_lem : (p : Expr) → IsParameter p → parameter_words (parameter_value p) ≡ items_words (items_of p)
unfolding parameter_value parameter_words
parameter_words_lem (elm _ _) x3 = elim x3 [ ]
parameter_words_lem (neg _) x3 = elim x3 [ ]
parameter_words_lem (par _) x4 = elim x4 [ ]
parameter_words_lem (bin _ _ _) x7 = elim x7 [ ]
parameter_words_lem (con c) IsParameter.constant = refl
parameter_words_lem (var v) IsParameter.name = refl

target_plain_lem : (t : Target) → target_plain t ≡ item_plain (target_item t)
target_plain_lem (cell v) = refl
target_plain_lem (element v s) = refl

target_names_lem : (t : Target) → target_names t ≡ item_names (target_item t)
target_names_lem (cell v) = refl
target_names_lem (element v s) = refl

target_constants_lem : (t : Target) → target_constants t ≡ item_constants (target_item t)
target_constants_lem (cell v) = refl
target_constants_lem (element v s) = refl

target_references_lem : (t : Target) → target_references t ≡ item_references (target_item t)
target_references_lem (cell v) = refl
target_references_lem (element v s) = refl

-- ---- plain names, in the text's order

written_plain : (r : Option Expr) → written expr_plain r ≡ items_plain (items_of (third r))
written_plain none = refl
written_plain (some e) = expr_plain_lem e

pub form_plain_lem : (f : Form) → form_plain f ≡ items_plain (form_first f ++ form_items f)
unfolding form_plain
form_plain_lem (assign t e) = rw (target_plain_lem t, expr_plain_lem e)
form_plain_lem (go_to n) = refl
form_plain_lem (computed ns v) = refl
form_plain_lem (ifs e a b c) = expr_plain_lem e
form_plain_lem (loop n v p q r) =
    rw (plain_append (items_of p) (items_of q ++ items_of (third r)), plain_append (items_of q) (items_of (third r)), expr_plain_lem p, expr_plain_lem q, written_plain r)
form_plain_lem continue = refl
form_plain_lem stop = refl
form_plain_lem end = refl
form_plain_lem (dimension arrays) = refl

pub form_plain_both : (f : Form) → form_plain f ≡ items_plain (form_first f) ++ items_plain (form_items f)
form_plain_both f = form_plain_lem f ∙ plain_append (form_first f) (form_items f)

-- ---- 16

pub all_both : {A : Type 0} (test : A → Bool) (a b : List A) → all test (a ++ b) ≡ (all test a && all test b)
all_both test [] b = refl
all_both test (x ∷ a) b = go (test x) (all_both test a b)
  where
    go : (t : Bool) → all test (a ++ b) ≡ (all test a && all test b) → (t && all test (a ++ b)) ≡ ((t && all test a) && all test b)
    go true e = e
    go false e = refl

and_swap : (a b c d : Bool) → ((a && b) && (c && d)) ≡ ((a && c) && (b && d))
and_swap true true c d = refl
and_swap true false true d = refl
and_swap true false false d = refl
and_swap false b c d = refl

written_references : (r : Option Expr) → written expr_references r ≡ items_references (items_of (third r))
written_references none = refl
written_references (some e) = expr_references_lem e

loop_references : (p q : Expr) (r : Option Expr) → expr_references p ++ (expr_references q ++ written expr_references r) ≡ items_references (items_of p ++ (items_of q ++ items_of (third r)))
loop_references p q r =
    rw (references_append (items_of p) (items_of q ++ items_of (third r)), references_append (items_of q) (items_of (third r)), expr_references_lem p, expr_references_lem q, written_references r)

pub all_references : (test : Reference → Bool) (f : Form) → all test (form_references f) ≡ (all test (items_references (form_first f)) && all test (items_references (form_items f)))
unfolding form_references
all_references test (assign t e) =
    all_both test (target_references t) (expr_references e) ∙
    rw (target_references_lem t, expr_references_lem e, append-nil (item_references (target_item t)))
all_references test (go_to n) = refl
all_references test (computed ns v) = refl
all_references test (ifs e a b c) = ap (all test) (expr_references_lem e)
all_references test (loop n v p q r) =
    ap (all test) (loop_references p q r)
all_references test continue = refl
all_references test stop = refl
all_references test end = refl
all_references test (dimension arrays) = refl

pub form_right16 : (held : List Held) (f : Form) → right16 held f ≡ (right_items held (form_first f) && right_items held (form_items f))
unfolding right16
form_right16 held f =
    rw (all_references (right_reference held) f, form_plain_both f, all_both (λ v. not (holds (is_array v) held)) (items_plain (form_first f)) (items_plain (form_items f)))
    (and_swap (all (right_reference held) (items_references (form_first f))) (all (right_reference held) (items_references (form_items f)))
    (all (λ v. not (holds (is_array v) held)) (items_plain (form_first f))) (all (λ v. not (holds (is_array v) held)) (items_plain (form_items f))))

-- ---- names and constants

pub first_names : {v : Name} (f : Form) → Among v (items_names (form_first f)) → Among v (form_names f)
unfolding form_names
first_names {v = v} (go_to _) a = elim a [ ]
first_names {v = v} (ifs _ _ _ _) a = elim a [ ]
first_names {v = v} (loop n w p q r) (there x5) = elim x5 [ ]
first_names {v = v} continue a = elim a [ ]
first_names {v = v} stop a = elim a [ ]
first_names {v = v} end a = elim a [ ]
first_names {v = v} (dimension _) a = elim a [ ]
first_names {v} (assign t e) a = among_left (expr_names e) (subst (Among v) (append-nil (item_names (target_item t)) ∙ sym (target_names_lem t)) a)
first_names (computed ns w) a = a
first_names (loop n w p q r) here = here

written_names : (r : Option Expr) → written expr_names r ≡ items_names (items_of (third r))
written_names none = refl
written_names (some e) = expr_names_lem e

loop_names : (p q : Expr) (r : Option Expr) → items_names (items_of p ++ (items_of q ++ items_of (third r))) ≡ expr_names p ++ (expr_names q ++ written expr_names r)
loop_names p q r =
    rw (names_append (items_of p) (items_of q ++ items_of (third r)), names_append (items_of q) (items_of (third r)), expr_names_lem p, expr_names_lem q, written_names r)

pub items_names_lem : {v : Name} (f : Form) → Among v (items_names (form_items f)) → Among v (form_names f)
unfolding form_names
items_names_lem {v = v} (go_to _) a = elim a [ ]
items_names_lem {v = v} (computed _ _) a = elim a [ ]
items_names_lem {v = v} continue a = elim a [ ]
items_names_lem {v = v} stop a = elim a [ ]
items_names_lem {v = v} end a = elim a [ ]
items_names_lem {v = v} (dimension _) a = elim a [ ]
items_names_lem {v} (assign t e) a = among_right (target_names t) (subst (Among v) (sym (expr_names_lem e)) a)
items_names_lem {v} (ifs e x y z) a = subst (Among v) (sym (expr_names_lem e)) a
items_names_lem {v} (loop n w p q r) a = there (subst (Among v) (loop_names p q r) a)

pub first_constants : {c : Digits} (f : Form) → Among c (items_constants (form_first f)) → Among c (form_constants f)
unfolding form_constants
first_constants {c = c} (go_to _) a = elim a [ ]
first_constants {c = c} (computed _ _) a = elim a [ ]
first_constants {c = c} (ifs _ _ _ _) a = elim a [ ]
first_constants {c = c} (loop _ _ _ _ _) a = elim a [ ]
first_constants {c = c} continue a = elim a [ ]
first_constants {c = c} stop a = elim a [ ]
first_constants {c = c} end a = elim a [ ]
first_constants {c = c} (dimension _) a = elim a [ ]
first_constants {c} (assign t e) a = among_left (expr_constants e) (subst (Among c) (append-nil (item_constants (target_item t)) ∙ sym (target_constants_lem t)) a)

-- a missing third parameter's 1 is no constant of the form
pub items_constants_lem : {c : Digits} (f : Form) → Among c (items_constants (form_items f)) → Among c (form_constants f) ⊎ (c ≡ 49 ∷ [])
unfolding form_constants
items_constants_lem {c = c} (go_to _) a = elim a [ ]
items_constants_lem {c = c} (computed _ _) a = elim a [ ]
items_constants_lem {c = c} continue a = elim a [ ]
items_constants_lem {c = c} stop a = elim a [ ]
items_constants_lem {c = c} end a = elim a [ ]
items_constants_lem {c = c} (dimension _) a = elim a [ ]
items_constants_lem {c} (assign t e) a = inl (among_right (target_constants t) (subst (Among c) (sym (expr_constants_lem e)) a))
items_constants_lem {c} (ifs e x y z) a = inl (subst (Among c) (sym (expr_constants_lem e)) a)
items_constants_lem {c} (loop n w p q r) a = go (among_append (expr_constants p) _ (subst (Among c) is a))
  where
    is : items_constants (items_of p ++ (items_of q ++ items_of (third r))) ≡ expr_constants p ++ (expr_constants q ++ expr_constants (third r))
    is = rw (constants_append (items_of p) (items_of q ++ items_of (third r)), constants_append (items_of q) (items_of (third r)), expr_constants_lem p, expr_constants_lem q, expr_constants_lem (third r))

    last : (o : Option Expr) → Among c (expr_constants (third o)) → Among c (written expr_constants o) ⊎ (c ≡ 49 ∷ [])
    last none b = inr (only b)
    last (some e) b = inl b

    far : Among c (written expr_constants r) ⊎ (c ≡ 49 ∷ []) → Among c (expr_constants p ++ (expr_constants q ++ written expr_constants r)) ⊎ (c ≡ 49 ∷ [])
    far (inl b) = inl (among_right (expr_constants p) (among_right (expr_constants q) b))
    far (inr e) = inr e

    mid : Among c (expr_constants q) ⊎ Among c (expr_constants (third r)) → Among c (expr_constants p ++ (expr_constants q ++ written expr_constants r)) ⊎ (c ≡ 49 ∷ [])
    mid (inl b) = inl (among_right (expr_constants p) (among_left (written expr_constants r) b))
    mid (inr b) = far (last r b)

    go : Among c (expr_constants p) ⊎ Among c (expr_constants q ++ expr_constants (third r)) → Among c (expr_constants p ++ (expr_constants q ++ written expr_constants r)) ⊎ (c ≡ 49 ∷ [])
    go (inl b) = inl (among_left (expr_constants q ++ written expr_constants r) b)
    go (inr b) = mid (among_append (expr_constants q) (expr_constants (third r)) b)
