-- A text that spells a form is the form's own text, but for plus signs right after = or (.
-- Assumes nothing.
use mathlib.Core.Path.{◌≡◌, refl, sym, ap, ◌∙◌}
use mathlib.Core.List.{List, [], ◌∷◌, ◌++◌, append_assoc, append-nil}
use mathlib.Core.Bool.{Bool, true, false, ◌&&◌, ◌||◌, cond}
use mathlib.Core.Option.{Option, some, none}
use Prim.Native.Nat.{ℕ, ◌≤◌}
use native.Mathlib.Omega.{arith}
use lib.ListN.{length}
use lib.Dec.{eqb}
use borrow.Author.Tests.{ne_eqb}
use Rattle.rules_shared.specs.Limits.{limits}
use Rattle.rules_object.specs.Check.{is_letter, is_digit}
use Rattle.rules_shared.specs.Lists.{Each, each_none, each_more}
use Rattle.rules_shared.proofs.EachLaws.{each_head, each_tail, each_left, each_right}
use Rattle.rules_text.specs.Trees.{Name, Digits, Addend, nothing, plus, minus, Subscript, constant, linear, Subscripts, one, two, addend_constants, subscript_names, subscript_constants, subscripts_names, subscripts_constants, Expr, con, var, elm, neg, par, bin, Target, cell, element, Array, array, Form}
use Rattle.rules_text.specs.Tokens.{left_paren, right_paren, star, plus_sign, comma, minus_sign, slash, equals, word_go_to, word_if, word_do, word_continue, word_stop, word_end, word_dimension, is_letter_or_digit}
use Rattle.rules_text.specs.Spelling.{spell_addend, spell_subscript, spell_subscripts, spell_target, spell_expr, spell_more, spell_list, spell_number, spell_array, spell_by, spell_form, Passes, IsDigits, is_digits, IsName, is_name, Words, IsTarget, IsArray, IsNumberOrName, IsBy, Part, a_sum, a_product, a_factor, SpellsPart, first, after_plus, after_minus, added, less, only, times, over, a_number, a_name, element_factor, parens, Spells, an_assignment, a_go_to, a_computed, an_if, a_do_loop, a_continue, a_stop, an_end, a_dimension, opens, without_after, without_pluses}
use Rattle.rules_text.proofs.Readers.{digit_bounds, letter_bounds}

-- after b, the text t comes to u, and what follows t starts after no = or (
record Comes (b : ℕ) (t u : List ℕ) : Type 0 where
  on : (t' u' : List ℕ) → ((c : ℕ) → opens c ≡ false → without_after c t' ≡ u') → without_after b (t ++ t') ≡ u ++ u'

-- after whatever byte
abbrev Stays : List ℕ → Type 0
Stays t = (b : ℕ) → Comes b t t

-- after a byte that is no = or (
abbrev StaysInside : List ℕ → Type 0
StaysInside t = (b : ℕ) → opens b ≡ false → Comes b t t

-- ---- one byte, and texts joined

comes_none : (b : ℕ) → opens b ≡ false → Comes b [] []
comes_none b o = record { on = λ t' u' h. h b o }

keeps : (b c : ℕ) (t u : List ℕ) → opens b && eqb c plus_sign ≡ false → Comes c t u → Comes b (c ∷ t) (c ∷ u)
unfolding without_after
keeps b c t u n p =
    record {
      on = λ t' u' h.
          ap (λ (x : Bool). cond x (without_after c (t ++ t')) (c ∷ without_after c (t ++ t'))) n ∙ ap (λ (l : List ℕ). c ∷ l) (p.on t' u' h);
    }

both_no : (a b : Bool) → b ≡ false → a && b ≡ false
both_no true b e = e
both_no false b e = refl

-- a byte that is no plus
comes_byte : (b c : ℕ) {t u : List ℕ} → eqb c plus_sign ≡ false → Comes c t u → Comes b (c ∷ t) (c ∷ u)
comes_byte b c {t} {u} n p = keeps b c t u (both_no (opens b) (eqb c plus_sign) n) p

-- any byte, not after = or (
comes_inside : (b c : ℕ) {t u : List ℕ} → opens b ≡ false → Comes c t u → Comes b (c ∷ t) (c ∷ u)
comes_inside b c {t} {u} o p = keeps b c t u (ap (λ (x : Bool). x && eqb c plus_sign) o) p

-- a plus after = or (
comes_plus : (b : ℕ) {t u : List ℕ} → opens b ≡ true → Comes plus_sign t u → Comes b (plus_sign ∷ t) u
unfolding without_after
comes_plus b {t} {u} o p =
    record {
      on = λ t' u' h.
          ap (λ (x : Bool). cond (x && true) (without_after plus_sign (t ++ t')) (plus_sign ∷ without_after plus_sign (t ++ t'))) o ∙ p.on t' u' h;
    }

comes_join : (b : ℕ) (t u w x : List ℕ) → Comes b t u → ((c : ℕ) → opens c ≡ false → Comes c w x) → Comes b (t ++ w) (u ++ x)
comes_join b t u w x p q =
    record {
      on = λ t' u' h.
          ap (without_after b) (append_assoc t w t') ∙ p.on (w ++ t') (x ++ u') (λ c o. (q c o).on t' u' h) ∙ sym (append_assoc u x u');
    }

-- ---- names and numbers

record Plain (c : ℕ) : Type 0 where
  no_plus : eqb c plus_sign ≡ false
  no_start : opens c ≡ false

plain : (c : ℕ) → (c ≡ plus_sign → ⊥) → (c ≡ equals → ⊥) → (c ≡ left_paren → ⊥) → Plain c
plain c p q r =
    record { no_plus = ne_eqb c plus_sign p; no_start = ap (λ (x : Bool). x || eqb c left_paren) (ne_eqb c equals q) ∙ ne_eqb c left_paren r }

plain_digit : (c : ℕ) → is_digit c ≡ true → Plain c
plain_digit c e =
    let k = digit_bounds c e in
    plain c (λ x. omega (arith, k.0, k.1)) (λ x. omega (arith, k.0, k.1)) (λ x. omega (arith, k.0, k.1))

plain_letter : (c : ℕ) → is_letter c ≡ true → Plain c
plain_letter c e =
    let k = letter_bounds c e in
    plain c (λ x. omega (arith, k.0, k.1)) (λ x. omega (arith, k.0, k.1)) (λ x. omega (arith, k.0, k.1))

plain_either : (c : ℕ) → is_letter_or_digit c ≡ true → Plain c
unfolding is_letter_or_digit
plain_either c e = go (is_letter c) refl e
  where
    go : (b : Bool) → is_letter c ≡ b → b || is_digit c ≡ true → Plain c
    go true p q = plain_letter c p
    go false p q = plain_digit c q

run_stays : (test : ℕ → Bool) → ((c : ℕ) → test c ≡ true → Plain c) → (s : List ℕ) → Each (Passes test) s → StaysInside s
run_stays test h [] each_none = comes_none
run_stays test h (c ∷ s) (each_more p ps) = λ b o. comes_byte b c (h c p).no_plus (run_stays test h s ps c (h c p).no_start)

number_stays : (n : Digits) → IsDigits n → Stays n
number_stays (c ∷ s) (is_digits p ps) = λ b.
    comes_byte b c (plain_digit c p).no_plus (run_stays is_digit plain_digit s ps c (plain_digit c p).no_start)
number_stays [] x' = elim x' [ ]

name_stays : (v : Name) → IsName v → Stays v
name_stays (c ∷ s) (is_name p ps) = λ b.
    comes_byte b c (plain_letter c p).no_plus (run_stays is_letter_or_digit plain_either s ps c (plain_letter c p).no_start)
name_stays [] x' = elim x' [ ]

-- two texts of which the second is not at the start of an expression
stays_join : (t w : List ℕ) → Stays t → StaysInside w → Stays (t ++ w)
stays_join t w p q = λ b. comes_join b t t w w (p b) q

paren_stays : StaysInside (right_paren ∷ [])
paren_stays = λ b o. comes_byte b right_paren refl (comes_none right_paren refl)

-- ---- subscripts and targets

addend_stays : (a : Addend) → Each IsDigits (addend_constants a) → StaysInside (spell_addend a)
addend_stays nothing q = comes_none
addend_stays (plus c) q = λ b o. comes_inside b plus_sign o (number_stays c (each_head q) plus_sign)
addend_stays (minus c) q = λ b o. comes_inside b minus_sign o (number_stays c (each_head q) minus_sign)

subscript_stays : (s : Subscript) → Words (subscript_names s) (subscript_constants s) → Stays (spell_subscript s)
subscript_stays (constant c) q = number_stays c (each_head q.1)
subscript_stays (linear none v a) q = stays_join v (spell_addend a) (name_stays v (each_head q.0)) (addend_stays a q.1)
subscript_stays (linear (some c) v a) q =
    stays_join c (star ∷ v ++ spell_addend a) (number_stays c (each_head q.1))
    (λ b o. comes_byte b star refl (stays_join v (spell_addend a) (name_stays v (each_head q.0)) (addend_stays a (each_tail q.1)) star))

subscripts_stay : (s : Subscripts) → Words (subscripts_names s) (subscripts_constants s) → Stays (spell_subscripts s)
subscripts_stay (one s) q = λ b. comes_byte b left_paren refl (stays_join (spell_subscript s) (right_paren ∷ []) (subscript_stays s q) paren_stays left_paren)
subscripts_stay (two s t) q = λ b.
    let p : Words (subscript_names s) (subscript_constants s) = (each_left (subscript_names s) (subscript_names t) q.0, each_left (subscript_constants s) (subscript_constants t) q.1) in
    let r : Words (subscript_names t) (subscript_constants t) = (each_right (subscript_names s) (subscript_names t) q.0, each_right (subscript_constants s) (subscript_constants t) q.1) in
    comes_byte b left_paren refl (stays_join (spell_subscript s) (comma ∷ spell_subscript t ++ right_paren ∷ []) (subscript_stays s p)
    (λ c o. comes_byte c comma refl (stays_join (spell_subscript t) (right_paren ∷ []) (subscript_stays t r) paren_stays comma)) left_paren)

target_stays : (t : Target) → IsTarget t → Stays (spell_target t)
target_stays (cell v) q = name_stays v (each_head q.0)
target_stays (element v s) q = stays_join v (spell_subscripts s) (name_stays v (each_head q.0)) (λ b o. subscripts_stay s (each_tail q.0, q.1) b)

-- ---- expressions

abbrev ComesAt : Part → List ℕ → Expr → Type 0
ComesAt a_sum t e = (b : ℕ) → opens b ≡ true → Comes b t (spell_expr e)
ComesAt a_product t e = (b : ℕ) → Comes b t (spell_expr e)
ComesAt a_factor t e = (b : ℕ) → Comes b t (spell_expr e)

comes_expr : {part : Part} {t : List ℕ} {e : Expr} → SpellsPart part t e → ComesAt part t e
comes_expr (first p) = λ b o. comes_expr p b
comes_expr (after_plus p) = λ b o. comes_plus b o (comes_expr p plus_sign)
comes_expr (after_minus p) = λ b o. comes_byte b minus_sign refl (comes_expr p minus_sign)
comes_expr (added {t} {u} {a} {b = right} p q) = λ b o.
    comes_join b t (spell_expr a) (plus_sign ∷ u) (plus_sign ∷ spell_expr right) (comes_expr p b o) (λ c i. comes_inside c plus_sign i (comes_expr q plus_sign))
comes_expr (less {t} {u} {a} {b = right} p q) = λ b o.
    comes_join b t (spell_expr a) (minus_sign ∷ u) (minus_sign ∷ spell_expr right) (comes_expr p b o) (λ c i. comes_inside c minus_sign i (comes_expr q minus_sign))
comes_expr (only p) = λ b. comes_expr p b
comes_expr (times {t} {u} {a} {b = right} p q) = λ b.
    comes_join b t (spell_expr a) (star ∷ u) (star ∷ spell_expr right) (comes_expr p b) (λ c i. comes_inside c star i (comes_expr q star))
comes_expr (over {t} {u} {a} {b = right} p q) = λ b.
    comes_join b t (spell_expr a) (slash ∷ u) (slash ∷ spell_expr right) (comes_expr p b) (λ c i. comes_inside c slash i (comes_expr q slash))
comes_expr (a_number {c} q) = number_stays c q
comes_expr (a_name {v} q) = name_stays v q
comes_expr (element_factor v s q) = target_stays (element v s) q
comes_expr (parens {t} {e} p) = λ b.
    comes_byte b left_paren refl (comes_join left_paren t (spell_expr e) (right_paren ∷ []) (right_paren ∷ []) (comes_expr p left_paren refl) paren_stays)

-- ---- the statement forms

parameter_stays : (e : Expr) → IsNumberOrName e → Stays (spell_expr e)
parameter_stays (con c) q = number_stays c q
parameter_stays (var v) q = name_stays v q
parameter_stays (elm v s) q = absurd q
parameter_stays (neg e) q = absurd q
parameter_stays (par e) q = absurd q
parameter_stays (bin o a b) q = absurd q

by_stays : (r : Option Expr) → IsBy r → StaysInside (spell_by r)
by_stays none q = comes_none
by_stays (some e) q = λ b o. comes_inside b comma o (parameter_stays e q comma)

array_stays : (a : Array) → IsArray a → Stays (spell_array a)
array_stays (array v r none) (qv, qr, qc) =
    stays_join v (left_paren ∷ r ++ right_paren ∷ []) (name_stays v qv)
    (λ b o. comes_byte b left_paren refl (stays_join r (right_paren ∷ []) (number_stays r qr) paren_stays left_paren))
array_stays (array v r (some c)) (qv, qr, qc) =
    stays_join v (left_paren ∷ r ++ (comma ∷ c ++ right_paren ∷ [])) (name_stays v qv)
    (λ b o. comes_byte b left_paren refl (stays_join r (comma ∷ c ++ right_paren ∷ []) (number_stays r qr)
    (λ d i. comes_byte d comma refl (stays_join c (right_paren ∷ []) (number_stays c (each_head qc)) paren_stays comma)) left_paren))

more_stay : {A : Type 0} {P : A → Type 0} (spell : A → List ℕ) → ((a : A) → P a → Stays (spell a)) → (l : List A) → Each P l → StaysInside (spell_more spell l)
more_stay spell h [] each_none = comes_none
more_stay spell h (a ∷ l) (each_more p ps) = λ b o.
    comes_byte b comma refl (stays_join (spell a) (spell_more spell l) (h a p) (more_stay spell h l ps) comma)

list_stays : {A : Type 0} {P : A → Type 0} (spell : A → List ℕ) → ((a : A) → P a → Stays (spell a)) → (a : A) (l : List A) → P a → Each P l
    → Stays (spell_list spell (a ∷ l))
list_stays spell h a l p ps = stays_join (spell a) (spell_more spell l) (h a p) (more_stay spell h l ps)

exits_stay : (ns : List Digits) → Each IsDigits ns → limits.fewest_exits ≤ length ns → Stays (spell_list spell_number ns)
exits_stay [] each_none l = absurd (omega arith)
exits_stay (n ∷ ns) (each_more p ps) l = list_stays spell_number number_stays n ns p ps

-- a word of letters, and what follows it
after_word_lem : (w t u : List ℕ) → IsName w → ((b : ℕ) → opens b ≡ false → Comes b t u) → Comes 0 (w ++ t) (w ++ u)
after_word_lem w t u q p = comes_join 0 w w t u (name_stays w q 0) p

word_go_to_lem : IsName word_go_to
unfolding is_letter_or_digit
word_go_to_lem = is_name refl (each_more refl (each_more refl (each_more refl each_none)))

word_if_lem : IsName word_if
unfolding is_letter_or_digit
word_if_lem = is_name refl (each_more refl each_none)

word_do_lem : IsName word_do
unfolding is_letter_or_digit
word_do_lem = is_name refl (each_more refl each_none)

word_continue_lem : IsName word_continue
unfolding is_letter_or_digit
word_continue_lem = is_name refl (each_more refl (each_more refl (each_more refl (each_more refl (each_more refl (each_more refl (each_more refl each_none)))))))

word_stop_lem : IsName word_stop
unfolding is_letter_or_digit
word_stop_lem = is_name refl (each_more refl (each_more refl (each_more refl each_none)))

word_end_lem : IsName word_end
unfolding is_letter_or_digit
word_end_lem = is_name refl (each_more refl (each_more refl each_none))

word_dimension_lem : IsName word_dimension
unfolding is_letter_or_digit
word_dimension_lem =
    is_name refl (each_more refl (each_more refl (each_more refl (each_more refl (each_more refl (each_more refl (each_more refl (each_more refl each_none))))))))

comes_form : {s : List ℕ} {f : Form} → Spells s f → Comes 0 s (spell_form f)
comes_form (an_assignment {u} {e} t q p) =
    comes_join 0 (spell_target t) (spell_target t) (equals ∷ u) (equals ∷ spell_expr e) (target_stays t q 0)
    (λ b o. comes_byte b equals refl (comes_expr p equals refl))
comes_form (a_go_to n q) = after_word_lem word_go_to n n word_go_to_lem (λ b o. number_stays n q b)
comes_form (a_computed ns v qs l m q) =
    after_word_lem word_go_to _ _ word_go_to_lem (λ b o. comes_byte b left_paren refl
    (stays_join (spell_list spell_number ns) (right_paren ∷ comma ∷ v) (exits_stay ns qs l)
    (λ c i. comes_byte c right_paren refl (comes_byte right_paren comma refl (name_stays v q comma))) left_paren))
comes_form (an_if {u} {e} x y z p qx qy qz) =
    after_word_lem word_if _ _ word_if_lem (λ b o. comes_byte b left_paren refl
    (comes_join left_paren u (spell_expr e) (right_paren ∷ x ++ (comma ∷ y ++ comma ∷ z)) (right_paren ∷ x ++ (comma ∷ y ++ comma ∷ z)) (comes_expr p left_paren refl)
    (λ c i. comes_byte c right_paren refl (stays_join x (comma ∷ y ++ comma ∷ z) (number_stays x qx)
    (λ d j. comes_byte d comma refl (stays_join y (comma ∷ z) (number_stays y qy) (λ g k. comes_byte g comma refl (number_stays z qz comma)) comma)) right_paren))))
comes_form (a_do_loop n v x y z qn qv qx qy qz) =
    after_word_lem word_do _ _ word_do_lem (λ b o.
    stays_join n (v ++ (equals ∷ spell_expr x ++ (comma ∷ spell_expr y ++ spell_by z))) (number_stays n qn)
    (λ c i. stays_join v (equals ∷ spell_expr x ++ (comma ∷ spell_expr y ++ spell_by z)) (name_stays v qv)
    (λ d j. comes_byte d equals refl (stays_join (spell_expr x) (comma ∷ spell_expr y ++ spell_by z) (parameter_stays x qx)
    (λ g k. comes_byte g comma refl (stays_join (spell_expr y) (spell_by z) (parameter_stays y qy) (by_stays z qz) comma)) equals)) c) b)
comes_form a_continue = name_stays word_continue word_continue_lem 0
comes_form a_stop = name_stays word_stop word_stop_lem 0
comes_form an_end = name_stays word_end word_end_lem 0
comes_form (a_dimension a others q qs) = after_word_lem word_dimension _ _ word_dimension_lem (λ b o. list_stays spell_array array_stays a others q qs b)

-- A FORM'S TEXTS ARE ITS OWN TEXT BUT FOR PLUS SIGNS AT THE START OF EXPRESSIONS
pub only_pluses : {s : List ℕ} {f : Form} → Spells s f → without_pluses s ≡ spell_form f
unfolding without_pluses without_after
only_pluses {s} {f} p =
    ap (without_after 0) (sym (append-nil s)) ∙ (comes_form p).on [] [] (λ c o. refl) ∙ append-nil (spell_form f)
