-- A form and its parts: words, code, names, constants and references of the form are those of its items.
-- Assumes nothing.
use mathlib.Core.Path.{◌≡◌, refl, sym, ap, ◌∙◌}
use Prim.Native.Nat.{ℕ}
use mathlib.Core.List.{List, [], ◌∷◌, ◌++◌, append-nil, append_assoc}
use Rattle.rules_object.specs.Operations.{Instr, NEG, OP}
use Rattle.rules_text.specs.Trees.{Name, Digits, Expr, con, var, elm, neg, par, bin, expr_names, expr_constants, Form, assign, go_to, computed, ifs, loop, continue, stop, end, dimension}
use Rattle.rules_deck.specs.Deck.{Dims}
use Rattle.rules_deck.specs.Meaning.{third}
use Rattle.rules_deck.specs.Translation.{Held, expr_plain, expr_code, form_code}
use Rattle.rules_deck.specs.Judge.{Reference, expr_references}
use Rattle.read_items.specs.Items.{flat}
use Rattle.take_draft.specs.Parts.{Item, items_of, item_words, items_words, item_plain, items_plain, item_references, items_references, item_names, items_names, item_constants, items_constants, item_code, items_code, form_items, form_ending}

-- ---- over an append

pub words_append : (a b : List Item) → items_words (a ++ b) ≡ items_words a ++ items_words b
words_append [] b = refl
words_append (i ∷ a) b = ap (λ (l : List ℕ). item_words i ++ l) (words_append a b) ∙ sym (append_assoc (item_words i) (items_words a) (items_words b))

pub plain_append : (a b : List Item) → items_plain (a ++ b) ≡ items_plain a ++ items_plain b
plain_append [] b = refl
plain_append (i ∷ a) b = ap (λ (l : List Name). item_plain i ++ l) (plain_append a b) ∙ sym (append_assoc (item_plain i) (items_plain a) (items_plain b))

pub references_append : (a b : List Item) → items_references (a ++ b) ≡ items_references a ++ items_references b
references_append [] b = refl
references_append (i ∷ a) b =
    ap (λ (l : List Reference). item_references i ++ l) (references_append a b) ∙ sym (append_assoc (item_references i) (items_references a) (items_references b))

pub names_append : (a b : List Item) → items_names (a ++ b) ≡ items_names a ++ items_names b
names_append [] b = refl
names_append (i ∷ a) b = ap (λ (l : List Name). item_names i ++ l) (names_append a b) ∙ sym (append_assoc (item_names i) (items_names a) (items_names b))

pub constants_append : (a b : List Item) → items_constants (a ++ b) ≡ items_constants a ++ items_constants b
constants_append [] b = refl
constants_append (i ∷ a) b =
    ap (λ (l : List Digits). item_constants i ++ l) (constants_append a b) ∙ sym (append_assoc (item_constants i) (items_constants a) (items_constants b))

-- ---- expressions

pub flat_items : (e : Expr) → flat e ≡ items_words (items_of e)
unfolding flat
flat_items (con c) = refl
flat_items (var v) = refl
flat_items (elm v s) = sym (append-nil _)
flat_items (neg e) = ap (λ (l : List ℕ). l ++ (10 ∷ [])) (flat_items e) ∙ sym (words_append (items_of e) (Item.negate ∷ []))
flat_items (par e) = flat_items e
flat_items (bin o a b) =
    rw (words_append (items_of a ++ items_of b) (Item.apply o ∷ []), words_append (items_of a) (items_of b), flat_items a, flat_items b)

pub expr_plain_lem : (e : Expr) → expr_plain e ≡ items_plain (items_of e)
expr_plain_lem (con c) = refl
expr_plain_lem (var v) = refl
expr_plain_lem (elm v s) = sym (append-nil _)
expr_plain_lem (neg e) = expr_plain_lem e ∙ sym (plain_append (items_of e) (Item.negate ∷ []) ∙ append-nil (items_plain (items_of e)))
expr_plain_lem (par e) = expr_plain_lem e
expr_plain_lem (bin o a b) =
    rw (plain_append (items_of a ++ items_of b) (Item.apply o ∷ []), plain_append (items_of a) (items_of b), expr_plain_lem a, expr_plain_lem b)
    (sym (append-nil (items_plain (items_of a) ++ items_plain (items_of b))))

pub expr_references_lem : (e : Expr) → expr_references e ≡ items_references (items_of e)
expr_references_lem (con c) = refl
expr_references_lem (var v) = refl
expr_references_lem (elm v s) = refl
expr_references_lem (neg e) = expr_references_lem e ∙ sym (references_append (items_of e) (Item.negate ∷ []) ∙ append-nil (items_references (items_of e)))
expr_references_lem (par e) = expr_references_lem e
expr_references_lem (bin o a b) =
    rw (references_append (items_of a ++ items_of b) (Item.apply o ∷ []), references_append (items_of a) (items_of b), expr_references_lem a, expr_references_lem b)
    (sym (append-nil (items_references (items_of a) ++ items_references (items_of b))))

pub expr_names_lem : (e : Expr) → expr_names e ≡ items_names (items_of e)
expr_names_lem (con c) = refl
expr_names_lem (var v) = refl
expr_names_lem (elm v s) = sym (append-nil _)
expr_names_lem (neg e) = expr_names_lem e ∙ sym (names_append (items_of e) (Item.negate ∷ []) ∙ append-nil (items_names (items_of e)))
expr_names_lem (par e) = expr_names_lem e
expr_names_lem (bin o a b) =
    rw (names_append (items_of a ++ items_of b) (Item.apply o ∷ []), names_append (items_of a) (items_of b), expr_names_lem a, expr_names_lem b)
    (sym (append-nil (items_names (items_of a) ++ items_names (items_of b))))

pub expr_constants_lem : (e : Expr) → expr_constants e ≡ items_constants (items_of e)
expr_constants_lem (con c) = refl
expr_constants_lem (var v) = refl
expr_constants_lem (elm v s) = sym (append-nil _)
expr_constants_lem (neg e) = expr_constants_lem e ∙ sym (constants_append (items_of e) (Item.negate ∷ []) ∙ append-nil (items_constants (items_of e)))
expr_constants_lem (par e) = expr_constants_lem e
expr_constants_lem (bin o a b) =
    rw (constants_append (items_of a ++ items_of b) (Item.apply o ∷ []), constants_append (items_of a) (items_of b), expr_constants_lem a, expr_constants_lem b)
    (sym (append-nil (items_constants (items_of a) ++ items_constants (items_of b))))

-- ---- code

module _ (held : List Held) (dims : Name → Dims) where
  pub code_append : (a b : List Item) → items_code held dims (a ++ b) ≡ items_code held dims a ++ items_code held dims b
  code_append [] b = refl
  code_append (i ∷ a) b = ap (λ (l : List Instr). item_code held dims i ∷ l) (code_append a b)

  pub expr_code_lem : (e : Expr) → expr_code held dims e ≡ items_code held dims (items_of e)
  expr_code_lem (con c) = refl
  expr_code_lem (var v) = refl
  expr_code_lem (elm v s) = refl
  expr_code_lem (neg e) = ap (λ (l : List Instr). l ++ (NEG ∷ [])) (expr_code_lem e) ∙ sym (code_append (items_of e) (Item.negate ∷ []))
  expr_code_lem (par e) = expr_code_lem e
  expr_code_lem (bin o a b) =
      rw (code_append (items_of a ++ items_of b) (Item.apply o ∷ []), code_append (items_of a) (items_of b), expr_code_lem a, expr_code_lem b)
      (sym (append_assoc (items_code held dims (items_of a)) (items_code held dims (items_of b)) (OP o ∷ [])))

  -- three expressions, then one instruction
  three_code : (p q r : Expr) (entry : Instr) → expr_code held dims p ++ (expr_code held dims q ++ (expr_code held dims r ++ (entry ∷ [])))
      ≡ items_code held dims (items_of p ++ (items_of q ++ items_of r)) ++ (entry ∷ [])
  three_code p q r entry =
      rw (code_append (items_of p) (items_of q ++ items_of r), code_append (items_of q) (items_of r), expr_code_lem p, expr_code_lem q, expr_code_lem r)
      (sym (append_assoc (items_code held dims (items_of p)) (items_code held dims (items_of q) ++ items_code held dims (items_of r)) (entry ∷ []) ∙
      ap (λ (l : List Instr). items_code held dims (items_of p) ++ l) (append_assoc (items_code held dims (items_of q)) (items_code held dims (items_of r)) (entry ∷ []))))

  pub form_code_lem : (entry : Instr) (f : Form) → form_code held dims (λ n. n) entry f ≡ items_code held dims (form_items f) ++ form_ending held dims entry f
  form_code_lem entry (assign t e) = ap (λ (l : List Instr). l ++ form_ending held dims entry (assign t e)) (expr_code_lem e)
  form_code_lem entry (go_to n) = refl
  form_code_lem entry (computed ns v) = refl
  form_code_lem entry (ifs e a b c) = ap (λ (l : List Instr). l ++ form_ending held dims entry (ifs e a b c)) (expr_code_lem e)
  form_code_lem entry (loop n v p q r) = three_code p q (third r) entry
  form_code_lem entry continue = refl
  form_code_lem entry stop = refl
  form_code_lem entry end = refl
  form_code_lem entry (dimension arrays) = refl
