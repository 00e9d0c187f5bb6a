-- Numbers and arrays in a list, and the two forms that have one, over plain lists.
-- Assumes nothing.
use mathlib.Core.Path.{◌≡◌, refl, sym, ap, ◌∙◌, subst}
use mathlib.Core.List.{List, [], ◌∷◌, ◌++◌, append_assoc}
use mathlib.Core.Bool.{Bool, true, false, ◌&&◌}
use mathlib.Core.Option.{none, some}
use Prim.Native.Nat.{ℕ, ◌+◌, ◌≤◌, ◌<◌}
use native.Mathlib.Omega.{arith}
use lib.Dec.{leb}
use lib.ListN.{length, take, drop, get_or}
use borrow.Author.Tests.{le-leb, lt-leb}
use Rattle.rules_text.specs.Trees.{Name, Digits, array, optional, array_names, array_constants, Form, computed, dimension, form_names, form_constants, form_levels}
use Rattle.rules_text.specs.Trees as trees
use Rattle.rules_text.specs.Tokens.{left_paren, right_paren, comma, word_go_to, word_dimension, Found, found, bad, give, give_if, ahead, and_then, all_of, whole, listed, number, name}
use Rattle.rules_text.specs.Grammar.{right_exits, computed_go_to, array_shape, dimensions, read_computed, read_dimension}
use Rattle.read_tokens.specs.declared.Name as code
use Rattle.read_tokens.specs.declared.Sizes.{Sizes}
use Rattle.read_tokens.specs.Words.{capped, name_of, name_words, starts_word}
use Rattle.read_tokens.specs.Sizes.{sizes_of, both}
use Rattle.read_tokens.specs.Reading.{constant_size, name_size, end_of}
use Rattle.read_tokens.specs.Reading as reading
use Rattle.read_tokens.proofs.Measured.{sizes_join}
use Rattle.read_tokens.proofs.Tokens.{after_none, inside, word_none, word_fits}
use Rattle.read_tokens.proofs.Chains.{Upto, give_upto, then_upto, then_bad, Took, Leads, then_leads, after_leads, word_leads, leads_more, leads_as, leads_bad, leads_upto, whole_some, whole_short, whole_bad}
use Rattle.std.proofs.Common.{Option as Maybe, Some, None}
use Rattle.read_tokens.specs.declared.Read.{Read}
use Rattle.read_forms.specs.declared.Statement.{Statement}
use Rattle.read_forms.specs.declared.Statement.TheVariants as statement
use Rattle.read_forms.specs.Statements.{array_words, all_words, form_words, form_sizes, statement_of, Reads}
use Rattle.read_forms.proofs.Forms.{here, reads_none, reads_some}
use Rattle.read_lists.specs.declared.Array.{Array}
use Rattle.read_lists.specs.Lists.{array_value, array_sizes, seven_words, list_words, ReadsList, numbers_words, numbers_sizes, arrays_sizes, choice_of, EndsComputed}

append_none : {A : Type 0} (l : List A) → l ++ [] ≡ l
append_none [] = refl
append_none {A} (x ∷ l) = ap (λ (m : List A). x ∷ m) (append_none l)

-- ---- how many bytes they take

pub number_takes : {s : List ℕ} {from at w : ℕ} {o : Found Digits} {z : Sizes} → Took capped constant_size reading.two s from o at w z → from + 1 ≤ at
unfolding reading.two
number_takes t = omega (arith, t.few)

pub array_takes : {s : List ℕ} {from at : ℕ} {w : Array} {o : Found trees.Array} {z : Sizes} → Took array_value array_sizes seven_words s from o at w z → from + 2 ≤ at
unfolding seven_words
array_takes t = omega (arith, t.few)

-- ---- one more number

pub numbers_more : (l : List Digits) (c : Digits) (w : ℕ) → w ≡ capped c → numbers_words (l ++ c ∷ []) ≡ numbers_words l ++ w ∷ []
unfolding numbers_words
numbers_more [] c w e = ap (λ (x : ℕ). x ∷ []) (sym e)
numbers_more (d ∷ l) c w e = ap (λ (x : List ℕ). capped d ∷ x) (numbers_more l c w e)

pub numbers_none : numbers_words [] ≡ []
unfolding numbers_words
numbers_none = refl

pub numbers_sizes_lem : {z : Sizes} (l : List Digits) → z ≡ sizes_of [] [] 0 → z ≡ numbers_sizes l
unfolding numbers_sizes
numbers_sizes_lem l e = e

-- ---- one more array

abbrev value_words : Array → List ℕ
value_words a = a.dimensions ∷ (name_words a.name ++ (a.rows ∷ a.columns ∷ []))

array_words_lem : (x : trees.Array) → array_words x ≡ value_words (array_value x)
unfolding array_words array_value
array_words_lem (array v r none) = refl
array_words_lem (array v r (some c)) = refl

all_more : (l : List trees.Array) (x : trees.Array) → all_words (l ++ x ∷ []) ≡ all_words l ++ array_words x
unfolding all_words
all_more [] x = append_none (array_words x)
all_more (y ∷ l) x = ap (λ (m : List ℕ). array_words y ++ m) (all_more l x) ∙ sym (append_assoc (array_words y) (all_words l) (array_words x))

pub arrays_more : (l : List trees.Array) (x : trees.Array) {w : Array} → w ≡ array_value x
    → all_words (l ++ x ∷ []) ≡ all_words l ++ value_words w
arrays_more l x {w} e =
    all_more l x ∙ ap (λ (m : List ℕ). all_words l ++ m) (array_words_lem x ∙ ap value_words (sym e))

pub arrays_none : all_words [] ≡ []
unfolding all_words
arrays_none = refl

pub arrays_sizes_none : {z : Sizes} → z ≡ sizes_of [] [] 0 → z ≡ arrays_sizes []
unfolding arrays_sizes
arrays_sizes_none e = e

names_more : (l : List trees.Array) (x : trees.Array) → array_names (l ++ x ∷ []) ≡ array_names l ++ array_names (x ∷ [])
names_more [] x = refl
names_more (array v r c ∷ l) x = ap (λ (m : List Name). v ∷ m) (names_more l x)

constants_more : (l : List trees.Array) (x : trees.Array) → array_constants (l ++ x ∷ []) ≡ array_constants l ++ array_constants (x ∷ [])
constants_more [] x = refl
constants_more (array v r c ∷ l) x =
    ap (λ (m : List Digits). r ∷ m) (ap (λ (m : List Digits). optional c ++ m) (constants_more l x) ∙ sym (append_assoc (optional c) (array_constants l) (array_constants (x ∷ []))))

array_size_lem : (x : trees.Array) → array_sizes x ≡ sizes_of (array_names (x ∷ [])) (array_constants (x ∷ [])) 0
unfolding array_sizes
array_size_lem (array v r c) = ap (λ (m : List Digits). sizes_of (v ∷ []) (r ∷ m) 0) (sym (append_none (optional c)))

pub arrays_sizes_more : (l : List trees.Array) (x : trees.Array) {z y b : Sizes} → z ≡ arrays_sizes l → y ≡ array_sizes x → b ≡ both z y → b ≡ arrays_sizes (l ++ x ∷ [])
unfolding arrays_sizes
arrays_sizes_more l x {z} {y} {b} ze ye be =
    be ∙ ap (λ (v : Sizes). both v y) ze ∙ ap (both (sizes_of (array_names l) (array_constants l) 0)) (ye ∙ array_size_lem x)
    ∙ sizes_join (array_names l) (array_names (x ∷ [])) (array_constants l) (array_constants (x ∷ [])) 0 0
    ∙ ap (λ (m : List Name). sizes_of m (array_constants l ++ array_constants (x ∷ [])) 0) (sym (names_more l x))
    ∙ ap (λ (m : List Digits). sizes_of (array_names (l ++ x ∷ [])) m 0) (sym (constants_more l x))

-- ---- a list that was read

pub record TookList {A : Type 0} (words : List A → List ℕ) (sizes : List A → Sizes) (s b : List ℕ) (from : ℕ) (o : Found (List A)) (at count : ℕ) (z : Sizes) : Type 0 where
  pub tree : List A
  pub upto : Upto s from o at tree
  pub count_is : count ≡ length tree
  pub sizes_is : z ≡ sizes tree
  pub table : take (length (words tree)) b ≡ words tree

module _ {A : Type 0} {words : List A → List ℕ} {sizes : List A → Sizes} {s b : List ℕ} {from : ℕ} {o : Found (List A)} {r : Maybe (Read ℕ)} (h : ReadsList words sizes s b from o r) where
  pub took_list : {x : Read ℕ} → r ≡ Some x → TookList words sizes s b from o x.at x.value x.sizes
  unfolding reading.answer list_words end_of
  took_list {x} q = go o refl h
    where
      go : (p : Found (List A)) → o ≡ p → ReadsList words sizes s b from p r → TookList words sizes s b from o x.at x.value x.sizes
      go (found l k) e g =
          let same : x ≡ record { at = from + k; value = length l; sizes = sizes l } = let says = g.says in cc in
          let place : x.at ≡ from + k = ap (λ (y : Read ℕ). y.at) same in
          record {
            tree = l;
            upto = record { count = k; is = e; ends = place; within = omega (arith, g.within) };
            count_is = ap (λ (y : Read ℕ). y.value) same;
            sizes_is = ap (λ (y : Read ℕ). y.sizes) same;
            table = g.table;
          }
      go bad e g = let says : r ≡ None = g.says in let c : ◌≡◌ {A = ℕ} 0 1 = cc in absurd (omega arith)

  pub refused_list : r ≡ None → o ≡ bad
  unfolding reading.answer
  refused_list q = go o refl h.says
    where
      go : (p : Found (List A)) → o ≡ p → r ≡ reading.answer length sizes from p → o ≡ bad
      go (found l k) e w = let c : ◌≡◌ {A = ℕ} 0 1 = cc in absurd (omega arith)
      go bad e w = e

-- ---- a computed GO TO

abbrev TookName : List ℕ → ℕ → ℕ → code.Name → Sizes → Type 0
TookName s from at w z = Took name_of name_size reading.five s from (name (drop from s)) at w z

few_exits : (ns : List Digits) → length ns < 2 → right_exits ns ≡ false
unfolding right_exits
few_exits ns h = ap (λ (b : Bool). b && leb (length ns) 10) (lt-leb 2 (length ns) h)

many_exits : (ns : List Digits) → 2 ≤ length ns → 10 < length ns → right_exits ns ≡ false
unfolding right_exits
many_exits ns g h = ap (λ (b : Bool). b && leb (length ns) 10) (le-leb 2 (length ns) g) ∙ lt-leb (length ns) 10 h

right_exits_lem : (ns : List Digits) → 2 ≤ length ns → length ns ≤ 10 → right_exits ns ≡ true
unfolding right_exits
right_exits_lem ns g h = ap (λ (b : Bool). b && leb (length ns) 10) (le-leb 2 (length ns) g) ∙ le-leb (length ns) 10 h

module _ (s : List ℕ) (from exits : ℕ) where
  pub choice_open : (get_or s from 0 ≡ right_paren → ⊥) → EndsComputed s from exits None
  unfolding choice_of
  choice_open ne ns b ee te = reads_none (whole_bad (length s) (leads_bad (here from _) (after_none right_paren (omega arith) s from _ ne)))

  module _ (c : get_or s from 0 ≡ right_paren) where
    pub choice_no_comma : (get_or s (from + 1) 0 ≡ comma → ⊥) → EndsComputed s from exits None
    unfolding choice_of
    choice_no_comma ne ns b ee te =
        reads_none (whole_bad (length s) (leads_bad (leads_more (here from _) (after_leads s from right_paren _ (omega arith) c)) (after_none comma (omega arith) s (from + 1) _ ne)))

    module _ (m : get_or s (from + 1) 0 ≡ comma) where
      choice_lead : (ns : List Digits) → Leads 0 (ahead from (choice_of ns (drop from s))) (from + 1 + 1) (and_then name (λ v. give_if (right_exits ns) (computed ns v)) (drop (from + 1 + 1) s))
      unfolding choice_of
      choice_lead ns = leads_more (leads_more (here from _) (after_leads s from right_paren _ (omega arith) c)) (after_leads s (from + 1) comma _ (omega arith) m)

      pub choice_no_name : name (drop (from + 1 + 1) s) ≡ bad → EndsComputed s from exits None
      choice_no_name e ns b ee te = reads_none (whole_bad (length s) (leads_bad (choice_lead ns) (then_bad s (from + 1 + 1) name _ e)))

      module _ {at : ℕ} {w : code.Name} {z : Sizes} (t : TookName s (from + 1 + 1) at w z) where
        choice_at : (ns : List Digits) → Leads 0 (ahead from (choice_of ns (drop from s))) at (give_if (right_exits ns) (computed ns t.tree) (drop at s))
        choice_at ns = leads_more (choice_lead ns) (then_leads s (from + 1 + 1) name _ t.upto)

        wrong : (ns : List Digits) (b : List ℕ) → right_exits ns ≡ false → Reads b (all_of (length s) (ahead from (choice_of ns (drop from s)))) None
        unfolding give_if
        wrong ns b e =
            reads_none (whole_bad (length s) (leads_bad (choice_at ns) (ap (λ (q : Bool). give_if q (computed ns t.tree) (drop at s)) e)))

        right : (ns : List Digits) → right_exits ns ≡ true → Upto s 0 (ahead from (choice_of ns (drop from s))) at (computed ns t.tree)
        unfolding give_if
        right ns e =
            leads_upto (leads_as (choice_at ns) (ap (λ (q : Bool). give_if q (computed ns t.tree) (drop at s)) e))
            (record { count = 0; is = refl; ends = omega arith; within = t.upto.within })

        pub choice_more : (at ≡ length s → ⊥) → EndsComputed s from exits None
        choice_more n ns b ee te = go (right_exits ns) refl
          where
            go : (q : Bool) → right_exits ns ≡ q → Reads b (all_of (length s) (ahead from (choice_of ns (drop from s)))) None
            go true e = reads_none (whole_short (right ns e) n)
            go false e = wrong ns b e

        pub choice_few : exits < 2 → EndsComputed s from exits None
        choice_few l ns b ee te = wrong ns b (few_exits ns (subst (λ (x : ℕ). x < 2) ee l))

        pub choice_many : 2 ≤ exits → 10 < exits → EndsComputed s from exits None
        choice_many g l ns b ee te = wrong ns b (many_exits ns (subst (λ (x : ℕ). 2 ≤ x) ee g) (subst (λ (x : ℕ). 10 < x) ee l))

        pub choice_read : at ≡ length s → 2 ≤ exits → exits ≤ 10 → EndsComputed s from exits (Some (statement.Computed (record { exits = exits; name = w; sizes = z })))
        unfolding statement_of form_words form_sizes form_names form_constants form_levels name_size numbers_words
        choice_read q g l ns b ee te =
            reads_some (computed ns t.tree) (whole_some (right ns (right_exits_lem ns (subst (λ (x : ℕ). 2 ≤ x) ee g) (subst (λ (x : ℕ). x ≤ 10) ee l))) q)
            (ap (λ (x : ℕ). statement.Computed (record { exits = x; name = w; sizes = z })) ee
            ∙ ap (λ (x : code.Name). statement.Computed (record { exits = length ns; name = x; sizes = z })) t.value_is
            ∙ ap (λ (x : Sizes). statement.Computed (record { exits = length ns; name = name_of t.tree; sizes = x })) t.sizes_is)
            te

pub computed_no_word : {b : List ℕ} (s : List ℕ) → starts_word word_go_to s ≡ false → Reads b (read_computed s) None
unfolding read_computed whole computed_go_to
computed_no_word s e = reads_none (whole_bad (length s) (word_none word_go_to _ s e))

module _ (s : List ℕ) (w : starts_word word_go_to s ≡ true) where
  pub computed_not_opened : {b : List ℕ} → (get_or s 4 0 ≡ left_paren → ⊥) → Reads b (read_computed s) None
  unfolding read_computed whole computed_go_to
  computed_not_opened n = reads_none (whole_bad (length s) (leads_bad (word_leads word_go_to _ s w) (after_none left_paren (omega arith) s 4 _ n)))

  module _ (o : get_or s 4 0 ≡ left_paren) where
    pub computed_inside : 5 ≤ length s
    computed_inside = let i = inside left_paren (omega arith) s 4 o in omega arith

    computed_lead : Leads 0 (computed_go_to s) 5 (and_then (listed number) (λ ns. choice_of ns) (drop 5 s))
    unfolding computed_go_to choice_of
    computed_lead = leads_more (word_leads word_go_to _ s w) (after_leads s 4 left_paren _ (omega arith) o)

    pub computed_no_list : {b : List ℕ} → listed number (drop 5 s) ≡ bad → Reads b (read_computed s) None
    unfolding read_computed whole
    computed_no_list e = reads_none (whole_bad (length s) (leads_bad computed_lead (then_bad s 5 (listed number) _ e)))

    pub computed_read : {b : List ℕ} {at count : ℕ} {z : Sizes} {r : Maybe Statement} → TookList numbers_words numbers_sizes s b 5 (listed number (drop 5 s)) at count z
        → EndsComputed s at count r → Reads b (read_computed s) r
    unfolding read_computed whole
    computed_read {b} {at} {count} {z} {r} t h =
        let l = leads_more computed_lead (then_leads s 5 (listed number) _ t.upto) in
        let same : l.count ≡ at = omega (arith, l.ends) in
        subst (λ (x : Found Form). Reads b (all_of (length s) x) r) (sym (l.is ∙ ap (λ (x : ℕ). ahead x (choice_of t.tree (drop at s))) same))
        (h t.tree b t.count_is t.table)

-- ---- DIMENSION

pub dimension_no_word : {b : List ℕ} (s : List ℕ) → starts_word word_dimension s ≡ false → Reads b (read_dimension s) None
unfolding read_dimension whole dimensions
dimension_no_word s e = reads_none (whole_bad (length s) (word_none word_dimension _ s e))

module _ (s : List ℕ) (w : starts_word word_dimension s ≡ true) where
  pub dimension_fits : 9 ≤ length s
  dimension_fits = word_fits word_dimension s w

  dimension_lead : Leads 0 (dimensions s) 9 (and_then (listed array_shape) (λ l. give (dimension l)) (drop 9 s))
  unfolding dimensions
  dimension_lead = word_leads word_dimension _ s w

  pub dimension_no_list : {b : List ℕ} → listed array_shape (drop 9 s) ≡ bad → Reads b (read_dimension s) None
  unfolding read_dimension whole
  dimension_no_list e = reads_none (whole_bad (length s) (leads_bad dimension_lead (then_bad s 9 (listed array_shape) _ e)))

  module _ {b : List ℕ} {at count : ℕ} {z : Sizes} (t : TookList all_words arrays_sizes s b 9 (listed array_shape (drop 9 s)) at count z) where
    dimension_upto : Upto s 0 (dimensions s) at (dimension t.tree)
    dimension_upto = leads_upto dimension_lead (then_upto s 9 (listed array_shape) _ t.upto (give_upto s at (dimension t.tree) t.upto.within))

    pub dimension_more : (at ≡ length s → ⊥) → Reads b (read_dimension s) None
    unfolding read_dimension whole
    dimension_more n = reads_none (whole_short dimension_upto n)

    pub dimension_read : at ≡ length s → Reads b (read_dimension s) (Some (statement.Dimension (record { arrays = count; sizes = z })))
    unfolding read_dimension whole statement_of form_words form_sizes form_names form_constants form_levels arrays_sizes
    dimension_read q =
        reads_some (dimension t.tree) (whole_some dimension_upto q)
        (ap (λ (x : ℕ). statement.Dimension (record { arrays = x; sizes = z })) t.count_is
        ∙ ap (λ (x : Sizes). statement.Dimension (record { arrays = length t.tree; sizes = x })) t.sizes_is)
        t.table
