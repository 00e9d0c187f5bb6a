-- The cases of a DO's readers, over plain lists.
-- Assumes nothing.
use mathlib.Core.Path.{◌≡◌, refl, sym, ap, ◌∙◌}
use mathlib.Core.List.{List, [], ◌∷◌, ◌++◌, append_assoc}
use mathlib.Core.Bool.{Bool, true, false}
use mathlib.Core.Option.{none, some}
use Prim.Native.Nat.{ℕ, ◌+◌, ◌≤◌, ◌<◌, max}
use native.Mathlib.Omega.{arith}
use lib.ListN.{length, drop, get_or, take, length-append}
use lib.Seq.{get_or-take}
use Rattle.rules_text.specs.Trees.{Name, Digits, value_of, Expr, con, var, levels, expr_names, expr_constants, Form, loop, form_names, form_constants, form_levels, elm, neg, par, bin}
use Rattle.rules_text.specs.Tokens.{comma, equals, word_do, Found, bad, give, ahead, and_then, after, all_of, whole, number, name, plus_sign, give_if}
use Rattle.rules_text.specs.Grammar.{parameter, do_loop, read_do, parse, an_expression, expression, is_parameter}
use Rattle.rules_text.proofs.ReadForms.{clash}
use Rattle.std.proofs.Common.{Option as Maybe, Some, None}
use Rattle.read_cards.specs.declared.Number.{Number}
use Rattle.read_tokens.specs.declared.Name as code
use Rattle.read_tokens.specs.declared.Sizes.{Sizes}
use Rattle.read_tokens.specs.Words.{capped, name_of, name_at, starts_word}
use Rattle.read_tokens.specs.Sizes.{sizes_of, both}
use Rattle.read_tokens.specs.Reading.{constant_size, name_size}
use Rattle.read_tokens.specs.Reading as reading
use Rattle.read_tokens.proofs.Measured.{sizes_join}
use Rattle.read_tokens.proofs.Tokens.{after_none, inside, word_none, word_fits}
use Rattle.read_tokens.proofs.Chains.{Upto, give_upto, byte_yes, byte_no, upto_as, then_upto, then_bad, then_none, Took, accept, refuse, Leads, then_leads, after_leads, word_leads, leads_more, leads_as, leads_bad, leads_upto, whole_some, whole_short, whole_bad}
use Rattle.read_items.specs.Items.{op_item, flat, expr_sizes}
use Rattle.read_forms.specs.declared.Parameter.{Parameter}
use Rattle.read_forms.specs.declared.Parameter.TheVariants.{Constant, Variable}
use Rattle.read_forms.specs.declared.Statement.{Statement}
use Rattle.read_forms.specs.declared.Statement.TheVariants as statement
use Rattle.read_forms.specs.Statements.{as_number, parameter_value, form_sizes, statement_of, answer}
use Rattle.read_forms.proofs.Forms.{here, TookExpr, expr_within, expr_upto, expr_count, expr_table, expr_refused}
use Rattle.read_dos.specs.Parameters.{no_weight, ReadsParameter, by_of, parameters_of, EndsBy, EndsDo}

abbrev TookNumber : List ℕ → ℕ → ℕ → ℕ → Sizes → Type 0
TookNumber s from at w z = Took capped constant_size reading.two s from (number (drop from s)) at w z

abbrev TookName : List ℕ → ℕ → ℕ → code.Name → Sizes → Type 0
TookName s from at w z = Took name_of name_size reading.five s from (name (drop from s)) at w z

abbrev TookParameter : List ℕ → ℕ → ℕ → Parameter → Sizes → Type 0
TookParameter s from at w z = Took parameter_value expr_sizes no_weight s from (parameter (drop from s)) at w z

-- ---- one parameter: a constant's two words or a name's five in the table, and no parentheses

two_words_lem : (e : Expr) → 2 ≤ length (flat e)
unfolding flat
two_words_lem (con c) = omega arith
two_words_lem (var v) = omega arith
two_words_lem (elm v s) = omega arith
two_words_lem (neg e) = let l = two_words_lem e in omega (arith, length-append (flat e) (10 ∷ []))
two_words_lem (par e) = two_words_lem e
two_words_lem (bin o a b) = let l = two_words_lem a in omega (arith, length-append (flat a ++ flat b) (op_item o ∷ []), length-append (flat a) (flat b))

first_of : (l more : List ℕ) → 2 ≤ length l → get_or (l ++ more) 0 0 ≡ get_or l 0 0
first_of [] more h = absurd (omega arith)
first_of (w ∷ l) more h = refl

-- an expression whose first item is a name
five_words : (e : Expr) → get_or (flat e) 0 0 ≡ 2 → 5 ≤ length (flat e)
unfolding flat
five_words (con c) h = absurd (omega (arith, h))
five_words (var v) h = omega arith
five_words (elm v s) h = omega arith
five_words (neg e) h =
    let l = five_words e (sym (first_of (flat e) (10 ∷ []) (two_words_lem e)) ∙ h) in
    omega (arith, length-append (flat e) (10 ∷ []))
five_words (par e) h = five_words e h
five_words (bin o a b) h =
    let two = two_words_lem a in
    let one = first_of (flat a ++ flat b) (op_item o ∷ []) (omega (arith, length-append (flat a) (flat b))) ∙ first_of (flat a) (flat b) two in
    let l = five_words a (sym one ∙ h) in
    omega (arith, length-append (flat a ++ flat b) (op_item o ∷ []), length-append (flat a) (flat b))

-- what an expression without parentheses is, by its words in the table
data Shown (b : List ℕ) (e : Expr) : Type 0 where
  constant : is_parameter e ≡ true → length (flat e) ≡ 2 → Constant (get_or b 1 0) ≡ parameter_value e → Shown b e
  variable : is_parameter e ≡ true → length (flat e) ≡ 5 → get_or b 0 0 ≡ 2 → Variable (name_at b 1) ≡ parameter_value e → Shown b e
  neither : is_parameter e ≡ false → (length (flat e) ≡ 2 → ⊥) → (length (flat e) ≡ 5 → get_or b 0 0 ≡ 2 → ⊥) → Shown b e

at : (b : List ℕ) (n i : ℕ) → i < n → {l : List ℕ} → take n b ≡ l → get_or b i 0 ≡ get_or l i 0
at b n i l q = sym (get_or-take n b i 0 l) ∙ ap (λ (x : List ℕ). get_or x i 0) q

shown : (e : Expr) (b : List ℕ) → levels e ≡ 0 → take (length (flat e)) b ≡ flat e → Shown b e
unfolding flat parameter_value
shown (con c) b d q = constant refl refl (ap Constant (at b 2 1 (omega arith) q))
shown (var v) b d q =
    variable refl refl (at b 5 0 (omega arith) q)
    (λ j. Variable (record { 0 = at b 5 1 (omega arith) q j; 1 = at b 5 2 (omega arith) q j; 2 = at b 5 3 (omega arith) q j; 3 = at b 5 4 (omega arith) q j }))
shown (elm v s) b d q = neither refl (λ l. omega (arith, l)) (λ l h. omega (arith, l))
shown (neg e) b d q =
    let two = two_words_lem e in
    let long = length-append (flat e) (10 ∷ []) in
    neither refl (λ l. omega (arith, l, long))
    (λ l h. let five = five_words e (sym (first_of (flat e) (10 ∷ []) two) ∙ sym (at b (length (flat e ++ 10 ∷ [])) 0 (omega (arith, long)) q) ∙ h) in omega (arith, l, long, five))
shown (par e) b d q = absurd (omega arith)
shown (bin o x y) b d q =
    let two = two_words_lem x in
    let more = two_words_lem y in
    let long = length-append (flat x ++ flat y) (op_item o ∷ []) in
    let both = length-append (flat x) (flat y) in
    neither refl (λ l. omega (arith, l, long, both))
    (λ l h.
    let one = first_of (flat x ++ flat y) (op_item o ∷ []) (omega (arith, both)) ∙ first_of (flat x) (flat y) two in
    let five = five_words x (sym one ∙ sym (at b (length ((flat x ++ flat y) ++ op_item o ∷ [])) 0 (omega (arith, long, both)) q) ∙ h) in
    omega (arith, l, long, both, five))

one_is : (e : Expr) → is_parameter e ≡ true → levels e ≡ 0
one_is (con c) i = refl
one_is (var v) i = refl
one_is (elm v s) i = absurd (clash i)
one_is (neg e) i = absurd (clash i)
one_is (par e) i = absurd (clash i)
one_is (bin o a b) i = absurd (clash i)

module _ (s : List ℕ) (from : ℕ) (le : from ≤ length s) where
  pub parameter_plus : get_or s from 0 ≡ plus_sign → ReadsParameter s from (parameter (drop from s)) None
  unfolding parameter
  parameter_plus p = refuse (byte_yes s from plus_sign _ _ (omega arith) p) le refl

  module _ (ne : get_or s from 0 ≡ plus_sign → ⊥) where
    unsigned : parameter (drop from s) ≡ and_then expression (λ e. give_if (is_parameter e) e) (drop from s)
    unfolding parameter
    unsigned = byte_no s from plus_sign _ _ (omega arith) ne

    pub parameter_none : parse an_expression (drop from s) ≡ bad → ReadsParameter s from (parameter (drop from s)) None
    parameter_none e = refuse (unsigned ∙ then_bad s from expression _ (expr_refused s from e)) le refl

    module _ {a b : List ℕ} {k n : ℕ} {z : Sizes} (t : TookExpr s from a b k n z) where
      pub parameter_within : from + k ≤ length s
      parameter_within = expr_within s from le t

      levels_are : z.levels ≡ levels t.tree
      unfolding expr_sizes sizes_of
      levels_are = ap (λ (x : Sizes). x.levels) t.sizes_is

      not_one : is_parameter t.tree ≡ false → ReadsParameter s from (parameter (drop from s)) None
      unfolding give_if
      not_one i = refuse (unsigned ∙ then_none s from expression _ (expr_upto s from le t (from + k) refl) (ap (λ (x : Bool). give_if x t.tree (drop (from + k) s)) i)) le refl

      other : (b : Bool) → is_parameter t.tree ≡ b → (b ≡ true → ⊥) → ReadsParameter s from (parameter (drop from s)) None
      other true i f = absurd (f refl)
      other false i f = not_one i

      pub parameter_deep : (z.levels ≡ 0 → ⊥) → ReadsParameter s from (parameter (drop from s)) None
      parameter_deep f = other (is_parameter t.tree) refl (λ i. f (levels_are ∙ one_is t.tree i))

      one_read : {w : Parameter} → is_parameter t.tree ≡ true → w ≡ parameter_value t.tree → ReadsParameter s from (parameter (drop from s)) (Some (record { at = from + k; value = w; sizes = z }))
      unfolding give_if no_weight
      one_read i e =
          let given : Upto s (from + k) (give_if (is_parameter t.tree) t.tree (drop (from + k) s)) (from + k) t.tree =
          record { count = 0; is = ap (λ (x : Bool). give_if x t.tree (drop (from + k) s)) i; ends = omega arith; within = parameter_within }
          in
          accept (upto_as s from unsigned (then_upto s from expression _ (expr_upto s from le t (from + k) refl) given)) e t.sizes_is (omega arith) refl

      long : n ≡ length (flat t.tree)
      long = expr_count s from le t

      shows : z.levels ≡ 0 → Shown b t.tree
      shows d = shown t.tree b (sym levels_are ∙ d) (expr_table s from le t)

      pub parameter_constant : z.levels ≡ 0 → n ≡ 2 → ReadsParameter s from (parameter (drop from s)) (Some (record { at = from + k; value = Constant (get_or b 1 0); sizes = z }))
      parameter_constant d e = go (shows d)
        where
          go : Shown b t.tree → ReadsParameter s from (parameter (drop from s)) (Some (record { at = from + k; value = Constant (get_or b 1 0); sizes = z }))
          go (constant i l v) = one_read i v
          go (variable i l h v) = absurd (omega (arith, l, long, e))
          go (neither i l h) = absurd (l (sym long ∙ e))

      pub parameter_other : z.levels ≡ 0 → (n ≡ 2 → ⊥) → (n ≡ 5 → get_or b 0 0 ≡ 2 → ⊥) → ReadsParameter s from (parameter (drop from s)) None
      parameter_other d e f = go (shows d)
        where
          go : Shown b t.tree → ReadsParameter s from (parameter (drop from s)) None
          go (constant i l v) = absurd (e (long ∙ l))
          go (variable i l h v) = absurd (f (long ∙ l) h)
          go (neither i l h) = not_one i

      pub parameter_variable : z.levels ≡ 0 → n ≡ 5 → get_or b 0 0 ≡ 2 → ReadsParameter s from (parameter (drop from s)) (Some (record { at = from + k; value = Variable (name_at b 1); sizes = z }))
      parameter_variable d e f = go (shows d)
        where
          go : Shown b t.tree → ReadsParameter s from (parameter (drop from s)) (Some (record { at = from + k; value = Variable (name_at b 1); sizes = z }))
          go (constant i l v) = absurd (omega (arith, l, long, e))
          go (variable i l h v) = one_read i v
          go (neither i l h) = absurd (h (sym long ∙ e) f)

-- ---- the end of a DO

bad_is : {o : Found Form} (n : ℕ) → o ≡ bad → None ≡ answer (all_of n o)
unfolding answer
bad_is n e = sym (ap answer (whole_bad n e))

append_none : {A : Type 0} (l : List A) → l ++ [] ≡ l
append_none [] = refl
append_none {A} (x ∷ l) = ap (λ (m : List A). x ∷ m) (append_none l)

same_do : {a a' : Number} {b b' : code.Name} {p q r p' q' r' : Parameter} {z z' : Sizes} → a ≡ a' → b ≡ b' → p ≡ p' → q ≡ q' → r ≡ r' → z ≡ z'
    → ◌≡◌ {A = Maybe Statement} (Some (statement.Do (record { last = a; name = b; first = p; limit = q; by = r; sizes = z }))) (Some (statement.Do (record { last = a'; name = b'; first = p'; limit = q'; by = r'; sizes = z' })))
same_do ea eb ep eq er ez = cc

module _ (s : List ℕ) (from : ℕ) (le : from ≤ length s) (l : Number) (nm : code.Name) (fs lm : Parameter) (sizes : Sizes) where
  module _ (ne : get_or s from 0 ≡ comma → ⊥) where
    two_upto : (n : Digits) (v : Name) (p q : Expr) → Upto s 0 (ahead from (by_of n v p q (drop from s))) from (loop n v p q none)
    unfolding by_of
    two_upto n v p q = leads_upto (here from _) (upto_as s from (byte_no s from comma _ _ (omega arith) ne) (give_upto s from (loop n v p q none) le))

    pub two_more : (from ≡ length s → ⊥) → EndsBy s from l nm fs lm sizes None
    unfolding answer
    two_more m n v p q el en ef em es = sym (ap answer (whole_short (two_upto n v p q) m))

    pub two_read : {b : Parameter} → from ≡ length s → b ≡ Constant 1
        → EndsBy s from l nm fs lm sizes (Some (statement.Do (record { last = l; name = nm; first = fs; limit = lm; by = b; sizes = sizes })))
    unfolding answer statement_of form_sizes form_names form_constants form_levels parameter_value capped value_of
    two_read e one n v p q el en ef em es =
        same_do el en ef em one
        (es ∙ ap (λ (x : List Name). sizes_of (v ∷ (expr_names p ++ x)) (expr_constants p ++ expr_constants q) (max (levels p) (levels q))) (sym (append_none (expr_names q)))
        ∙ ap (λ (x : List Digits). sizes_of (v ∷ (expr_names p ++ (expr_names q ++ []))) (expr_constants p ++ x) (max (levels p) (levels q))) (sym (append_none (expr_constants q))))
        ∙ sym (ap answer (whole_some (two_upto n v p q) e))

  module _ (c : get_or s from 0 ≡ comma) where
    third_lead : (n : Digits) (v : Name) (p q : Expr) → Leads 0 (ahead from (by_of n v p q (drop from s))) (from + 1) (and_then parameter (λ by. give (loop n v p q (some by))) (drop (from + 1) s))
    unfolding by_of
    third_lead n v p q =
        leads_more (leads_as (here from _) (byte_yes s from comma _ _ (omega arith) c)) (after_leads s from comma _ (omega arith) c)

    pub third_bad : parameter (drop (from + 1) s) ≡ bad → EndsBy s from l nm fs lm sizes None
    third_bad b n v p q el en ef em es = bad_is (length s) (leads_bad (third_lead n v p q) (then_bad s (from + 1) parameter _ b))

    module _ {at : ℕ} {w : Parameter} {z : Sizes} (t : TookParameter s (from + 1) at w z) where
      third_upto : (n : Digits) (v : Name) (p q : Expr) → Upto s 0 (ahead from (by_of n v p q (drop from s))) at (loop n v p q (some t.tree))
      third_upto n v p q =
          leads_upto (third_lead n v p q) (then_upto s (from + 1) parameter _ t.upto (give_upto s at (loop n v p q (some t.tree)) t.upto.within))

      pub third_more : (at ≡ length s → ⊥) → EndsBy s from l nm fs lm sizes None
      unfolding answer
      third_more m n v p q el en ef em es = sym (ap answer (whole_short (third_upto n v p q) m))

      pub third_read : {b : Sizes} → at ≡ length s → b ≡ both sizes z
          → EndsBy s from l nm fs lm sizes (Some (statement.Do (record { last = l; name = nm; first = fs; limit = lm; by = w; sizes = b })))
      unfolding answer statement_of form_sizes form_names form_constants form_levels expr_sizes
      third_read {b} e be n v p q el en ef em es =
          same_do el en ef em t.value_is
          (be ∙ ap (λ (x : Sizes). both x z) es
          ∙ ap (both (sizes_of (v ∷ (expr_names p ++ expr_names q)) (expr_constants p ++ expr_constants q) (max (levels p) (levels q)))) t.sizes_is
          ∙ sizes_join (v ∷ (expr_names p ++ expr_names q)) (expr_names t.tree) (expr_constants p ++ expr_constants q) (expr_constants t.tree) (max (levels p) (levels q)) (levels t.tree)
          ∙ ap (λ (x : List Name). sizes_of (v ∷ x) ((expr_constants p ++ expr_constants q) ++ expr_constants t.tree) (max (max (levels p) (levels q)) (levels t.tree))) (append_assoc (expr_names p) (expr_names q) (expr_names t.tree))
          ∙ ap (λ (x : List Digits). sizes_of (v ∷ (expr_names p ++ (expr_names q ++ expr_names t.tree))) x (max (max (levels p) (levels q)) (levels t.tree))) (append_assoc (expr_constants p) (expr_constants q) (expr_constants t.tree)))
          ∙ sym (ap answer (whole_some (third_upto n v p q) e))

-- ---- the first two parameters

module _ (s : List ℕ) (from : ℕ) (l : Number) (nm : code.Name) (sizes : Sizes) where
  pub first_bad_lem : parameter (drop from s) ≡ bad → EndsDo s from l nm sizes None
  unfolding parameters_of
  first_bad_lem b n v el en es = bad_is (length s) (leads_bad (here from _) (then_bad s from parameter _ b))

  module _ {a : ℕ} {w : Parameter} {z : Sizes} (t : TookParameter s from a w z) where
    pub first_no_comma : (get_or s a 0 ≡ comma → ⊥) → EndsDo s from l nm sizes None
    unfolding parameters_of
    first_no_comma ne n v el en es =
        bad_is (length s) (leads_bad (leads_more (here from _) (then_leads s from parameter _ t.upto)) (after_none comma (omega arith) s a _ ne))

    module _ (c : get_or s a 0 ≡ comma) where
      first_lead : (n : Digits) (v : Name) → Leads 0 (ahead from (parameters_of n v (drop from s))) (a + 1) (and_then parameter (λ limit. by_of n v t.tree limit) (drop (a + 1) s))
      unfolding parameters_of
      first_lead n v = leads_more (leads_more (here from _) (then_leads s from parameter _ t.upto)) (after_leads s a comma _ (omega arith) c)

      pub second_bad : parameter (drop (a + 1) s) ≡ bad → EndsDo s from l nm sizes None
      second_bad b n v el en es = bad_is (length s) (leads_bad (first_lead n v) (then_bad s (a + 1) parameter _ b))

      pub second_read : {b : ℕ} {w' : Parameter} {z' y y' : Sizes} {r : Maybe Statement} → TookParameter s (a + 1) b w' z' → y ≡ both z z' → y' ≡ both sizes y
          → EndsBy s b l nm w w' y' r → EndsDo s from l nm sizes r
      unfolding name_size expr_sizes
      second_read {b} {w'} {z'} {y} {y'} {r} u ye ye' h n v el en es =
          let ld = leads_more (first_lead n v) (then_leads s (a + 1) parameter _ u.upto) in
          let same : ld.count ≡ b = omega (arith, ld.ends) in
          let deep : max 0 (max (levels t.tree) (levels u.tree)) ≡ max (levels t.tree) (levels u.tree) = omega arith in
          h n v t.tree u.tree el en t.value_is u.value_is
          (ye' ∙ ap (λ (x : Sizes). both x y) es ∙ ap (both (sizes_of (v ∷ []) [] 0))
          (ye ∙ ap (λ (x : Sizes). both x z') t.sizes_is ∙ ap (both (expr_sizes t.tree)) u.sizes_is
          ∙ sizes_join (expr_names t.tree) (expr_names u.tree) (expr_constants t.tree) (expr_constants u.tree) (levels t.tree) (levels u.tree))
          ∙ sizes_join (v ∷ []) (expr_names t.tree ++ expr_names u.tree) [] (expr_constants t.tree ++ expr_constants u.tree) 0 (max (levels t.tree) (levels u.tree))
          ∙ ap (sizes_of (v ∷ (expr_names t.tree ++ expr_names u.tree)) (expr_constants t.tree ++ expr_constants u.tree)) deep)
          ∙ ap (λ (x : Found Form). answer (all_of (length s) x)) (sym (ld.is ∙ ap (λ (x : ℕ). ahead x (by_of n v t.tree u.tree (drop b s))) same))

-- ---- DO

pub do_no_word : (s : List ℕ) → starts_word word_do s ≡ false → None ≡ answer (read_do s)
unfolding read_do whole do_loop
do_no_word s e = bad_is (length s) (word_none word_do _ s e)

module _ (s : List ℕ) (w : starts_word word_do s ≡ true) where
  pub do_fits : 2 ≤ length s
  do_fits = word_fits word_do s w

  do_lead : Leads 0 (do_loop s) 2 (and_then number (λ n. and_then name (λ v. after equals (parameters_of n v))) (drop 2 s))
  unfolding do_loop parameters_of by_of
  do_lead = word_leads word_do _ s w

  pub do_no_number : number (drop 2 s) ≡ bad → None ≡ answer (read_do s)
  unfolding read_do whole
  do_no_number e = bad_is (length s) (leads_bad do_lead (then_bad s 2 number _ e))

  module _ {a v : ℕ} {z : Sizes} (t : TookNumber s 2 a v z) where
    do_after : Leads 0 (do_loop s) a (and_then name (λ v. after equals (parameters_of t.tree v)) (drop a s))
    do_after = leads_more do_lead (then_leads s 2 number _ t.upto)

    pub do_no_name : name (drop a s) ≡ bad → None ≡ answer (read_do s)
    unfolding read_do whole
    do_no_name e = bad_is (length s) (leads_bad do_after (then_bad s a name _ e))

    module _ {b : ℕ} {v' : code.Name} {z' : Sizes} (u : TookName s a b v' z') where
      do_named : Leads 0 (do_loop s) b (after equals (parameters_of t.tree u.tree) (drop b s))
      do_named = leads_more do_after (then_leads s a name _ u.upto)

      pub do_no_equals : (get_or s b 0 ≡ equals → ⊥) → None ≡ answer (read_do s)
      unfolding read_do whole
      do_no_equals n = bad_is (length s) (leads_bad do_named (after_none equals (omega arith) s b _ n))

      module _ (e : get_or s b 0 ≡ equals) where
        pub do_inside : b + 1 ≤ length s
        do_inside = let i = inside equals (omega arith) s b e in omega arith

        pub do_read : {l : Number} {r : Maybe Statement} → l ≡ as_number v → EndsDo s (b + 1) l v' z' r → r ≡ answer (read_do s)
        unfolding read_do whole
        do_read {l} {r} le h =
            let ld = leads_more do_named (after_leads s b equals _ (omega arith) e) in
            let same : ld.count ≡ b + 1 = omega (arith, ld.ends) in
            h t.tree u.tree (le ∙ ap as_number t.value_is) u.value_is u.sizes_is
            ∙ ap (λ (x : Found Form). answer (all_of (length s) x)) (sym (ld.is ∙ ap (λ (x : ℕ). ahead x (parameters_of t.tree u.tree (drop (b + 1) s))) same))
