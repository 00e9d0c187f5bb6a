-- The cases of each form's reader, over plain lists.
-- Assumes nothing.
use mathlib.Core.Path.{◌≡◌, refl, sym, ap, ◌∙◌, subst}
use mathlib.Core.List.{List, [], ◌∷◌, ◌++◌}
use mathlib.Core.Bool.{Bool, true, false, ◌&&◌, cond}
use mathlib.Core.Option.{Option, none, some}
use Prim.Native.Nat.{ℕ, suc, ◌+◌, ◌≤◌, ◌<◌, max}
use native.Mathlib.Omega.{arith}
use lib.Dec.{eqb}
use lib.Pointwise.{pointwise}
use lib.ListN.{length, take, drop, get_or, length-drop}
use borrow.Author.Tests.{eqb-true, eqb-false, eq-eqb, ne_eqb}
use Rattle.rules_text.specs.Trees.{Digits, Expr, levels, expr_names, expr_constants, target_names, target_constants, Form, assign, go_to, ifs, form_names, form_constants, form_levels}
use Rattle.rules_text.specs.Tokens.{left_paren, right_paren, comma, equals, word_go_to, word_if, word_continue, word_stop, word_end, Found, found, bad, Reader, give, ahead, and_then, after, after_word, all_of, whole, number}
use Rattle.rules_text.specs.Grammar.{place, expression, parse, an_expression, assignment, plain_go_to, arithmetic_if, read_assignment, read_go_to, read_if}
use Rattle.rules_text.proofs.Found.{not_found}
use Rattle.std.proofs.Common.{Option as Maybe, Some, None}
use Rattle.read_cards.specs.declared.Number.{Number}
use Rattle.read_tokens.specs.declared.Sizes.{Sizes}
use Rattle.read_tokens.specs.Words.{most, capped, starts_word}
use Rattle.read_tokens.specs.Sizes.{sizes_of, both}
use Rattle.read_tokens.specs.Reading.{constant_size, ReadsNumber}
use Rattle.read_tokens.specs.Reading as reading
use Rattle.read_tokens.proofs.Measured.{sizes_join}
use Rattle.read_tokens.proofs.Tokens.{after_is, after_none, inside, word_is, word_none, word_fits}
use Rattle.read_tokens.proofs.Chains.{Upto, give_upto, then_upto, then_bad, then_none, Took, refuse, Leads, then_leads, after_leads, word_leads, leads_more, leads_bad, leads_upto, whole_some, whole_short, whole_bad}
use Rattle.read_elements.specs.declared.Target.{Target}
use Rattle.read_elements.specs.Values.{target_value, target_sizes, target_weight}
use Rattle.read_items.specs.Items.{flat, expr_sizes}
use Rattle.read_items.proofs.Given as goal
use Rattle.read_forms.specs.declared.Statement.{Statement}
use Rattle.read_forms.specs.declared.Statement.TheVariants as statement
use Rattle.read_forms.specs.Statements.{form_words, as_number, number_value, form_sizes, statement_of, answer, words, Reads, exits_of, EndsIf, only_word, word_form}

-- ---- an answer made

pub reads_none : {b : List ℕ} {o : Option Form} → o ≡ none → Reads b o None
unfolding answer words
reads_none {b} {o} e = subst (λ (x : Option Form). Reads b x None) (sym e) (record { says = refl; table = refl })

pub reads_some : {b : List ℕ} {o : Option Form} {r : Statement} (f : Form) → o ≡ some f → r ≡ statement_of f → take (length (form_words f)) b ≡ form_words f → Reads b o (Some r)
unfolding answer words
reads_some {b} {o} {r} f e q t = subst (λ (x : Option Form). Reads b x (Some r)) (sym e) (record { says = ap (λ (x : Statement). Some x) q; table = t })

-- ---- an expression in the middle of a text

abbrev pub TookExpr : List ℕ → ℕ → List ℕ → List ℕ → ℕ → ℕ → Sizes → Type 0
TookExpr s from a b k n z = goal.Took (drop from s) a b 0 (parse an_expression (drop from s)) k n z

module _ (s : List ℕ) (from : ℕ) {a b : List ℕ} {k n : ℕ} {z : Sizes} (le : from ≤ length s) (t : TookExpr s from a b k n z) where
  pub expr_within : from + k ≤ length s
  expr_within = omega (arith, t.within, length-drop from s)

  pub expr_upto : (at : ℕ) → at ≡ from + k → Upto s from (expression (drop from s)) at t.tree
  unfolding expression
  expr_upto at e = record { count = k; is = t.is; ends = e; within = omega (arith, expr_within) }

  pub expr_count : n ≡ length (flat t.tree)
  expr_count = omega (arith, t.top)

  pub expr_table : take (length (flat t.tree)) b ≡ flat t.tree
  expr_table = ap (λ (x : ℕ). take x b) (sym expr_count) ∙ t.table

pub expr_refused : (s : List ℕ) (from : ℕ) → parse an_expression (drop from s) ≡ bad → expression (drop from s) ≡ bad
unfolding expression
expr_refused s from e = e

-- ---- an assignment

abbrev TookPlace : List ℕ → ℕ → Target → Sizes → Type 0
TookPlace s at t z = Took target_value target_sizes target_weight s 0 (place s) at t z

pub assign_no_place : {b : List ℕ} (s : List ℕ) → place s ≡ bad → Reads b (read_assignment s) None
unfolding read_assignment whole assignment
assign_no_place s e = reads_none (whole_bad (length s) (then_bad s 0 place _ e))

module _ {s : List ℕ} {at : ℕ} {w : Target} {z : Sizes} (p : TookPlace s at w z) where
  pub assign_no_equals : {b : List ℕ} → (get_or s at 0 ≡ equals → ⊥) → Reads b (read_assignment s) None
  unfolding read_assignment whole assignment
  assign_no_equals n = reads_none (whole_bad (length s) (then_none s 0 place _ p.upto (after_none equals (omega arith) s at _ n)))

  module _ (e : get_or s at 0 ≡ equals) where
    pub assign_inside : at + 1 ≤ length s
    assign_inside = let i = inside equals (omega arith) s at e in omega arith

    lead : Leads 0 (assignment s) (at + 1) (and_then expression (λ x. give (assign p.tree x)) (drop (at + 1) s))
    unfolding assignment
    lead = leads_more (then_leads s 0 place _ p.upto) (after_leads s at equals _ (omega arith) e)

    pub assign_no_expr : {b : List ℕ} → parse an_expression (drop (at + 1) s) ≡ bad → Reads b (read_assignment s) None
    unfolding read_assignment whole
    assign_no_expr n = reads_none (whole_bad (length s) (leads_bad lead (then_bad s (at + 1) expression _ (expr_refused s (at + 1) n))))

    module _ {a b : List ℕ} {k n : ℕ} {y : Sizes} (t : TookExpr s (at + 1) a b k n y) where
      read : Upto s 0 (assignment s) (at + 1 + k) (assign p.tree t.tree)
      read =
          leads_upto lead (then_upto s (at + 1) expression _ (expr_upto s (at + 1) assign_inside t (at + 1 + k) refl)
          (give_upto s (at + 1 + k) (assign p.tree t.tree) (expr_within s (at + 1) assign_inside t)))

      pub assign_more : (at + 1 + k ≡ length s → ⊥) → Reads b (read_assignment s) None
      unfolding read_assignment whole
      assign_more n = reads_none (whole_short read n)

      pub assign_read : {x : Sizes} → at + 1 + k ≡ length s → x ≡ both z y
          → Reads b (read_assignment s) (Some (statement.Assign (record { target = w; count = n; sizes = x })))
      unfolding read_assignment whole statement_of form_words form_sizes form_names form_constants form_levels target_sizes expr_sizes
      assign_read {x} q xe =
          let levels_is : max 0 (levels t.tree) ≡ levels t.tree = omega arith in
          let sizes_is : x ≡ sizes_of (target_names p.tree ++ expr_names t.tree) (target_constants p.tree ++ expr_constants t.tree) (levels t.tree) =
          xe ∙ ap (λ (v : Sizes). both v y) p.sizes_is ∙ ap (both (sizes_of (target_names p.tree) (target_constants p.tree) 0)) t.sizes_is
          ∙ sizes_join (target_names p.tree) (expr_names t.tree) (target_constants p.tree) (expr_constants t.tree) 0 (levels t.tree)
          ∙ ap (sizes_of (target_names p.tree ++ expr_names t.tree) (target_constants p.tree ++ expr_constants t.tree)) levels_is
          in
          reads_some (assign p.tree t.tree) (whole_some read q)
          (ap (λ (v : Target). statement.Assign (record { target = v; count = n; sizes = x })) p.value_is
          ∙ ap (λ (v : ℕ). statement.Assign (record { target = target_value p.tree; count = v; sizes = x })) (expr_count s (at + 1) assign_inside t)
          ∙ ap (λ (v : Sizes). statement.Assign (record { target = target_value p.tree; count = length (flat t.tree); sizes = v })) sizes_is)
          (expr_table s (at + 1) assign_inside t)

-- ---- a statement number

-- capped, it is a word of 32 bits
pub number_fits : {w : ℕ} (n : Digits) → w ≡ capped n → w ≤ most
unfolding capped
number_fits n e = omega arith

-- ---- GO TO

abbrev TookNumber : List ℕ → ℕ → ℕ → ℕ → Sizes → Type 0
TookNumber s from at w z = Took capped constant_size reading.two s from (number (drop from s)) at w z

pub go_to_no_word : (s : List ℕ) → starts_word word_go_to s ≡ false → None ≡ answer (read_go_to s)
unfolding answer read_go_to whole plain_go_to
go_to_no_word s e = sym (ap answer (whole_bad (length s) (word_none word_go_to _ s e)))

module _ (s : List ℕ) (w : starts_word word_go_to s ≡ true) where
  pub go_to_fits : 4 ≤ length s
  go_to_fits = word_fits word_go_to s w

  go_to_lead : Leads 0 (plain_go_to s) 4 (and_then number (λ n. give (go_to n)) (drop 4 s))
  unfolding plain_go_to
  go_to_lead = word_leads word_go_to _ s w

  pub go_to_no_number : number (drop 4 s) ≡ bad → None ≡ answer (read_go_to s)
  unfolding answer read_go_to whole
  go_to_no_number e = sym (ap answer (whole_bad (length s) (leads_bad go_to_lead (then_bad s 4 number _ e))))

  module _ {at v : ℕ} {z : Sizes} (t : TookNumber s 4 at v z) where
    go_to_upto : Upto s 0 (plain_go_to s) at (go_to t.tree)
    go_to_upto = leads_upto go_to_lead (then_upto s 4 number _ t.upto (give_upto s at (go_to t.tree) t.upto.within))

    pub go_to_more : (at ≡ length s → ⊥) → None ≡ answer (read_go_to s)
    unfolding answer read_go_to whole
    go_to_more n = sym (ap answer (whole_short go_to_upto n))

    pub go_to_read : {m : Number} → m ≡ as_number v → at ≡ length s → Some (statement.GoTo m) ≡ answer (read_go_to s)
    unfolding answer read_go_to whole statement_of
    go_to_read e q = ap (λ (x : Number). Some (statement.GoTo x)) (e ∙ ap as_number t.value_is) ∙ sym (ap answer (whole_some go_to_upto q))

-- ---- a comma and a number

pub next_none : (s : List ℕ) (from : ℕ) → from ≤ length s → (get_or s from 0 ≡ comma → ⊥) → ReadsNumber s from (after comma number (drop from s)) None
next_none s from le n = refuse (after_none comma (omega arith) s from number n) le refl

module _ {A : Type 0} (s : List ℕ) (from c : ℕ) (some_byte : 0 < c) (r : Reader A) where
  -- what the byte and the rest were
  pub after_back : {at : ℕ} {a : A} → Upto s from (after c r (drop from s)) at a → (get_or s from 0 ≡ c) × Upto s (from + 1) (r (drop (from + 1) s)) at a
  unfolding ahead
  after_back {at} {a} u = go (eqb (get_or s from 0) c) refl (r (drop (from + 1) s)) refl (sym (after_is c some_byte s from r) ∙ u.is)
    where
      go : (p : Bool) → eqb (get_or s from 0) c ≡ p → (o : Found A) → r (drop (from + 1) s) ≡ o → cond p (ahead 1 o) bad ≡ found a u.count
          → (get_or s from 0 ≡ c) × Upto s (from + 1) (r (drop (from + 1) s)) at a
      go true e (found b j) q f =
          let same : b ≡ a = cc in
          let long : 1 + j ≡ u.count = cc in
          (eqb-true _ _ e, record { count = j; is = q ∙ ap (λ (x : A). found x j) same; ends = omega (arith, u.ends); within = u.within })
      go true e bad q f = absurd (not_found f)
      go false e o q f = absurd (not_found f)

  pub after_then_bad : {B : Type 0} (h : A → Reader B) → after c r (drop from s) ≡ bad → after c (and_then r h) (drop from s) ≡ bad
  unfolding ahead
  after_then_bad {B} h b = go (eqb (get_or s from 0) c) refl (r (drop (from + 1) s)) refl (sym (after_is c some_byte s from r) ∙ b)
    where
      go : (p : Bool) → eqb (get_or s from 0) c ≡ p → (o : Found A) → r (drop (from + 1) s) ≡ o → cond p (ahead 1 o) bad ≡ bad → after c (and_then r h) (drop from s) ≡ bad
      go true e (found a j) q f = absurd (not_found (sym f))
      go true e bad q f =
          after_is c some_byte s from (and_then r h)
          ∙ ap (λ (b : Bool). cond b (ahead 1 (and_then r h (drop (from + 1) s))) bad) e
          ∙ ap (ahead 1) (then_bad s (from + 1) r h q)
      go false e o q f = after_none c some_byte s from (and_then r h) (eqb-false _ _ e)

  pub after_then_leads : {B : Type 0} {at : ℕ} {a : A} (h : A → Reader B) → Upto s from (after c r (drop from s)) at a
      → Leads from (after c (and_then r h) (drop from s)) at (h a (drop at s))
  after_then_leads h u =
      let two = after_back u in
      leads_more (after_leads s from c (and_then r h) some_byte two.0) (then_leads s (from + 1) r h two.1)

-- ---- IF

abbrev TookNext : List ℕ → ℕ → ℕ → ℕ → Sizes → Type 0
TookNext s from at w z = Took capped constant_size reading.two s from (after comma number (drop from s)) at w z

pub here : {A : Type 0} (from : ℕ) (o : Found A) → Leads 0 (ahead from o) from o
here from o = record { count = from; is = refl; ends = omega arith }

module _ (s : List ℕ) (from count : ℕ) (sizes : Sizes) where
  pub exits_first : number (drop from s) ≡ bad → EndsIf s from count sizes None
  unfolding exits_of
  exits_first n e b ce ze te = reads_none (whole_bad (length s) (leads_bad (here from _) (then_bad s from number _ n)))

  module _ {a v : ℕ} {z : Sizes} (t : TookNumber s from a v z) where
    pub exits_second : after comma number (drop a s) ≡ bad → EndsIf s from count sizes None
    unfolding exits_of
    exits_second n e b ce ze te =
        reads_none (whole_bad (length s) (leads_bad (leads_more (here from _) (then_leads s from number _ t.upto)) (after_then_bad s a comma (omega arith) number _ n)))

    module _ {c v' : ℕ} {z' : Sizes} (t' : TookNext s a c v' z') where
      pub exits_third : after comma number (drop c s) ≡ bad → EndsIf s from count sizes None
      unfolding exits_of
      exits_third n e b ce ze te =
          reads_none (whole_bad (length s) (leads_bad
          (leads_more (leads_more (here from _) (then_leads s from number _ t.upto)) (after_then_leads s a comma (omega arith) number _ t'.upto))
          (after_then_bad s c comma (omega arith) number _ n)))

      module _ {d v'' : ℕ} {z'' : Sizes} (t'' : TookNext s c d v'' z'') where
        exits_upto : (e : Expr) → Upto s 0 (ahead from (exits_of e (drop from s))) d (ifs e t.tree t'.tree t''.tree)
        unfolding exits_of
        exits_upto e =
            leads_upto
            (leads_more (leads_more (leads_more (here from _) (then_leads s from number _ t.upto)) (after_then_leads s a comma (omega arith) number _ t'.upto))
            (after_then_leads s c comma (omega arith) number _ t''.upto))
            (give_upto s d (ifs e t.tree t'.tree t''.tree) t''.upto.within)

        pub exits_more : (d ≡ length s → ⊥) → EndsIf s from count sizes None
        exits_more n e b ce ze te = reads_none (whole_short (exits_upto e) n)

        pub exits_read : {i j k : Number} → i ≡ as_number v → j ≡ as_number v' → k ≡ as_number v'' → d ≡ length s
            → EndsIf s from count sizes (Some (statement.If (record { count = count; below = i; at = j; above = k; sizes = sizes })))
        unfolding statement_of form_words form_sizes form_names form_constants form_levels expr_sizes
        exits_read {i} {j} {k} ei ej ek q e b ce ze te =
            reads_some (ifs e t.tree t'.tree t''.tree) (whole_some (exits_upto e) q)
            (ap (λ (x : ℕ). statement.If (record { count = x; below = i; at = j; above = k; sizes = sizes })) ce
            ∙ ap (λ (x : Number). statement.If (record { count = length (flat e); below = x; at = j; above = k; sizes = sizes })) (ei ∙ ap as_number t.value_is)
            ∙ ap (λ (x : Number). statement.If (record { count = length (flat e); below = number_value t.tree; at = x; above = k; sizes = sizes })) (ej ∙ ap as_number t'.value_is)
            ∙ ap (λ (x : Number). statement.If (record { count = length (flat e); below = number_value t.tree; at = number_value t'.tree; above = x; sizes = sizes })) (ek ∙ ap as_number t''.value_is)
            ∙ ap (λ (x : Sizes). statement.If (record { count = length (flat e); below = number_value t.tree; at = number_value t'.tree; above = number_value t''.tree; sizes = x })) ze)
            te

pub if_no_word : {b : List ℕ} (s : List ℕ) → starts_word word_if s ≡ false → Reads b (read_if s) None
unfolding read_if whole arithmetic_if
if_no_word s e = reads_none (whole_bad (length s) (word_none word_if _ s e))

module _ (s : List ℕ) (w : starts_word word_if s ≡ true) where
  pub if_not_opened : {b : List ℕ} → (get_or s 2 0 ≡ left_paren → ⊥) → Reads b (read_if s) None
  unfolding read_if whole arithmetic_if
  if_not_opened n = reads_none (whole_bad (length s) (leads_bad (word_leads word_if _ s w) (after_none left_paren (omega arith) s 2 _ n)))

  module _ (o : get_or s 2 0 ≡ left_paren) where
    pub if_inside : 3 ≤ length s
    if_inside = let i = inside left_paren (omega arith) s 2 o in omega arith

    if_lead : Leads 0 (arithmetic_if s) 3 (and_then expression (λ e. after right_paren (exits_of e)) (drop 3 s))
    unfolding arithmetic_if exits_of
    if_lead = leads_more (word_leads word_if _ s w) (after_leads s 2 left_paren _ (omega arith) o)

    pub if_no_expr : {b : List ℕ} → parse an_expression (drop 3 s) ≡ bad → Reads b (read_if s) None
    unfolding read_if whole
    if_no_expr n = reads_none (whole_bad (length s) (leads_bad if_lead (then_bad s 3 expression _ (expr_refused s 3 n))))

    module _ {a b : List ℕ} {k n : ℕ} {z : Sizes} (t : TookExpr s 3 a b k n z) where
      swap : k + 3 ≡ 3 + k
      swap = omega arith

      pub if_within : k + 3 ≤ length s
      if_within = omega (arith, expr_within s 3 if_inside t)

      if_after : Leads 0 (arithmetic_if s) (k + 3) (after right_paren (exits_of t.tree) (drop (k + 3) s))
      if_after = leads_more if_lead (then_leads s 3 expression _ (expr_upto s 3 if_inside t (k + 3) swap))

      pub if_not_closed : (get_or s (k + 3) 0 ≡ right_paren → ⊥) → Reads b (read_if s) None
      unfolding read_if whole
      if_not_closed ne = reads_none (whole_bad (length s) (leads_bad if_after (after_none right_paren (omega arith) s (k + 3) _ ne)))

      module _ (c : get_or s (k + 3) 0 ≡ right_paren) where
        pub if_closed : k + 3 + 1 ≤ length s
        if_closed = let i = inside right_paren (omega arith) s (k + 3) c in omega arith

        pub if_read : {r : Maybe Statement} → EndsIf s (k + 3 + 1) n z r → Reads b (read_if s) r
        unfolding read_if whole
        if_read {r} h =
            let l = leads_more if_after (after_leads s (k + 3) right_paren _ (omega arith) c) in
            let same : l.count ≡ k + 3 + 1 = omega (arith, l.ends) in
            subst (λ (x : Found Form). Reads b (all_of (length s) x) r)
            (sym (l.is ∙ ap (λ (x : ℕ). ahead x (exits_of t.tree (drop (k + 3 + 1) s))) same))
            (h t.tree b (expr_count s 3 if_inside t) t.sizes_is (expr_table s 3 if_inside t))

-- ---- a word alone

pub same_is_word : (w s : List ℕ) → pointwise eqb s w ≡ only_word w s
unfolding only_word starts_word
same_is_word [] [] = refl
same_is_word [] (x ∷ s) = sym (ap (λ (b : Bool). b && true) (ne_eqb (length (x ∷ s)) 0 (λ z. omega arith)))
same_is_word (c ∷ w) [] = sym (ap (λ (b : Bool). b && false) (ne_eqb 0 (length (c ∷ w)) (λ z. omega arith)))
same_is_word (c ∷ w) (x ∷ s) =
    ap (λ (b : Bool). eqb x c && b) (same_is_word w s) ∙ turn (eqb x c) (eqb (length s) (length w)) (starts_word w s)
    ∙ ap (λ (b : Bool). b && (eqb x c && starts_word w s)) (one_more (length s) (length w))
  where
    one_more : (m n : ℕ) → eqb m n ≡ eqb (suc m) (suc n)
    one_more m n = go (eqb m n) refl
      where
        go : (b : Bool) → eqb m n ≡ b → b ≡ eqb (suc m) (suc n)
        go true e = sym (eq-eqb (suc m) (suc n) (ap (λ (k : ℕ). suc k) (eqb-true m n e)))
        go false e = sym (ne_eqb (suc m) (suc n) (λ z. eqb-false m n e (omega arith)))

    turn : (p q r : Bool) → p && (q && r) ≡ q && (p && r)
    turn true q r = refl
    turn false true r = refl
    turn false false r = refl

pub only_is : (w s : List ℕ) (f : Form) → whole (after_word w (give f)) s ≡ cond (only_word w s) (some f) none
unfolding whole only_word all_of give ahead
only_is w s f = ap (all_of (length s)) (word_is w (give f) s) ∙ go (starts_word w s) (eqb (length s) (length w)) refl
  where
    zero_more : length w + 0 ≡ length w
    zero_more = omega arith

    go : (p q : Bool) → eqb (length s) (length w) ≡ q → all_of (length s) (cond p (found f (length w + 0)) bad) ≡ cond (q && p) (some f) none
    go true true e =
        ap (λ (b : Bool). cond b (some f) none) (eq-eqb (length w + 0) (length s) (zero_more ∙ sym (eqb-true (length s) (length w) e)))
    go true false e =
        ap (λ (b : Bool). cond b (some f) none) (ne_eqb (length w + 0) (length s) (λ z. eqb-false (length s) (length w) e (sym z ∙ zero_more)))
    go false true e = refl
    go false false e = refl

module _ (s : List ℕ) where
  pub word_continue_lem : only_word word_continue s ≡ true → Some statement.Continue ≡ answer (word_form s)
  unfolding answer word_form statement_of
  word_continue_lem e = rw e

  pub word_stop_lem : only_word word_continue s ≡ false → only_word word_stop s ≡ true → Some statement.Stop ≡ answer (word_form s)
  unfolding answer word_form statement_of
  word_stop_lem e f = rw (e, f)

  pub word_end_lem : only_word word_continue s ≡ false → only_word word_stop s ≡ false → only_word word_end s ≡ true → Some statement.End ≡ answer (word_form s)
  unfolding answer word_form statement_of
  word_end_lem e f g = rw (e, f, g)

  pub word_other : only_word word_continue s ≡ false → only_word word_stop s ≡ false → only_word word_end s ≡ false → None ≡ answer (word_form s)
  unfolding answer word_form
  word_other e f g = rw (e, f, g)
