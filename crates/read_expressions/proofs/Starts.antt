-- How each reader starts and ends, over plain lists.
-- Assumes nothing.
use mathlib.Core.Path.{◌≡◌, refl, sym, ap, ◌∙◌, subst}
use mathlib.Core.List.{List, [], ◌∷◌, ◌++◌, append_assoc}
use mathlib.Core.Option.{none}
use mathlib.Core.Bool.{Bool, true, false, cond}
use Prim.Native.Nat.{ℕ, suc, ◌+◌, ◌≤◌, ◌<◌}
use native.Mathlib.Omega.{arith}
use native.Mathlib.Numerals.{add-one}
use lib.ListN.{length, take, drop, get_or, set, length-append, length-drop}
use lib.Seq.{take-take, take-append-le, length-take-le, drop-drop, take-suc-set, take-set-le}
use lib.Dec.{eqb}
use borrow.Author.Tests.{eqb-true, ne_eqb}
use Rattle.rules_text.specs.Trees.{Expr, par, levels, expr_names, expr_constants}
use Rattle.rules_text.specs.Tokens.{left_paren, right_paren, Found, found, bad, give, ahead, follow, and_then, after, choose, starts}
use Rattle.rules_text.specs.Grammar.{operand, sign, signed, sum_op, product_op, Mode, an_expression, a_term, a_factor, more_terms, more_factors, more, step, parse}
use Rattle.rules_text.proofs.Found.{ahead_ahead}
use Rattle.rules_text.proofs.Parse.{parse_step}
use Rattle.read_tokens.specs.declared.Sizes.{Sizes}
use Rattle.read_tokens.specs.Sizes.{sizes_of}
use Rattle.read_tokens.proofs.Tokens.{after_none, inside}
use Rattle.read_tokens.proofs.Chains.{Upto, give_upto, after_upto, after_bad, byte_yes, byte_no, upto_as, then_upto, then_bad, then_none}
use Rattle.read_items.specs.Items.{flat, expr_sizes}
use Rattle.read_items.proofs.Given.{Took}
use Rattle.read_operators.specs.Signs.{Signed, sign_len}
use Rattle.read_expressions.proofs.Going.{Going}

-- ---- the words below

pub shorter : (n k : ℕ) (x y : List ℕ) → n ≤ k → take k x ≡ take k y → take n x ≡ take n y
shorter n k x y l e = sym (take-take n k x l) ∙ ap (take n) e ∙ take-take n k y l

pub rebase : {s a a' b : List ℕ} {n : ℕ} {o : Found Expr} {at m : ℕ} {z : Sizes} → take n a' ≡ take n a → Took s a' b n o at m z → Took s a b n o at m z
rebase {s} {a} {a'} {b} {n} {o} {at} {m} {z} e t =
    record { tree = t.tree; is = t.is; top = t.top; table = t.table ∙ ap (λ (l : List ℕ). l ++ flat t.tree) e; within = t.within; few = t.few; sizes_is = t.sizes_is; low = t.low }

pub going_front : {whole : Mode} {again : Expr → Mode} {s a b : List ℕ} {n at top : ℕ} {z : Sizes} → Going whole again s a b n at top z → n ≤ length a → take n b ≡ take n a
going_front {whole} {again} {s} {a} {b} {n} {at} {top} {z} g l =
    sym (take-take n top b (omega (arith, g.top_is)))
    ∙ ap (take n) g.table
    ∙ take-append-le n (take n a) (flat g.acc) (omega (arith, length-take-le n a l))
    ∙ take-take n n a (omega arith)

-- ---- a term

pub term_bad : (s : List ℕ) → parse a_factor s ≡ bad → parse a_term s ≡ bad
unfolding step and_then follow
term_bad s e = parse_step a_term s ∙ ap (λ (o : Found Expr). follow o (λ first. parse (more_factors first)) s) e

pub term_starts : {s a b : List ℕ} {n k m : ℕ} {z : Sizes} → Took s a b n (parse a_factor s) k m z → take n b ≡ take n a → Going a_term more_factors s b b n k m z
unfolding step and_then follow
term_starts {s} {a} {b} {n} {k} {m} {z} t e = record {
  acc = t.tree;
  left = parse_step a_term s ∙ ap (λ (o : Found Expr). follow o (λ first. parse (more_factors first)) s) t.is;
  table = t.table ∙ ap (λ (l : List ℕ). l ++ flat t.tree) (sym e);
  top_is = t.top;
  few = t.few;
  within = t.within;
  kept = refl;
  sizes_is = t.sizes_is;
  low = t.low;
}

-- ---- an expression

pub sign_is : (s : List ℕ) → sign s ≡ found (eqb (get_or s 0 0) 45) (sign_len (get_or s 0 0))
unfolding sign choose starts after give ahead
sign_is [] = refl
sign_is (c ∷ s) = go (eqb c 43) (eqb c 45) refl refl
  where
    other : eqb c 43 ≡ true → eqb c 45 ≡ false
    other e = let same = eqb-true c 43 e in ne_eqb c 45 (λ z. omega arith)

    go : (p q : Bool) → eqb c 43 ≡ p → eqb c 45 ≡ q
        → cond p (cond p (found false 1) bad) (cond q (cond q (found true 1) bad) (found false 0)) ≡ found q (cond p 1 (cond q 1 0))
    go true true e f = let z : ◌≡◌ {A = Bool} true false = sym f ∙ other e in absurd (clash z)
      where
        clash : ◌≡◌ {A = Bool} true false → ⊥
        clash z = let w : ◌≡◌ {A = ℕ} 0 1 = cc in omega arith
    go true false e f = refl
    go false true e f = refl
    go false false e f = refl

pub sign_le : (s : List ℕ) → sign_len (get_or s 0 0) ≤ length s
sign_le [] = omega arith
sign_le (c ∷ s) = two (eqb c 43) (eqb c 45)
  where
    two : (x y : Bool) → cond x 1 (cond y 1 0) ≤ length (c ∷ s)
    two true y = omega arith
    two false true = omega arith
    two false false = omega arith

by_sign : (s : List ℕ) → parse an_expression s ≡ ahead (sign_len (get_or s 0 0))
    (follow (parse a_term (drop (sign_len (get_or s 0 0)) s)) (λ first. parse (more_terms (signed (eqb (get_or s 0 0) 45) first))) (drop (sign_len (get_or s 0 0)) s))
unfolding step and_then follow
by_sign s =
    parse_step an_expression s
    ∙ ap (λ (o : Found Bool). follow o (λ negative. and_then (parse a_term) (λ first. parse (more_terms (signed negative first)))) s) (sign_is s)

pub expr_bad : (s : List ℕ) → parse a_term (drop (sign_len (get_or s 0 0)) s) ≡ bad → parse an_expression s ≡ bad
unfolding follow ahead
expr_bad s e =
    by_sign s
    ∙ ap (λ (o : Found Expr). ahead (sign_len (get_or s 0 0)) (follow o (λ first. parse (more_terms (signed (eqb (get_or s 0 0) 45) first))) (drop (sign_len (get_or s 0 0)) s))) e

-- how many words a sign adds
extra : Bool → ℕ
extra true = 1
extra false = 0

extra_le : (c : ℕ) → extra (eqb c 45) ≤ sign_len c
unfolding extra
extra_le c = two (eqb c 43) (eqb c 45)
  where
    two : (x y : Bool) → extra y ≤ cond x 1 (cond y 1 0)
    two true true = omega arith
    two true false = omega arith
    two false true = omega arith
    two false false = omega arith

pub neg_pos : (c : ℕ) → eqb c 45 ≡ true → 1 ≤ sign_len c
unfolding extra
neg_pos c e = subst (λ (q : Bool). extra q ≤ sign_len c) e (extra_le c)

pub sign_front : (z : Bool) (b b' : List ℕ) (n m top : ℕ) → Signed b b' m z top → n ≤ m → take n b' ≡ take n b
sign_front true b b' n m top h l = ap (take n) h.table ∙ take-set-le n b m 10 l
sign_front false b b' n m top h l = ap (take n) h.table

extra_size : (z : Bool) (e : Expr) → length (flat (signed z e)) ≡ length (flat e) + extra z
unfolding signed flat extra
extra_size true e = length-append (flat e) (10 ∷ [])
extra_size false e = omega arith

signed_sizes : (z : Bool) (e : Expr) → expr_sizes e ≡ expr_sizes (signed z e)
unfolding signed expr_sizes
signed_sizes true e = refl
signed_sizes false e = refl

signed_levels : (z : Bool) (e : Expr) → levels (signed z e) ≡ levels e
unfolding signed
signed_levels true e = refl
signed_levels false e = refl

extra_top : (z : Bool) (m top : ℕ) → top ≡ cond z (m + 1) m → top ≡ m + extra z
unfolding extra
extra_top true m top e = e
extra_top false m top e = omega (arith, e)

extra_table : (z : Bool) (e : Expr) (a b b' : List ℕ) (n m top : ℕ) → b' ≡ cond z (set b m 10) b → top ≡ cond z (m + 1) m
    → take m b ≡ take n a ++ flat e → take n b ≡ take n a → (z ≡ true → m < length b) → n ≤ m → take top b' ≡ take n b' ++ flat (signed z e)
unfolding signed flat
extra_table true e a b b' n m top be te tb fr room l =
    ap (λ (k : ℕ). take k b') (te ∙ add-one m) ∙ ap (take (suc m)) be ∙ take-suc-set b m 10 (room refl)
    ∙ ap (λ (l : List ℕ). l ++ 10 ∷ []) (tb ∙ ap (λ (l : List ℕ). l ++ flat e) (sym fr ∙ sym (take-set-le n b m 10 l) ∙ ap (take n) (sym be)))
    ∙ append_assoc (take n b') (flat e) (10 ∷ [])
extra_table false e a b b' n m top be te tb fr room l =
    ap (λ (k : ℕ). take k b') te ∙ ap (take m) be ∙ tb ∙ ap (λ (l : List ℕ). l ++ flat e) (sym fr ∙ ap (take n) (sym be))

pub expr_starts : {s a b b' : List ℕ} {n k m c x top : ℕ} {z : Sizes} → c ≡ get_or s 0 0 → x ≡ sign_len c
    → Took (drop x s) a b n (parse a_term (drop x s)) k m z → Signed b b' m (eqb c 45) top → take n b ≡ take n a → (eqb c 45 ≡ true → m < length b)
    → Going an_expression more_terms s b' b' n (x + k) top z
unfolding follow
expr_starts {s} {a} {b} {b'} {n} {k} {m} {c} {x} {top} {z} ce xe t sg fr room =
    let size = extra_size (eqb c 45) t.tree in
    let tope = extra_top (eqb c 45) m top sg.top in
    let least : extra (eqb c 45) ≤ x = subst (λ (y : ℕ). extra (eqb c 45) ≤ y) (sym xe) (extra_le c) in
    let xs : x ≡ sign_len (get_or s 0 0) = xe ∙ ap sign_len ce in
    record {
      acc = signed (eqb c 45) t.tree;
      left = by_sign s
          ∙ ap (λ (y : ℕ). ahead y (follow (parse a_term (drop y s)) (λ first. parse (more_terms (signed (eqb (get_or s 0 0) 45) first))) (drop y s))) (sym xs)
          ∙ ap (λ (o : Found Expr). ahead x (follow o (λ first. parse (more_terms (signed (eqb (get_or s 0 0) 45) first))) (drop x s))) t.is
          ∙ ap (λ (y : ℕ). ahead x (ahead k (parse (more_terms (signed (eqb y 45) t.tree)) (drop k (drop x s))))) (sym ce)
          ∙ ahead_ahead x k (parse (more_terms (signed (eqb c 45) t.tree)) (drop k (drop x s)))
          ∙ ap (λ (l : List ℕ). ahead (x + k) (parse (more_terms (signed (eqb c 45) t.tree)) l)) (drop-drop k x s);
      table = extra_table (eqb c 45) t.tree a b b' n m top sg.table sg.top t.table fr room (omega (arith, t.top));
      top_is = omega (arith, t.top);
      few = omega (arith, t.few);
      within = omega (arith, t.within, length-drop x s, sign_le s, xs);
      kept = refl;
      sizes_is = t.sizes_is ∙ signed_sizes (eqb c 45) t.tree;
      low = omega (arith, t.low, signed_levels (eqb c 45) t.tree);
    }

-- ---- a factor

pub factor_operand : (s : List ℕ) → (get_or s 0 0 ≡ 40 → ⊥) → parse a_factor s ≡ operand s
unfolding step
factor_operand s ne = parse_step a_factor s ∙ byte_no s 0 left_paren _ _ (omega arith) ne

module _ (s : List ℕ) (opened : get_or s 0 0 ≡ 40) where
  by_open : parse a_factor s ≡ after left_paren (and_then (parse an_expression) (λ e. after right_paren (give (par e)))) s
  unfolding step
  by_open = parse_step a_factor s ∙ byte_yes s 0 left_paren _ _ (omega arith) opened

  pub open_some : 1 ≤ length s
  open_some = let i = inside 40 (omega arith) s 0 opened in omega arith

  pub open_bad : parse an_expression (drop 1 s) ≡ bad → parse a_factor s ≡ bad
  open_bad b = by_open ∙ after_bad s 0 left_paren _ (omega arith) opened (then_bad s 1 (parse an_expression) _ b)

  module _ {a b : List ℕ} {n k m : ℕ} {z : Sizes} (t : Took (drop 1 s) a b n (parse an_expression (drop 1 s)) k m z) where
    inner : Upto s 1 (parse an_expression (drop 1 s)) (k + 1) t.tree
    inner = record { count = k; is = t.is; ends = omega arith; within = omega (arith, t.within, length-drop 1 s, open_some) }

    pub open_other : (get_or s (k + 1) 0 ≡ 41 → ⊥) → parse a_factor s ≡ bad
    open_other ne =
        by_open ∙ after_bad s 0 left_paren _ (omega arith) opened (then_none s 1 (parse an_expression) _ inner (after_none right_paren (omega arith) s (k + 1) _ ne))

    deeper : expr_sizes (par t.tree) ≡ record { name = (expr_sizes t.tree).name; other = (expr_sizes t.tree).other; constant = (expr_sizes t.tree).constant; levels = (expr_sizes t.tree).levels + 1 }
    unfolding expr_sizes sizes_of
    deeper = ap (λ (x : ℕ). sizes_of (expr_names t.tree) (expr_constants t.tree) x) (sym (add-one (levels t.tree)))

    pub open_levels : z.levels ≡ levels t.tree
    unfolding expr_sizes sizes_of
    open_levels = ap (λ (x : Sizes). x.levels) t.sizes_is

    pub open_closed : get_or s (k + 1) 0 ≡ 41
        → Took s a b n (parse a_factor s) (k + 1 + 1) m (record { name = z.name; other = z.other; constant = z.constant; levels = z.levels + 1 })
    unfolding flat
    open_closed c =
        let i = inside 41 (omega arith) s (k + 1) c in
        let u = upto_as s 0 by_open (after_upto s 0 left_paren _ (omega arith) opened (then_upto s 1 (parse an_expression) _ inner
        (after_upto s (k + 1) right_paren _ (omega arith) c (give_upto s (k + 1 + 1) (par t.tree) (omega arith))))) in
        let same : u.count ≡ k + 1 + 1 = omega (arith, u.ends) in
        record {
          tree = par t.tree;
          is = u.is ∙ ap (found (par t.tree)) same;
          top = t.top;
          table = t.table;
          within = u.within;
          few = omega (arith, t.few);
          sizes_is = ap (λ (x : Sizes). record { name = x.name; other = x.other; constant = x.constant; levels = x.levels + 1 }) t.sizes_is ∙ sym deeper;
          low = omega (arith, t.low);
        }

-- ---- the law of a loop's next turn, at each of the two loops

pub next_factor : (acc : Expr) (s : List ℕ) → parse (more_factors acc) s ≡ more parse product_op a_factor more_factors acc s
unfolding step
next_factor acc s = parse_step (more_factors acc) s

pub next_term : (acc : Expr) (s : List ℕ) → parse (more_terms acc) s ≡ more parse sum_op a_term more_terms acc s
unfolding step
next_term acc s = parse_step (more_terms acc) s

-- no operation is the byte 0, which stands past the end

pub no_product : product_op 0 ≡ none
unfolding product_op
no_product = refl

pub no_sum : sum_op 0 ≡ none
unfolding sum_op
no_sum = refl
