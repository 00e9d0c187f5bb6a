-- The cases of each reader, over plain lists: addends, subscripts, elements and targets.
-- Assumes nothing.
use mathlib.Core.Path.{◌≡◌, refl, sym, ap, ◌∙◌, subst}
use mathlib.Core.List.{List, [], ◌∷◌}
use mathlib.Core.Bool.{Bool, true, false, cond}
use mathlib.Core.Option.{none, some}
use Prim.Native.Nat.{ℕ, ◌+◌, ◌≤◌}
use native.Mathlib.Omega.{arith}
use lib.Dec.{eqb}
use lib.ListN.{length, drop, get_or}
use borrow.Author.Tests.{eqb-true, eqb-false}
use Rattle.rules_text.specs.Trees.{optional, nothing, plus, minus, constant, linear, one, two, cell, element, addend_constants, subscript_names, subscript_constants, subscripts_names, subscripts_constants}
use Rattle.rules_text.specs.Trees as trees
use Rattle.rules_text.specs.Tokens.{left_paren, right_paren, star, plus_sign, comma, minus_sign, bad, give, and_then, after, choose, starts, starts_digit, number, name}
use Rattle.rules_text.specs.Grammar.{addend, linear_of, subscript, subscripts, place}
use Rattle.std.proofs.Common.{Option as Maybe, Some, None}
use Rattle.read_tokens.specs.declared.Name.{Name}
use Rattle.read_tokens.specs.declared.Read.{Read}
use Rattle.read_tokens.specs.declared.Sizes.{Sizes}
use Rattle.read_tokens.specs.Words.{capped, name_of, no_name}
use Rattle.read_tokens.specs.Sizes.{sizes_of, both}
use Rattle.read_tokens.specs.Reading.{constant_size, name_size}
use Rattle.read_tokens.specs.Reading as reading
use Rattle.read_tokens.proofs.Measured.{sizes_join}
use Rattle.read_tokens.proofs.Tokens.{number_digit, digit_number, inside, after_none}
use Rattle.read_tokens.proofs.Chains.{Upto, give_upto, after_upto, after_bad, choose_yes, choose_no, byte_yes, byte_no, upto_as, then_upto, then_bad, then_none, Took, accept, refuse, then_reads, after_reads, reads_as}
use Rattle.read_elements.specs.declared.Addend.{Addend}
use Rattle.read_elements.specs.declared.Subscript.{Subscript}
use Rattle.read_elements.specs.declared.Subscripts.{Subscripts}
use Rattle.read_elements.specs.declared.Target.TheVariants as target
use Rattle.read_elements.specs.Values.{minus_of, addend_value, times_of, subscript_value, no_subscript, subscripts_value, target_value, addend_sizes, subscript_sizes, subscripts_sizes, target_sizes, addend_weight, subscript_weight, subscripts_weight, target_weight, ReadsAddend, ReadsSubscript, ReadsLinear, ReadsSubscripts, ReadsPlace}

abbrev TookNumber : List ℕ → ℕ → ℕ → ℕ → Sizes → Type 0
TookNumber s from at w z = Took capped constant_size reading.two s from (number (drop from s)) at w z

abbrev TookName : List ℕ → ℕ → ℕ → Name → Sizes → Type 0
TookName s from at w z = Took name_of name_size reading.five s from (name (drop from s)) at w z

abbrev TookSubscript : List ℕ → ℕ → ℕ → Subscript → Sizes → Type 0
TookSubscript s from at w z = Took subscript_value subscript_sizes subscript_weight s from (subscript (drop from s)) at w z

-- ---- an addend

clash : {g : Maybe ℕ} {n : ℕ} → g ≡ None → g ≡ Some n → ⊥
clash e f = let z : ◌≡◌ {A = ℕ} 0 1 = cc in omega arith

data Sign (c : ℕ) (g : Maybe ℕ) : Type 0 where
  sign_none : (c ≡ 43 → ⊥) → (c ≡ 45 → ⊥) → g ≡ None → Sign c g
  sign_plus : c ≡ 43 → g ≡ Some 0 → Sign c g
  sign_minus : (c ≡ 43 → ⊥) → c ≡ 45 → g ≡ Some 1 → Sign c g

sign_cases : (c : ℕ) → Sign c (minus_of c)
sign_cases c = go (eqb c 43) (eqb c 45) refl refl
  where
    go : (p q : Bool) → eqb c 43 ≡ p → eqb c 45 ≡ q → Sign c (cond p (Some 0) (cond q (Some 1) None))
    go true q e f = sign_plus (eqb-true c 43 e) refl
    go false true e f = sign_minus (eqb-false c 43 e) (eqb-true c 45 f) refl
    go false false e f = sign_none (eqb-false c 43 e) (eqb-false c 45 f) refl

module _ (s : List ℕ) (from : ℕ) (le : from ≤ length s) (g : Maybe ℕ) (ge : g ≡ minus_of (get_or s from 0)) where
  cases : Sign (get_or s from 0) g
  cases = subst (Sign (get_or s from 0)) (sym ge) (sign_cases (get_or s from 0))

  -- what stands there, by its sign
  no_sign : (get_or s from 0 ≡ 43 → ⊥) → (get_or s from 0 ≡ 45 → ⊥) → addend (drop from s) ≡ give nothing (drop from s)
  unfolding addend
  no_sign p q = byte_no s from plus_sign _ _ (omega arith) p ∙ byte_no s from minus_sign _ _ (omega arith) q

  a_plus : get_or s from 0 ≡ 43 → addend (drop from s) ≡ after plus_sign (and_then number (λ c. give (plus c))) (drop from s)
  unfolding addend
  a_plus p = byte_yes s from plus_sign _ _ (omega arith) p

  a_minus : (get_or s from 0 ≡ 43 → ⊥) → get_or s from 0 ≡ 45 → addend (drop from s) ≡ after minus_sign (and_then number (λ c. give (minus c))) (drop from s)
  unfolding addend
  a_minus p q = byte_no s from plus_sign _ _ (omega arith) p ∙ byte_yes s from minus_sign _ _ (omega arith) q

  pub addend_nothing : {z : Sizes} → g ≡ None → z ≡ sizes_of [] [] 0 → ReadsAddend s from (addend (drop from s)) (Some (record { at = from; value = record { minus = 0; value = 0 }; sizes = z }))
  unfolding addend_value addend_sizes addend_weight
  addend_nothing {z} n ze = go cases
    where
      go : Sign (get_or s from 0) g → ReadsAddend s from (addend (drop from s)) (Some (record { at = from; value = record { minus = 0; value = 0 }; sizes = z }))
      go (sign_none p q e) = accept (upto_as s from (no_sign p q) (give_upto s from nothing le)) refl ze (omega arith) refl
      go (sign_plus p e) = absurd (clash n e)
      go (sign_minus q p e) = absurd (clash n e)

  module _ {m : ℕ} (some : g ≡ Some m) where
    pub sign_inside : from + 1 ≤ length s
    sign_inside = go cases
      where
        go : Sign (get_or s from 0) g → from + 1 ≤ length s
        go (sign_none p q e) = absurd (clash e some)
        go (sign_plus p e) = let i = inside 43 (omega arith) s from p in omega arith
        go (sign_minus q p e) = let i = inside 45 (omega arith) s from p in omega arith

    pub addend_bad : number (drop (from + 1) s) ≡ bad → ReadsAddend s from (addend (drop from s)) None
    addend_bad b = go cases
      where
        go : Sign (get_or s from 0) g → ReadsAddend s from (addend (drop from s)) None
        go (sign_none p q e) = absurd (clash e some)
        go (sign_plus p e) = refuse (a_plus p ∙ after_bad s from 43 _ (omega arith) p (then_bad s (from + 1) number _ b)) le refl
        go (sign_minus q p e) = refuse (a_minus q p ∙ after_bad s from 45 _ (omega arith) p (then_bad s (from + 1) number _ b)) le refl

    pub addend_read : {at w : ℕ} {z : Sizes} → TookNumber s (from + 1) at w z
        → ReadsAddend s from (addend (drop from s)) (Some (record { at = at; value = record { minus = m; value = w }; sizes = z }))
    unfolding addend_value addend_sizes addend_weight constant_size reading.two
    addend_read {at} {w} {z} t = go cases
      where
        end : (a : trees.Addend) → Upto s at (give a (drop at s)) at a
        end a = give_upto s at a t.upto.within

        same : (n : ℕ) → g ≡ Some n → ◌≡◌ {A = Addend} (record { minus = m; value = w }) (record { minus = n; value = capped t.tree })
        same n e = let we = t.value_is in cc

        go : Sign (get_or s from 0) g → ReadsAddend s from (addend (drop from s)) (Some (record { at = at; value = record { minus = m; value = w }; sizes = z }))
        go (sign_none p q e) = absurd (clash e some)
        go (sign_plus p e) =
            accept (upto_as s from (a_plus p) (after_upto s from 43 _ (omega arith) p (then_upto s (from + 1) number _ t.upto (end (plus t.tree)))))
            (same 0 e) t.sizes_is (omega (arith, t.few)) refl
        go (sign_minus q p e) =
            accept (upto_as s from (a_minus q p) (after_upto s from 45 _ (omega arith) p (then_upto s (from + 1) number _ t.upto (end (minus t.tree)))))
            (same 1 e) t.sizes_is (omega (arith, t.few)) refl

-- ---- a variable with its addend

same_subscript : {a c d a' c' d' : ℕ} {b b' : Name} → a ≡ a' → b ≡ b' → c ≡ c' → d ≡ d'
    → ◌≡◌ {A = Subscript} (record { times = a; name = b; minus = c; addend = d }) (record { times = a'; name = b'; minus = c'; addend = d' })
same_subscript p q r s = cc

module _ (s : List ℕ) (from : ℕ) (le : from ≤ length s) where
  pub linear_no_name : {times : ℕ} {before : Sizes} → name (drop from s) ≡ bad → ReadsLinear s from times before None
  unfolding linear_of
  linear_no_name b m te ze = refuse (then_bad s from name _ b) le refl

  pub linear_no_addend : {times at : ℕ} {w : Name} {before z : Sizes} → TookName s from at w z → addend (drop at s) ≡ bad → ReadsLinear s from times before None
  unfolding linear_of
  linear_no_addend {times} {at} t b m te ze = refuse (then_none s from name _ t.upto (then_bad s at addend _ b)) le refl

  pub linear_read : {times at : ℕ} {w : Name} {end : ℕ} {before z y both₁ both₂ : Sizes} {a : Addend} → TookName s from at w z → Took addend_value addend_sizes addend_weight s at (addend (drop at s)) end a y
      → both₁ ≡ both z y → both₂ ≡ both before both₁
      → ReadsLinear s from times before (Some (record { at = end; value = record { times = times; name = w; minus = a.minus; addend = a.value }; sizes = both₂ }))
  unfolding linear_of subscript_value subscript_sizes subscript_weight addend_sizes name_size reading.five
  linear_read {times} {at} {w} {end} {before} {z} {y} {both₁} {both₂} {a} t u e f m te ze =
      accept (then_upto s from name _ t.upto (then_upto s at addend _ u.upto (give_upto s end (linear m t.tree u.tree) u.upto.within)))
      (same_subscript te t.value_is (ap (λ (x : Addend). x.minus) u.value_is) (ap (λ (x : Addend). x.value) u.value_is))
      (f ∙ ap (λ (x : Sizes). both x both₁) ze
      ∙ ap (both (sizes_of [] (optional m) 0)) (e ∙ ap (λ (x : Sizes). both x y) t.sizes_is ∙ ap (both (sizes_of (t.tree ∷ []) [] 0)) u.sizes_is
      ∙ sizes_join (t.tree ∷ []) [] [] (addend_constants u.tree) 0 0)
      ∙ sizes_join [] (t.tree ∷ []) (optional m) (addend_constants u.tree) 0 0)
      (omega (arith, t.few, u.few)) refl

  -- ---- a subscript

  subscript_word : number (drop from s) ≡ bad → subscript (drop from s) ≡ linear_of none (drop from s)
  unfolding subscript
  subscript_word b = choose_no s from starts_digit _ _ (no_start b)
    where
      no_start : number (drop from s) ≡ bad → starts_digit (drop from s) ≡ false
      no_start e = number_digit (drop from s) e

  pub subscript_plain : {times : ℕ} {before : Sizes} {r : Maybe (Read Subscript)} → number (drop from s) ≡ bad → times ≡ 1 → before ≡ sizes_of [] [] 0 → ReadsLinear s from times before r
      → ReadsSubscript s from (subscript (drop from s)) r
  unfolding times_of
  subscript_plain b te ze h = reads_as (subscript_word b) (h none te ze)

  subscript_digit : {at w : ℕ} {z : Sizes} → TookNumber s from at w z
      → subscript (drop from s) ≡ and_then number (λ c. choose (starts star) (after star (linear_of (some c))) (give (constant c))) (drop from s)
  unfolding subscript
  subscript_digit t = choose_yes s from starts_digit _ _ (digit_number (drop from s) t.upto.is)

  pub subscript_times : {at w : ℕ} {z : Sizes} {r : Maybe (Read Subscript)} → TookNumber s from at w z → get_or s at 0 ≡ star → ReadsLinear s (at + 1) w z r
      → ReadsSubscript s from (subscript (drop from s)) r
  unfolding times_of constant_size
  subscript_times {at} {w} {z} {r} t e h =
      reads_as (subscript_digit t) (then_reads s from number _ le t.upto
      (reads_as (byte_yes s at star _ _ (omega arith) e) (after_reads s at star _ (omega arith) e (h (some t.tree) t.value_is t.sizes_is))))

  pub subscript_constant : {at w : ℕ} {z : Sizes} → TookNumber s from at w z → (get_or s at 0 ≡ star → ⊥)
      → ReadsSubscript s from (subscript (drop from s)) (Some (record { at = at; value = record { times = 0; name = no_name; minus = 0; addend = w }; sizes = z }))
  unfolding subscript_value subscript_sizes subscript_weight constant_size reading.two
  subscript_constant {at} {w} {z} t n =
      accept (upto_as s from (subscript_digit t) (then_upto s from number _ t.upto
      (upto_as s at (byte_no s at star _ _ (omega arith) n) (give_upto s at (constant t.tree) t.upto.within))))
      (same_subscript refl refl refl t.value_is) t.sizes_is (omega (arith, t.few)) refl

  -- ---- one or two subscripts in parentheses

  pub no_parenthesis : (get_or s from 0 ≡ left_paren → ⊥) → ReadsSubscripts s from (subscripts (drop from s)) None
  unfolding subscripts
  no_parenthesis n = refuse (after_none left_paren (omega arith) s from _ n) le refl

module _ (s : List ℕ) (from : ℕ) (opened : get_or s from 0 ≡ left_paren) where
  pub opened_inside : from + 1 ≤ length s
  opened_inside = let i = inside left_paren (omega arith) s from opened in omega arith

  to_from : from ≤ length s
  to_from = let i = opened_inside in omega arith

  pub no_first : subscript (drop (from + 1) s) ≡ bad → ReadsSubscripts s from (subscripts (drop from s)) None
  unfolding subscripts
  no_first b = refuse (after_bad s from left_paren _ (omega arith) opened (then_bad s (from + 1) subscript _ b)) to_from refl

  module _ {at : ℕ} {w : Subscript} {z : Sizes} (t : TookSubscript s (from + 1) at w z) where
    pub not_closed : (get_or s at 0 ≡ comma → ⊥) → (get_or s at 0 ≡ right_paren → ⊥) → ReadsSubscripts s from (subscripts (drop from s)) None
    unfolding subscripts
    not_closed n m =
        refuse (after_bad s from left_paren _ (omega arith) opened (then_none s (from + 1) subscript _ t.upto
        (byte_no s at comma _ _ (omega arith) n ∙ after_none right_paren (omega arith) s at _ m))) to_from refl

    pub one_read : get_or s at 0 ≡ right_paren
        → ReadsSubscripts s from (subscripts (drop from s)) (Some (record { at = at + 1; value = record { count = 1; first = w; second = no_subscript }; sizes = z }))
    unfolding subscripts subscripts_value subscripts_sizes subscripts_weight subscript_sizes subscript_weight
    one_read e =
        let i = inside right_paren (omega arith) s at e in
        accept (after_upto s from left_paren _ (omega arith) opened (then_upto s (from + 1) subscript _ t.upto
        (upto_as s at (byte_no s at comma _ _ (omega arith) (λ q. omega arith)) (after_upto s at right_paren _ (omega arith) e (give_upto s (at + 1) (one t.tree) (omega arith))))))
        (ap (λ (x : Subscript). record { count = 1; first = x; second = no_subscript }) t.value_is)
        t.sizes_is (omega (arith, t.few)) refl

    pub no_second : get_or s at 0 ≡ comma → subscript (drop (at + 1) s) ≡ bad → ReadsSubscripts s from (subscripts (drop from s)) None
    unfolding subscripts
    no_second e b =
        refuse (after_bad s from left_paren _ (omega arith) opened (then_none s (from + 1) subscript _ t.upto
        (byte_yes s at comma _ _ (omega arith) e ∙ after_bad s at comma _ (omega arith) e (then_bad s (at + 1) subscript _ b)))) to_from refl

    module _ {end : ℕ} {w' : Subscript} {z' : Sizes} (e : get_or s at 0 ≡ comma) (u : TookSubscript s (at + 1) end w' z') where
      pub two_not_closed : (get_or s end 0 ≡ right_paren → ⊥) → ReadsSubscripts s from (subscripts (drop from s)) None
      unfolding subscripts
      two_not_closed n =
          refuse (after_bad s from left_paren _ (omega arith) opened (then_none s (from + 1) subscript _ t.upto
          (byte_yes s at comma _ _ (omega arith) e ∙ after_bad s at comma _ (omega arith) e (then_none s (at + 1) subscript _ u.upto
          (after_none right_paren (omega arith) s end _ n))))) to_from refl

      pub two_read : {b : Sizes} → get_or s end 0 ≡ right_paren → b ≡ both z z'
          → ReadsSubscripts s from (subscripts (drop from s)) (Some (record { at = end + 1; value = record { count = 2; first = w; second = w' }; sizes = b }))
      unfolding subscripts subscripts_value subscripts_sizes subscripts_weight subscript_sizes subscript_weight
      two_read {b} c be =
          let i = inside right_paren (omega arith) s end c in
          accept (after_upto s from left_paren _ (omega arith) opened (then_upto s (from + 1) subscript _ t.upto
          (upto_as s at (byte_yes s at comma _ _ (omega arith) e) (after_upto s at comma _ (omega arith) e (then_upto s (at + 1) subscript _ u.upto
          (after_upto s end right_paren _ (omega arith) c (give_upto s (end + 1) (two t.tree u.tree) (omega arith))))))))
          (ap (λ (x : Subscript). record { count = 2; first = x; second = w' }) t.value_is ∙ ap (λ (x : Subscript). record { count = 2; first = subscript_value t.tree; second = x }) u.value_is)
          (be ∙ ap (λ (x : Sizes). both x z') t.sizes_is ∙ ap (both (sizes_of (subscript_names t.tree) (subscript_constants t.tree) 0)) u.sizes_is
          ∙ sizes_join (subscript_names t.tree) (subscript_names u.tree) (subscript_constants t.tree) (subscript_constants u.tree) 0 0)
          (omega (arith, t.few, u.few)) refl

-- ---- a target

module _ (s : List ℕ) (from : ℕ) (le : from ≤ length s) where
  pub place_no_name : name (drop from s) ≡ bad → ReadsPlace s from (place (drop from s)) None
  unfolding place
  place_no_name b = refuse (then_bad s from name _ b) le refl

  module _ {at : ℕ} {w : Name} {z : Sizes} (t : TookName s from at w z) where
    pub place_cell : (get_or s at 0 ≡ left_paren → ⊥) → ReadsPlace s from (place (drop from s)) (Some (record { at = at; value = target.Cell w; sizes = z }))
    unfolding place target_value target_sizes target_weight name_size reading.five
    place_cell n =
        accept (then_upto s from name _ t.upto (upto_as s at (byte_no s at left_paren _ _ (omega arith) n) (give_upto s at (cell t.tree) t.upto.within)))
        (ap target.Cell t.value_is) t.sizes_is (omega (arith, t.few)) refl

    pub place_bad : get_or s at 0 ≡ left_paren → subscripts (drop at s) ≡ bad → ReadsPlace s from (place (drop from s)) None
    unfolding place
    place_bad e b =
        refuse (then_none s from name _ t.upto (byte_yes s at left_paren _ _ (omega arith) e ∙ then_bad s at subscripts _ b)) le refl

    pub place_element : {end : ℕ} {p : Subscripts} {y b : Sizes} → get_or s at 0 ≡ left_paren
        → Took subscripts_value subscripts_sizes subscripts_weight s at (subscripts (drop at s)) end p y → b ≡ both z y
        → ReadsPlace s from (place (drop from s)) (Some (record { at = end; value = target.Element (record { name = w; subscripts = p }); sizes = b }))
    unfolding place target_value target_sizes target_weight subscripts_sizes subscripts_weight name_size reading.five
    place_element {end} {p} {y} {b} e u be =
        accept (then_upto s from name _ t.upto (upto_as s at (byte_yes s at left_paren _ _ (omega arith) e)
        (then_upto s at subscripts _ u.upto (give_upto s end (element t.tree u.tree) u.upto.within))))
        (ap (λ (x : Name). target.Element (record { name = x; subscripts = p })) t.value_is ∙ ap (λ (x : Subscripts). target.Element (record { name = name_of t.tree; subscripts = x })) u.value_is)
        (be ∙ ap (λ (x : Sizes). both x y) t.sizes_is ∙ ap (both (sizes_of (t.tree ∷ []) [] 0)) u.sizes_is
        ∙ sizes_join (t.tree ∷ []) (subscripts_names u.tree) [] (subscripts_constants u.tree) 0 0)
        (omega (arith, t.few, u.few)) refl
