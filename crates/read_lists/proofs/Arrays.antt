-- The cases of one array's reader, over plain lists.
-- Assumes nothing.
use mathlib.Core.Path.{◌≡◌, refl, sym, ap, ◌∙◌, subst}
use mathlib.Core.List.{List, [], ◌∷◌}
use mathlib.Core.Bool.{Bool, true, false}
use mathlib.Core.Option.{none, some}
use Prim.Native.Nat.{ℕ, ◌+◌, ◌≤◌}
use native.Mathlib.Omega.{arith}
use lib.Dec.{eqb}
use borrow.Author.Tests.{eqb-true, eqb-false}
use lib.ListN.{length, drop, get_or}
use Rattle.rules_text.specs.Trees.{Name, Digits, array}
use Rattle.rules_text.specs.Trees as trees
use Rattle.rules_text.specs.Tokens.{left_paren, right_paren, comma, Found, found, bad, give, ahead, and_then, after, choose, starts, number, name}
use Rattle.rules_text.specs.Grammar.{array_shape}
use Rattle.rules_text.proofs.Found.{ahead_none}
use Rattle.read_tokens.specs.declared.Name as code
use Rattle.std.proofs.Common.{Option, Some, None}
use Rattle.read_tokens.specs.declared.Read.{Read}
use Rattle.read_tokens.specs.declared.Sizes.{Sizes}
use Rattle.read_tokens.specs.Words.{capped, name_of}
use Rattle.read_tokens.specs.Sizes.{sizes_of, both}
use Rattle.read_tokens.specs.Reading.{constant_size, name_size, end_of, weight_of}
use Rattle.read_tokens.specs.Reading as reading
use Rattle.read_tokens.proofs.Measured.{sizes_join}
use Rattle.read_tokens.proofs.Tokens.{after_none, inside}
use Rattle.read_tokens.proofs.Chains.{give_upto, after_upto, byte_yes, byte_no, upto_as, then_bad, then_none, Took, accept, refuse, Leads, then_leads, after_leads, leads_more, leads_upto, leads_bad}
use Rattle.read_forms.proofs.Forms.{after_back, after_then_leads, after_then_bad}
use Rattle.read_lists.specs.declared.Array.{Array}
use Rattle.read_lists.specs.Lists.{array_value, array_sizes, seven_words, no_words, ReadsArray, columns_of, ReadsColumns}

abbrev TookNumber : List ℕ → ℕ → ℕ → ℕ → Sizes → Type 0
TookNumber s from at w z = Took capped constant_size reading.two s from (number (drop from s)) at w z

abbrev TookName : List ℕ → ℕ → ℕ → code.Name → Sizes → Type 0
TookName s from at w z = Took name_of name_size reading.five s from (name (drop from s)) at w z

abbrev TookNext : List ℕ → ℕ → ℕ → ℕ → Sizes → Type 0
TookNext s from at w z = Took capped constant_size reading.two s from (after comma number (drop from s)) at w z

same_array : {a c d a' c' d' : ℕ} {b b' : code.Name} → a ≡ a' → b ≡ b' → c ≡ c' → d ≡ d'
    → ◌≡◌ {A = Array} (record { dimensions = a; name = b; rows = c; columns = d }) (record { dimensions = a'; name = b'; rows = c'; columns = d' })
same_array p q r s = cc

stay : {A : Type 0} (from : ℕ) (o p : Found A) → o ≡ p → Leads from o from p
stay from o p e = record { count = 0; is = e ∙ sym (ahead_none p); ends = omega arith }

-- an array takes more than two bytes
heavier_reads : {s : List ℕ} {from b : ℕ} {o o' : Found trees.Array} {g : Option (Read Array)} → from ≤ length s → Leads from o b o'
    → reading.Reads array_value array_sizes no_words s b o' g → from + 2 ≤ b → ReadsArray s from o g
unfolding reading.answer end_of weight_of seven_words no_words ahead
heavier_reads {s} {from} {b} {o} {o'} {g} le l r f =
    subst (λ (x : Found trees.Array). ReadsArray s from x g) (sym l.is) (go o' r)
  where
    go : (p : Found trees.Array) → reading.Reads array_value array_sizes no_words s b p g → ReadsArray s from (ahead l.count p) g
    go (found a j) h =
        let place : b + j ≡ from + (l.count + j) = omega (arith, l.ends) in
        record {
          says = h.says ∙ ap (λ (x : ℕ). Some (record { at = x; value = array_value a; sizes = array_sizes a })) place;
          within = omega (arith, h.within);
          few = omega (arith, l.ends);
        }
    go bad h = record { says = h.says; within = le; few = omega arith }

-- ---- what follows the rows

module _ (s : List ℕ) (from : ℕ) (le : from ≤ length s) (nm : code.Name) (rw' : ℕ) (sizes : Sizes) where
  pub columns_none : {d c : ℕ} → get_or s from 0 ≡ right_paren → d ≡ 1 → c ≡ 0
      → ReadsColumns s from nm rw' sizes (Some (record { at = from + 1; value = record { dimensions = d; name = nm; rows = rw'; columns = c }; sizes = sizes }))
  unfolding columns_of array_value array_sizes no_words
  columns_none e de ce v r ne re ze =
      let i = inside right_paren (omega arith) s from e in
      accept (upto_as s from (byte_no s from comma _ _ (omega arith) (λ q. omega (arith, e, q)))
      (after_upto s from right_paren _ (omega arith) e (give_upto s (from + 1) (array v r none) (omega arith))))
      (same_array de ne re ce) ze (omega arith) refl

  -- a comma and a number
  next_lead : {at w : ℕ} {z : Sizes} (v : Name) (r : Digits) (t : TookNext s from at w z)
      → Leads from (columns_of v r (drop from s)) at (after right_paren (give (array v r (some t.tree))) (drop at s))
  unfolding columns_of
  next_lead {at} {w} {z} v r t =
      let two = after_back s from comma (omega arith) number t.upto in
      leads_more (stay from _ _ (byte_yes s from comma _ _ (omega arith) two.0)) (after_then_leads s from comma (omega arith) number _ t.upto)

  pub columns_bad : (get_or s from 0 ≡ right_paren → ⊥) → after comma number (drop from s) ≡ bad → ReadsColumns s from nm rw' sizes None
  unfolding columns_of
  columns_bad nc b v r ne re ze = refuse (go (eqb (get_or s from 0) comma) refl) le refl
    where
      go : (q : Bool) → eqb (get_or s from 0) comma ≡ q
          → choose (starts comma) (after comma (and_then number (λ c. after right_paren (give (array v r (some c)))))) (after right_paren (give (array v r none))) (drop from s) ≡ bad
      go true q = byte_yes s from comma _ _ (omega arith) (eqb-true _ _ q) ∙ after_then_bad s from comma (omega arith) number _ b
      go false q = byte_no s from comma _ _ (omega arith) (eqb-false _ _ q) ∙ after_none right_paren (omega arith) s from _ nc

  module _ {at w : ℕ} {z : Sizes} (t : TookNext s from at w z) where
    pub columns_open : (get_or s at 0 ≡ right_paren → ⊥) → ReadsColumns s from nm rw' sizes None
    columns_open nc v r ne re ze = refuse (leads_bad (next_lead v r t) (after_none right_paren (omega arith) s at _ nc)) le refl

    pub columns_read_lem : {b : Sizes} → get_or s at 0 ≡ right_paren → b ≡ both sizes z
        → ReadsColumns s from nm rw' sizes (Some (record { at = at + 1; value = record { dimensions = 2; name = nm; rows = rw'; columns = w }; sizes = b }))
    unfolding array_value array_sizes no_words constant_size reading.two
    columns_read_lem {b} e be v r ne re ze =
        let i = inside right_paren (omega arith) s at e in
        accept (leads_upto (next_lead v r t) (after_upto s at right_paren _ (omega arith) e (give_upto s (at + 1) (array v r (some t.tree)) (omega arith))))
        (same_array refl ne re t.value_is)
        (be ∙ ap (λ (x : Sizes). both x z) ze ∙ ap (both (sizes_of (v ∷ []) (r ∷ []) 0)) t.sizes_is ∙ sizes_join (v ∷ []) [] (r ∷ []) (t.tree ∷ []) 0 0)
        (omega (arith, t.few)) refl

-- ---- an array

module _ (s : List ℕ) (from : ℕ) (le : from ≤ length s) where
  pub array_no_name : name (drop from s) ≡ bad → ReadsArray s from (array_shape (drop from s)) None
  unfolding array_shape
  array_no_name e = refuse (then_bad s from name _ e) le refl

  module _ {a : ℕ} {w : code.Name} {z : Sizes} (t : TookName s from a w z) where
    pub array_not_opened : (get_or s a 0 ≡ left_paren → ⊥) → ReadsArray s from (array_shape (drop from s)) None
    unfolding array_shape
    array_not_opened n = refuse (then_none s from name _ t.upto (after_none left_paren (omega arith) s a _ n)) le refl

    module _ (o : get_or s a 0 ≡ left_paren) where
      array_lead : Leads from (array_shape (drop from s)) (a + 1) (and_then number (λ r. columns_of t.tree r) (drop (a + 1) s))
      unfolding array_shape columns_of
      array_lead = leads_more (then_leads s from name _ t.upto) (after_leads s a left_paren _ (omega arith) o)

      pub array_no_rows : number (drop (a + 1) s) ≡ bad → ReadsArray s from (array_shape (drop from s)) None
      array_no_rows e = refuse (leads_bad array_lead (then_bad s (a + 1) number _ e)) le refl

      pub array_read : {b w' : ℕ} {z' y : Sizes} {g : Option (Read Array)} → TookNumber s (a + 1) b w' z' → y ≡ both z z' → ReadsColumns s b w w' y g
          → ReadsArray s from (array_shape (drop from s)) g
      unfolding name_size constant_size reading.two reading.five
      array_read {b} {w'} {z'} {y} {g} u ye h =
          heavier_reads le (leads_more array_lead (then_leads s (a + 1) number _ u.upto))
          (h t.tree u.tree t.value_is u.value_is
          (ye ∙ ap (λ (x : Sizes). both x z') t.sizes_is ∙ ap (both (sizes_of (t.tree ∷ []) [] 0)) u.sizes_is ∙ sizes_join (t.tree ∷ []) [] [] (u.tree ∷ []) 0 0))
          (omega (arith, t.few, u.few))
