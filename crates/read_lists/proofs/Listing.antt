-- What a loop over a list keeps: what was read so far, its words and its sizes.
-- Assumes nothing.
use mathlib.Core.Path.{◌≡◌, refl, sym, ap, ◌∙◌, subst}
use mathlib.Core.List.{List, [], ◌∷◌, ◌++◌, append_assoc}
use Prim.Native.Nat.{ℕ, ◌+◌, ◌*◌, ◌≤◌}
use native.Mathlib.Omega.{arith}
use lib.ListN.{length, take, drop, get_or, length-append}
use Rattle.rules_text.specs.Tokens.{comma, Found, found, bad, Reader, give, ahead, follow, and_then, listed}
use Rattle.rules_text.proofs.Parse.{list_step, listed_step}
use Rattle.rules_text.proofs.Found.{ahead_none}
use Rattle.read_tokens.specs.declared.Sizes.{Sizes}
use Rattle.read_tokens.specs.Reading.{end_of, answer}
use Rattle.read_tokens.proofs.Tokens.{inside}
use Rattle.read_tokens.proofs.Chains.{Upto, give_upto, byte_yes, byte_no, upto_as, then_upto, then_bad, Leads, then_leads, after_leads, leads_more, leads_as, leads_bad, leads_upto}
use Rattle.read_items.specs.Parsed.{Put}
use Rattle.std.proofs.Common.{Some, None}
use Rattle.read_lists.specs.Lists.{list_words, ReadsList}

-- with these before it
unfoldable pub those : {A : Type 0} → List A → Found (List A) → Found (List A)
those acc (found l k) = found (acc ++ l) k
those acc bad = bad

those_none : {A : Type 0} (o : Found (List A)) → those [] o ≡ o
unfolding those
those_none (found l k) = refl
those_none bad = refl

those_ahead : {A : Type 0} (acc : List A) (k : ℕ) (o : Found (List A)) → those acc (ahead k o) ≡ ahead k (those acc o)
unfolding those ahead
those_ahead acc k (found l j) = refl
those_ahead acc k bad = refl

those_more : {A : Type 0} (acc : List A) (a : A) (o : Found (List A)) → those acc (those (a ∷ []) o) ≡ those (acc ++ a ∷ []) o
unfolding those
those_more acc a (found l j) = ap (λ (x : List _). found x j) (sym (append_assoc acc (a ∷ []) l))
those_more acc a bad = refl

given : {A : Type 0} (r : Reader (List A)) (a : A) (s : List ℕ) → and_then r (λ more. give (a ∷ more)) s ≡ those (a ∷ []) (r s)
unfolding and_then follow give ahead those
given {A} r a s = go (r s)
  where
    go : (o : Found (List A)) → follow o (λ more. give (a ∷ more)) s ≡ those (a ∷ []) o
    go (found l k) = let e : k + 0 ≡ k = omega arith in ap (found (a ∷ l)) e
    go bad = refl

module _ {A : Type 0} (r : Reader A) (words : List A → List ℕ) (sizes : List A → Sizes) where
  -- of the list from a place of s on, what stands before `at` is read: `n` words are in b and there are `count` of them
  pub record Listing (s : List ℕ) (from : ℕ) (a b : List ℕ) (at n count : ℕ) (z : Sizes) : Type 0 where
    pub acc : List A
    pub left : Leads from (listed r (drop from s)) at (those acc (listed r (drop at s)))
    pub within : at ≤ length s
    pub table : take n b ≡ words acc
    pub size : n ≡ length (words acc)
    pub count_is : count ≡ length acc
    pub sizes_is : z ≡ sizes acc
    pub few : n + 5 * from ≤ 5 * at
    pub low : count ≤ at
    pub kept : length b ≡ length a

  pub starts_list : {z : Sizes} (s : List ℕ) (from : ℕ) (a : List ℕ) → from ≤ length s → words [] ≡ [] → z ≡ sizes [] → Listing s from a a from 0 0 z
  starts_list {z} s from a le we ze =
      record {
        acc = [];
        left = record { count = 0; is = sym (ahead_none _ ∙ those_none (listed r (drop from s))); ends = omega arith };
        within = le;
        table = sym we;
        size = sym (ap length we);
        count_is = refl;
        sizes_is = ze;
        few = omega arith;
        low = omega arith;
        kept = refl;
      }

  module _ {s a b : List ℕ} {from at n count : ℕ} {z : Sizes} (g : Listing s from a b at n count z) where
    pub list_bad : r (drop at s) ≡ bad → listed r (drop from s) ≡ bad
    unfolding list_step those
    list_bad e = leads_bad g.left (ap (those g.acc) (listed_step r (drop at s) ∙ then_bad s at r _ e))

    module _ {next : ℕ} {x : A} (u : Upto s at (r (drop at s)) next x) where
      -- no comma: the list ends
      pub list_ends : (get_or s next 0 ≡ comma → ⊥) → Upto s from (listed r (drop from s)) next (g.acc ++ x ∷ [])
      unfolding list_step those
      list_ends ne =
          let one : Upto s at (listed r (drop at s)) next (x ∷ []) =
          upto_as s at (listed_step r (drop at s)) (then_upto s at r _ u (upto_as s next (byte_no s next comma _ _ (omega arith) ne) (give_upto s next (x ∷ []) u.within)))
          in
          leads_upto g.left (record { count = one.count; is = ap (those g.acc) one.is; ends = one.ends; within = one.within })

      -- a comma: it goes on
      goes_on : get_or s next 0 ≡ comma → Leads from (listed r (drop from s)) (next + 1) (those (g.acc ++ x ∷ []) (listed r (drop (next + 1) s)))
      unfolding list_step
      goes_on e =
          let step : Leads at (listed r (drop at s)) (next + 1) (those (x ∷ []) (listed r (drop (next + 1) s))) =
          leads_as (leads_more (begin (listed_step r (drop at s))) (leads_more (leads_as (then_leads s at r _ u) (byte_yes s next comma _ _ (omega arith) e)) (after_leads s next comma _ (omega arith) e)))
          (given (listed r) x (drop (next + 1) s))
          in
          leads_as (leads_more g.left (record { count = step.count; is = ap (those g.acc) step.is ∙ those_ahead g.acc step.count _; ends = step.ends }))
          (those_more g.acc x (listed r (drop (next + 1) s)))
        where
          begin : {o p : Found (List A)} → o ≡ p → Leads at o at p
          begin {o} {p} q = record { count = 0; is = q ∙ sym (ahead_none p); ends = omega arith }

      module _ {b' : List ℕ} {m c : ℕ} {y : Sizes} (new : List ℕ) (p : Put b b' n new m) (we : words (g.acc ++ x ∷ []) ≡ words g.acc ++ new)
          (ze : y ≡ sizes (g.acc ++ x ∷ [])) (ce : c ≡ count + 1) where
        table_is : take m b' ≡ words (g.acc ++ x ∷ [])
        table_is = p.table ∙ ap (λ (l : List ℕ). l ++ new) g.table ∙ sym we

        size_is : m ≡ length (words (g.acc ++ x ∷ []))
        size_is = p.top ∙ ap (λ (k : ℕ). k + length new) g.size ∙ sym (ap length we ∙ length-append (words g.acc) new)

        count_now : c ≡ length (g.acc ++ x ∷ [])
        count_now = let e = length-append g.acc (x ∷ []) in omega (arith, ce, g.count_is)

        pub list_read : (get_or s next 0 ≡ comma → ⊥) → ReadsList words sizes s b' from (listed r (drop from s)) (Some (record { at = next; value = c; sizes = y }))
        unfolding answer list_words end_of
        list_read ne =
            let w = list_ends ne in
            subst (λ (o : Found (List A)). ReadsList words sizes s b' from o (Some (record { at = next; value = c; sizes = y }))) (sym w.is)
            (record {
              says = let ends = w.ends in let many = count_now in cc;
              table = ap (λ (k : ℕ). take k b') (sym size_is) ∙ table_is;
              within = omega (arith, w.ends, w.within);
            })

        pub list_more : get_or s next 0 ≡ comma → length new + 5 * at ≤ 5 * next → length b' ≡ length b → Listing s from a b' (next + 1) m c y
        list_more e f k =
            let i = inside comma (omega arith) s next e in
            record {
              acc = g.acc ++ x ∷ [];
              left = goes_on e;
              within = omega arith;
              table = table_is;
              size = size_is;
              count_is = count_now;
              sizes_is = ze;
              few = omega (arith, p.top, g.few);
              low = omega (arith, ce, g.low, u.ends);
              kept = k ∙ g.kept;
            }

  pub list_refused : {s b : List ℕ} {from : ℕ} → from ≤ length s → listed r (drop from s) ≡ bad → ReadsList words sizes s b from (listed r (drop from s)) None
  unfolding answer list_words end_of
  list_refused {s} {b} {from} le e =
      subst (λ (o : Found (List A)). ReadsList words sizes s b from o None) (sym e) (record { says = refl; table = refl; within = le })
