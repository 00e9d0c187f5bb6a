-- Reading step by step: what a chain of readers finds from a place of the text on.
-- Assumes nothing.
use mathlib.Core.Path.{◌≡◌, refl, sym, ap, ◌∙◌, subst}
use mathlib.Core.List.{List}
use mathlib.Core.Bool.{Bool, true, false, not, cond}
use mathlib.Core.Option.{none, some}
use Prim.Native.Nat.{ℕ, zero, suc, ◌+◌, ◌*◌, ◌≤◌, ◌<◌}
use native.Mathlib.Omega.{arith}
use lib.ListN.{length, take, drop, get_or, length-drop}
use lib.Seq.{drop-drop}
use borrow.Author.Tests.{eq-eqb, ne_eqb}
use Rattle.rules_text.specs.Tokens.{Found, found, bad, Reader, give, ahead, follow, and_then, after, after_word, all_of, choose, starts, digit_run, name_run, number, name}
use Rattle.read_tokens.specs.declared.Sizes.{Sizes}
use Rattle.read_tokens.specs.declared.Name as code
use Rattle.read_tokens.specs.declared.Read.{Read}
use Rattle.std.proofs.Common.{Option as Maybe, Some, None}
use Rattle.rules_deck.specs.Judge.{starts_integer}
use Rattle.rules_text.proofs.Found.{ahead_ahead}
use Rattle.read_tokens.specs.Words.{capped, name_of, starts_word}
use Rattle.read_tokens.specs.Reading.{end_of, weight_of, answer, Reads, constant_size, name_size, two, five, ReadsNumber, ReadsName}
use Rattle.read_tokens.proofs.Measured.{sizes_constant, sizes_name}
use Rattle.read_tokens.proofs.Tokens.{number_none, number_some, name_none, name_some, digits_le, name_le, part_length, part_first, starts_is, after_some, inside, word_some}

-- a is read in s from one place to another
pub record Upto {A : Type 0} (s : List ℕ) (from : ℕ) (o : Found A) (at : ℕ) (a : A) : Type 0 where
  pub count : ℕ
  pub is : o ≡ found a count
  pub ends : at ≡ from + count
  pub within : at ≤ length s

-- ---- joining readers

module _ {A : Type 0} (s : List ℕ) (from : ℕ) where
  pub give_upto : (a : A) → from ≤ length s → Upto s from (give a (drop from s)) from a
  unfolding give
  give_upto a l = record { count = 0; is = refl; ends = omega arith; within = l }

  pub after_upto : {at : ℕ} {a : A} (c : ℕ) (r : Reader A) → 0 < c → get_or s from 0 ≡ c → Upto s (from + 1) (r (drop (from + 1) s)) at a
      → Upto s from (after c r (drop from s)) at a
  unfolding ahead
  after_upto c r p e u = record {
    count = 1 + u.count;
    is = after_some c p s from r e ∙ ap (ahead 1) u.is;
    ends = omega (arith, u.ends);
    within = u.within;
  }

  pub after_bad : (c : ℕ) (r : Reader A) → 0 < c → get_or s from 0 ≡ c → r (drop (from + 1) s) ≡ bad → after c r (drop from s) ≡ bad
  unfolding ahead
  after_bad c r p e u = after_some c p s from r e ∙ ap (ahead 1) u

  pub choose_yes : (test : List ℕ → Bool) (r q : Reader A) → test (drop from s) ≡ true → choose test r q (drop from s) ≡ r (drop from s)
  unfolding choose
  choose_yes test r q e = ap (λ (b : Bool). cond b (r (drop from s)) (q (drop from s))) e

  pub choose_no : (test : List ℕ → Bool) (r q : Reader A) → test (drop from s) ≡ false → choose test r q (drop from s) ≡ q (drop from s)
  unfolding choose
  choose_no test r q e = ap (λ (b : Bool). cond b (r (drop from s)) (q (drop from s))) e

  pub byte_yes : (c : ℕ) (r q : Reader A) → 0 < c → get_or s from 0 ≡ c → choose (starts c) r q (drop from s) ≡ r (drop from s)
  byte_yes c r q p e = choose_yes (starts c) r q (starts_is c p s from ∙ eq-eqb (get_or s from 0) c e)

  pub byte_no : (c : ℕ) (r q : Reader A) → 0 < c → (get_or s from 0 ≡ c → ⊥) → choose (starts c) r q (drop from s) ≡ q (drop from s)
  byte_no c r q p e = choose_no (starts c) r q (starts_is c p s from ∙ ne_eqb (get_or s from 0) c e)

  pub upto_as : {o p : Found A} {at : ℕ} {a : A} → p ≡ o → Upto s from o at a → Upto s from p at a
  upto_as e u = record { count = u.count; is = e ∙ u.is; ends = u.ends; within = u.within }

module _ {A B : Type 0} (s : List ℕ) (from : ℕ) (r : Reader A) (h : A → Reader B) where
  then_is : {at : ℕ} {a : A} → (u : Upto s from (r (drop from s)) at a) → and_then r h (drop from s) ≡ ahead u.count (h a (drop at s))
  unfolding and_then follow
  then_is {at} {a} u =
      ap (λ (o : Found A). follow o h (drop from s)) u.is
      ∙ ap (λ (l : List ℕ). ahead u.count (h a l)) (drop-drop u.count from s ∙ ap (λ (x : ℕ). drop x s) (sym u.ends))

  pub then_upto : {at end : ℕ} {a : A} {b : B} → Upto s from (r (drop from s)) at a → Upto s at (h a (drop at s)) end b
      → Upto s from (and_then r h (drop from s)) end b
  unfolding ahead
  then_upto u v = record {
    count = u.count + v.count;
    is = then_is u ∙ ap (ahead u.count) v.is;
    ends = omega (arith, u.ends, v.ends);
    within = v.within;
  }

  pub then_bad : r (drop from s) ≡ bad → and_then r h (drop from s) ≡ bad
  unfolding and_then follow
  then_bad e = ap (λ (o : Found A). follow o h (drop from s)) e

  pub then_none : {at : ℕ} {a : A} → Upto s from (r (drop from s)) at a → h a (drop at s) ≡ bad → and_then r h (drop from s) ≡ bad
  unfolding ahead
  then_none u e = then_is u ∙ ap (ahead u.count) e

-- ---- an answer, taken apart and made

pub record Took {A W : Type 0} (value : A → W) (sizes : A → Sizes) (weight : A → ℕ) (s : List ℕ) (from : ℕ) (o : Found A) (at : ℕ) (v : W) (z : Sizes) : Type 0 where
  pub tree : A
  pub upto : Upto s from o at tree
  pub value_is : v ≡ value tree
  pub sizes_is : z ≡ sizes tree
  pub few : weight tree + 5 * from ≤ 5 * at

module _ {A T : Type 0} {value : A → T} {sizes : A → Sizes} {weight : A → ℕ} {s : List ℕ} {from : ℕ} {o : Found A} {r : Maybe (Read T)} where
  pub took : {x : Read T} → Reads value sizes weight s from o r → r ≡ Some x → Took value sizes weight s from o x.at x.value x.sizes
  unfolding answer end_of weight_of
  took {x} h q = go o refl h
    where
      go : (p : Found A) → o ≡ p → Reads value sizes weight s from p r → Took value sizes weight s from o x.at x.value x.sizes
      go (found a k) e g =
          let same : x ≡ record { at = from + k; value = value a; sizes = sizes a } = let says = g.says in cc in
          let place : x.at ≡ from + k = ap (λ (y : Read T). y.at) same in
          record {
            tree = a;
            upto = record { count = k; is = e; ends = place; within = omega (arith, g.within) };
            value_is = ap (λ (y : Read T). y.value) same;
            sizes_is = ap (λ (y : Read T). y.sizes) same;
            few = omega (arith, g.few);
          }
      go bad e g = let says : r ≡ None = g.says in let z : ◌≡◌ {A = ℕ} 0 1 = cc in absurd (omega arith)

  pub refused : Reads value sizes weight s from o r → r ≡ None → o ≡ bad
  unfolding answer
  refused h q = go o refl h.says
    where
      go : (p : Found A) → o ≡ p → r ≡ answer value sizes from p → o ≡ bad
      go (found a k) e g = let z : ◌≡◌ {A = ℕ} 0 1 = cc in absurd (omega arith)
      go bad e g = e

  pub accept : {at : ℕ} {v : T} {z : Sizes} {a : A} → Upto s from o at a → v ≡ value a → z ≡ sizes a → weight a + 5 * from ≤ 5 * at
      → r ≡ Some (record { at = at; value = v; sizes = z }) → Reads value sizes weight s from o r
  unfolding answer end_of weight_of
  accept {at} {v} {z} {a} u ve ze fe q =
      let place = u.ends in
      subst (λ (p : Found A). Reads value sizes weight s from p r) (sym u.is)
      (record { says = cc; within = omega (arith, u.ends, u.within); few = omega (arith, u.ends) })

  pub refuse : o ≡ bad → from ≤ length s → r ≡ None → Reads value sizes weight s from o r
  unfolding answer end_of weight_of
  refuse e l q =
      subst (λ (p : Found A). Reads value sizes weight s from p r) (sym e)
      (record { says = q; within = l; few = omega arith })

-- ---- tokens

module _ (s : List ℕ) (from k : ℕ) (le : from ≤ length s) where
  pub number_refused : k ≡ digit_run (drop from s) → k ≡ 0 → ReadsNumber s from (number (drop from s)) None
  number_refused e z = refuse (number_none (drop from s) (sym e ∙ z)) le refl

  pub name_refused : k ≡ name_run (drop from s) → k ≡ 0 → ReadsName s from (name (drop from s)) None
  name_refused e z = refuse (name_none (drop from s) (sym e ∙ z)) le refl

  -- a run of bytes ends in the text
  pub number_fits : k ≡ digit_run (drop from s) → from + k ≤ length s
  number_fits e = omega (arith, digits_le (drop from s), length-drop from s)

  pub name_fits : k ≡ name_run (drop from s) → from + k ≤ length s
  name_fits e = omega (arith, name_le (drop from s), length-drop from s)

  positive : (k ≡ 0 → ⊥) → 1 ≤ k
  positive h = go k h
    where
      go : (k : ℕ) → (k ≡ 0 → ⊥) → 1 ≤ k
      go zero h = absurd (h refl)
      go (suc k) h = omega arith

  pub number_accepted : {w : ℕ} {z : Sizes} → k ≡ digit_run (drop from s) → (k ≡ 0 → ⊥) → w ≡ capped (take k (drop from s))
      → z ≡ record { name = 0; other = false; constant = k; levels = 0 } → ReadsNumber s from (number (drop from s)) (Some (record { at = from + k; value = w; sizes = z }))
  unfolding two constant_size
  number_accepted {w} {z} e n we ze =
      let f = number_fits e in
      let is : number (drop from s) ≡ found (take k (drop from s)) k = subst (λ (x : ℕ). number (drop from s) ≡ found (take x (drop from s)) x) (sym e) (number_some (drop from s) (λ q. n (e ∙ q))) in
      let one = positive n in
      accept (record { count = k; is = is; ends = refl; within = f }) we
      (ze ∙ sym (sizes_constant (take k (drop from s)) ∙ ap (λ (x : ℕ). record { name = 0; other = false; constant = x; levels = 0 }) (part_length s from k (omega (arith, length-drop from s)))))
      (omega arith) refl

  pub name_accepted : {w : code.Name} {z : Sizes} → k ≡ name_run (drop from s) → (k ≡ 0 → ⊥) → w ≡ name_of (take k (drop from s))
      → z ≡ record { name = k; other = not (starts_integer (drop from s)); constant = 0; levels = 0 }
      → ReadsName s from (name (drop from s)) (Some (record { at = from + k; value = w; sizes = z }))
  unfolding five name_size
  name_accepted {w} {z} e n we ze =
      let f = name_fits e in
      let is : name (drop from s) ≡ found (take k (drop from s)) k = subst (λ (x : ℕ). name (drop from s) ≡ found (take x (drop from s)) x) (sym e) (name_some (drop from s) (λ q. n (e ∙ q))) in
      let one = positive n in
      accept (record { count = k; is = is; ends = refl; within = f }) we
      (ze ∙ sym (sizes_name (take k (drop from s)) ∙ ap (λ (x : ℕ). record { name = x; other = not (starts_integer (take k (drop from s))); constant = 0; levels = 0 }) (part_length s from k (omega (arith, length-drop from s)))
      ∙ ap (λ (b : Bool). record { name = k; other = not b; constant = 0; levels = 0 }) (part_first (drop from s) k n)))
      (omega arith) refl

-- ---- an answer from a later place, told from an earlier one

module _ {A T : Type 0} {value : A → T} {sizes : A → Sizes} {weight : A → ℕ} {r : Maybe (Read T)} where
  further : (s : List ℕ) (from at k : ℕ) (o p : Found A) → p ≡ ahead k o → at ≡ from + k → from ≤ length s → Reads value sizes weight s at o r
      → Reads value sizes weight s from p r
  unfolding answer end_of weight_of ahead
  further s from at k o p e a l h =
      subst (λ (x : Found A). Reads value sizes weight s from x r) (sym e) (go o h)
    where
      go : (o : Found A) → Reads value sizes weight s at o r → Reads value sizes weight s from (ahead k o) r
      go (found b j) g =
          let place : at + j ≡ from + (k + j) = omega arith in
          record {
            says = g.says ∙ ap (λ (x : ℕ). Some (record { at = x; value = value b; sizes = sizes b })) place;
            within = omega (arith, g.within);
            few = omega (arith, g.few);
          }
      go bad g = record { says = g.says; within = l; few = omega arith }

  pub then_reads : {B : Type 0} {at : ℕ} {a : B} (s : List ℕ) (from : ℕ) (q : Reader B) (h : B → Reader A) → from ≤ length s
      → Upto s from (q (drop from s)) at a → Reads value sizes weight s at (h a (drop at s)) r
      → Reads value sizes weight s from (and_then q h (drop from s)) r
  then_reads {B} {at} {a} s from q h l u g = further s from at u.count (h a (drop at s)) (and_then q h (drop from s)) (then_is s from q h u) u.ends l g

  pub after_reads : (s : List ℕ) (from c : ℕ) (q : Reader A) → 0 < c → get_or s from 0 ≡ c
      → Reads value sizes weight s (from + 1) (q (drop (from + 1) s)) r
      → Reads value sizes weight s from (after c q (drop from s)) r
  after_reads s from c q p e g =
      let l = inside c p s from e in
      further s from (from + 1) 1 (q (drop (from + 1) s)) (after c q (drop from s)) (after_some c p s from q e) refl (omega arith) g

  pub reads_as : {s : List ℕ} {from : ℕ} {o p : Found A} → p ≡ o → Reads value sizes weight s from o r → Reads value sizes weight s from p r
  reads_as {s} {from} {o} {p} e g = subst (λ (x : Found A). Reads value sizes weight s from x r) (sym e) g

-- ---- the way to a later place, where o' is what is read there

pub record Leads {A : Type 0} (from : ℕ) (o : Found A) (at : ℕ) (o' : Found A) : Type 0 where
  pub count : ℕ
  pub is : o ≡ ahead count o'
  pub ends : at ≡ from + count

module _ {A : Type 0} (s : List ℕ) (from : ℕ) where
  pub then_leads : {B : Type 0} {at : ℕ} {b : B} (r : Reader B) (h : B → Reader A) → Upto s from (r (drop from s)) at b
      → Leads from (and_then r h (drop from s)) at (h b (drop at s))
  then_leads r h u = record { count = u.count; is = then_is s from r h u; ends = u.ends }

  pub after_leads : (c : ℕ) (r : Reader A) → 0 < c → get_or s from 0 ≡ c → Leads from (after c r (drop from s)) (from + 1) (r (drop (from + 1) s))
  after_leads c r p e = record { count = 1; is = after_some c p s from r e; ends = refl }

module _ {A : Type 0} where
  pub word_leads : (w : List ℕ) (r : Reader A) (s : List ℕ) → starts_word w s ≡ true → Leads 0 (after_word w r s) (length w) (r (drop (length w) s))
  word_leads w r s e = record { count = length w; is = word_some w r s e; ends = omega arith }

  pub leads_more : {from at end : ℕ} {o o' o'' : Found A} → Leads from o at o' → Leads at o' end o'' → Leads from o end o''
  leads_more {from} {at} {end} {o} {o'} {o''} p q =
      record {
        count = p.count + q.count;
        is = p.is ∙ ap (ahead p.count) q.is ∙ ahead_ahead p.count q.count o'';
        ends = omega (arith, p.ends, q.ends);
      }

  pub leads_as : {from at : ℕ} {o o' o'' : Found A} → Leads from o at o' → o' ≡ o'' → Leads from o at o''
  leads_as {from} {at} {o} {o'} {o''} p e = subst (λ (x : Found A). Leads from o at x) e p

  pub leads_bad : {from at : ℕ} {o o' : Found A} → Leads from o at o' → o' ≡ bad → o ≡ bad
  unfolding ahead
  leads_bad p e = p.is ∙ ap (ahead p.count) e

  pub leads_upto : {s : List ℕ} {from at end : ℕ} {o o' : Found A} {a : A} → Leads from o at o' → Upto s at o' end a → Upto s from o end a
  unfolding ahead
  leads_upto p u =
      record {
        count = p.count + u.count;
        is = p.is ∙ ap (ahead p.count) u.is;
        ends = omega (arith, p.ends, u.ends);
        within = u.within;
      }

  -- ---- the whole text

  pub whole_some : {s : List ℕ} {at : ℕ} {o : Found A} {a : A} → Upto s 0 o at a → at ≡ length s → all_of (length s) o ≡ some a
  unfolding all_of
  whole_some {s} {at} {o} {a} u e =
      let same : u.count ≡ length s = omega (arith, u.ends) in
      ap (all_of (length s)) u.is ∙ ap (λ (b : Bool). cond b (some a) none) (eq-eqb u.count (length s) same)

  pub whole_short : {s : List ℕ} {at : ℕ} {o : Found A} {a : A} → Upto s 0 o at a → (at ≡ length s → ⊥) → all_of (length s) o ≡ none
  unfolding all_of
  whole_short {s} {at} {o} {a} u n =
      ap (all_of (length s)) u.is ∙ ap (λ (b : Bool). cond b (some a) none) (ne_eqb u.count (length s) (λ q. n (omega (arith, u.ends))))

  pub whole_bad : {o : Found A} (n : ℕ) → o ≡ bad → all_of n o ≡ none
  unfolding all_of
  whole_bad n e = ap (all_of n) e
