-- The answer to rule 44 is unique, so whoever leaves the least table, or shows that there is none, answers as `heights` does;
-- and it depends on the flow inside the code alone.
-- Assumes nothing.
use mathlib.Core.Path.{◌≡◌, refl, sym, ap, ◌∙◌, subst}
use mathlib.Core.Logic.{◌⊎◌, inl, inr}
use mathlib.Core.List.{List}
use mathlib.Core.Option.{Option, none, some}
use Prim.Native.Nat.{ℕ, ◌+◌, ◌-◌, ◌≤◌, ◌<◌}
use native.Mathlib.Omega.{arith}
use lib.ListN.{take}
use lib.Seq.{length-take-le, get_or-take, ext_get_or}
use Rattle.rules_shared.specs.Limits.{limits}
use Rattle.rules_object.specs.Flow.{Flow, never, height_at, Fine, Valid, Below, Reached, first, onward, PathsAgree, Least, NoTable, Exact, table, refused}
use Rattle.rules_object.specs.Heights.{heights}
use Rattle.rules_object.proofs.Fills.{reached, table_agrees, fine_on}
use Rattle.rules_object.proofs.HeightsExact.{heights_exact, agree_table}

-- ---- uniqueness

pub one_table : (F : Flow) (H K : List ℕ) → Least F H → Least F K → (a : ℕ) → a < F.n → height_at H a ≡ height_at K a
one_table F H K p q a i = go (p.valid.low a i) (q.valid.low a i)
  where
    go : (height_at H a ≤ limits.stack) ⊎ (height_at H a ≡ never) → (height_at K a ≤ limits.stack) ⊎ (height_at K a ≡ never) → height_at H a ≡ height_at K a
    go (inl l) k = sym ((p.least K q.valid).has a i l)
    go (inr e) (inl l) = (q.least H p.valid).has a i l
    go (inr e) (inr f) = e ∙ sym f

pub one_answer : (F : Flow) (o p : Option (List ℕ)) → Exact F o → Exact F p → o ≡ p
one_answer F (some H) (some K) (table l e) (table m f) = ap some (ext_get_or 0 H K (e ∙ sym f) (λ a i. one_table F H K l m a (omega arith)))
one_answer F (some H) none (table l e) (refused n d) = absurd (n.none H l.valid)
one_answer F none (some K) (refused n d) (table m f) = absurd (n.none K m.valid)
one_answer F none none (refused n d) (refused m c) = refl

-- a table of any length, for its first n entries
least_take : (F : Flow) (K : List ℕ) → Least F K → Least F (take F.n K)
least_take F K l =
    record {
      valid = record {
        sized = omega (arith, length-take-le F.n K l.valid.sized);
        begins = (some', same 0 some' ∙ l.valid.begins.1);
        low = λ a i. subst (λ (x : ℕ). (x ≤ limits.stack) ⊎ (x ≡ never)) (sym (same a i)) (l.valid.low a i);
        each = λ a i h. let s = same a i in fine_on below i (omega arith) (l.valid.each a i (omega arith));
      };
      least = λ U u. record { has = λ a i h. let s = same a i in (l.least U u).has a i (omega arith) ∙ sym s };
      reach = λ a i h. let s = same a i in subst (λ (x : ℕ). Reached F a x) (sym s) (l.reach a i (omega arith));
    }
  where
    some' : 0 < F.n
    some' = l.valid.begins.0

    same : (a : ℕ) → a < F.n → height_at (take F.n K) a ≡ height_at K a
    same a i = get_or-take F.n K a 0 i

    below : Below F K (take F.n K)
    below = record { has = λ a i h. same a i }

-- whoever leaves the least table, in a list of any length, answers as `heights` does
pub least_is : (F : Flow) (K : List ℕ) → Least F K → heights F ≡ some (take F.n K)
least_is F K l = one_answer F _ _ (heights_exact F) (table (least_take F K l) (length-take-le F.n K l.valid.sized))

pub no_table_is : (F : Flow) → NoTable F → heights F ≡ none
no_table_is F n = one_answer F _ _ (heights_exact F) (refused n (λ p. let t = agree_table F p in n.none t.0 t.1.valid))

-- ---- another reading of the same code has the same tables

pub record Same (F G : Flow) : Type 0 where
  pub n : F.n ≡ G.n
  pub takes : (a : ℕ) → a < F.n → F.takes a ≡ G.takes a
  pub gives : (a : ℕ) → a < F.n → F.gives a ≡ G.gives a
  pub width : (a : ℕ) → a < F.n → F.width a ≡ G.width a
  pub next : (a k : ℕ) → a < F.n → k < F.width a → F.next a k ≡ G.next a k

pub flip : {F G : Flow} → Same F G → Same G F
flip s =
    let e = s.n in
    record {
      n = sym e;
      takes = λ a i. sym (s.takes a (omega arith));
      gives = λ a i. sym (s.gives a (omega arith));
      width = λ a i. sym (s.width a (omega arith));
      next = λ a k i l. sym (s.next a k (omega arith) (let w = s.width a (omega arith) in omega arith));
    }

pub carries : (F G : Flow) (H : List ℕ) → Same F G → Valid F H → Valid G H
carries F G H s v =
    let en = s.n in
    let si = v.sized in
    let be = v.begins in
    record {
      sized = omega arith;
      begins = (omega arith, be.1);
      low = λ a i. v.low a (omega arith);
      each = λ a i h. there a (omega arith) h;
    }
  where
    there : (a : ℕ) → a < F.n → height_at H a ≤ limits.stack → Fine G H a
    there a i h =
        let f = v.each a i h in
        let r = f.room in
        let et = s.takes a i in
        let eg = s.gives a i in
        let ew = s.width a i in
        let en = s.n in
        record {
          room = omega arith;
          leads = λ k l.
              let d = f.leads k (omega arith) in
              let ex = s.next a k i (omega arith) in
              let d₁ = d.inside in
              let d₂ = d.low in
              let d₃ = ap (height_at H) (sym ex) ∙ d.is in
              record { inside = omega arith; low = omega arith; is = omega arith };
        }

-- a path too, where there is a table: it stays inside the code
path_carries : {F G : Flow} {a h : ℕ} (H : List ℕ) → Same F G → Valid F H → Reached F a h → Reached G a h
path_carries H s v first = first
path_carries {F} {G} H s v (onward {a} {h} k r l) =
    let i = (reached r H v).0 in
    let w = s.width a i in
    let g : Reached G (G.next a k) (h - G.takes a + G.gives a) = onward k (path_carries H s v r) (omega arith) in
    let e : h - G.takes a + G.gives a ≡ h - F.takes a + F.gives a = let t = s.takes a i in let p = s.gives a i in omega arith in
    subst (λ (x : ℕ). Reached G x (h - F.takes a + F.gives a)) (sym (s.next a k i l)) (subst (λ (y : ℕ). Reached G (G.next a k) y) e g)

pub least_carries : (F G : Flow) (H : List ℕ) → Same F G → Least F H → Least G H
least_carries F G H s l =
    let en = s.n in
    record {
      valid = carries F G H s l.valid;
      least = λ U u. record { has = λ a i h. (l.least U (carries G F U (flip s) u)).has a (omega arith) h };
      reach = λ a i h. path_carries H s l.valid (l.reach a (omega arith) h);
    }

pub agree_carries : (F G : Flow) → Same F G → PathsAgree F → PathsAgree G
agree_carries F G s p = let t = agree_table F p in table_agrees G t.0 (carries F G t.0 s t.1.valid)

pub heights_same : (F G : Flow) → Same F G → heights F ≡ heights G
heights_same F G s = one_answer G _ _ (go (heights F) (heights_exact F)) (heights_exact G)
  where
    go : (o : Option (List ℕ)) → Exact F o → Exact G o
    go (some H) (table l e) = table (least_carries F G H s l) (e ∙ s.n)
    go none (refused n d) = refused (record { none = λ U u. n.none U (carries G F U (flip s) u) }) (λ p. d (agree_carries G F (flip s) p))
