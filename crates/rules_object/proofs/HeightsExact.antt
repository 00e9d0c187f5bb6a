-- `heights` is exact: it gives the least table, or there is no table and paths do not agree. Its heights are those of paths.
-- Assumes nothing.
use mathlib.Core.Path.{◌≡◌, refl, sym, ◌∙◌, subst}
use mathlib.Core.Logic.{◌↔◌}
use mathlib.Core.Bool.{Bool, true, false, cond}
use mathlib.Core.List.{List}
use mathlib.Core.Option.{Option, none, some}
use Prim.Native.Nat.{ℕ, zero, suc, ◌+◌, ◌≤◌, ◌<◌}
use native.Mathlib.Numerals.{add-one}
use native.Mathlib.Omega.{arith}
use lib.Dec.{eqb, ltb, leb}
use lib.ListN.{length, replicate, length-set, length-replicate}
use borrow.Author.Tests.{leb-true, leb-false, ltb-true, ltb-false, eqb-true, eqb-false}
use Rattle.rules_shared.specs.Limits.{limits}
use Rattle.rules_object.specs.Flow.{Flow, never, height_at, after, Valid, Reached, PathsAgree, Least, NoTable, Exact, table, refused}
use Rattle.rules_object.specs.Heights.{Way, way, stop, meets, and_on, spread, visits, fills, found, heights_of, heights, waiting}
use Rattle.rules_object.specs.Filling.{nevers, Filling, Visiting, Went}
use Rattle.rules_object.proofs.Fills.{reached, table_agrees, disagree_none, nevers_set, blank, past, over, clash, same, new, begin, short, finish, start, ends}

-- k successors of a are done
data Spread (F : Flow) (sum v a k : ℕ) : Way → Type 0 where
  went : {H W : List ℕ} {top : ℕ} → Went F H W sum v a k top → length H ≡ F.n → Spread F sum v a k (way H W top)
  not : (PathsAgree F → ⊥) → Spread F sum v a k stop

-- the work is done but for `sum` visits
data Fills (F : Flow) (sum : ℕ) : Way → Type 0 where
  filling : {H W : List ℕ} {top : ℕ} → Filling F H W top → nevers H + top ≡ sum → length H ≡ F.n → Fills F sum (way H W top)
  not : (PathsAgree F → ⊥) → Fills F sum stop

cases : (P : Way → Type 0) (b : Bool) (x y : Way) → (b ≡ true → P x) → (b ≡ false → P y) → P (cond b x y)
cases P true x y f g = f refl
cases P false x y f g = g refl

meets_ok : (F : Flow) (H W : List ℕ) (top a k v : ℕ) → after F H a ≡ v → k < F.width a → Visiting F H W top a k → length H ≡ F.n → Spread F (nevers H + top) v a (k + 1) (meets F (F.next a k) v H W top)
meets_ok F H W top a k v ev kw vis long =
    let t = F.next a k in
    cases S (leb F.n t) _ _ (λ q. not (past F H W top a k t v refl ev kw vis (leb-true _ _ q)))
    (λ q. let i : t < F.n = leb-false _ _ q in
    cases S (eqb (height_at H t) never) _ _
    (λ e. cases S (ltb limits.stack v) _ _ (λ l. not (over F H W top a k t v refl ev kw vis (ltb-true _ _ l)))
    (λ l. went (new F H W top a k t v refl ev kw vis i (eqb-true _ _ e) (ltb-false _ _ l)) (length-set H t v ∙ long)))
    (λ e. cases S (eqb (height_at H t) v) _ _ (λ s. went (same F H W top a k t v refl ev kw vis i (eqb-false _ _ e) (eqb-true _ _ s)) long)
    (λ s. not (clash F H W top a k t v refl ev kw vis i (eqb-false _ _ e) (eqb-false _ _ s)))))
  where
    S : Way → Type 0
    S = Spread F (nevers H + top) v a (k + 1)

spread_ok : (F : Flow) (a v j k sum : ℕ) (H W : List ℕ) (top : ℕ) → j + k ≡ F.width a → Went F H W sum v a k top → length H ≡ F.n → Spread F sum v a (F.width a) (spread F a v j k H W top)
spread_ok F a v zero k sum H W top e w long = let q : k ≡ F.width a = omega arith in subst (λ (x : ℕ). Spread F sum v a x (way H W top)) q (went w long)
spread_ok F a v (suc j) k sum H W top e w long =
    on (meets_ok F H W top a k v w.stays (omega arith) w.visiting long) w.count (λ H W top g long. spread_ok F a v j (k + 1) sum H W top (omega arith) g long)
  where
    on : {o : Way} {s : ℕ} → Spread F s v a (k + 1) o → s ≡ sum → ((H W : List ℕ) (top : ℕ) → Went F H W sum v a (k + 1) top → length H ≡ F.n → Spread F sum v a (F.width a) (spread F a v j (k + 1) H W top))
        → Spread F sum v a (F.width a) (and_on o (λ H W top. spread F a v j (k + 1) H W top))
    on (not n) q f = not n
    on (went {H} {W} {top} g long) q f = f H W top (record { visiting = g.visiting; stays = g.stays; count = g.count ∙ q }) long

visits_ok : (F : Flow) (H W : List ℕ) (top : ℕ) → Filling F H W (top + 1) → length H ≡ F.n → Fills F (nevers H + top) (visits F (waiting W top) H W top)
visits_ok F H W top f long =
    cases (Fills F (nevers H + top)) (ltb (height_at H (waiting W top)) (F.takes (waiting W top))) _ _ (λ l. not (short F H W top (waiting W top) refl f (ltb-true _ _ l)))
    (λ l. all (spread_ok F (waiting W top) _ (F.width (waiting W top)) 0 (nevers H + top) H W top (omega arith) (record { visiting = begin F H W top (waiting W top) refl f (ltb-false _ _ l); stays = refl; count = refl }) long))
  where
    all : {o : Way} {v : ℕ} → Spread F (nevers H + top) v (waiting W top) (F.width (waiting W top)) o → Fills F (nevers H + top) o
    all (not n) = not n
    all (went g long) = filling (finish g.visiting (omega arith)) g.count long

-- f visits are enough: each takes 1 off what is never and what waits, together
fills_ok : (F : Flow) (f : ℕ) (H W : List ℕ) (top : ℕ) → nevers H + top ≤ f → Filling F H W top → length H ≡ F.n → Exact F (found (fills F f H W top))
fills_ok F zero H W zero l g long = table (ends g) long
fills_ok F zero H W (suc top) l g long = absurd (omega arith)
fills_ok F (suc f) H W zero l g long = table (ends g) long
fills_ok F (suc f) H W (suc top) l g long =
    on (visits_ok F H W top (subst (λ (x : ℕ). Filling F H W x) (sym (add-one top)) g) long) (λ H W top m g long. fills_ok F f H W top m g long)
  where
    on : {o : Way} → Fills F (nevers H + top) o → ((H W : List ℕ) (top : ℕ) → nevers H + top ≤ f → Filling F H W top → length H ≡ F.n → Exact F (found (fills F f H W top)))
        → Exact F (found (and_on o (λ H W top. fills F f H W top)))
    on (not n) k = refused (disagree_none F n) n
    on (filling {H = H'} {W = W'} {top = top'} g e long) k = k H' W' top' (omega arith) g long

pub heights_exact : (F : Flow) → Exact F (heights F)
unfolding heights
heights_exact F = go F.n refl
  where
    go : (n : ℕ) → F.n ≡ n → Exact F (heights_of F n)
    go zero e = let none_starts : PathsAgree F → ⊥ = λ p. let z = p.starts in omega arith in refused (disagree_none F none_starts) none_starts
    go (suc n) e =
        let l₁ : length {A = ℕ} (replicate (suc n) never) ≡ suc n = length-replicate (suc n) never in
        let l₂ : length {A = ℕ} (replicate (suc n) 0) ≡ suc n = length-replicate (suc n) 0 in
        let b = blank (suc n) in
        let c = b.count in
        let s = nevers_set (replicate (suc n) never) 0 0 (omega arith) refl (omega arith) in
        let l₃ = length-set (replicate (suc n) never) 0 0 in
        fills_ok F (suc n) _ _ 1 (omega arith) (start F (replicate (suc n) never) (replicate (suc n) 0) b (omega arith) (omega arith) (omega arith) refl) (omega arith)

-- ---- read from the answer

pub heights_some : (F : Flow) (H : List ℕ) → heights F ≡ some H → Least F H × (length H ≡ F.n)
heights_some F H e = go (subst (λ (o : Option (List ℕ)). Exact F o) e (heights_exact F))
  where
    go : Exact F (some H) → Least F H × (length H ≡ F.n)
    go (table l long) = (l, long)

pub heights_none : (F : Flow) → heights F ≡ none → NoTable F × (PathsAgree F → ⊥)
heights_none F e = go (subst (λ (o : Option (List ℕ)). Exact F o) e (heights_exact F))
  where
    go : Exact F none → NoTable F × (PathsAgree F → ⊥)
    go (refused t p) = (t, p)

-- where paths agree there is a table
pub agree_table : (F : Flow) → PathsAgree F → (H : List ℕ) × Least F H
agree_table F p = go (heights F) (heights_exact F)
  where
    go : (o : Option (List ℕ)) → Exact F o → (H : List ℕ) × Least F H
    go (some H) (table l long) = (H, l)
    go none (refused t n) = absurd (n p)

-- rule 44 in terms of tables is rule 44 in terms of paths
pub table_iff_agree : (F : Flow) → ((U : List ℕ) × Valid F U) ↔ PathsAgree F
table_iff_agree F = (λ t. table_agrees F t.0 t.1, λ p. let t = agree_table F p in (t.0, t.1.valid))

-- ---- the least table has the heights of paths, and no other

module _ (F : Flow) (H : List ℕ) (least : Least F H) where
  pub height_reached : (a h : ℕ) → a < F.n → height_at H a ≡ h → h ≤ limits.stack → Reached F a h
  height_reached a h i e l = subst (λ (x : ℕ). Reached F a x) e (least.reach a i (omega arith))

  pub reached_height : (a h : ℕ) → Reached F a h → (a < F.n) × ((height_at H a ≡ h) × (h ≤ limits.stack))
  reached_height a h r = let q = reached r H least.valid in (q.0, (q.1.1, q.1.0))

  pub never_reached : (a h : ℕ) → height_at H a ≡ never → Reached F a h → ⊥
  never_reached a h e r = let q = (reached r H least.valid).1 in let q₀ = q.0 in let q₁ = q.1 in omega arith

pub height_at_reached : (F : Flow) (H : List ℕ) → heights F ≡ some H → (a h : ℕ) → ((a < F.n) × ((height_at H a ≡ h) × (h ≤ limits.stack))) ↔ Reached F a h
height_at_reached F H e a h =
    let l = (heights_some F H e).0 in
    (λ q. height_reached F H l a h q.0 q.1.0 q.1.1, λ r. reached_height F H l a h r)
