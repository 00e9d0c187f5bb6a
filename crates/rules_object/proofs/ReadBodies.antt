-- Bodies and their contents: what is written is read, and what is read was written.
-- Assumes nothing.
use mathlib.Core.Path.{◌≡◌, refl, ap, ◌∙◌, subst}
use Prim.Native.Nat.{ℕ, zero, suc, ◌+◌, ◌*◌, ◌/◌, ◌%◌, ◌^◌, ◌≤◌, ◌<◌}
use native.Mathlib.Nat.{div-add-mod', mul-mod_left}
use native.Mathlib.Omega.{arith}
use mathlib.Core.Bool.{Bool, true, false, ◌&&◌, cond}
use mathlib.Core.List.{List, [], ◌∷◌, ◌++◌}
use mathlib.Core.Option.{Option, none, some}
use lib.Dec.{leb, eqb}
use lib.ListN.{length, get_or, take, drop, length-append, length-drop, take-append-drop}
use lib.Seq.{take-append_seam, drop-append_seam, length-take-le}
use borrow.Author.Tests.{leb-true, eqb-true, le-leb, eq-eqb}
use Rattle.rules_object.specs.Bytes.{concat, word, body_table, cons_body, read_bodies}
use Rattle.rules_object.specs.Writable.{IsWord}
use Rattle.rules_shared.specs.Lists.{Each, each_none, each_more}

-- ---- a test that a whole answer waits on

pub some_test : {A : Type 0} (t : Bool) (x : Option A) {y : A} → cond t x none ≡ some y → t ≡ true
some_test true x e = refl
some_test false x e = cc

pub some_then : {A : Type 0} (t : Bool) (x : Option A) {y : A} → cond t x none ≡ some y → x ≡ some y
some_then true x e = e
some_then false x e = cc

pub and_left : (s t : Bool) → (s && t) ≡ true → s ≡ true
and_left true t e = refl
and_left false t e = e

pub and_right : (s t : Bool) → (s && t) ≡ true → t ≡ true
and_right true t e = e
and_right false t e = cc

-- ---- the contents and the bodies

-- bodies of whole entries, by the entries' sizes
pub data Whole : List ℕ → List (List ℕ) → Type 0 where
  no_more : Whole [] []
  whole : {z : ℕ} {zs : List ℕ} {b : List ℕ} {bs : List (List ℕ)} (n : ℕ) → length b ≡ n * z → Whole zs bs → Whole (z ∷ zs) (b ∷ bs)

pub read_bodies_lem : {zs : List ℕ} {bs : List (List ℕ)} (kind at : ℕ) → Whole zs bs → read_bodies zs kind at (body_table kind at bs) (concat bs) ≡ some bs
read_bodies_lem kind at no_more = refl
read_bodies_lem kind at (whole {z = z} {zs = zs} {b = b} {bs = bs} n e h) =
    let m : 4 * length b ≡ n * (4 * z) = omega (arith, ap (λ x. 4 * x) e) in
    let r : 4 * length b % (4 * z) ≡ 0 = ap (λ x. x % (4 * z)) m ∙ mul-mod_left n (4 * z) in
    let q : 4 * length b / 4 ≡ length b = omega arith in
    let l : 4 * length b ≤ 4 * length (b ++ concat bs) = simp length-append (omega arith) in
    rw (eq-eqb kind kind refl, eq-eqb at at refl, eq-eqb (4 * length b % (4 * z)) 0 r, le-leb (4 * length b) (4 * length (b ++ concat bs)) l, q, take-append_seam b (concat bs), drop-append_seam b (concat bs), read_bodies_lem (suc kind) (at + 4 * length b) h)

-- what a reading that succeeds has read
pub record Found (zs : List ℕ) (kind at : ℕ) (contents ws : List ℕ) (bs : List (List ℕ)) : Type 0 where
  pub fits : Whole zs bs
  pub flat : concat bs ≡ ws
  pub table : length contents ≡ 3 * length zs → contents ≡ body_table kind at bs

cons_some : (b : List ℕ) (r : Option (List (List ℕ))) (bs : List (List ℕ)) → cons_body b r ≡ some bs → (cs : List (List ℕ)) × (r ≡ some cs) × (b ∷ cs ≡ bs)
cons_some b none bs e = let z : ◌≡◌ {A = ℕ} 0 1 = cc in absurd (omega arith)
cons_some b (some cs) bs e = (cs, refl, cc)

empty : (c : List ℕ) → length c ≡ 0 → c ≡ []
empty [] l = refl
empty (x ∷ c) l = absurd (omega arith)

three : (c : List ℕ) → 3 ≤ length c → c ≡ word c 0 ∷ word c 1 ∷ word c 2 ∷ drop 3 c
three [] l = absurd (omega arith)
three (x ∷ []) l = absurd (omega arith)
three (x ∷ y ∷ []) l = absurd (omega arith)
three (x ∷ y ∷ w ∷ c) l = refl

found_cons : (z : ℕ) (zs : List ℕ) (kind at : ℕ) (contents ws : List ℕ) (cs : List (List ℕ)) → word contents 0 ≡ kind → word contents 1 ≡ at
    → word contents 2 % (4 * z) ≡ 0 → word contents 2 ≤ 4 * length ws
    → Found zs (suc kind) (at + word contents 2) (drop 3 contents) (drop (word contents 2 / 4) ws) cs
    → Found (z ∷ zs) kind at contents ws (take (word contents 2 / 4) ws ∷ cs)
found_cons z zs kind at contents ws cs e0 e1 e2 l k =
    let L : ℕ = word contents 2 in
    let n : ℕ = L / (4 * z) in
    let d : n * (4 * z) + L % (4 * z) ≡ L = div-add-mod' L (4 * z) in
    let m : L ≡ 4 * (n * z) = omega arith in
    let t : length (take (L / 4) ws) ≡ L / 4 = length-take-le (L / 4) ws (omega arith) in
    let q : L ≡ 4 * length (take (L / 4) ws) = omega arith in
    let b : length (take (L / 4) ws) ≡ n * z = omega arith in
    record {
      fits = whole n b k.fits;
      flat = ap (λ r. take (L / 4) ws ++ r) k.flat ∙ take-append-drop (L / 4) ws;
      table = λ h. three contents (omega arith)
          ∙ (rw (e0, e1) (ap (λ r. kind ∷ at ∷ L ∷ r) (k.table (length-drop 3 contents ∙ (omega arith)))
          ∙ ap (λ x. kind ∷ at ∷ x ∷ body_table (suc kind) (at + x) cs) q));
    }

pub found : (zs : List ℕ) (kind at : ℕ) (contents ws : List ℕ) (bs : List (List ℕ)) → read_bodies zs kind at contents ws ≡ some bs → Found zs kind at contents ws bs
found [] kind at contents [] bs e =
    let q : [] ≡ bs = cc in
    subst (λ r. Found [] kind at contents [] r) q (record { fits = no_more; flat = refl; table = λ l. empty contents l })
found [] kind at contents (w ∷ ws) bs e = let z : ◌≡◌ {A = ℕ} 0 1 = cc in absurd (omega arith)
found (z ∷ zs) kind at contents ws bs e =
    let L : ℕ = word contents 2 in
    let rest : Option (List (List ℕ)) = read_bodies zs (suc kind) (at + L) (drop 3 contents) (drop (L / 4) ws) in
    let t4 : Bool = leb L (4 * length ws) in
    let t34 : Bool = eqb (L % (4 * z)) 0 && t4 in
    let t234 : Bool = eqb (word contents 1) at && t34 in
    let t : Bool = eqb (word contents 0) kind && t234 in
    let p : t ≡ true = some_test t (cons_body (take (L / 4) ws) rest) e in
    let p234 : t234 ≡ true = and_right (eqb (word contents 0) kind) t234 p in
    let p34 : t34 ≡ true = and_right (eqb (word contents 1) at) t34 p234 in
    let c = cons_some (take (L / 4) ws) rest bs (some_then t (cons_body (take (L / 4) ws) rest) e) in
    subst (λ r. Found (z ∷ zs) kind at contents ws r) c.2
    (found_cons z zs kind at contents ws c.0
    (eqb-true (word contents 0) kind (and_left (eqb (word contents 0) kind) t234 p))
    (eqb-true (word contents 1) at (and_left (eqb (word contents 1) at) t34 p234))
    (eqb-true (L % (4 * z)) 0 (and_left (eqb (L % (4 * z)) 0) t4 p34))
    (leb-true L (4 * length ws) (and_right (eqb (L % (4 * z)) 0) t4 p34))
    (found zs (suc kind) (at + L) (drop 3 contents) (drop (L / 4) ws) c.0 c.1))

-- ---- how long they are

pub whole_length : {zs : List ℕ} {bs : List (List ℕ)} → Whole zs bs → length bs ≡ length zs
whole_length no_more = refl
whole_length (whole n e h) = ap suc (whole_length h)

pub body_within : (bs : List (List ℕ)) (i : ℕ) → length (get_or bs i []) ≤ length (concat bs)
body_within [] i = omega arith
body_within (b ∷ bs) zero = omega (arith, length-append b (concat bs))
body_within (b ∷ bs) (suc i) = omega (arith, length-append b (concat bs), body_within bs i)

pub table_length : (kind at : ℕ) (bs : List (List ℕ)) → length (body_table kind at bs) ≡ 3 * length bs
table_length kind at [] = refl
table_length kind at (b ∷ bs) = omega (arith, table_length (suc kind) (at + 4 * length b) bs)

pub table_words : (kind at : ℕ) (bs : List (List ℕ)) → kind + length bs < 2 ^ 32 → at + 4 * length (concat bs) < 2 ^ 32 → Each IsWord (body_table kind at bs)
table_words kind at [] l h = each_none
table_words kind at (b ∷ bs) l h =
    let e = length-append b (concat bs) in
    let entry : IsWord kind × IsWord at × IsWord (4 * length b) = omega arith in
    each_more entry.0 (each_more entry.1 (each_more entry.2 (table_words (suc kind) (at + 4 * length b) bs (omega arith) (omega arith))))
