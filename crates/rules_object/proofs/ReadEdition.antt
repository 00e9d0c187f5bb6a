-- What is read as an object is of edition 1 or 2, and has no list without a body.
-- Assumes nothing.
use mathlib.Core.Path.{◌≡◌, refl, subst}
use Prim.Native.Nat.{ℕ, ◌*◌}
use native.Mathlib.Omega.{arith}
use mathlib.Core.Bool.{Bool, true, false, ◌&&◌, cond}
use mathlib.Core.List.{List, [], ◌++◌}
use mathlib.Core.Option.{Option, none, some}
use lib.Dec.{ltb, eqb}
use lib.ListN.{length, take, drop}
use borrow.Author.Tests.{eqb-true}
use Rattle.rules_object.specs.Object.{Object}
use Rattle.rules_object.specs.Kinds.{Kind, first_kinds, transfer_kinds, kinds_of, entry_sizes, contents_length}
use Rattle.rules_object.specs.Bytes.{words_of, word, read_bodies, body, object_of, read_by, read_words, read_object}
use Rattle.rules_object.specs.Writable.{Edition, one, two}
use Rattle.rules_object.proofs.ReadBodies.{some_test, some_then, and_right, Whole, no_more, whole, Found, found}

pub no_test : {A : Type 0} (t : Bool) (x y : A) → cond t none (some x) ≡ some y → (t ≡ false) × (x ≡ y)
no_test true x y e = let z : ◌≡◌ {A = ℕ} 0 1 = cc in absurd (omega arith)
no_test false x y e = (refl, cc)

object_some : (kinds : List Kind) (e k c : ℕ) (r : Option (List (List ℕ))) (o : Object) → object_of kinds e k c r ≡ some o
    → (bs : List (List ℕ)) × (r ≡ some bs) × (object_of kinds e k c (some bs) ≡ some o)
object_some kinds e k c none o q = let z : ◌≡◌ {A = ℕ} 0 1 = cc in absurd (omega arith)
object_some kinds e k c (some bs) o q = (bs, refl, q)

-- the contents of an edition's bodies, and the bodies
abbrev pub contents_in : ℕ → List ℕ → List ℕ
contents_in e ws = take (3 * length (kinds_of e)) (drop 4 ws)

abbrev pub rest_of : ℕ → List ℕ → List ℕ
rest_of e ws = drop (3 * length (kinds_of e)) (drop 4 ws)

-- what was read as an object of an edition
pub record ReadAs (e : ℕ) (ws : List ℕ) (o : Object) : Type 0 where
  pub edition : word ws 0 ≡ e
  pub count : word ws 3 ≡ length (kinds_of e)
  pub bodies : List (List ℕ)
  pub read : read_bodies (entry_sizes (kinds_of e)) 1 (contents_length (length (kinds_of e))) (contents_in e ws) (rest_of e ws) ≡ some bodies
  pub is : object_of (kinds_of e) e (word ws 1) (word ws 2) (some bodies) ≡ some o

read_by_lem : (e : ℕ) (ws : List ℕ) (o : Object) → word ws 0 ≡ e → read_words ws ≡ some o → ReadAs e ws o
read_by_lem e ws o e0 q =
    let some_kinds : Bool = ltb 0 (length (kinds_of e)) in
    let right_count_lem : Bool = eqb (word ws 3) (length (kinds_of e)) in
    let r : Option (List (List ℕ)) = read_bodies (entry_sizes (kinds_of e)) 1 (contents_length (length (kinds_of e))) (contents_in e ws) (rest_of e ws) in
    let x : Option Object = object_of (kinds_of e) e (word ws 1) (word ws 2) r in
    let by : read_by (kinds_of e) ws ≡ some o = subst (λ (n : ℕ). read_by (kinds_of n) ws ≡ some o) e0 q in
    let q' : cond (some_kinds && right_count_lem) x none ≡ some o = subst (λ (n : ℕ). cond (some_kinds && right_count_lem) (object_of (kinds_of e) n (word ws 1) (word ws 2) r) none ≡ some o) e0 by in
    let c = object_some (kinds_of e) e (word ws 1) (word ws 2) r o (some_then (some_kinds && right_count_lem) x q') in
    record {
      edition = e0;
      count = eqb-true (word ws 3) (length (kinds_of e)) (and_right some_kinds right_count_lem (some_test (some_kinds && right_count_lem) x q'));
      bodies = c.0;
      read = c.1;
      is = c.2;
    }

pub data Known (ws : List ℕ) (o : Object) : Type 0 where
  as_one : ReadAs 1 ws o → Known ws o
  as_two : ReadAs 2 ws o → Known ws o

pub known : (ws : List ℕ) (o : Object) → read_words ws ≡ some o → Known ws o
known ws o e = by (eqb (word ws 0) 1) (eqb (word ws 0) 2) refl refl
  where
    by : (b c : Bool) → eqb (word ws 0) 1 ≡ b → eqb (word ws 0) 2 ≡ c → Known ws o
    by true c q r = as_one (read_by_lem 1 ws o (eqb-true (word ws 0) 1 q) e)
    by false true q r = as_two (read_by_lem 2 ws o (eqb-true (word ws 0) 2 r) e)
    by false false q r =
        let p = subst (λ (b : Bool). read_by (cond b first_kinds (cond (eqb (word ws 0) 2) (first_kinds ++ transfer_kinds) [])) ws ≡ some o) q e in
        let none_read : none ≡ some o = subst (λ (b : Bool). read_by (cond b (first_kinds ++ transfer_kinds) []) ws ≡ some o) r p in
        let z : ◌≡◌ {A = ℕ} 0 1 = cc in absurd (omega arith)

-- ---- the edition of what was read

pub found_in : {e : ℕ} {ws : List ℕ} {o : Object} (r : ReadAs e ws o) → Found (entry_sizes (kinds_of e)) 1 (contents_length (length (kinds_of e))) (contents_in e ws) (rest_of e ws) r.bodies
found_in {e = e} {ws = ws} r = found (entry_sizes (kinds_of e)) 1 (contents_length (length (kinds_of e))) (contents_in e ws) (rest_of e ws) r.bodies r.read

pub edition_one : (k c : ℕ) {bs : List (List ℕ)} (o : Object) → Whole (entry_sizes first_kinds) bs → object_of first_kinds 1 k c (some bs) ≡ some o → Edition o
edition_one k c o (whole n1 e1 (whole n2 e2 (whole n3 e3 (whole n4 e4 (whole {b = b5} n5 e5 (whole n6 e6 (whole n7 e7 no_more))))))) q =
    subst Edition (no_test (eqb (length b5) 0) _ o q).1 (one refl (record { formats = refl; items = refl; transfers = refl }))

pub edition_two : (k c : ℕ) (bs : List (List ℕ)) (o : Object) → object_of (kinds_of 2) 2 k c (some bs) ≡ some o → Edition o
edition_two k c bs o q = subst Edition (no_test (eqb (length (body bs 5)) 0) _ o q).1 (two refl)

edition_as : {ws : List ℕ} (o : Object) → Known ws o → Edition o
edition_as {ws = ws} o (as_one r) = edition_one (word ws 1) (word ws 2) o (found_in r).fits r.is
edition_as {ws = ws} o (as_two r) = edition_two (word ws 1) (word ws 2) r.bodies o r.is

pub whole_file : (s : List ℕ) (o : Object) → read_object s ≡ some o → (length s ≡ 4 * length (words_of s)) × (read_words (words_of s) ≡ some o)
unfolding read_object
whole_file s o e =
    let t : Bool = eqb (length s) (4 * length (words_of s)) in
    (eqb-true (length s) (4 * length (words_of s)) (some_test t (read_words (words_of s)) e), some_then t (read_words (words_of s)) e)

-- edition 1 or 2, and no list without a body
pub read_edition : (s : List ℕ) (o : Object) → read_object s ≡ some o → Edition o
read_edition s o e = edition_as o (known (words_of s) o (whole_file s o e).1)
