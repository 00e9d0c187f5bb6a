-- A constant sought and pooled, over plain lists.
-- Assumes nothing.
use mathlib.Core.Path.{◌≡◌, refl, sym, ap, ◌∙◌}
use Prim.Native.Nat.{ℕ, suc, ◌+◌, ◌≤◌, ◌<◌}
use native.Mathlib.Omega.{arith}
use native.Mathlib.Numerals.{add-one}
use mathlib.Core.Bool.{Bool, true, false, cond, not}
use mathlib.Core.List.{List, [], ◌∷◌, ◌++◌}
use lib.Dec.{eqb, ltb}
use lib.ListN.{length, take, set, length-append}
use lib.Seq.{take-suc-set, length-take-le}
use borrow.Author.Tests.{ltb-true, ltb-false}
use Rattle.rules_deck.specs.Translation.{pool, pool_at}
use Rattle.std.specs.Prelude.{Some, None}
use Rattle.std.specs.List.{position, position_or_len}
use Rattle.take_entries.specs.declared.Pooled.{Pooled}
use Rattle.take_entries.specs.Pooling.{Pools}

-- ---- sought

-- the library's place is the book's
abbrev pub is : ℕ → ℕ → Bool
is v c = eqb c v

pub pool_place : (cs : List ℕ) (v : ℕ) → position_or_len (is v) cs ≡ pool_at cs v
pool_place [] v = refl
pool_place (b ∷ bs) v = go (eqb b v) (pool_place bs v)
  where
    go : (t : Bool) → position_or_len (is v) bs ≡ pool_at bs v → cond (not t) (1 + position_or_len (is v) bs) 0 ≡ cond t 0 (suc (pool_at bs v))
    go true e = refl
    go false e = omega (arith, e)

pub found : (cs : List ℕ) (v i : ℕ) → Some i ≡ position (is v) cs → (i < length cs) × (i ≡ pool_at cs v)
found cs v i = go (ltb (position_or_len (is v) cs) (length cs)) refl
  where
    go : (b : Bool) → ltb (position_or_len (is v) cs) (length cs) ≡ b → Some i ≡ cond b (Some (position_or_len (is v) cs)) None → (i < length cs) × (i ≡ pool_at cs v)
    go true l e =
        let s : i ≡ position_or_len (is v) cs = cc in
        (let k = ltb-true (position_or_len (is v) cs) (length cs) l in omega (arith, s, k), s ∙ pool_place cs v)
    go false l e = absurd cc

pub missing : (cs : List ℕ) (v : ℕ) → None ≡ position (is v) cs → length cs ≤ pool_at cs v
missing cs v = go (ltb (position_or_len (is v) cs) (length cs)) refl
  where
    go : (b : Bool) → ltb (position_or_len (is v) cs) (length cs) ≡ b → None ≡ cond b (Some (position_or_len (is v) cs)) None → length cs ≤ pool_at cs v
    go true l e = absurd cc
    go false l e = let k = ltb-false (position_or_len (is v) cs) (length cs) l in omega (arith, pool_place cs v, k)

-- ---- pooled

there : (cs : List ℕ) (v : ℕ) → pool_at cs v < length cs → pool cs v ≡ cs
there [] v h = absurd (omega arith)
there (b ∷ bs) v h = go (eqb b v) (there bs v) h
  where
    go : (t : Bool) → (pool_at bs v < length bs → pool bs v ≡ bs) → cond t 0 (suc (pool_at bs v)) < suc (length bs) → cond t (b ∷ bs) (b ∷ pool bs v) ≡ b ∷ bs
    go true more h = refl
    go false more h = ap (λ (x : List ℕ). b ∷ x) (more (omega (arith, h)))

new : (cs : List ℕ) (v : ℕ) → length cs ≤ pool_at cs v → pool cs v ≡ cs ++ (v ∷ [])
new [] v h = refl
new (b ∷ bs) v h = go (eqb b v) (new bs v) h
  where
    go : (t : Bool) → (length bs ≤ pool_at bs v → pool bs v ≡ bs ++ (v ∷ [])) → suc (length bs) ≤ cond t 0 (suc (pool_at bs v))
        → cond t (b ∷ bs) (b ∷ pool bs v) ≡ b ∷ (bs ++ (v ∷ []))
    go true more h = absurd (omega (arith, h))
    go false more h = ap (λ (x : List ℕ). b ∷ x) (more (omega (arith, h)))

-- nowhere past the last
at_most : (cs : List ℕ) (v : ℕ) → pool_at cs v ≤ length cs
at_most [] v = omega arith
at_most (b ∷ bs) v = go (eqb b v) (at_most bs v)
  where
    go : (t : Bool) → pool_at bs v ≤ length bs → cond t 0 (suc (pool_at bs v)) ≤ suc (length bs)
    go true h = omega arith
    go false h = omega (arith, h)

module _ (a : List ℕ) (n v : ℕ) (l : length a ≡ 256) (k : n ≤ 256) where
  size : length (take n a) ≡ n
  size = length-take-le n a (omega arith)

  pub was_there : (p : Pooled) → p.index < n → p.index ≡ pool_at (take n a) v → p.count ≡ n → Pools a a n v (Some p)
  was_there p h e c =
      let s : pool (take n a) v ≡ take n a = there (take n a) v (omega (arith, h, e, size)) in
      record {
        index_is = e;
        count_is = c ∙ sym size ∙ ap length (sym s);
        table = ap (λ (j : ℕ). take j a) c ∙ sym s;
        index_low = omega (arith, h, k);
        count_low = omega (arith, k, c);
      }

  longer : n ≤ pool_at (take n a) v → pool (take n a) v ≡ take n a ++ (v ∷ [])
  longer h = new (take n a) v (omega (arith, h, size))

  longer_size : n ≤ pool_at (take n a) v → length (pool (take n a) v) ≡ n + 1
  longer_size h = ap length (longer h) ∙ length-append (take n a) (v ∷ []) ∙ ap (λ (j : ℕ). j + 1) size

  pub one_too_many : n ≤ pool_at (take n a) v → n ≡ 256 → Pools a a n v None
  one_too_many h q = omega (arith, longer_size h, q)

  pub put_new : (p : Pooled) → n ≤ pool_at (take n a) v → n < 256 → p.index ≡ n → p.count ≡ n + 1 → Pools a (set a n v) n v (Some p)
  put_new p h j x y =
      record {
        index_is = x ∙ (omega (arith, h, at_most (take n a) v, size));
        count_is = y ∙ sym (longer_size h);
        table = ap (λ (m : ℕ). take m (set a n v)) (y ∙ add-one n) ∙ take-suc-set a n v (omega (arith, j, l)) ∙ sym (longer h);
        index_low = omega (arith, j, x);
        count_low = omega (arith, j, y);
      }
