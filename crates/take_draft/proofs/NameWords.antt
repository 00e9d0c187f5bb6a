-- A name's words tell it; no name's first word is 0.
-- Assumes nothing.
use mathlib.Core.Path.{◌≡◌, refl, sym, ap, ◌∙◌}
use Prim.Native.Nat.{ℕ, zero, suc, ◌+◌, ◌*◌, ◌≤◌, ◌<◌}
use native.Mathlib.Omega.{arith}
use mathlib.Core.Bool.{Bool, true, false, ◌&&◌}
use mathlib.Core.List.{List, [], ◌∷◌, ◌++◌}
use lib.Dec.{eqb}
use lib.ListN.{length, take, drop, replicate, drop_of_length-le}
use lib.Seq.{drop-drop}
use borrow.Author.Tests.{eq-eqb, ne_eqb, eqb-true}
use Rattle.rules_shared.specs.Lists.{Each, each_none, each_more}
use Rattle.rules_shared.proofs.EachLaws.{each_append, each_take, each_drop}
use Rattle.rules_text.specs.Trees.{Name}
use Rattle.rules_deck.specs.Deck.{same_name}
use Rattle.rules_deck.specs.Translation.{filled}
use Rattle.rules_deck.proofs.TestLaws.{same_name_lem}
use Rattle.rules_deck.proofs.Names.{other_name}
use Rattle.rules_deck.proofs.MapNames.{NoBlank, filled_inj}
use Rattle.read_tokens.specs.Words.{bytes_from, name_word, name_of, no_name, same_words}
use Rattle.read_tokens.specs.declared.Name as code
use Rattle.read_tokens.proofs.Values.{filled_length}
use Rattle.take_draft.specs.Names.{Told}

abbrev pub Byte : ℕ → Type 0
Byte c = c < 256

pub bytes_inj : (w x : ℕ) (s t : List ℕ) → length s ≡ length t → Each Byte s → Each Byte t → bytes_from w s ≡ bytes_from x t → (w ≡ x) × (s ≡ t)
unfolding bytes_from
bytes_inj w x [] [] l each_none each_none e = (e, refl)
bytes_inj w x [] (d ∷ t) l a b e = absurd (omega arith)
bytes_inj w x (c ∷ s) [] l a b e = absurd (omega arith)
bytes_inj w x (c ∷ s) (d ∷ t) l (each_more p a) (each_more q b) e =
    let h = bytes_inj (w * 256 + c) (x * 256 + d) s t (omega arith) a b e in
    let first : c ≡ d = omega (arith, h.0, p, q) in
    let rest = h.1 in
    (omega (arith, h.0, p, q), cc)

blanks_bytes : (m : ℕ) → Each Byte (replicate m 32)
blanks_bytes zero = each_none
blanks_bytes (suc m) = each_more {x = 32} (omega arith) (blanks_bytes m)

filled_bytes : (v : Name) → Each Byte v → Each Byte (filled 8 v)
filled_bytes v a = each_take 8 _ (each_append a (blanks_bytes 8))

pub word_inj : (v w : Name) → Told v → Told w → name_word v ≡ name_word w → v ≡ w
unfolding name_word
word_inj v w g h e =
    filled_inj 8 v w (let s = g.short in omega (arith, s)) (let s = h.short in omega (arith, s)) g.solid h.solid
    (bytes_inj 0 0 (filled 8 v) (filled 8 w) (filled_length v ∙ sym (filled_length w)) (filled_bytes v g.bytes) (filled_bytes w h.bytes) e).1

pub word_test : (v w : Name) → Told v → Told w → eqb (name_word v) (name_word w) ≡ same_name v w
word_test v w g h = go (same_name v w) refl
  where
    go : (b : Bool) → same_name v w ≡ b → eqb (name_word v) (name_word w) ≡ b
    go true e = eq-eqb (name_word v) (name_word w) (ap name_word (same_name_lem v w e))
    go false e = ne_eqb (name_word v) (name_word w) (λ p. other_name v w e (word_inj v w g h p))

-- ---- its four words

same_words_lem : (a b : code.Name) → a ≡ b → same_words a b ≡ true
same_words_lem a b e =
    rw (eq-eqb a.0 b.0 (ap (λ (n : code.Name). n.0) e), eq-eqb a.1 b.1 (ap (λ (n : code.Name). n.1) e), eq-eqb a.2 b.2 (ap (λ (n : code.Name). n.2) e)) (eq-eqb a.3 b.3 (ap (λ (n : code.Name). n.3) e))

other_words : (a b : code.Name) → (a ≡ b → ⊥) → same_words a b ≡ false
other_words a b n = go (eqb a.0 b.0) (eqb a.1 b.1) (eqb a.2 b.2) (eqb a.3 b.3) refl refl refl refl
  where
    go : (p q r s : Bool) → eqb a.0 b.0 ≡ p → eqb a.1 b.1 ≡ q → eqb a.2 b.2 ≡ r → eqb a.3 b.3 ≡ s → (p && (q && (r && s))) ≡ false
    go true true true true e f g h =
        absurd (n (λ i. record { 0 = eqb-true a.0 b.0 e i; 1 = eqb-true a.1 b.1 f i; 2 = eqb-true a.2 b.2 g i; 3 = eqb-true a.3 b.3 h i }))
    go true true true false e f g h = refl
    go true true false s e f g h = refl
    go true false r s e f g h = refl
    go false q r s e f g h = refl

-- nothing that is filled in stands in a name
eight_inj : (k m : ℕ) (v w : Name) → NoBlank v → NoBlank w → take k (v ++ replicate (suc m) 32) ≡ take k (w ++ replicate (suc m) 32) → drop k v ≡ drop k w → v ≡ w
eight_inj zero m v w a b e d = d
eight_inj (suc k) m [] [] a b e d = refl
eight_inj (suc k) m [] (x ∷ w) a (each_more p b) e d = absurd (p (let f : x ≡ 32 = cc in f))
eight_inj (suc k) m (c ∷ v) [] (each_more p a) b e d = absurd (p (let f : c ≡ 32 = cc in f))
eight_inj (suc k) m (c ∷ v) (x ∷ w) (each_more p a) (each_more q b) e d =
    let first : c ≡ x = cc in
    let rest : take k (v ++ replicate (suc m) 32) ≡ take k (w ++ replicate (suc m) 32) = cc in
    let same = eight_inj k m v w a b rest d in
    cc

-- one word, where the others tell what comes after its eight bytes
after_word_lem : (v w : Name) → NoBlank v → NoBlank w → Each Byte v → Each Byte w → name_word v ≡ name_word w → drop 8 v ≡ drop 8 w → v ≡ w
unfolding name_word
after_word_lem v w a b p q e d =
    eight_inj 8 7 v w a b (bytes_inj 0 0 (filled 8 v) (filled 8 w) (filled_length v ∙ sym (filled_length w)) (filled_bytes v p) (filled_bytes w q) e).1 d

module _ (v w : Name) (a : Told v) (b : Told w) where
  from_word : (k : ℕ) → name_word (drop k v) ≡ name_word (drop k w) → drop (k + 8) v ≡ drop (k + 8) w → drop k v ≡ drop k w
  from_word k e d =
      after_word_lem (drop k v) (drop k w) (each_drop k v a.solid) (each_drop k w b.solid) (each_drop k v a.bytes) (each_drop k w b.bytes) e
      (drop-drop 8 k v ∙ d ∙ sym (drop-drop 8 k w))

  short : {u : Name} → Told u → length u ≤ 32
  short t = let s = t.short in omega (arith, s)

  pub name_inj : name_of v ≡ name_of w → v ≡ w
  unfolding name_of
  name_inj e =
      let last : drop 32 v ≡ drop 32 w = drop_of_length-le v (short a) ∙ sym (drop_of_length-le w (short b)) in
      from_word 0 (ap (λ (n : code.Name). n.0) e) (from_word 8 (ap (λ (n : code.Name). n.1) e) (from_word 16 (ap (λ (n : code.Name). n.2) e) (from_word 24 (ap (λ (n : code.Name). n.3) e) last)))

  -- comparing words is comparing names
  pub name_test : same_words (name_of v) (name_of w) ≡ same_name v w
  name_test = go (same_name v w) refl
    where
      go : (r : Bool) → same_name v w ≡ r → same_words (name_of v) (name_of w) ≡ r
      go true e = same_words_lem (name_of v) (name_of w) (ap name_of (same_name_lem v w e))
      go false e = other_words (name_of v) (name_of w) (λ p. other_name v w e (name_inj p))

-- ---- no name's first word is 0

bytes_grow : (w : ℕ) (s : List ℕ) → w ≤ bytes_from w s
unfolding bytes_from
bytes_grow w [] = omega arith
bytes_grow w (c ∷ s) = let h = bytes_grow (w * 256 + c) s in omega (arith, h)

some_blank : (w k m : ℕ) (v : Name) → length v < k → 1 ≤ bytes_from w (take k (v ++ replicate (suc m) 32))
unfolding bytes_from
some_blank w zero m v h = absurd (omega arith)
some_blank w (suc k) m [] h = let g = bytes_grow (w * 256 + 32) (take k (replicate m 32)) in omega (arith, g)
some_blank w (suc k) m (c ∷ v) h = some_blank (w * 256 + c) k m v (omega arith)

pub some_word : (v : Name) → Told v → name_word v ≡ 0 → ⊥
unfolding name_word
some_word v t e = let h = some_blank 0 8 7 v (let s = t.short in omega (arith, s)) in omega (arith, h, e)

pub first_word : (v : Name) → Told v → (name_of v).0 ≡ 0 → ⊥
unfolding name_of
first_word v t e = some_word v t e

pub no_name_lem : (v : Name) → Told v → same_words (name_of v) no_name ≡ false
unfolding name_of
no_name_lem v t = rw (ne_eqb (name_word v) 0 (some_word v t)) refl
