-- The laws of a run's value and of a name's words.
-- Assumes nothing.
use mathlib.Core.Path.{◌≡◌, refl, sym, ap, ◌∙◌}
use mathlib.Core.List.{List, [], ◌∷◌, ◌++◌}
use Prim.Native.Nat.{ℕ, zero, suc, ◌+◌, ◌*◌, ◌-◌, ◌^◌, ◌≤◌, ◌<◌, min}
use mathlib.Core.Bool.{Bool, true, false}
use native.Mathlib.Omega.{arith}
use native.Mathlib.Nat.{pow-suc, pow-le-pow_right}
use native.Mathlib.Numerals.{add-one}
use lib.Dec.{leb}
use lib.ListN.{length, drop, get_or, replicate, length-append, length-replicate, get_or-replicate, drop_of_length-le}
use lib.Seq.{drop-cons, get_or-take, length-take-le}
use borrow.Author.Tests.{leb-true, leb-false}
use Rattle.rules_text.specs.Trees.{value_from}
use Rattle.rules_deck.specs.Translation.{filled}
use Rattle.read_tokens.specs.Words.{most, bytes_from, name_word, name_of}
use Rattle.read_tokens.specs.declared.Name as code

-- ---- the value

value_more : (ds : List ℕ) (v i : ℕ) → i < length ds → value_from v (drop i ds) ≡ value_from (v * 10 + (get_or ds i 0 - 48)) (drop (i + 1) ds)
value_more ds v i h =
    ap (value_from v) (drop-cons ds i 0 h) ∙ ap (λ (k : ℕ). value_from (v * 10 + (get_or ds i 0 - 48)) (drop k ds)) (sym (add-one i))

grows : (l : List ℕ) (v : ℕ) → v ≤ value_from v l
grows [] v = omega arith
grows (c ∷ l) v = let more = grows l (v * 10 + (c - 48)) in omega arith

-- a value above the most counts as the most
same_cap : (x : ℕ) (l : List ℕ) → min (value_from x l) most ≡ min (value_from (min x most) l) most
same_cap x l = go (leb x most) refl
  where
    go : (b : Bool) → leb x most ≡ b → min (value_from x l) most ≡ min (value_from (min x most) l) most
    go true e =
        let le = leb-true x most e in
        let same : min x most ≡ x = omega arith in
        ap (λ (y : ℕ). min (value_from y l) most) (sym same)
    go false e =
        let lt = leb-false x most e in
        let same : min x most ≡ most = omega arith in
        let one = grows l x in
        let two = grows l (min x most) in
        omega arith

pub cap_more : (ds : List ℕ) (v i w : ℕ) → i < length ds → w ≡ min (v * 10 + (get_or ds i 0 - 48)) most
    → min (value_from v (drop i ds)) most ≡ min (value_from w (drop (i + 1) ds)) most
cap_more ds v i w h e =
    ap (λ (y : ℕ). min y most) (value_more ds v i h) ∙ same_cap (v * 10 + (get_or ds i 0 - 48)) (drop (i + 1) ds)
    ∙ ap (λ (y : ℕ). min (value_from y (drop (i + 1) ds)) most) (sym e)

-- ---- the eight bytes

pub filled_length : (v : List ℕ) → length (filled 8 v) ≡ 8
filled_length v = length-take-le 8 (v ++ replicate 8 32) (omega (arith, length-append v (replicate 8 32), length-replicate {A = ℕ} 8 32))

padded : (v : List ℕ) (n i : ℕ) → i < n → get_or (v ++ replicate n 32) i 0 ≡ get_or v i 32
padded [] n i h = get_or-replicate n i 32 0 h
padded (c ∷ v) n zero h = refl
padded (c ∷ v) n (suc i) h = padded v n i (omega arith)

pub filled_at : (v : List ℕ) (i : ℕ) → i < 8 → get_or (filled 8 v) i 0 ≡ get_or v i 32
filled_at v i h = get_or-take 8 (v ++ replicate 8 32) i 0 h ∙ padded v 8 i h

pub bytes_more : (s : List ℕ) (w i : ℕ) → i < length s → bytes_from w (drop i s) ≡ bytes_from (w * 256 + get_or s i 0) (drop (i + 1) s)
unfolding bytes_from
bytes_more s w i h =
    ap (bytes_from w) (drop-cons s i 0 h) ∙ ap (λ (k : ℕ). bytes_from (w * 256 + get_or s i 0) (drop k s)) (sym (add-one i))

pub bytes_end : (s : List ℕ) (w i : ℕ) → length s ≤ i → bytes_from w (drop i s) ≡ w
unfolding bytes_from
bytes_end s w i h = ap (bytes_from w) (drop_of_length-le s h)

pub fits : (w i : ℕ) → w < 256 ^ i → i ≤ 7 → w < 72057594037927936
fits w i h l =
    let p : 256 ^ i ≤ 256 ^ 7 = pow-le-pow_right (omega arith) l in
    omega arith

pub grown : (w c i : ℕ) → w < 256 ^ i → c < 256 → w * 256 + c < 256 ^ (i + 1)
grown w c i h l =
    let e : 256 ^ (i + 1) ≡ 256 ^ i * 256 = ap (λ (k : ℕ). 256 ^ k) (add-one i) ∙ pow-suc 256 i in
    omega arith

-- ---- a name's words

pub name_is : {a b c d : ℕ} (v : List ℕ) → a ≡ name_word v → b ≡ name_word (drop 8 v) → c ≡ name_word (drop 16 v) → d ≡ name_word (drop 24 v)
    → ◌≡◌ {A = code.Name} (record { 0 = a; 1 = b; 2 = c; 3 = d }) (name_of v)
unfolding name_of
name_is v e f g h = cc
