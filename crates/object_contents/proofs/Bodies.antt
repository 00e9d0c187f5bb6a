-- The book's reading of the bodies, one kind after the other.
-- Assumes nothing.
use mathlib.Core.Path.{◌≡◌, refl, sym, ap, ◌∙◌, subst}
use Prim.Native.Nat.{ℕ, zero, suc, ◌+◌, ◌-◌, ◌*◌, ◌/◌, ◌%◌, ◌≤◌, ◌<◌}
use native.Mathlib.Nat.{div-add-mod', zero-mod}
use native.Mathlib.Numerals.{add-one}
use native.Mathlib.Omega.{arith}
use mathlib.Core.Bool.{Bool, true, false, ◌&&◌, cond}
use mathlib.Core.List.{List, [], ◌∷◌, ◌++◌}
use mathlib.Core.Option.{Option, none, some}
use lib.Dec.{ltb, leb, eqb}
use lib.ListN.{length, get_or, take, drop, length-drop, drop_of_length-le}
use lib.Seq.{drop-cons, drop-drop, get_or-drop, get_or-take, length-take-le}
use borrow.Author.Tests.{leb-true, eqb-true, ltb-true, ltb-false, lt-ltb, le-ltb}
use Rattle.rules_object.specs.Bytes.{word, words_of, cons_body, read_bodies}
use Rattle.rules_object.specs.Kinds.{contents_length}
use Rattle.object_bodies.specs.Edition.{most_kinds, sizes}
use Rattle.rules_object.proofs.Words.{length_words}
use Rattle.object_words.specs.Word.{word_at}
use Rattle.object_words.proofs.Laws.{word_at_lem}
use Rattle.object_contents.specs.Layout.{list_from}
use Rattle.object_contents.specs.Bodies.{kind_in, first_in, length_in, size_of, body_fits, end_in, body_in, rest_in, InOrder}
use Rattle.object_contents.proofs.Lists.{from_snoc}
use Rattle.object_contents.proofs.Sizes.{and_left, and_right}

-- ---- one body

-- what a body has that passes the test
pub record Fit (s : List ℕ) (n k at : ℕ) : Type 0 where
  pub first : first_in s n k ≡ at
  pub whole : length_in s n k % size_of k ≡ 0
  pub inside : length_in s n k ≤ length s - at

pub fit : (s : List ℕ) (n k at : ℕ) → body_fits s n k at ≡ true → Fit s n k at
unfolding body_fits
fit s n k at e =
    let t4 : Bool = leb (length_in s n k) (length s - at) in
    let t3 : Bool = eqb (length_in s n k % size_of k) 0 in
    let t2 : Bool = eqb (first_in s n k) at in
    let p = and_right (eqb (kind_in s k) (suc k)) (t2 && (t3 && t4)) e in
    let q = and_right t2 (t3 && t4) p in
    record {
      first = eqb-true (first_in s n k) at (and_left t2 (t3 && t4) p);
      whole = eqb-true (length_in s n k % size_of k) 0 (and_left t3 t4 q);
      inside = leb-true (length_in s n k) (length s - at) (and_right t3 t4 q);
    }

-- ---- what the contents have of a kind, and what they have not

pub first_there : (s : List ℕ) (n k : ℕ) → k < n → word_at s (20 + 12 * k) ≡ first_in s n k
unfolding first_in
first_there s n k h = rw (lt-ltb k n h)

pub first_none : (s : List ℕ) (n k : ℕ) → n ≤ k → length s ≡ first_in s n k
unfolding first_in
first_none s n k h = rw (le-ltb k n h)

pub length_there : (s : List ℕ) (n k : ℕ) → k < n → word_at s (24 + 12 * k) ≡ length_in s n k
unfolding length_in
length_there s n k h = rw (lt-ltb k n h)

pub length_none : (s : List ℕ) (n k : ℕ) → n ≤ k → 0 ≡ length_in s n k
unfolding length_in
length_none s n k h = rw (le-ltb k n h)

-- ---- the book's reading of one body

reads_one : (z : ℕ) (zs : List ℕ) (kind at : ℕ) (C W : List ℕ) (x y n l : ℕ) (D U : List ℕ) → word C 0 ≡ x → word C 1 ≡ y → word C 2 ≡ n → 4 * length W ≡ l
    → drop 3 C ≡ D → drop (n / 4) W ≡ U
    → read_bodies (z ∷ zs) kind at C W
    ≡ cond (eqb x kind && (eqb y at && (eqb (n % (4 * z)) 0 && leb n l))) (cons_body (take (n / 4) W) (read_bodies zs (suc kind) (at + n) D U)) none
reads_one z zs kind at C W x y n l D U ex ey en el eD eV = rw (ex, ey, en, el, eD, eV)

-- the contents' words are where the code reads them
content : (s : List ℕ) (n k j : ℕ) → contents_length n ≤ length s → k < n → j < 3 → (a : ℕ) → 16 + 12 * k + 4 * j ≡ a → word (drop (3 * k) (take (3 * n) (drop 4 (words_of s)))) j ≡ word_at s a
content s n k j h hk hj a e =
    let q : 4 * (4 + (3 * k + j)) ≡ a = omega arith in
    get_or-drop (3 * k) (take (3 * n) (drop 4 (words_of s))) j 0 ∙ get_or-take (3 * n) (drop 4 (words_of s)) (3 * k + j) 0 (omega arith) ∙ get_or-drop 4 (words_of s) (3 * k + j) 0
    ∙ sym (word_at_lem s (4 + (3 * k + j)) (omega arith)) ∙ ap (word_at s) q

-- the bytes are whole words, and the contents are there
pub record Words (s : List ℕ) (n : ℕ) : Type 0 where
  pub long : contents_length n ≤ length s
  pub four : length s % 4 ≡ 0
  pub few : n ≤ most_kinds

rest_is : (s : List ℕ) (n k at : ℕ) → Words s n → k < n → at ≤ length s → at % 4 ≡ 0
    → rest_in s n k at ≡ cond (body_fits s n k at) (cons_body (take (length_in s n k / 4) (drop (at / 4) (words_of s))) (rest_in s n (suc k) (at + length_in s n k))) none
unfolding rest_in body_fits
rest_is s n k at w hk ha h4 =
    let L : ℕ = length_in s n k in
    let C : List ℕ = take (3 * n) (drop 4 (words_of s)) in
    let Z : List ℕ = take n sizes in
    let hz : k < length Z = omega (arith, length-take-le n sizes w.few) in
    let zs : drop k Z ≡ get_or sizes k 0 ∷ drop (suc k) Z = drop-cons Z k 0 hz ∙ ap (λ z. z ∷ drop (suc k) Z) (get_or-take n sizes k 0 hk) in
    let l : 4 * length (drop (at / 4) (words_of s)) ≡ length s - at = omega (arith, length-drop (at / 4) (words_of s), length_words s) in
    let t : 3 * k + 3 ≡ 3 * suc k = omega arith in
    let m : at / 4 + L / 4 ≡ (at + L) / 4 = omega arith in
    ap (λ (z : List ℕ). read_bodies z (suc k) at (drop (3 * k) C) (drop (at / 4) (words_of s))) zs
    ∙ reads_one (get_or sizes k 0) (drop (suc k) Z) (suc k) at (drop (3 * k) C) (drop (at / 4) (words_of s)) (kind_in s k) (first_in s n k) L (length s - at) (drop (3 * suc k) C)
    (drop ((at + L) / 4) (words_of s)) (content s n k 0 w.long hk (omega arith) (16 + 12 * k) (omega arith))
    (content s n k 1 w.long hk (omega arith) (20 + 12 * k) (omega arith) ∙ first_there s n k hk) (content s n k 2 w.long hk (omega arith) (24 + 12 * k) (omega arith) ∙ length_there s n k hk) l
    (drop-drop 3 (3 * k) C ∙ ap (λ n. drop n C) t) (drop-drop (L / 4) (at / 4) (words_of s) ∙ ap (λ n. drop n (words_of s)) m)

-- ---- bodies before others

abbrev pub prepend : List (List ℕ) → Option (List (List ℕ)) → Option (List (List ℕ))
prepend [] r = r
prepend (b ∷ bs) r = cons_body b (prepend bs r)

prepend_none : (bs : List (List ℕ)) → prepend bs none ≡ none
prepend_none [] = refl
prepend_none (b ∷ bs) = ap (cons_body b) (prepend_none bs)

prepend_some : (bs : List (List ℕ)) → prepend bs (some []) ≡ some bs
prepend_some [] = refl
prepend_some (b ∷ bs) = ap (cons_body b) (prepend_some bs)

prepend_snoc : (bs : List (List ℕ)) (b : List ℕ) (r : Option (List (List ℕ))) → prepend (bs ++ (b ∷ [])) r ≡ prepend bs (cons_body b r)
prepend_snoc [] b r = refl
prepend_snoc (a ∷ bs) b r = ap (cons_body a) (prepend_snoc bs b r)

-- ---- the loop over the kinds

pub record Going (s : List ℕ) (n k at : ℕ) : Type 0 where
  pub few : k ≤ n
  pub is : at ≡ end_in s n k
  pub inside : at ≤ length s
  pub four : at % 4 ≡ 0
  pub firsts : (j : ℕ) → j < k → first_in s n j ≡ end_in s n j
  pub whole : (j : ℕ) → j < k → length_in s n j % size_of j ≡ 0
  pub left : rest_in s n 0 (contents_length n) ≡ prepend (list_from k 0 (body_in s n)) (rest_in s n k at)

pub begins : (s : List ℕ) (n : ℕ) → Words s n → Going s n 0 (contents_length n)
begins s n w =
    record {
      few = omega arith;
      is = refl;
      inside = w.long;
      four = omega arith;
      firsts = λ j h. absurd (omega arith);
      whole = λ j h. absurd (omega arith);
      left = refl;
    }

-- below n or not
pub split : {P : Type 0} (k n : ℕ) → (k < n → P) → (n ≤ k → P) → P
split {P} k n f g = go (ltb k n) refl
  where
    go : (t : Bool) → ltb k n ≡ t → P
    go true e = f (ltb-true k n e)
    go false e = g (ltb-false k n e)

-- what holds below k and at k holds below the next
one_more : (P : ℕ → Type 0) (k : ℕ) → ((j : ℕ) → j < k → P j) → P k → (j : ℕ) → j < suc k → P j
one_more P zero f p zero h = p
one_more P zero f p (suc j) h = absurd (omega arith)
one_more P (suc k) f p zero h = f zero (omega arith)
one_more P (suc k) f p (suc j) h = one_more (λ (i : ℕ). P (suc i)) k (λ i l. f (suc i) (omega arith)) p j (omega arith)

pub whole_four : (n z : ℕ) → n % (4 * z) ≡ 0 → n % 4 ≡ 0
whole_four n z e =
    let d : n / (4 * z) * (4 * z) + n % (4 * z) ≡ n = div-add-mod' n (4 * z) in
    let m : n ≡ 4 * (n / (4 * z) * z) = omega arith in
    omega arith

pub goes : (s : List ℕ) (n k at : ℕ) → Words s n → k < n → Going s n k at → body_fits s n k at ≡ true → Going s n (k + 1) (at + length_in s n k)
goes s n k at w hk g e =
    let f = fit s n k at e in
    let L : ℕ = length_in s n k in
    let l4 : L % 4 ≡ 0 = whole_four L (get_or sizes k 0) f.whole in
    let r = rest_is s n k at w hk g.inside g.four in
    let b : body_in s n k ≡ take (L / 4) (drop (at / 4) (words_of s)) = ap (λ a. take (L / 4) (drop (a / 4) (words_of s))) f.first in
    let q : rest_in s n k at ≡ cons_body (body_in s n k) (rest_in s n (suc k) (at + L)) = rw (e, ← b) at r in
    let z : 0 + k ≡ k = omega arith in
    rw (add-one k)
    (record {
      few = omega arith;
      is = ap (λ a. a + L) g.is;
      inside = omega (arith, g.inside, f.inside);
      four = omega (arith, g.four, l4);
      firsts = one_more (λ j. first_in s n j ≡ end_in s n j) k g.firsts (f.first ∙ g.is);
      whole = one_more (λ j. length_in s n j % size_of j ≡ 0) k g.whole f.whole;
      left = g.left ∙ ap (prepend (list_from k 0 (body_in s n))) q ∙ sym (prepend_snoc (list_from k 0 (body_in s n)) (body_in s n k) (rest_in s n (suc k) (at + L)))
          ∙ sym (ap (λ l. prepend l (rest_in s n (suc k) (at + L))) (from_snoc (body_in s n) k 0 ∙ ap (λ j. list_from k 0 (body_in s n) ++ (body_in s n j ∷ [])) z));
    })

pub stops : (s : List ℕ) (n k at : ℕ) → Words s n → k < n → Going s n k at → body_fits s n k at ≡ false → rest_in s n 0 (contents_length n) ≡ none
stops s n k at w hk g e =
    g.left ∙ ap (prepend (list_from k 0 (body_in s n))) (rw e at (rest_is s n k at w hk g.inside g.four)) ∙ prepend_none (list_from k 0 (body_in s n))

left_over : (kind at : ℕ) (C W : List ℕ) → 0 < length W → read_bodies [] kind at C W ≡ none
left_over kind at C [] h = absurd (omega arith)
left_over kind at C (w ∷ W) h = refl

nothing_left : (kind at : ℕ) (C W : List ℕ) → length W ≡ 0 → read_bodies [] kind at C W ≡ some []
nothing_left kind at C [] h = refl
nothing_left kind at C (w ∷ W) h = absurd (omega arith)

-- no kind is left
none_left : (n : ℕ) → n ≤ most_kinds → drop n (take n sizes) ≡ []
none_left n h = drop_of_length-le (take n sizes) {i = n} (omega (arith, length-take-le n sizes h))

pub past : (s : List ℕ) (n at : ℕ) → Words s n → Going s n n at → (at ≡ length s → ⊥) → rest_in s n 0 (contents_length n) ≡ none
unfolding rest_in
past s n at w g h =
    let C : List ℕ = drop (3 * n) (take (3 * n) (drop 4 (words_of s))) in
    let W : List ℕ = drop (at / 4) (words_of s) in
    let l : at < length s = omega (arith, g.inside, h) in
    g.left
    ∙ ap (prepend (list_from n 0 (body_in s n))) (ap (λ z. read_bodies z (suc n) at C W) (none_left n w.few) ∙ left_over (suc n) at C W (omega (arith, length-drop (at / 4) (words_of s), length_words s, w.four, g.four)))
    ∙ prepend_none (list_from n 0 (body_in s n))

-- the bodies of the kinds that there are none of
ends_there : (s : List ℕ) (n d : ℕ) → end_in s n n ≡ length s → end_in s n (d + n) ≡ length s
ends_there s n zero e = let q : n ≡ 0 + n = omega arith in subst (λ k. end_in s n k ≡ length s) q e
ends_there s n (suc d) e =
    let r = ends_there s n d e in
    let q : suc (d + n) ≡ suc d + n = omega arith in
    let l : end_in s n (suc (d + n)) ≡ length s = omega (arith, r, length_none s n (d + n) (omega arith)) in
    subst (λ k. end_in s n k ≡ length s) q l

beyond : (s : List ℕ) (n k : ℕ) → n ≤ k → end_in s n n ≡ length s → end_in s n k ≡ length s
beyond s n k h e = let q : k - n + n ≡ k = omega arith in subst (λ j. end_in s n j ≡ length s) q (ends_there s n (k - n) e)

pub ends : (s : List ℕ) (n at : ℕ) → Words s n → Going s n n at → at ≡ length s → InOrder s n
unfolding rest_in
ends s n at w g e =
    let C : List ℕ = drop (3 * n) (take (3 * n) (drop 4 (words_of s))) in
    let W : List ℕ = drop (at / 4) (words_of s) in
    let last : end_in s n n ≡ length s = sym g.is ∙ e in
    record {
      firsts = λ k. split k n (g.firsts k) (λ h. sym (first_none s n k h) ∙ sym (beyond s n k h last));
      whole = λ k. split k n (g.whole k) (λ h. ap (λ l. l % size_of k) (sym (length_none s n k h)) ∙ zero-mod (size_of k));
      are = g.left
          ∙ ap (prepend (list_from n 0 (body_in s n))) (ap (λ z. read_bodies z (suc n) at C W) (none_left n w.few) ∙ nothing_left (suc n) at C W (omega (arith, length-drop (at / 4) (words_of s), length_words s)))
          ∙ prepend_some (list_from n 0 (body_in s n));
    }
