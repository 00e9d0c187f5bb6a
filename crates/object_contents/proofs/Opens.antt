-- What the book reads of any bytes, by the tests of the code: wrong at each of them, or the object of the layout that they hold.
-- Assumes nothing.
use mathlib.Core.Path.{◌≡◌, refl, sym, ap, ◌∙◌, subst}
use Prim.Native.Nat.{ℕ, zero, suc, ◌+◌, ◌*◌, ◌/◌, ◌%◌, ◌≤◌, ◌<◌}
use native.Mathlib.Nat.{div-add-mod', zero-div}
use native.Mathlib.Omega.{arith}
use mathlib.Core.Bool.{Bool, true, false, ◌&&◌, cond}
use mathlib.Core.List.{List, [], ◌∷◌, map}
use mathlib.Core.Option.{Option, none, some}
use lib.Dec.{ltb, leb, eqb}
use lib.ListN.{length, get_or, take, drop, length-take, length-drop, get_or-eq_default}
use lib.Seq.{drop-drop, get_or-drop, get_or-take, length-take-le}
use borrow.Author.Tests.{lt-ltb, le-ltb, eq-eqb, ne_eqb}
use Rattle.rules_object.specs.Object.{Object}
use Rattle.rules_object.specs.Kinds.{Kind, kinds_of, entry_sizes, contents_length}
use Rattle.rules_object.specs.Bytes.{word, words_of, element_of, loop_of, line_of, named_of, item_of, transfer_of, entries, cons_body, read_bodies, body, object_of, read_by, read_object}
use Rattle.object_bodies.specs.Edition.{sizes}
use Rattle.rules_object.proofs.ReadEdition.{read_edition}
use Rattle.rules_object.proofs.Words.{length_words}
use Rattle.object_bodies.proofs.Editions.{first_sizes}
use Rattle.object_words.specs.Word.{word_at}
use Rattle.object_words.proofs.Laws.{word_at_lem}
use Rattle.object_contents.specs.Layout.{list_from, element_at, loop_at, line_at, named_at, item_at, transfer_at, object_at, Placed}
use Rattle.object_contents.specs.Opened.{OpenedAt}
use Rattle.object_contents.specs.Bodies.{first_in, length_in, size_of, end_in, body_in, rest_in, InOrder, layout_in, Begun}
use Rattle.object_contents.proofs.Lists.{length_from, get_d_all}
use Rattle.object_contents.proofs.Bodies.{split, first_none, length_none, whole_four}
use Rattle.object_contents.proofs.Reading.{Agrees, all_words_lem, all_entries, element_one, loop_one, line_one, named_one, item_one, transfer_one}

-- ---- wrong

-- bodies that are all empty, if there are any
data Empty : Option (List (List ℕ)) → Type 0 where
  no_bodies_lem : Empty none
  all_empty : {bs : List (List ℕ)} → ((j : ℕ) → length (get_or bs j []) ≡ 0) → Empty (some bs)

empty_more : (b : List ℕ) (r : Option (List (List ℕ))) → length b ≡ 0 → Empty r → Empty (cons_body b r)
empty_more b none e no_bodies_lem = no_bodies_lem
empty_more b (some bs) e (all_empty f) = all_empty go
  where
    go : (j : ℕ) → length (get_or (b ∷ bs) j []) ≡ 0
    go zero = e
    go (suc j) = f j

empty_if : (t : Bool) (r : Option (List (List ℕ))) → Empty r → Empty (cond t r none)
empty_if true r h = h
empty_if false r h = no_bodies_lem

-- where no words are left
empty : (zs : List ℕ) (kind at : ℕ) (C W : List ℕ) → length W ≡ 0 → Empty (read_bodies zs kind at C W)
empty [] kind at C [] h = all_empty (λ j. refl)
empty [] kind at C (w ∷ W) h = no_bodies_lem
empty (z ∷ zs) kind at C W h =
    let n : ℕ = word C 2 in
    let fits : Bool = eqb (word C 0) kind && (eqb (word C 1) at && (eqb (n % (4 * z)) 0 && leb n (4 * length W))) in
    empty_if fits _
    (empty_more (take (n / 4) W) _ (omega (arith, length-take (n / 4) W)) (empty zs (suc kind) (at + n) (drop 3 C) (drop (n / 4) W) (omega (arith, length-drop (n / 4) W))))

no_object : (kinds : List Kind) (e k cells : ℕ) (r : Option (List (List ℕ))) → Empty r → object_of kinds e k cells r ≡ none
no_object kinds e k cells none h = refl
no_object kinds e k cells (some bs) (all_empty f) = rw (eq-eqb (length (body bs 5)) 0 (f 4))

none_if : (t : Bool) (r : Option Object) → r ≡ none → cond t r none ≡ none
none_if true r e = e
none_if false r e = refl

short_words : (kinds : List Kind) (ws : List ℕ) → length ws ≤ 4 + 3 * length kinds → read_by kinds ws ≡ none
short_words kinds ws h =
    none_if (ltb 0 (length kinds) && eqb (word ws 3) (length kinds)) _
    (no_object kinds (word ws 0) (word ws 1) (word ws 2) _
    (empty (entry_sizes kinds) 1 (contents_length (length kinds)) (take (3 * length kinds) (drop 4 ws)) (drop (3 * length kinds) (drop 4 ws)) (omega (arith, length-drop (3 * length kinds) (drop 4 ws), length-drop 4 ws))))

-- an object has its contents, and code after them
pub short : (s : List ℕ) → length s < contents_length (length (kinds_of (word (words_of s) 0))) → read_object s ≡ none
unfolding read_object
short s h = none_if (eqb (length s) (4 * length (words_of s))) _ (short_words (kinds_of (word (words_of s) 0)) (words_of s) (omega (arith, length_words s)))

pub uneven : (s : List ℕ) → (length s % 4 ≡ 0 → ⊥) → read_object s ≡ none
unfolding read_object
uneven s h = rw (ne_eqb (length s) (4 * length (words_of s)) (λ e. h (omega (arith, length_words s))))

module _ (s : List ℕ) (long : 16 ≤ length s) (four : length s % 4 ≡ 0) where
  header : (i : ℕ) → i < 4 → word (words_of s) i ≡ word_at s (4 * i)
  header i h = sym (word_at_lem s i (omega arith))

  -- read by the kinds of its edition
  by_edition : read_object s ≡ read_by (kinds_of (word_at s 0)) (words_of s)
  unfolding read_object
  by_edition =
      rw (eq-eqb (length s) (4 * length (words_of s)) (omega (arith, length_words s))) (ap (λ (e : ℕ). read_by (kinds_of e) (words_of s)) (header 0 (omega arith)))

  pub short_contents : length s < contents_length (length (kinds_of (word_at s 0))) → read_object s ≡ none
  short_contents h = by_edition ∙ short_words (kinds_of (word_at s 0)) (words_of s) (omega (arith, length_words s))

  pub no_edition : length (kinds_of (word_at s 0)) ≡ 0 → read_object s ≡ none
  no_edition e = by_edition ∙ rw (le-ltb 0 (length (kinds_of (word_at s 0))) (omega arith))

  pub other_count : (n : ℕ) → n ≡ length (kinds_of (word_at s 0)) → 0 < n → (word_at s 12 ≡ n → ⊥) → read_object s ≡ none
  other_count n e z h =
      let m : ℕ = length (kinds_of (word_at s 0)) in
      by_edition ∙ rw (lt-ltb 0 m (omega arith), ne_eqb (word (words_of s) 3) m (λ q. h (sym (header 3 (omega arith)) ∙ q ∙ sym e)))

-- ---- edition and count are right: the bodies decide

module _ (s : List ℕ) (n : ℕ) (b : Begun s n) where
  reads_bodies : read_object s ≡ object_of (kinds_of (word_at s 0)) (word_at s 0) (word_at s 4) (word_at s 8) (rest_in s n 0 (contents_length n))
  unfolding rest_in
  reads_bodies =
      let K : List Kind = kinds_of (word_at s 0) in
      let at : (i : ℕ) → i < 4 → word (words_of s) i ≡ word_at s (4 * i) = header s b.long b.four in
      let count : word (words_of s) 3 ≡ length K = at 3 (omega arith) ∙ b.count ∙ b.kinds in
      let past : contents_length (length K) / 4 ≡ 4 + 3 * length K = omega arith in
      by_edition s b.long b.four
      ∙ rw (
        b.kinds,
        lt-ltb 0 (length K) (omega (arith, b.some, b.kinds)),
        eq-eqb (word (words_of s) 3) (length K) count,
        at 0 (omega arith),
        at 1 (omega arith),
        at 2 (omega arith),
        first_sizes (word_at s 0),
        past,
        drop-drop (3 * length K) 4 (words_of s),
      )

  pub misfit : rest_in s n 0 (contents_length n) ≡ none → read_object s ≡ none
  misfit e = reads_bodies ∙ ap (object_of (kinds_of (word_at s 0)) (word_at s 0) (word_at s 4) (word_at s 8)) e

-- ---- the bodies

record Stands (s : List ℕ) (n k : ℕ) : Type 0 where
  four : first_in s n k % 4 ≡ 0
  inside : first_in s n k + length_in s n k ≤ length s
  whole : length_in s n k % size_of k ≡ 0

module _ (s : List ℕ) (n : ℕ) (o : InOrder s n) where
  ends_four : (k : ℕ) → end_in s n k % 4 ≡ 0
  ends_four zero = omega arith
  ends_four (suc k) =
      let e = ends_four k in
      let l = whole_four (length_in s n k) (get_or sizes k 0) (o.whole k) in
      omega arith

  ends_le : (d k : ℕ) → end_in s n k ≤ end_in s n (d + k)
  ends_le zero k = let q : k ≡ 0 + k = omega arith in subst (λ j. end_in s n k ≤ end_in s n j) q (omega arith)
  ends_le (suc d) k =
      let r = ends_le d k in
      let q : suc (d + k) ≡ suc d + k = omega arith in
      let l : end_in s n k ≤ end_in s n (suc (d + k)) = omega arith in
      subst (λ j. end_in s n k ≤ end_in s n j) q l

  stands : (k : ℕ) → Stands s n k
  stands k =
      let f = o.firsts k in
      let last : length s ≡ end_in s n (n + suc k) = first_none s n (n + suc k) (omega arith) ∙ o.firsts (n + suc k) in
      record {
        four = ap (λ a. a % 4) f ∙ ends_four k;
        inside = omega (arith, ends_le n (suc k), f, last);
        whole = o.whole k;
      }

  body_length : (k : ℕ) → length (body_in s n k) ≡ length_in s n k / 4
  body_length k =
      let h = stands k in
      length-take-le (length_in s n k / 4) (drop (first_in s n k / 4) (words_of s)) (omega (arith, length-drop (first_in s n k / 4) (words_of s), length_words s, h.inside))

  body_agrees : (k : ℕ) → Agrees (body_in s n k) (length_in s n k / 4) s (first_in s n k)
  body_agrees k i l =
      let h = stands k in
      let q : 4 * (first_in s n k / 4 + i) ≡ first_in s n k + 4 * i = omega (arith, h.four) in
      get_or-take (length_in s n k / 4) (drop (first_in s n k / 4) (words_of s)) i 0 l ∙ get_or-drop (first_in s n k / 4) (words_of s) i 0
      ∙ sym (word_at_lem s (first_in s n k / 4 + i) (omega (arith, h.inside, h.four))) ∙ ap (word_at s) q

  -- as the book finds a body, also one that the edition does not have
  abbrev found : ℕ → List ℕ
  found k = get_or (list_from n 0 (body_in s n)) k []

  found_none : (k : ℕ) → n ≤ k → found k ≡ []
  found_none k h = get_or-eq_default (list_from n 0 (body_in s n)) [] {n = k} (omega (arith, length_from (body_in s n) n 0))

  found_is : (k : ℕ) → found k ≡ body_in s n k
  found_is k =
      split k n (get_d_all (body_in s n) n k []) (λ h. found_none k h ∙ ap (λ l. take (l / 4) (drop (first_in s n k / 4) (words_of s))) (length_none s n k h))

  words_in_lem : (k : ℕ) → found k ≡ list_from (length_in s n k / 4) 0 (λ i. word_at s (first_in s n k + 4 * i))
  words_in_lem k = found_is k ∙ all_words_lem (body_in s n k) (length_in s n k / 4) s (first_in s n k) (body_length k) (body_agrees k)

  module _ {A : Type 0} (g : List ℕ → A) (f : ℕ → A) (z : ℕ) (one : (W : List ℕ) (b : ℕ) → Agrees W z s b → b + 4 * z ≤ length s → g (take z W) ≡ f b) where
    -- the entries of the body of a kind, by the size that the edition's table has for it
    entries_in : (K : List ℕ) (k : ℕ) → K ≡ take n sizes → get_or sizes k 1 ≡ z → get_or sizes k 0 ≡ z
        → map g (entries (length (found k) / get_or K k 1) (get_or K k 1) (found k)) ≡ list_from (length_in s n k / (4 * z)) 0 (λ i. f (first_in s n k + 4 * z * i))
    entries_in K k e z1 z0 = split k n there not_there
      where
        there : k < n → map g (entries (length (found k) / get_or K k 1) (get_or K k 1) (found k)) ≡ list_from (length_in s n k / (4 * z)) 0 (λ i. f (first_in s n k + 4 * z * i))
        there h =
            let size : get_or K k 1 ≡ z = ap (λ (l : List ℕ). get_or l k 1) e ∙ get_or-take n sizes k 1 h ∙ z1 in
            let whole : length_in s n k % (4 * z) ≡ 0 = subst (λ y. length_in s n k % (4 * y) ≡ 0) z0 (o.whole k) in
            rw (size, found_is k) (all_entries g f z s one (body_in s n k) (length_in s n k) (first_in s n k) (body_length k) (body_agrees k) whole (stands k).inside)

        not_there : n ≤ k → map g (entries (length (found k) / get_or K k 1) (get_or K k 1) (found k)) ≡ list_from (length_in s n k / (4 * z)) 0 (λ i. f (first_in s n k + 4 * z * i))
        not_there h =
            rw (found_none k h, zero-div (get_or K k 1), ← length_none s n k h, zero-div (4 * z))

-- ---- no code, and an object

module _ (s : List ℕ) (n : ℕ) (b : Begun s n) (o : InOrder s n) where
  reads_some : read_object s ≡ object_of (kinds_of (word_at s 0)) (word_at s 0) (word_at s 4) (word_at s 8) (some (list_from n 0 (body_in s n)))
  reads_some = reads_bodies s n b ∙ ap (object_of (kinds_of (word_at s 0)) (word_at s 0) (word_at s 4) (word_at s 8)) o.are

  code_found : length (found s n o 4) ≡ length_in s n 4 / 4
  code_found = ap length (found_is s n o 4) ∙ body_length s n o 4

  pub no_code : length_in s n 4 / 4 ≡ 0 → read_object s ≡ none
  no_code e = reads_some ∙ rw (eq-eqb (length (found s n o 4)) 0 (code_found ∙ e))

  reads_layout : ((i : ℕ) → get_or s i 0 < 256) → (length_in s n 4 / 4 ≡ 0 → ⊥) → read_object s ≡ some (object_at (layout_in s n) s)
  unfolding object_at layout_in
  reads_layout bytes h =
      let K : List ℕ = entry_sizes (kinds_of (word_at s 0)) in
      let e : K ≡ take n sizes = first_sizes (word_at s 0) ∙ ap (λ m. take m sizes) (sym b.kinds) in
      let elements = entries_in s n o element_of (element_at s) 9 (element_one s) K 1 e refl refl in
      let dos = entries_in s n o loop_of (loop_at s) 4 (loop_one s) K 3 e refl refl in
      let lines = entries_in s n o line_of (line_at s) 3 (line_one s) K 5 e refl refl in
      let names = entries_in s n o named_of (named_at s) 5 (named_one s bytes) K 6 e refl refl in
      let items = entries_in s n o item_of (item_at s) 2 (item_one s) K 8 e refl refl in
      let transfers = entries_in s n o transfer_of (transfer_at s) 3 (transfer_one s) K 9 e refl refl in
      reads_some
      ∙ rw (ne_eqb (length (found s n o 4)) 0 (λ q. h (sym code_found ∙ q)), elements, dos, lines, names, items, transfers, words_in_lem s n o 0, words_in_lem s n o 2, words_in_lem s n o 4, words_in_lem s n o 7)

  placed : ((i : ℕ) → get_or s i 0 < 256) → (length_in s n 4 / 4 ≡ 0 → ⊥) → Placed (layout_in s n) s
  unfolding layout_in
  placed bytes h =
      let w : (k : ℕ) → length_in s n k ≡ size_of k * (length_in s n k / size_of k) = λ k. (omega (arith, div-add-mod' (length_in s n k) (size_of k), o.whole k)) in
      let f = o.firsts in
      record {
        edition = read_edition s (object_at (layout_in s n) s) (reads_layout bytes h);
        constants = f 0 ∙ ap contents_length b.kinds;
        elements = omega (arith, f 0, f 1, w 0);
        exits = omega (arith, f 1, f 2, w 1);
        dos = omega (arith, f 2, f 3, w 2);
        code = omega (arith, f 3, f 4, w 3);
        lines = omega (arith, f 4, f 5, w 4);
        names = omega (arith, f 5, f 6, w 5);
        formats = omega (arith, f 6, f 7, w 6);
        items = omega (arith, f 7, f 8, w 7);
        transfers = omega (arith, f 8, f 9, w 8);
        whole = omega (arith, first_none s n 10 b.few, f 9, f 10, w 9);
        some_code = omega (arith, h);
      }

  pub opens : ((i : ℕ) → get_or s i 0 < 256) → (length_in s n 4 / 4 ≡ 0 → ⊥) → OpenedAt s (layout_in s n)
  opens bytes h = record { is = reads_layout bytes h; placed = placed bytes h }
