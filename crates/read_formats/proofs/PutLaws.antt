-- Words put one after the other, and words that stand once copied.
-- Assumes nothing.
use mathlib.Core.Path.{◌≡◌, refl, sym, ap, ◌∙◌, subst}
use mathlib.Core.List.{List, [], ◌∷◌, ◌++◌, append_assoc, append-nil}
use Prim.Native.Nat.{ℕ, zero, suc, ◌+◌, ◌-◌, ◌*◌, ◌≤◌, ◌<◌}
use native.Mathlib.Nat.{mul-zero, mul-le-mul}
use native.Mathlib.Numerals.{add-one}
use native.Mathlib.Omega.{arith}
use mathlib.Core.Bool.{Bool, true, false}
use mathlib.Core.Logic.{◌⊎◌, inl, inr}
use borrow.Author.Tests.{leb-true, leb-false}
use lib.Dec.{leb}
use lib.ListN.{length, take, drop, get_or, set, length-append, length-set, take-append-drop}
use lib.Seq.{take-suc, take-suc-set, take-append-add, take-append_seam, take_all, get_or-append-add, get_or-take, get_or-drop, length-take-le, drop_at}
use Rattle.rules_formats.specs.Format.{H, times}
use Rattle.rules_formats.specs.Words.{most_words, field_word}
use Rattle.rules_formats.proofs.WritingOut.{times_length}
use Rattle.read_formats.specs.Puts.{text_words, Puts, Repeats}

-- ---- words put

pub puts_none : (a : List ℕ) (top : ℕ) → length a ≡ most_words → top ≤ most_words + 1 → Puts [] a a top top
puts_none a top z l = record { sized = z; low = l; count = λ h. omega arith; stand = λ h. sym (append-nil (take top a)); over = λ h. omega arith }

pub puts_over : (w : ℕ) (a : List ℕ) (top r : ℕ) → length a ≡ most_words → r ≡ most_words + 1 → most_words ≤ top → Puts (w ∷ []) a a top r
puts_over w a top r z e h =
    record {
      sized = z;
      low = omega arith;
      count = λ g. absurd (omega (arith, e));
      stand = λ g. absurd (omega (arith, e));
      over = λ g. omega arith;
    }

pub puts_one : (w : ℕ) (a : List ℕ) (top : ℕ) → length a ≡ most_words → top < most_words → Puts (w ∷ []) a (set a top w) top (top + 1)
puts_one w a top z h =
    record {
      sized = length-set a top w ∙ z;
      low = omega arith;
      count = λ g. omega arith;
      stand = λ g. ap (λ (n : ℕ). take n (set a top w)) (add-one top) ∙ take-suc-set a top w (omega (arith, z));
      over = λ g. absurd (omega arith);
    }

pub puts_both : (xs ys a b c : List ℕ) (top r s : ℕ) → Puts xs a b top r → Puts ys b c r s → Puts (xs ++ ys) a c top s
puts_both xs ys a b c top r s p q =
    record {
      sized = q.sized;
      low = q.low;
      count = λ h. omega (arith, q.count h, p.count (below h), length-append xs ys);
      stand = λ h. q.stand h ∙ ap (λ (l : List ℕ). l ++ ys) (p.stand (below h)) ∙ append_assoc (take top a) xs ys;
      over = λ h. over h (q.over h);
    }
  where
    below : s ≤ most_words → r ≤ most_words
    below h = omega (arith, q.count h)

    over : most_words < s → most_words < r + length ys → most_words < top + length (xs ++ ys)
    over h g = by_room (length-append xs ys) (r - most_words) refl
      where
        by_room : length (xs ++ ys) ≡ length xs + length ys → (d : ℕ) → r - most_words ≡ d → most_words < top + length (xs ++ ys)
        by_room e zero k = omega (arith, e, p.count (omega arith), g)
        by_room e (suc d) k = omega (arith, e, p.over (omega arith))

-- the same with another list of words that is equal
pub puts_same : (xs ys a b : List ℕ) (top r : ℕ) → xs ≡ ys → Puts xs a b top r → Puts ys a b top r
puts_same xs ys a b top r e p = subst (λ (l : List ℕ). Puts l a b top r) e p

-- ---- the columns of an H field

text_more : (xs : List ℕ) (c : ℕ) → text_words (xs ++ (c ∷ [])) ≡ text_words xs ++ (field_word (H c) ∷ [])
text_more [] c = refl
text_more (x ∷ xs) c = ap (λ (l : List ℕ). field_word (H x) ∷ l) (text_more xs c)

pub text_next : (cs : List ℕ) (at n j : ℕ) → at + n ≤ length cs → j < n → (a b c : List ℕ) (top r s : ℕ)
    → Puts (text_words (take j (drop at cs))) a b top r → Puts (field_word (H (get_or cs (at + j) 0)) ∷ []) b c r s → Puts (text_words (take (j + 1) (drop at cs))) a c top s
text_next cs at n j l h a b c top r s p q = puts_same _ _ a c top s same (puts_both _ _ a b c top r s p q)
  where
    long : length (take at cs) + length (drop at cs) ≡ length cs
    long = sym (length-append (take at cs) (drop at cs)) ∙ ap length (take-append-drop at cs)

    short : length (take at cs) ≡ at
    short = length-take-le at cs (omega arith)

    same : text_words (take j (drop at cs)) ++ (field_word (H (get_or cs (at + j) 0)) ∷ []) ≡ text_words (take (j + 1) (drop at cs))
    same =
        ap (λ (x : ℕ). text_words (take j (drop at cs)) ++ (field_word (H x) ∷ [])) (sym (get_or-drop at cs j 0))
        ∙ sym (text_more (take j (drop at cs)) (get_or (drop at cs) j 0))
        ∙ ap text_words (sym (ap (λ (k : ℕ). take k (drop at cs)) (add-one j) ∙ take-suc (drop at cs) j 0 (omega (arith, long, short))))

pub text_all : (cs : List ℕ) (at n j : ℕ) (a b : List ℕ) (top r : ℕ) → j ≤ n → n ≤ j → Puts (text_words (take j (drop at cs))) a b top r → Puts (text_words (take n (drop at cs))) a b top r
text_all cs at n j a b top r g h p =
    let e : j ≡ n = omega arith in
    puts_same _ _ a b top r (ap (λ (k : ℕ). text_words (take k (drop at cs))) e) p

-- ---- words copied

-- the words that stand, again and again: m times more
abbrev pub more : ℕ → ℕ → ℕ → List ℕ → List ℕ
more m from top a = times m (drop from (take top a))

-- k words are copied
pub record Copying (a : List ℕ) (from top n many : ℕ) (b : List ℕ) (k : ℕ) : Type 0 where
  pub sized : length b ≡ most_words
  pub room : top + k ≤ most_words
  pub all : many ≡ (n - 1) * (top - from)
  pub most : k ≤ many
  pub stand : take (top + k) b ≡ take top a ++ take k (more (n - 1) from top a)

pub copy_none : (a : List ℕ) (from top n many : ℕ) → length a ≡ most_words → top ≤ most_words → many ≡ (n - 1) * (top - from) → Copying a from top n many a 0
copy_none a from top n many z l e =
    let same : top + 0 ≡ top = omega arith in
    record { sized = z; room = omega arith; all = e; most = omega arith; stand = ap (λ (m : ℕ). take m a) same ∙ sym (append-nil (take top a)) }

turned : (m : ℕ) (xs : List ℕ) → xs ++ times m xs ≡ times m xs ++ xs
turned zero xs = append-nil xs
turned (suc m) xs = ap (λ (l : List ℕ). xs ++ l) (turned m xs) ∙ sym (append_assoc xs (times m xs) xs)

some_words_lem : (m d k : ℕ) → k < m * d → 0 < d
some_words_lem m zero k h = absurd (omega (arith, mul-zero m))
some_words_lem m (suc d) k h = omega arith

module _ (a : List ℕ) (from top : ℕ) (z : length a ≡ most_words) (l : from ≤ top) (low : top ≤ most_words) where
  xs_long : length (drop from (take top a)) ≡ top - from
  xs_long =
      omega (arith, length-take-le top a (omega (arith, z)), length-take-le from (take top a) (omega (arith, length-take-le top a (omega (arith, z)))), ap length (take-append-drop from (take top a)), length-append (take from (take top a)) (drop from (take top a)))

  -- the word to copy stands as far back as the words are long
  back : (m k : ℕ) → k < m * (top - from) → get_or (take top a ++ take k (more m from top a)) (from + k) 0 ≡ get_or (more m from top a) k 0
  back m k h =
      let front = take from (take top a) in
      let xs = drop from (take top a) in
      let T = times m xs in
      let f : length (take from (take top a)) ≡ from = length-take-le from (take top a) (omega (arith, length-take-le top a (omega (arith, z)))) in
      let long : length (times m (drop from (take top a))) ≡ m * (top - from) = times_length m (drop from (take top a)) ∙ ap (λ (d : ℕ). m * d) xs_long in
      let pos = some_words_lem m (top - from) k h in
      ap (λ (y : List ℕ). get_or (y ++ take k T) (from + k) 0) (sym (take-append-drop from (take top a)))
      ∙ ap (λ (y : List ℕ). get_or y (from + k) 0) (append_assoc front xs (take k T))
      ∙ ap (λ (d : ℕ). get_or (front ++ (xs ++ take k T)) (d + k) 0) (sym f)
      ∙ get_or-append-add front (xs ++ take k T) k 0
      ∙ ap (λ (y : List ℕ). get_or y k 0) (sym (take-append-add xs T k))
      ∙ get_or-take (length xs + k) (xs ++ T) k 0 (omega (arith, xs_long, pos))
      ∙ ap (λ (y : List ℕ). get_or y k 0) (turned m xs)
      ∙ sym (get_or-take (length T) (T ++ xs) k 0 (omega (arith, long)))
      ∙ ap (λ (y : List ℕ). get_or y k 0) (take-append_seam T xs)

  pub copy_more : (n many : ℕ) (b : List ℕ) (k : ℕ) → Copying a from top n many b k → k < many → top + k < most_words → Copying a from top n many (set b (top + k) (get_or b (from + k) 0)) (k + 1)
  copy_more n many b k i h g =
      let T = more (n - 1) from top a in
      let long : length (more (n - 1) from top a) ≡ (n - 1) * (top - from) = times_length (n - 1) (drop from (take top a)) ∙ ap (λ (d : ℕ). (n - 1) * d) xs_long in
      let pos = some_words_lem (n - 1) (top - from) k (omega (arith, i.all)) in
      let next : top + (k + 1) ≡ suc (top + k) = omega arith in
      let x : get_or b (from + k) 0 ≡ get_or (more (n - 1) from top a) k 0 = sym (get_or-take (top + k) b (from + k) 0 (omega (arith, pos))) ∙ ap (λ (y : List ℕ). get_or y (from + k) 0) i.stand ∙ back (n - 1) k (omega (arith, i.all)) in
      record {
        sized = length-set b (top + k) (get_or b (from + k) 0) ∙ i.sized;
        room = omega arith;
        all = i.all;
        most = omega arith;
        stand =
            ap (λ (m : ℕ). take m (set b (top + k) (get_or b (from + k) 0))) next
            ∙ take-suc-set b (top + k) (get_or b (from + k) 0) (omega (arith, i.sized))
            ∙ ap (λ (y : List ℕ). y ++ (get_or b (from + k) 0 ∷ [])) i.stand
            ∙ append_assoc (take top a) (take k T) (get_or b (from + k) 0 ∷ [])
            ∙ ap (λ (y : ℕ). take top a ++ (take k T ++ (y ∷ []))) x
            ∙ ap (λ (y : List ℕ). take top a ++ y) (sym (ap (λ (m : ℕ). take m T) (add-one k) ∙ take-suc T k 0 (omega (arith, long, i.all))));
      }

  module _ (n : ℕ) (least : 1 ≤ n) where
    n_is : n ≡ suc (n - 1)
    n_is = omega arith

    long_times : (ws : List ℕ) → length (times n ws) ≡ length ws + (n - 1) * length ws
    long_times ws = ap (λ (m : ℕ). length (times m ws)) n_is ∙ length-append ws (times (n - 1) ws) ∙ ap (λ (x : ℕ). length ws + x) (times_length (n - 1) ws)

    -- it was put from a place on, so the words from that place to the top are those
    was : (ws before : List ℕ) → Puts ws before a from top → drop from (take top a) ≡ ws
    was ws before p =
        ap (drop from) (p.stand low) ∙ drop_at (take from before) ws from (omega (arith, ap length (p.stand low), length-append (take from before) ws, p.count low, length-take-le top a (omega (arith, z))))

    pub copied_over : (many : ℕ) (b : List ℕ) (k r : ℕ) → Copying a from top n many b k → k < many → most_words ≤ top + k → r ≡ most_words + 1 → Repeats n a b from top r
    copied_over many b k r i h g e =
        record {
          is = λ ws before f p.
              let d : top - from ≡ length ws = omega (arith, p.count low) in
              record {
                sized = i.sized;
                low = omega (arith, e);
                count = λ y. absurd (omega (arith, e));
                stand = λ y. absurd (omega (arith, e));
                over = λ y. omega (arith, p.count low, long_times ws, i.all, ap (λ (x : ℕ). (n - 1) * x) d);
              };
        }

    pub copied : (many : ℕ) (b : List ℕ) (k : ℕ) → Copying a from top n many b k → many ≤ k → Repeats n a b from top (top + k)
    copied many b k i h =
        record {
          is = λ ws before f p.
              let d : top - from ≡ length ws = omega (arith, p.count low) in
              let e : (n - 1) * (top - from) ≡ (n - 1) * length ws = ap (λ (x : ℕ). (n - 1) * x) d in
              record {
                sized = i.sized;
                low = omega (arith, i.room);
                count = λ y. omega (arith, p.count low, long_times ws, i.all, i.most, e);
                stand = λ y.
                    i.stand
                    ∙ ap (λ (x : List ℕ). take top a ++ take k (times (n - 1) x)) (was ws before p)
                    ∙ ap (λ (x : List ℕ). take top a ++ x) (take_all k (times (n - 1) ws) (omega (arith, times_length (n - 1) ws, i.all, e)))
                    ∙ ap (λ (x : List ℕ). x ++ times (n - 1) ws) (p.stand low)
                    ∙ append_assoc (take from before) ws (times (n - 1) ws)
                    ∙ ap (λ (m : ℕ). take from before ++ times m ws) (sym n_is);
                over = λ y. absurd (omega (arith, i.room));
              };
        }

-- there were too many already
pub repeats_over : (n : ℕ) (a : List ℕ) (from top : ℕ) → 1 ≤ n → most_words < top → Repeats n a a from top top
repeats_over n a from top least h =
    record {
      is = λ ws before f p.
          record {
            sized = p.sized;
            low = p.low;
            count = λ y. absurd (omega arith);
            stand = λ y. absurd (omega arith);
            over = λ y. omega (arith, p.over h, at_least n ws least);
          };
    }
  where
    at_least : (m : ℕ) (ws : List ℕ) → 1 ≤ m → length ws ≤ length (times m ws)
    at_least zero ws g = absurd (omega arith)
    at_least (suc m) ws g = omega (arith, length-append ws (times m ws))

-- as many words as there are at most to copy
pub few : (m d : ℕ) → m ≤ 99998 → d ≤ 4096 → m * d ≤ 99998 * 4096
few m d g h = mul-le-mul g h

pub fits_or_not : (r : ℕ) → (r ≤ most_words) ⊎ (most_words < r)
fits_or_not r = go (leb r most_words) refl
  where
    go : (b : Bool) → leb r most_words ≡ b → (r ≤ most_words) ⊎ (most_words < r)
    go true e = inl (leb-true r most_words e)
    go false e = inr (leb-false r most_words e)

-- the top does not fall
pub once_above : (ws a b : List ℕ) (top r : ℕ) → top ≤ most_words + 1 → Puts ws a b top r → top ≤ r
once_above ws a b top r l p = go (fits_or_not r)
  where
    go : (r ≤ most_words) ⊎ (most_words < r) → top ≤ r
    go (inl q) = omega (arith, p.count q)
    go (inr q) = omega arith
