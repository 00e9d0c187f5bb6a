-- Lines in bytes: lines written one after the other, and the paper that they make.
-- Assumes nothing.
use mathlib.Core.Path.{◌≡◌, refl, sym, ap, ◌∙◌, subst}
use mathlib.Core.List.{List, [], ◌∷◌, ◌++◌, append_assoc, append-nil}
use Prim.Native.Nat.{ℕ, zero, suc, ◌+◌, ◌-◌, ◌*◌, ◌≤◌}
use native.Mathlib.Omega.{arith}
use lib.ListN.{length, take, drop, set, length-append, length-drop, take-append-drop}
use lib.Seq.{sets, length-sets, sets-eq, take-append-le, drop-append-le, take_at, drop_at, drop-drop, length-take-le}
use Rattle.rules_formats.specs.Walk.{Columns, line_width, below, room_of, joined_lines}
use Rattle.rules_formats.proofs.Lengths.{Wide}
use Rattle.run_registers.specs.Devices.{lines_from, paper_of}
use Rattle.run_fields.specs.Put.{over}

-- ---- one text after another

sets_append : (xs ys l : List ℕ) (a : ℕ) → sets (sets l a xs) (a + length xs) ys ≡ sets l a (xs ++ ys)
sets_append [] ys l a = let e : a + 0 ≡ a = omega arith in ap (λ (k : ℕ). sets l k ys) e
sets_append (x ∷ xs) ys l a =
    let e : a + suc (length xs) ≡ suc a + length xs = omega arith in
    ap (λ (k : ℕ). sets (sets (set l a x) (suc a) xs) k ys) e ∙ sets_append xs ys (set l a x) (suc a)

pub over_over : (xs ys l : List ℕ) (a b : ℕ) → b ≡ a + length xs → over b ys (over a xs l) ≡ over a (xs ++ ys) l
unfolding over
over_over xs ys l a b e = ap (λ (k : ℕ). sets (sets l a xs) k ys) e ∙ sets_append xs ys l a

pub over_none : (l : List ℕ) (a : ℕ) → l ≡ over a [] l
unfolding over
over_none l a = refl

pub over_length : (xs l : List ℕ) (a : ℕ) → length (over a xs l) ≡ length l
unfolding over
over_length xs l a = length-sets l a xs

-- ---- lines, each of 132 columns

pub joined_length : (ls more : List Columns) → Wide line_width (ls ++ more) → length (joined_lines ls) ≡ line_width * length ls
joined_length [] more w = omega arith
joined_length (l ∷ ls) more w = omega (arith, length-append l (joined_lines ls), w.0, joined_length ls more w.1)

pub joined_one_more : (ls : List Columns) (l : Columns) → joined_lines (ls ++ (l ∷ [])) ≡ joined_lines ls ++ l
joined_one_more [] l = append-nil l
joined_one_more (k ∷ ls) l = ap (λ (x : List ℕ). k ++ x) (joined_one_more ls l) ∙ sym (append_assoc k (joined_lines ls) l)

pub wide_after : (ls : List Columns) (l : Columns) (more : List Columns) → Wide line_width (ls ++ (l ∷ more)) → length l ≡ line_width
wide_after [] l more w = w.0
wide_after (k ∷ ls) l more w = wide_after ls l more w.1

-- ---- the paper

lines_front : (n : ℕ) (xs ys : List ℕ) → length xs ≡ line_width * n → lines_from n (xs ++ ys) ≡ lines_from n xs
lines_front zero xs ys e = refl
lines_front (suc n) xs ys e =
    let h : line_width ≤ length xs = omega arith in
    let more : length (drop line_width xs) ≡ line_width * n = omega (arith, length-drop line_width xs) in
    ap (λ (l : Columns). l ∷ lines_from n (drop line_width (xs ++ ys))) (take-append-le line_width xs ys h)
    ∙ ap (λ (b : List ℕ). take line_width xs ∷ lines_from n b) (drop-append-le line_width xs ys h)
    ∙ ap (λ (ls : List Columns). take line_width xs ∷ ls) (lines_front n (drop line_width xs) ys more)

lines_split : (m n : ℕ) (b : List ℕ) → lines_from (m + n) b ≡ lines_from m b ++ lines_from n (drop (line_width * m) b)
lines_split zero n b = let e : zero + n ≡ n = omega arith in ap (λ (k : ℕ). lines_from k b) e
lines_split (suc m) n b =
    let e : suc m + n ≡ suc (m + n) = omega arith in
    let f : line_width + line_width * m ≡ line_width * suc m = omega arith in
    ap (λ (k : ℕ). lines_from k b) e
    ∙ ap (λ (ls : List Columns). take line_width b ∷ ls)
    (lines_split m n (drop line_width b) ∙ ap (λ (x : List ℕ). lines_from m (drop line_width b) ++ lines_from n x) (drop-drop (line_width * m) line_width b ∙ ap (λ (k : ℕ). drop k b) f))

lines_joined : (ls : List Columns) (more : List ℕ) → Wide line_width ls → lines_from (length ls) (joined_lines ls ++ more) ≡ ls
lines_joined [] more w = refl
lines_joined (l ∷ ls) more w =
    let a : (l ++ joined_lines ls) ++ more ≡ l ++ (joined_lines ls ++ more) = append_assoc l (joined_lines ls) more in
    ap (λ (b : List ℕ). take line_width b ∷ lines_from (length ls) (drop line_width b)) a
    ∙ ap (λ (x : Columns). x ∷ lines_from (length ls) (drop line_width (l ++ (joined_lines ls ++ more)))) (take_at l (joined_lines ls ++ more) line_width w.0)
    ∙ ap (λ (b : List ℕ). l ∷ lines_from (length ls) b) (drop_at l (joined_lines ls ++ more) line_width w.0)
    ∙ ap (λ (ks : List Columns). l ∷ ks) (lines_joined ls more w.1)

module _ (before : List ℕ) (written : ℕ) (ls : List Columns) (w : Wide line_width ls) (h : written + length ls ≤ room_of before) where
  abbrev at : ℕ
  at = line_width * written

  abbrev after : List ℕ
  after = over at (joined_lines ls) before

  abbrev tail : List ℕ
  tail = drop (at + length (joined_lines ls)) before

  long : length (joined_lines ls) ≡ line_width * length ls
  long = joined_length ls [] (subst (Wide line_width) (sym (append-nil ls)) w)

  fits : at + length (joined_lines ls) ≤ length before
  unfolding room_of
  fits = omega (arith, long, h)

  apart : after ≡ take at before ++ (joined_lines ls ++ tail)
  unfolding over
  apart = sets-eq (joined_lines ls) before at fits ∙ append_assoc (take at before) (joined_lines ls) tail

  front : length (take at before) ≡ at
  front = length-take-le at before (omega (arith, fits))

  pub paper_lines : lines_from (written + length ls) after ≡ lines_from written before ++ ls
  paper_lines =
      lines_split written (length ls) after
      ∙ ap (λ (b : List ℕ). lines_from written b ++ lines_from (length ls) (drop at b)) apart
      ∙ ap (λ (ks : List Columns). ks ++ lines_from (length ls) (drop at (take at before ++ (joined_lines ls ++ tail))))
      (lines_front written (take at before) (joined_lines ls ++ tail) front ∙ sym (lines_front written (take at before) (drop at before) front) ∙ ap (lines_from written) (take-append-drop at before))
      ∙ ap (λ (b : List ℕ). lines_from written before ++ lines_from (length ls) b) (drop_at (take at before) (joined_lines ls ++ tail) at front)
      ∙ ap (λ (ks : List Columns). lines_from written before ++ ks) (lines_joined ls tail w)

  pub paper_long : length after ≡ length before
  paper_long = over_length (joined_lines ls) before at

  pub paper_rest : drop (line_width * (written + length ls)) after ≡ drop (line_width * (written + length ls)) before
  paper_rest =
      let e : line_width * (written + length ls) ≡ at + length (joined_lines ls) = omega (arith, long) in
      let sum : length (take at before ++ joined_lines ls) ≡ at + length (joined_lines ls) = omega (arith, length-append (take at before) (joined_lines ls), front) in
      ap (λ (k : ℕ). drop k after) e
      ∙ ap (λ (b : List ℕ). drop (at + length (joined_lines ls)) b) (apart ∙ sym (append_assoc (take at before) (joined_lines ls) tail))
      ∙ drop_at (take at before ++ joined_lines ls) tail (at + length (joined_lines ls)) sum
      ∙ ap (λ (k : ℕ). drop k before) (sym e)

  pub paper_room : written + length ls ≤ room_of after
  unfolding room_of
  paper_room = omega (arith, h, paper_long)

  pub paper_is : paper_of (written + length ls) after ≡ below (paper_of written before) ls
  unfolding paper_of room_of
  paper_is =
      let room : room_of after - (written + length ls) ≡ room_of before - written - length ls = omega (arith, paper_long) in
      λ i. record { lines = paper_lines i; room = room i }
