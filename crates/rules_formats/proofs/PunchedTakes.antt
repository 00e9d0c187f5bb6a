-- What spells a FORMAT is read as that FORMAT.
-- Assumes nothing.
use mathlib.Core.Path.{◌≡◌, refl, sym, ap, ◌∙◌, subst}
use mathlib.Core.Bool.{Bool, true, false, ◌||◌, cond}
use mathlib.Core.List.{List, [], ◌∷◌, ◌++◌, append_assoc}
use Prim.Native.Nat.{ℕ, zero, suc, ◌+◌, ◌-◌, ◌*◌, ◌≤◌}
use native.Mathlib.Omega.{arith}
use borrow.Author.Tests.{le-leb, eqb-true, ne_eqb}
use lib.Dec.{leb}
use lib.ListN.{length, take, drop, length-append}
use lib.Seq.{take-append_seam, drop-append_seam}
use Rattle.rules_formats.specs.Format.{Format, close, number, skip, text, slash, group}
use Rattle.rules_formats.specs.Fields.{blank, digit, is_blank, is_digit}
use Rattle.rules_formats.specs.Punched.{left_paren, right_paren, comma, stroke, letter_i, letter_x, letter_h, Mark, a_digit, Found, mark_of, found, bad, provided, number_from, most_number, right_number, Place, first, after_comma, after_slash, after_field, may_field, may_comma, may_slash, may_close, before, width_of, group_of, counted, after_count, column, list_up_to, list}
use Rattle.rules_formats.specs.Spelled.{Makes, no_more, with_digit, IsNumber, Number, Before, a_field, no_field, SpellsList, the_end, a_slash, comma_between, one_number, numbers, a_skip, a_text, one_group, groups}
use Rattle.rules_formats.proofs.FieldLaws.{digit_is}
use Rattle.rules_formats.proofs.PunchedTells.{Fits, before_at, Told, told, told_bad, list_told}

-- ---- columns and numbers

mark_of_digit : (c : ℕ) → is_digit c ≡ true → mark_of c ≡ a_digit (c - 48)
mark_of_digit c e = rw (e) refl

digit_mark : (d : ℕ) → d ≤ 9 → mark_of (digit d) ≡ a_digit d
digit_mark d l =
    let same : digit d - 48 ≡ d = omega arith in
    mark_of_digit (digit d) (digit_is d (omega arith)) ∙ ap a_digit same

next_number : (n d : ℕ) (cs : List ℕ) → d ≤ 9 → number_from n (digit d ∷ cs) ≡ number_from (n * 10 + d) cs
next_number n d cs l =
    ap (λ (b : Bool). cond (b || is_digit (digit d)) (number_from (cond b n (n * 10 + (digit d - 48))) cs) (found n (digit d ∷ cs)))
    (ne_eqb (digit d) blank (λ e. omega arith))
    ∙ ap (λ (b : Bool). cond b (number_from (n * 10 + (digit d - 48)) cs) (found n (digit d ∷ cs))) (digit_is d (omega arith))
    ∙ ap (λ (m : ℕ). number_from m cs) same
  where
    same : n * 10 + (digit d - 48) ≡ n * 10 + d
    same = omega arith

number_through : {n v : ℕ} {t : List ℕ} → Makes n t v → (u : List ℕ) → number_from n (t ++ u) ≡ number_from v u
number_through no_more u = refl
number_through (Makes.over_blank m) u = number_through m u
number_through {n} {v} (with_digit {t = t} d l m) u = next_number n d (t ++ u) l ∙ number_through m u

right_number_lem : (n : ℕ) → IsNumber n → right_number n ≡ true
right_number_lem n r = rw (le-leb 1 n r.least, le-leb n most_number r.most) refl

-- ---- lists

-- of these columns, at this place, f is read, and rest is left
record Reads (p : Place) (cs : List ℕ) (f : Format) (rest : List ℕ) : Type 0 where
  at : (m : ℕ) → length cs ≤ m → list_up_to m p cs ≡ found f rest

-- one column, and what stands after it
reads_column : (p : Place) (c : ℕ) (cs : List ℕ) (f : Format) (rest : List ℕ)
    → ((m : ℕ) → length cs ≤ m → column (list_up_to m) p (mark_of c) cs ≡ found f rest) → Reads p (c ∷ cs) f rest
reads_column p c cs f rest h = record { at = go }
  where
    go : (m : ℕ) → length (c ∷ cs) ≤ m → list_up_to m p (c ∷ cs) ≡ found f rest
    go zero l = absurd (omega arith)
    go (suc m) l = h m (omega arith)

blank_before : (p : Place) (cs : List ℕ) (f : Format) (rest : List ℕ) → Reads p cs f rest → Reads p (blank ∷ cs) f rest
blank_before p cs f rest h = reads_column p blank cs f rest h.at

blank_off : (p : Place) (cs : List ℕ) (f : Format) (rest : List ℕ) → Reads p (blank ∷ cs) f rest → Reads p cs f rest
blank_off p cs f rest h = record { at = λ m l. h.at (suc m) (omega arith) }

-- after a number, what is read next is read from where the number ends
record Left (w : ℕ) (u : List ℕ) (f : Format) (rest : List ℕ) : Type 0 where
  left : List ℕ
  is : number_from w u ≡ found w left
  shorter : length left ≤ length u
  reads : Reads after_field left f rest

left_of_lem : (w : ℕ) (u : List ℕ) (f : Format) (rest : List ℕ) → Reads after_field u f rest → Left w u f rest
left_of_lem w [] f rest h = record { left = []; is = refl; shorter = omega arith; reads = h }
left_of_lem w (c ∷ u) f rest h = go (λ k. left_of_lem w u f rest k) (is_blank c) (is_digit c) refl refl
  where
    go : (Reads after_field u f rest → Left w u f rest) → (a b : Bool) → is_blank c ≡ a → is_digit c ≡ b → Left w (c ∷ u) f rest
    go less true b p q =
        let k = less (blank_off after_field u f rest (subst (λ (x : ℕ). Reads after_field (x ∷ u) f rest) (eqb-true c blank p) h)) in
        record {
          left = k.left;
          is = ap (λ (a : Bool). cond (a || is_digit c) (number_from (cond a w (w * 10 + (c - 48))) u) (found w (c ∷ u))) p ∙ k.is;
          shorter = omega (arith, k.shorter);
          reads = k.reads;
        }
    go less false true p q =
        let z : bad ≡ found f rest = ap (λ (k : Mark). column (list_up_to (length u)) after_field k u) (sym (mark_of_digit c q)) ∙ h.at (suc (length u)) (omega arith) in
        let y : ◌≡◌ {A = ℕ} 0 1 = cc in
        absurd (omega arith)
    go less false false p q =
        record {
          left = c ∷ u;
          is = ap (λ (a : Bool). cond (a || is_digit c) (number_from (cond a w (w * 10 + (c - 48))) u) (found w (c ∷ u))) p
              ∙ ap (λ (b : Bool). cond b (number_from (w * 10 + (c - 48)) u) (found w (c ∷ u))) q;
          shorter = omega arith;
          reads = h;
        }

width_reads : (r w : ℕ) (t u : List ℕ) (f : Format) (rest : List ℕ) → Number t w → Reads after_field u f rest
    → (m : ℕ) → length (t ++ u) ≤ m → width_of (list_up_to m) r (number_from 0 (t ++ u)) ≡ found (number r w f) rest
width_reads r w t u f rest n h m l =
    let k = left_of_lem w u f rest h in
    ap (width_of (list_up_to m) r) (number_through n.digits u ∙ k.is)
    ∙ ap (λ (b : Bool). provided b (before (number r w) (list_up_to m after_field k.left))) (right_number_lem w n.right)
    ∙ ap (before (number r w)) (k.reads.at m (omega (arith, k.shorter, length-append t u)))

group_reads : (r : ℕ) (t u : List ℕ) (inner f : Format) (rest : List ℕ) → Reads first (t ++ u) inner u → Reads after_field u f rest
    → (m : ℕ) → length (t ++ u) ≤ m → group_of (list_up_to m) r (list_up_to m first (t ++ u)) ≡ found (group r inner f) rest
group_reads r t u inner f rest g h m l =
    ap (group_of (list_up_to m) r) (g.at m l) ∙ ap (before (group r inner)) (h.at m (omega (arith, length-append t u)))

text_reads : (cs u : List ℕ) (f : Format) (rest : List ℕ) → Reads after_field u f rest
    → (m : ℕ) → length (cs ++ u) ≤ m
    → provided (leb (length cs) (length (cs ++ u))) (before (text (take (length cs) (cs ++ u))) (list_up_to m after_field (drop (length cs) (cs ++ u))))
    ≡ found (text cs f) rest
text_reads cs u f rest h m l =
    ap (λ (b : Bool). provided b (before (text (take (length cs) (cs ++ u))) (list_up_to m after_field (drop (length cs) (cs ++ u)))))
    (le-leb (length cs) (length (cs ++ u)) (omega (arith, length-append cs u)))
    ∙ (λ i. before (text (take-append_seam cs u i)) (list_up_to m after_field (drop-append_seam cs u i)))
    ∙ ap (before (text cs)) (h.at m (omega (arith, length-append cs u)))

-- a field with a number before it
count_reads : (p : Place) → may_field p ≡ true → {s : List ℕ} {z n : ℕ} → z ≡ 0 → Makes z s n → IsNumber n → (c : ℕ) (u : List ℕ)
    → is_blank c || is_digit c ≡ false → (f : Format) (rest : List ℕ)
    → ((m : ℕ) → length u ≤ m → counted (list_up_to m) n (mark_of c) u ≡ found f rest) → Reads p (s ++ (c ∷ u)) f rest
count_reads p may e no_more r c u stop f rest h = absurd (omega (arith, r.least))
count_reads p may e (Makes.over_blank m) r c u stop f rest h = blank_before p _ f rest (count_reads p may e m r c u stop f rest h)
count_reads p may {z = z} {n = n} e (with_digit {t = t} d l m) r c u stop f rest h =
    reads_column p (digit d) (t ++ (c ∷ u)) f rest (λ k g.
    ap (λ (x : Mark). column (list_up_to k) p x (t ++ (c ∷ u))) (digit_mark d l)
    ∙ ap (λ (b : Bool). provided b (after_count (list_up_to k) (number_from d (t ++ (c ∷ u))))) may
    ∙ ap (after_count (list_up_to k))
    (ap (λ (x : ℕ). number_from x (t ++ (c ∷ u))) start ∙ number_through m (c ∷ u)
    ∙ ap (λ (b : Bool). cond b (number_from (cond (is_blank c) n (n * 10 + (c - 48))) u) (found n (c ∷ u))) stop)
    ∙ ap (λ (b : Bool). provided b (counted (list_up_to k) n (mark_of c) u)) (right_number_lem n r)
    ∙ h k (omega (arith, length-append t (c ∷ u))))
  where
    start : d ≡ z * 10 + d
    start = omega arith

-- ---- places

may_field_lem : (p : Place) → before_at p ≡ no_field → may_field p ≡ true
may_field_lem first e = refl
may_field_lem after_comma e = refl
may_field_lem after_slash e = refl
may_field_lem after_field e = let z : ◌≡◌ {A = ℕ} 0 1 = cc in absurd (omega arith)

may_comma_lem : (p : Place) → before_at p ≡ a_field → may_comma p ≡ true
may_comma_lem first e = let z : ◌≡◌ {A = ℕ} 0 1 = cc in absurd (omega arith)
may_comma_lem after_comma e = let z : ◌≡◌ {A = ℕ} 0 1 = cc in absurd (omega arith)
may_comma_lem after_slash e = let z : ◌≡◌ {A = ℕ} 0 1 = cc in absurd (omega arith)
may_comma_lem after_field e = refl

may_slash_lem : (p : Place) (f : Format) → Fits p (slash f) → may_slash p ≡ true
may_slash_lem first f b = refl
may_slash_lem after_comma f b = absurd b
may_slash_lem after_slash f b = refl
may_slash_lem after_field f b = refl

may_close_lem : (p : Place) → Fits p close → may_close p ≡ true
may_close_lem first b = absurd b
may_close_lem after_comma b = absurd b
may_close_lem after_slash b = refl
may_close_lem after_field b = refl

-- t and u before the rest, one after the other
reads_both : (p : Place) (wrap : List ℕ → List ℕ) (t u rest : List ℕ) (f : Format)
    → Reads p (wrap (t ++ (u ++ rest))) f rest → Reads p (wrap ((t ++ u) ++ rest)) f rest
reads_both p wrap t u rest f h = subst (λ (x : List ℕ). Reads p (wrap x) f rest) (sym (append_assoc t u rest)) h

-- the same, with a number before
reads_counted : (p : Place) (s : List ℕ) (c : ℕ) (t u rest : List ℕ) (f : Format)
    → Reads p (s ++ (c ∷ (t ++ (u ++ rest)))) f rest → Reads p ((s ++ (c ∷ (t ++ u))) ++ rest) f rest
reads_counted p s c t u rest f h =
    subst (λ (x : List ℕ). Reads p x f rest) (sym (append_assoc s (c ∷ (t ++ u)) rest)) (reads_both p (λ x. s ++ (c ∷ x)) t u rest f h)

takes : {b : Before} {t : List ℕ} {f : Format} → SpellsList b t f → (p : Place) → before_at p ≡ b → Fits p f → (rest : List ℕ) → Reads p (t ++ rest) f rest
takes (SpellsList.over_blank s) p e b rest = blank_before p _ _ rest (takes s p e b rest)
takes the_end p e b rest = reads_column p right_paren rest close rest (λ m l. ap (λ (a : Bool). provided a (found close rest)) (may_close_lem p b))
takes (a_slash {t = t} {f = f} s) p e b rest =
    let h = takes s after_slash refl tt rest in
    reads_column p stroke (t ++ rest) (slash f) rest (λ m l.
    ap (λ (a : Bool). provided a (before slash (list_up_to m after_slash (t ++ rest)))) (may_slash_lem p f b) ∙ ap (before slash) (h.at m l))
takes (comma_between {t = t} {f = f} k s) p e b rest =
    let h = takes s after_comma refl k rest in
    reads_column p comma (t ++ rest) f rest (λ m l.
    ap (λ (a : Bool). provided a (list_up_to m after_comma (t ++ rest))) (may_comma_lem p e) ∙ h.at m l)
takes (one_number {w = w} {t = t} {u = u} {f = f} n s) p e b rest =
    let h = takes s after_field refl tt rest in
    reads_both p (λ x. letter_i ∷ x) t u rest (number 1 w f)
    (reads_column p letter_i (t ++ (u ++ rest)) (number 1 w f) rest (λ m l.
    ap (λ (a : Bool). provided a (width_of (list_up_to m) 1 (number_from 0 (t ++ (u ++ rest))))) (may_field_lem p e)
    ∙ width_reads 1 w t (u ++ rest) f rest n h m l))
takes (numbers {r = r} {w = w} {s = s} {t = t} {u = u} {f = f} k n q) p e b rest =
    let h = takes q after_field refl tt rest in
    reads_counted p s letter_i t u rest (number r w f)
    (count_reads p (may_field_lem p e) refl k.digits k.right letter_i (t ++ (u ++ rest)) refl (number r w f) rest
    (width_reads r w t (u ++ rest) f rest n h))
takes (a_skip {n = n} {s = s} {u = u} {f = f} k q) p e b rest =
    let h = takes q after_field refl tt rest in
    reads_counted p s letter_x [] u rest (skip n f)
    (count_reads p (may_field_lem p e) refl k.digits k.right letter_x (u ++ rest) refl (skip n f) rest
    (λ m l. ap (before (skip n)) (h.at m l)))
takes (a_text {s = s} {u = u} {f = f} cs k q) p e b rest =
    let h = takes q after_field refl tt rest in
    reads_counted p s letter_h cs u rest (text cs f)
    (count_reads p (may_field_lem p e) refl k.digits k.right letter_h (cs ++ (u ++ rest)) refl (text cs f) rest
    (text_reads cs (u ++ rest) f rest h))
takes (one_group {t = t} {u = u} {inner = inner} {f = f} k s q) p e b rest =
    let g = takes s first refl k (u ++ rest) in
    let h = takes q after_field refl tt rest in
    reads_both p (λ x. left_paren ∷ x) t u rest (group 1 inner f)
    (reads_column p left_paren (t ++ (u ++ rest)) (group 1 inner f) rest (λ m l.
    ap (λ (a : Bool). provided a (group_of (list_up_to m) 1 (list_up_to m first (t ++ (u ++ rest))))) (may_field_lem p e)
    ∙ group_reads 1 t (u ++ rest) inner f rest g h m l))
takes (groups {r = r} {s = s} {t = t} {u = u} {inner = inner} {f = f} k i v q) p e b rest =
    let g = takes v first refl i (u ++ rest) in
    let h = takes q after_field refl tt rest in
    reads_counted p s left_paren t u rest (group r inner f)
    (count_reads p (may_field_lem p e) refl k.digits k.right left_paren (t ++ (u ++ rest)) refl (group r inner f) rest
    (group_reads r t (u ++ rest) inner f rest g h))

-- columns that spell a list, at a place where it may stand, are read as it, and what follows them is left
pub list_takes : {b : Before} {t : List ℕ} {f : Format} → SpellsList b t f → (p : Place) → before_at p ≡ b → Fits p f → (rest : List ℕ) → list p (t ++ rest) ≡ found f rest
unfolding list
list_takes {b} {t} s p e k rest = (takes s p e k rest).at (length (t ++ rest)) (omega arith)

-- ---- the number of columns that bounds the reader is always enough

pub enough : (n : ℕ) (p : Place) (cs : List ℕ) → length cs ≤ n → list_up_to n p cs ≡ list p cs
unfolding list
enough n p cs l = go (list_up_to n p cs) (list_up_to (length cs) p cs) refl refl (list_told n p cs) (list_told (length cs) p cs)
  where
    again : (t rest : List ℕ) (f : Format) (m : ℕ) → length cs ≤ m → cs ≡ t ++ rest → SpellsList (before_at p) t f → Fits p f → list_up_to m p cs ≡ found f rest
    again t rest f m k e s b = (subst (λ (x : List ℕ). Reads p x f rest) (sym e) (takes s p refl b rest)).at m k

    go : (o q : Found Format) → list_up_to n p cs ≡ o → list_up_to (length cs) p cs ≡ q → Told p cs o → Told p cs q → o ≡ q
    go (found f _) q d e (told t rest i s b) u = sym (again t rest f (length cs) (omega arith) i s b) ∙ e
    go bad (found f _) d e told_bad (told t rest i s b) = sym d ∙ again t rest f n l i s b
    go bad bad d e told_bad told_bad = refl
