-- Columns are read as a FORMAT exactly if they spell it; every FORMAT that can be punched is read back from its own columns, and no other is ever read.
-- Assumes nothing.
use mathlib.Core.Path.{◌≡◌, refl, sym, ap, ◌∙◌, subst}
use mathlib.Core.Logic.{◌↔◌}
use mathlib.Core.Bool.{Bool, true, false, cond}
use mathlib.Core.List.{List, [], ◌∷◌, ◌++◌, append_assoc, append-nil}
use mathlib.Core.Option.{Option, none, some}
use Prim.Native.Nat.{ℕ, zero, suc, ◌+◌, ◌*◌, ◌/◌, ◌%◌, ◌≤◌}
use native.Mathlib.Omega.{arith}
use borrow.Author.Tests.{eqb-true, eq-eqb}
use lib.Dec.{eqb}
use lib.ListN.{length}
use Rattle.rules_formats.specs.Format.{Format, close, number, skip, text, slash, group}
use Rattle.rules_formats.specs.Fields.{blank, is_blank, numeral_from, numeral}
use Rattle.rules_formats.specs.Punched.{comma, letter_i, opening, first, list, after, after_word, without_blanks, alone, ended, opened, format_of}
use Rattle.rules_formats.specs.Spelled.{Makes, no_more, with_digit, IsNumber, Number, BeginsWithField, Before, a_field, no_field, SpellsList, the_end, a_slash, comma_between, one_number, numbers, a_skip, a_text, one_group, groups, Spells, parted, punch_list, punch, PunchableList, Punchable, Stands, TextsStand}
use Rattle.rules_formats.proofs.PunchedTells.{first_digit, read_spelled}
use Rattle.rules_formats.proofs.PunchedTakes.{list_takes}

-- ---- what is spelled is read

-- the columns after a word, but for blanks
record Past (word : List ℕ) (o : Option (List ℕ)) (u : List ℕ) : Type 0 where
  left : List ℕ
  is : o ≡ some (left ++ u)
  letters : without_blanks left ≡ word

after_takes : (w : ℕ) (word head u : List ℕ) → without_blanks head ≡ w ∷ word → Past word (after w (head ++ u)) u
after_takes w word [] u e = let z : ◌≡◌ {A = ℕ} 0 1 = cc in absurd (omega arith)
after_takes w word (c ∷ head) u e = go (λ e'. after_takes w word head u e') (is_blank c) refl e
  where
    go : (without_blanks head ≡ w ∷ word → Past word (after w (head ++ u)) u) → (b : Bool) → is_blank c ≡ b
        → cond b (without_blanks head) (c ∷ without_blanks head) ≡ w ∷ word → Past word (after w (c ∷ head ++ u)) u
    go less true p q =
        let k = less q in
        record {
          left = k.left;
          is = ap (λ (b : Bool). cond b (after w (head ++ u)) (cond (eqb c w) (some (head ++ u)) none)) p ∙ k.is;
          letters = k.letters;
        }
    go less false p q =
        let same : c ≡ w = cc in
        let others : without_blanks head ≡ word = cc in
        record {
          left = head;
          is = ap (λ (b : Bool). cond b (after w (head ++ u)) (cond (eqb c w) (some (head ++ u)) none)) p
              ∙ ap (λ (b : Bool). cond b (some (head ++ u)) none) (eq-eqb c w same);
          letters = others;
        }

word_takes : (word head u : List ℕ) → without_blanks head ≡ word → Past [] (after_word word (some (head ++ u))) u
word_takes [] head u e = record { left = head; is = refl; letters = e }
word_takes (w ∷ word) head u e =
    let k = after_takes w word head u e in
    let more = word_takes word k.left u k.letters in
    record { left = more.left; is = ap (after_word word) k.is ∙ more.is; letters = more.letters }

blanks_over : {b : Before} {t : List ℕ} {f : Format} (h : List ℕ) → without_blanks h ≡ [] → SpellsList b t f → SpellsList b (h ++ t) f
blanks_over [] e s = s
blanks_over {b} {t} {f} (c ∷ h) e s = go (λ e'. blanks_over h e' s) (is_blank c) refl e
  where
    go : (without_blanks h ≡ [] → SpellsList b (h ++ t) f) → (a : Bool) → is_blank c ≡ a → cond a (without_blanks h) (c ∷ without_blanks h) ≡ [] → SpellsList b (c ∷ h ++ t) f
    go less true p q = subst (λ (x : ℕ). SpellsList b (x ∷ h ++ t) f) (sym (eqb-true c blank p)) (SpellsList.over_blank (less q))
    go less false p q = let z : ◌≡◌ {A = ℕ} 0 1 = cc in absurd (omega arith)

pub spelled_read : (cs : List ℕ) (f : Format) → Spells cs f → format_of cs ≡ some f
unfolding format_of
spelled_read cs f s =
    let p = word_takes opening s.head (s.list ++ s.tail) s.word in
    ap (λ (l : List ℕ). opened (after_word opening (some l))) s.is
    ∙ ap opened (p.is ∙ ap (λ (l : List ℕ). some l) (sym (append_assoc p.left s.list s.tail)))
    ∙ ap ended (list_takes (blanks_over p.left p.letters s.spelled) first refl s.some s.tail)
    ∙ ap (alone f) s.blanks

-- ---- both ways

pub read_exactly : (cs : List ℕ) (f : Format) → (format_of cs ≡ some f) ↔ Spells cs f
read_exactly cs f = (read_spelled cs f, spelled_read cs f)

-- no columns spell two FORMATs
pub one_spelled : (cs : List ℕ) (f g : Format) → Spells cs f → Spells cs g → f ≡ g
one_spelled cs f g s t =
    let e : some f ≡ some g = sym (spelled_read cs f s) ∙ spelled_read cs g t in
    cc

-- 17 exactly: the columns spell no FORMAT
pub none_spelled : (cs : List ℕ) → (format_of cs ≡ none) ↔ ((f : Format) → Spells cs f → ⊥)
none_spelled cs = (one, λ h. other (format_of cs) refl h)
  where
    one : format_of cs ≡ none → (f : Format) → Spells cs f → ⊥
    one e f s =
        let e' : none ≡ some f = sym e ∙ spelled_read cs f s in
        let z : ◌≡◌ {A = ℕ} 0 1 = cc in
        omega arith

    other : (o : Option Format) → format_of cs ≡ o → ((f : Format) → Spells cs f → ⊥) → o ≡ none
    other none e h = refl
    other (some f) e h = absurd (h f (read_spelled cs f e))

-- ---- a FORMAT's own columns

makes_then : {a b c : ℕ} {s t : List ℕ} → Makes a s b → Makes b t c → Makes a (s ++ t) c
makes_then no_more n = n
makes_then (Makes.over_blank m) n = Makes.over_blank (makes_then m n)
makes_then (with_digit d l m) n = with_digit d l (makes_then m n)

numeral_makes : (more q n : ℕ) → n ≤ more → q ≡ n / 10 → Makes 0 (numeral_from more q n) n
numeral_makes zero q n h e = first_digit n n [] (omega arith) no_more
numeral_makes (suc more) zero n h e = first_digit n n [] (omega arith) no_more
numeral_makes (suc more) (suc q) n h e =
    makes_then (numeral_makes more (suc q / 10) (suc q) (omega arith) refl)
    (with_digit (n % 10) (omega arith) (subst (λ (x : ℕ). Makes x [] n) all no_more))
  where
    all : n ≡ suc q * 10 + n % 10
    all = omega arith

numeral_number : (n : ℕ) → IsNumber n → Number (numeral n) n
unfolding numeral
numeral_number n r = record { digits = numeral_makes n (n / 10) n (omega arith) refl; right = r }

with_comma : {t : List ℕ} {f : Format} → BeginsWithField f → SpellsList no_field t f → SpellsList no_field t f × SpellsList a_field (comma ∷ t) f
with_comma b s = (s, comma_between b s)

-- where no field stands before, and after a field
own : (f : Format) → PunchableList f → SpellsList no_field (punch_list f) f × SpellsList a_field (parted f (punch_list f)) f
own close p = (the_end, the_end)
own (number r w f) p = with_comma tt (numbers (numeral_number r p.0) (numeral_number w p.1) (own f p.2).1)
own (skip n f) p = with_comma tt (a_skip (numeral_number n p.0) (own f p.1).1)
own (text cs f) p = with_comma tt (a_text cs (numeral_number (length cs) p.0) (own f p.1).1)
own (slash f) p = (a_slash (own f p).0, a_slash (own f p).0)
own (group r inner f) p = with_comma tt (groups (numeral_number r p.0) p.1 (own inner p.2).0 (own f p.3).1)

pub punch_spelled : (f : Format) → Punchable f → Spells (punch f) f
unfolding punch
punch_spelled f p =
    record {
      head = opening;
      list = punch_list f;
      tail = [];
      is = ap (λ (l : List ℕ). opening ++ l) (sym (append-nil (punch_list f)));
      word = refl;
      spelled = (own f p.list).0;
      some = p.some;
      blanks = refl;
    }

pub punch_read : (f : Format) → Punchable f → format_of (punch f) ≡ some f
punch_read f p = spelled_read (punch f) f (punch_spelled f p)

-- ---- what is read can be punched

one_right : IsNumber 1
one_right = record { least = omega arith; most = omega arith }

list_punchable : {b : Before} {t : List ℕ} {f : Format} → SpellsList b t f → PunchableList f
list_punchable (SpellsList.over_blank s) = list_punchable s
list_punchable the_end = tt
list_punchable (a_slash s) = list_punchable s
list_punchable (comma_between k s) = list_punchable s
list_punchable (one_number n s) = (one_right, n.right, list_punchable s)
list_punchable (numbers k n s) = (k.right, n.right, list_punchable s)
list_punchable (a_skip k s) = (k.right, list_punchable s)
list_punchable (a_text cs k s) = (k.right, list_punchable s)
list_punchable (one_group e s q) = (one_right, e, list_punchable s, list_punchable q)
list_punchable (groups k e s q) = (k.right, e, list_punchable s, list_punchable q)

pub read_punchable : (cs : List ℕ) (f : Format) → format_of cs ≡ some f → Punchable f
read_punchable cs f e = let s = read_spelled cs f e in record { some = s.some; list = list_punchable s.spelled }

-- ---- H fields are columns of the text

stands_left : (columns t u : List ℕ) → Stands columns (t ++ u) → Stands columns t
stands_left columns t u s =
    record { before = s.before; after = u ++ s.after; is = s.is ∙ ap (λ (l : List ℕ). s.before ++ l) (append_assoc t u s.after) }

stands_right : (columns t u : List ℕ) → Stands columns (t ++ u) → Stands columns u
stands_right columns t u s =
    record {
      before = s.before ++ t;
      after = s.after;
      is = s.is ∙ ap (λ (l : List ℕ). s.before ++ l) (append_assoc t u s.after) ∙ sym (append_assoc s.before t (u ++ s.after));
    }

stands_next : (columns : List ℕ) (c : ℕ) (u : List ℕ) → Stands columns (c ∷ u) → Stands columns u
stands_next columns c u s = stands_right columns (c ∷ []) u s

list_stands : {b : Before} {t : List ℕ} {f : Format} (columns : List ℕ) → SpellsList b t f → Stands columns t → TextsStand columns f
list_stands cs (SpellsList.over_blank {t = t} s) h = list_stands cs s (stands_next cs _ t h)
list_stands cs the_end h = tt
list_stands cs (a_slash {t = t} s) h = list_stands cs s (stands_next cs _ t h)
list_stands cs (comma_between {t = t} k s) h = list_stands cs s (stands_next cs _ t h)
list_stands cs (one_number {t = t} {u = u} n s) h = list_stands cs s (stands_right cs (letter_i ∷ t) u h)
list_stands cs (numbers {s = r} {t = t} {u = u} k n s) h = list_stands cs s (stands_right cs (letter_i ∷ t) u (stands_right cs r _ h))
list_stands cs (a_skip {s = r} {u = u} k s) h = list_stands cs s (stands_next cs _ u (stands_right cs r _ h))
list_stands cs (a_text {s = r} {u = u} ds k s) h =
    let both = stands_next cs _ (ds ++ u) (stands_right cs r _ h) in
    (stands_left cs ds u both, list_stands cs s (stands_right cs ds u both))
list_stands cs (one_group {t = t} {u = u} e s q) h =
    let both = stands_next cs _ (t ++ u) h in
    (list_stands cs s (stands_left cs t u both), list_stands cs q (stands_right cs t u both))
list_stands cs (groups {s = r} {t = t} {u = u} k e s q) h =
    let both = stands_next cs _ (t ++ u) (stands_right cs r _ h) in
    (list_stands cs s (stands_left cs t u both), list_stands cs q (stands_right cs t u both))

pub read_texts : (cs : List ℕ) (f : Format) → format_of cs ≡ some f → TextsStand cs f
read_texts cs f e =
    let s = read_spelled cs f e in
    list_stands cs s.spelled (record { before = s.head; after = s.tail; is = s.is })
