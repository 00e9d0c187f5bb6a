-- What is read as a FORMAT is spelled by the columns that were read.
-- Assumes nothing.
use mathlib.Core.Path.{◌≡◌, refl, sym, ap, ◌∙◌, subst}
use mathlib.Core.Bool.{Bool, true, false, ◌||◌, cond}
use mathlib.Core.List.{List, [], ◌∷◌, ◌++◌, append_assoc}
use mathlib.Core.Option.{Option, none, some}
use Prim.Native.Nat.{ℕ, zero, suc, ◌+◌, ◌-◌, ◌*◌, ◌≤◌}
use native.Mathlib.Omega.{arith}
use borrow.Author.Tests.{leb-true, eqb-true}
use lib.Dec.{leb, eqb}
use lib.ListN.{length, take, drop, take-append-drop}
use lib.Seq.{length-take-le}
use Rattle.rules_formats.specs.Format.{Format, close, number, skip, text, slash, group}
use Rattle.rules_formats.specs.Fields.{blank, digit, is_blank, is_digit}
use Rattle.rules_formats.specs.Punched.{left_paren, right_paren, comma, stroke, letter_i, letter_x, letter_h, opening, Mark, a_blank, a_comma, a_stroke, a_left, a_right, an_i, an_x, an_h, other, a_digit, mark_of, Found, found, bad, provided, number_from, most_number, right_number, Place, first, after_comma, after_slash, after_field, may_field, before, width_of, group_of, counted, after_count, column, list_up_to, list, after, after_word, without_blanks, alone, ended, opened, format_of}
use Rattle.rules_formats.specs.Spelled.{Makes, no_more, with_digit, IsNumber, Number, BeginsWithField, NotEmpty, Before, a_field, no_field, SpellsList, the_end, a_slash, comma_between, one_number, numbers, a_skip, a_text, one_group, groups, Spells}
use Rattle.rules_formats.proofs.FieldLaws.{both}

-- ---- columns

-- what column has a mark
pub data Marked : ℕ → Mark → Type 0 where
  marked_blank : Marked blank a_blank
  marked_comma : Marked comma a_comma
  marked_stroke : Marked stroke a_stroke
  marked_left : Marked left_paren a_left
  marked_right : Marked right_paren a_right
  marked_I : Marked letter_i an_i
  marked_X : Marked letter_x an_x
  marked_H : Marked letter_h an_h
  marked_digit : {d : ℕ} → d ≤ 9 → Marked (digit d) (a_digit d)
  marked_other : {c : ℕ} → Marked c other

one_of : (c k : ℕ) (m rest : Mark) → Marked k m → Marked c rest → Marked c (cond (eqb c k) m rest)
one_of c k m rest p q = go (eqb c k) refl
  where
    go : (b : Bool) → eqb c k ≡ b → Marked c (cond b m rest)
    go true e = subst (λ (x : ℕ). Marked x m) (sym (eqb-true c k e)) p
    go false e = q

pub digit_low : (c : ℕ) → is_digit c ≡ true → 48 ≤ c
digit_low c e = leb-true 48 c (both (leb 48 c) (leb c 57) e).0

pub digit_high : (c : ℕ) → is_digit c ≡ true → c ≤ 57
digit_high c e = leb-true c 57 (both (leb 48 c) (leb c 57) e).1

pub digit_of : (c : ℕ) → is_digit c ≡ true → digit (c - 48) ≡ c
digit_of c e = omega (arith, digit_low c e)

digit_or : (c : ℕ) (rest : Mark) → Marked c rest → Marked c (cond (is_digit c) (a_digit (c - 48)) rest)
digit_or c rest q = go (is_digit c) refl
  where
    go : (b : Bool) → is_digit c ≡ b → Marked c (cond b (a_digit (c - 48)) rest)
    go true e = subst (λ (x : ℕ). Marked x (a_digit (c - 48))) (digit_of c e) (marked_digit (omega (arith, digit_high c e)))
    go false e = q

marked : (c : ℕ) → Marked c (mark_of c)
marked c =
    digit_or c _
    (one_of c _ _ _ marked_blank
    (one_of c _ _ _ marked_comma
    (one_of c _ _ _ marked_stroke
    (one_of c _ _ _ marked_left
    (one_of c _ _ _ marked_right
    (one_of c _ _ _ marked_I
    (one_of c _ _ _ marked_X
    (one_of c _ _ _ marked_H marked_other))))))))

-- ---- numbers

pub data ToldNumber (n : ℕ) (cs : List ℕ) : Found ℕ → Type 0 where
  told_number : {v : ℕ} (t rest : List ℕ) → cs ≡ t ++ rest → Makes n t v → ToldNumber n cs (found v rest)

pub number_told : (n : ℕ) (cs : List ℕ) → ToldNumber n cs (number_from n cs)
number_told n [] = told_number [] [] refl no_more
number_told n (c ∷ cs) = go (λ k. number_told k cs) (is_blank c) (is_digit c) refl refl
  where
    longer : (k : ℕ) (o : Found ℕ) → ((t : List ℕ) (v : ℕ) → Makes k t v → Makes n (c ∷ t) v) → ToldNumber k cs o → ToldNumber n (c ∷ cs) o
    longer k (found v _) make (told_number t rest e m) = told_number (c ∷ t) rest (ap (λ (l : List ℕ). c ∷ l) e) (make t v m)
    longer k bad make x'' = elim x'' [ ]

    go : ((k : ℕ) → ToldNumber k cs (number_from k cs)) → (b d : Bool) → is_blank c ≡ b → is_digit c ≡ d
        → ToldNumber n (c ∷ cs) (cond (b || d) (number_from (cond b n (n * 10 + (c - 48))) cs) (found n (c ∷ cs)))
    go less true d e f =
        longer n _ (λ t v m. subst (λ (x : ℕ). Makes n (x ∷ t) v) (sym (eqb-true c blank e)) (Makes.over_blank m)) (less n)
    go less false true e f =
        longer _ _
        (λ t v m. subst (λ (x : ℕ). Makes n (x ∷ t) v) (digit_of c f) (with_digit (c - 48) (omega (arith, digit_high c f)) m))
        (less (n * 10 + (c - 48)))
    go less false false e f = told_number [] (c ∷ cs) refl no_more

-- a number's first digit
pub first_digit : (d v : ℕ) (t : List ℕ) → d ≤ 9 → Makes d t v → Makes 0 (digit d ∷ t) v
first_digit d v t l m = with_digit d l (subst (λ (x : ℕ). Makes x t v) same m)
  where
    same : d ≡ 0 * 10 + d
    same = omega arith

is_number : (n : ℕ) → right_number n ≡ true → IsNumber n
is_number n e =
    let p = both (leb 1 n) (leb n most_number) e in
    record { least = leb-true 1 n p.0; most = leb-true n most_number p.1 }

-- ---- lists

-- what a place asks of the list after it, but for commas
abbrev pub Fits : Place → Format → Type 0
Fits first f = NotEmpty f
Fits after_comma f = BeginsWithField f
Fits after_slash f = Unit {0}
Fits after_field f = Unit {0}

abbrev pub before_at : Place → Before
before_at first = no_field
before_at after_comma = no_field
before_at after_slash = no_field
before_at after_field = a_field

pub data Told (p : Place) (cs : List ℕ) : Found Format → Type 0 where
  told : {f : Format} (t rest : List ℕ) → cs ≡ t ++ rest → SpellsList (before_at p) t f → Fits p f → Told p cs (found f rest)
  told_bad : Told p cs bad

not_empty : (f : Format) → BeginsWithField f → NotEmpty f
not_empty close b = b
not_empty (number r w f) b = tt
not_empty (skip n f) b = tt
not_empty (text cs f) b = tt
not_empty (slash f) b = tt
not_empty (group r inner f) b = tt

-- a field is where it may stand
field_told : (p : Place) (cs : List ℕ) (o : Found Format) → Told after_comma cs o → Told p cs (provided (may_field p) o)
field_told first cs (found f _) (told t rest e s b) = told t rest e s (not_empty f b)
field_told first cs bad told_bad = told_bad
field_told after_comma cs o q = q
field_told after_slash cs (found f _) (told t rest e s b) = told t rest e s tt
field_told after_slash cs bad told_bad = told_bad
field_told after_field cs o q = told_bad

-- one column more
column_more : (p q : Place) (c : ℕ) (cs : List ℕ) (make : Format → Format) (o : Found Format)
    → ((t : List ℕ) (f : Format) → SpellsList (before_at q) t f → Fits q f → SpellsList (before_at p) (c ∷ t) (make f))
    → ((f : Format) → Fits q f → Fits p (make f)) → Told q cs o → Told p (c ∷ cs) (before make o)
column_more p q c cs make (found f _) h k (told t rest e s b) = told (c ∷ t) rest (ap (λ (l : List ℕ). c ∷ l) e) (h t f s b) (k f b)
column_more p q c cs make bad h k told_bad = told_bad

module _ (go : Place → List ℕ → Found Format) (goes : (p : Place) (cs : List ℕ) → Told p cs (go p cs)) where
  -- A field is `wrap` of the columns t, and what follows it is read from the rest.
  follow_told : (wrap : List ℕ → List ℕ) → ((a b : List ℕ) → wrap (a ++ b) ≡ wrap a ++ b)
      → (cs t left : List ℕ) → cs ≡ t ++ left
      → (make : Format → Format) → ((u : List ℕ) (f : Format) → SpellsList a_field u f → SpellsList no_field (wrap (t ++ u)) (make f))
      → ((f : Format) → BeginsWithField (make f)) → Told after_comma (wrap cs) (before make (go after_field left))
  follow_told wrap over cs t left e make h k = with_rest (go after_field left) (goes after_field left)
    where
      with_rest : (o : Found Format) → Told after_field left o → Told after_comma (wrap cs) (before make o)
      with_rest (found f _) (told u rest e' s b) =
          told (wrap (t ++ u)) rest
          (ap wrap (e ∙ ap (λ (l : List ℕ). t ++ l) e' ∙ sym (append_assoc t u rest)) ∙ over (t ++ u) rest)
          (h u f s) (k f)
      with_rest bad told_bad = told_bad

  width_told : (wrap : List ℕ → List ℕ) → ((a b : List ℕ) → wrap (a ++ b) ≡ wrap a ++ b) → (r : ℕ)
      → ((w : ℕ) (t u : List ℕ) (f : Format) → Number t w → SpellsList a_field u f → SpellsList no_field (wrap (t ++ u)) (number r w f))
      → (cs : List ℕ) → Told after_comma (wrap cs) (width_of go r (number_from 0 cs))
  width_told wrap over r h cs = with_number (number_from 0 cs) (number_told 0 cs)
    where
      with_number : (o : Found ℕ) → ToldNumber 0 cs o → Told after_comma (wrap cs) (width_of go r o)
      with_number (found w _) (told_number t rest e m) = when (right_number w) refl
        where
          when : (b : Bool) → right_number w ≡ b → Told after_comma (wrap cs) (provided b (before (number r w) (go after_field rest)))
          when true g =
              follow_told wrap over cs t rest e (number r w) (λ u f s. h w t u f (record { digits = m; right = is_number w g }) s) (λ f. tt)
          when false g = told_bad
      with_number bad x' = elim x' [ ]

  group_told : (wrap : List ℕ → List ℕ) → ((a b : List ℕ) → wrap (a ++ b) ≡ wrap a ++ b) → (r : ℕ)
      → ((t u : List ℕ) (inner f : Format) → NotEmpty inner → SpellsList no_field t inner → SpellsList a_field u f
      → SpellsList no_field (wrap (t ++ u)) (group r inner f))
      → (cs : List ℕ) → Told after_comma (wrap cs) (group_of go r (go first cs))
  group_told wrap over r h cs = with_inner (go first cs) (goes first cs)
    where
      with_inner : (o : Found Format) → Told first cs o → Told after_comma (wrap cs) (group_of go r o)
      with_inner (found inner _) (told t rest e s b) = follow_told wrap over cs t rest e (group r inner) (λ u f s'. h t u inner f b s s') (λ f. tt)
      with_inner bad told_bad = told_bad

  text_told : (s : List ℕ) (n : ℕ) → Makes 0 s n → IsNumber n → (cs : List ℕ)
      → Told after_comma (s ++ (letter_h ∷ cs)) (provided (leb n (length cs)) (before (text (take n cs)) (go after_field (drop n cs))))
  text_told s n m r cs = when (leb n (length cs)) refl
    where
      when : (b : Bool) → leb n (length cs) ≡ b
          → Told after_comma (s ++ (letter_h ∷ cs)) (provided b (before (text (take n cs)) (go after_field (drop n cs))))
      when true e =
          let long : length (take n cs) ≡ n = length-take-le n cs (leb-true n (length cs) e) in
          follow_told (λ x. s ++ (letter_h ∷ x)) (λ a b. sym (append_assoc s (letter_h ∷ a) b)) cs (take n cs) (drop n cs) (sym (take-append-drop n cs))
          (text (take n cs))
          (λ u f q. a_text (take n cs) (subst (Number s) (sym long) (record { digits = m; right = r })) q) (λ f. tt)
      when false e = told_bad

  counted_told : (s : List ℕ) (n c : ℕ) (k : Mark) (cs : List ℕ) → Marked c k → Makes 0 s n → IsNumber n
      → Told after_comma (s ++ (c ∷ cs)) (counted go n k cs)
  counted_told s n c an_i cs marked_I m r =
      width_told (λ x. s ++ (letter_i ∷ x)) (λ a b. sym (append_assoc s (letter_i ∷ a) b)) n
      (λ w t u f p q. numbers (record { digits = m; right = r }) p q) cs
  counted_told s n c an_x cs marked_X m r =
      follow_told (λ x. s ++ (letter_x ∷ x)) (λ a b. sym (append_assoc s (letter_x ∷ a) b)) cs [] cs refl (skip n)
      (λ u f q. a_skip (record { digits = m; right = r }) q) (λ f. tt)
  counted_told s n c an_h cs marked_H m r = text_told s n m r cs
  counted_told s n c a_left cs marked_left m r =
      group_told (λ x. s ++ (left_paren ∷ x)) (λ a b. sym (append_assoc s (left_paren ∷ a) b)) n
      (λ t u inner f b p q. groups (record { digits = m; right = r }) b p q) cs
  counted_told s n c a_blank cs marked_blank m r = told_bad
  counted_told s n c a_comma cs marked_comma m r = told_bad
  counted_told s n c a_stroke cs marked_stroke m r = told_bad
  counted_told s n c a_right cs marked_right m r = told_bad
  counted_told s n c other cs marked_other m r = told_bad
  counted_told s n c (a_digit d) cs (marked_digit l) m r = told_bad

  count_told : (d : ℕ) (cs : List ℕ) → d ≤ 9 → Told after_comma (digit d ∷ cs) (after_count go (number_from d cs))
  count_told d cs l = with_number (number_from d cs) (number_told d cs)
    where
      with_number : (o : Found ℕ) → ToldNumber d cs o → Told after_comma (digit d ∷ cs) (after_count go o)
      with_number (found n []) (told_number t rest e m) = told_bad
      with_number (found n (c ∷ left)) (told_number t rest e m) =
          subst (λ (l : List ℕ). Told after_comma (digit d ∷ l) (provided (right_number n) (counted go n (mark_of c) left))) (sym e) (when (right_number n) refl)
        where
          when : (b : Bool) → right_number n ≡ b → Told after_comma (digit d ∷ (t ++ (c ∷ left))) (provided b (counted go n (mark_of c) left))
          when true g = counted_told (digit d ∷ t) n c (mark_of c) left (marked c) (first_digit d n t l m) (is_number n g)
          when false g = told_bad
      with_number bad x' = elim x' [ ]

  column_told : (p : Place) (c : ℕ) (k : Mark) (cs : List ℕ) → Marked c k → Told p (c ∷ cs) (column go p k cs)
  column_told p c a_blank cs marked_blank = blank_more (go p cs) (goes p cs)
    where
      blank_more : (o : Found Format) → Told p cs o → Told p (blank ∷ cs) o
      blank_more (found f _) (told t rest e s b) = told (blank ∷ t) rest (ap (λ (l : List ℕ). blank ∷ l) e) (SpellsList.over_blank s) b
      blank_more bad told_bad = told_bad
  column_told first c a_comma cs marked_comma = told_bad
  column_told after_comma c a_comma cs marked_comma = told_bad
  column_told after_slash c a_comma cs marked_comma = told_bad
  column_told after_field c a_comma cs marked_comma = comma_more (go after_comma cs) (goes after_comma cs)
    where
      comma_more : (o : Found Format) → Told after_comma cs o → Told after_field (comma ∷ cs) o
      comma_more (found f _) (told t rest e s b) = told (comma ∷ t) rest (ap (λ (l : List ℕ). comma ∷ l) e) (comma_between b s) tt
      comma_more bad told_bad = told_bad
  column_told first c a_stroke cs marked_stroke = column_more _ _ _ _ slash _ (λ t f s b. a_slash s) (λ f b. tt) (goes after_slash cs)
  column_told after_comma c a_stroke cs marked_stroke = told_bad
  column_told after_slash c a_stroke cs marked_stroke = column_more _ _ _ _ slash _ (λ t f s b. a_slash s) (λ f b. tt) (goes after_slash cs)
  column_told after_field c a_stroke cs marked_stroke = column_more _ _ _ _ slash _ (λ t f s b. a_slash s) (λ f b. tt) (goes after_slash cs)
  column_told first c a_right cs marked_right = told_bad
  column_told after_comma c a_right cs marked_right = told_bad
  column_told after_slash c a_right cs marked_right = told (right_paren ∷ []) cs refl the_end tt
  column_told after_field c a_right cs marked_right = told (right_paren ∷ []) cs refl the_end tt
  column_told p c an_i cs marked_I =
      field_told p _ _ (width_told (λ x. letter_i ∷ x) (λ a b. refl) 1 (λ w t u f n s. one_number n s) cs)
  column_told p c a_left cs marked_left =
      field_told p _ _ (group_told (λ x. left_paren ∷ x) (λ a b. refl) 1 (λ t u inner f b s q. one_group b s q) cs)
  column_told p c (a_digit d) cs (marked_digit l) = field_told p _ _ (count_told d cs l)
  column_told p c an_x cs marked_X = told_bad
  column_told p c an_h cs marked_H = told_bad
  column_told p c other cs marked_other = told_bad

pub list_told : (n : ℕ) (p : Place) (cs : List ℕ) → Told p cs (list_up_to n p cs)
list_told zero p cs = told_bad
list_told (suc n) p [] = told_bad
list_told (suc n) p (c ∷ cs) = column_told (list_up_to n) (list_told n) p c (mark_of c) cs (marked c)

-- ---- the statement

-- the columns before the rest are this word, with blanks anywhere
record Heads (letters cs rest : List ℕ) : Type 0 where
  head : List ℕ
  is : cs ≡ head ++ rest
  word : without_blanks head ≡ letters

after_told : (w : ℕ) (word cs left rest : List ℕ) → after w cs ≡ some left → Heads word left rest → Heads (w ∷ word) cs rest
after_told w word [] left rest e h = let z : ◌≡◌ {A = ℕ} 0 1 = cc in absurd (omega arith)
after_told w word (c ∷ cs) left rest e h = go (λ e'. after_told w word cs left rest e' h) (is_blank c) (eqb c w) refl refl e
  where
    go : (after w cs ≡ some left → Heads (w ∷ word) cs rest) → (a b : Bool) → is_blank c ≡ a → eqb c w ≡ b
        → cond a (after w cs) (cond b (some cs) none) ≡ some left → Heads (w ∷ word) (c ∷ cs) rest
    go less true b p q e' =
        let k = less e' in
        record {
          head = c ∷ k.head;
          is = ap (λ (l : List ℕ). c ∷ l) k.is;
          word = ap (λ (a : Bool). cond a (without_blanks k.head) (c ∷ without_blanks k.head)) p ∙ k.word;
        }
    go less false true p q e' =
        let same : cs ≡ left = cc in
        record {
          head = c ∷ h.head;
          is = ap (λ (l : List ℕ). c ∷ l) (same ∙ h.is);
          word = ap (λ (a : Bool). cond a (without_blanks h.head) (c ∷ without_blanks h.head)) p ∙ (λ i. eqb-true c w q i ∷ h.word i);
        }
    go less false false p q e' = let z : ◌≡◌ {A = ℕ} 0 1 = cc in absurd (omega arith)

none_after : (word rest : List ℕ) → after_word word none ≡ some rest → ⊥
none_after [] rest e = let z : ◌≡◌ {A = ℕ} 0 1 = cc in absurd (omega arith)
none_after (w ∷ word) rest e = let z : ◌≡◌ {A = ℕ} 0 1 = cc in absurd (omega arith)

word_told : (word cs rest : List ℕ) → after_word word (some cs) ≡ some rest → Heads word cs rest
word_told [] cs rest e = let same : cs ≡ rest = cc in record { head = []; is = same; word = refl }
word_told (w ∷ word) cs rest e = go (λ left e'. word_told word left rest e') (after w cs) refl e
  where
    go : ((left : List ℕ) → after_word word (some left) ≡ some rest → Heads word left rest) → (o : Option (List ℕ)) → after w cs ≡ o → after_word word o ≡ some rest → Heads (w ∷ word) cs rest
    go less none p e' = absurd (none_after word rest e')
    go less (some left) p e' = after_told w word cs left rest p (less left e')

-- columns read as a FORMAT spell it
pub read_spelled : (cs : List ℕ) (f : Format) → format_of cs ≡ some f → Spells cs f
unfolding format_of list
read_spelled cs f e = go (after_word opening (some cs)) refl e
  where
    ends : (left : List ℕ) (o : Found Format) → Heads opening cs left → Told first left o → ended o ≡ some f → Spells cs f
    ends left (found g _) h (told t rest e' s b) e'' = when (without_blanks rest) refl e''
      where
        when : (l : List ℕ) → without_blanks rest ≡ l → alone g l ≡ some f → Spells cs f
        when [] p q =
            let same : g ≡ f = cc in
            record {
              head = h.head;
              list = t;
              tail = rest;
              is = h.is ∙ ap (λ (l : List ℕ). h.head ++ l) e';
              word = h.word;
              spelled = subst (SpellsList no_field t) same s;
              some = subst NotEmpty same b;
              blanks = p;
            }
        when (c ∷ l) p q = let z : ◌≡◌ {A = ℕ} 0 1 = cc in absurd (omega arith)
    ends left bad h told_bad e'' = let z : ◌≡◌ {A = ℕ} 0 1 = cc in absurd (omega arith)

    go : (o : Option (List ℕ)) → after_word opening (some cs) ≡ o → opened o ≡ some f → Spells cs f
    go none p e' = let z : ◌≡◌ {A = ℕ} 0 1 = cc in absurd (omega arith)
    go (some left) p e' = ends left (list first left) (word_told opening cs left p) (list_told (length left) first left) e'
