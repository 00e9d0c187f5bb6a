-- One field, comma, slash or parenthesis: what each branch of the code answers is what the book's reader makes of that column.
-- Assumes nothing.
use mathlib.Core.Path.{◌≡◌, refl, sym, ap, ◌∙◌, subst}
use mathlib.Core.Bool.{Bool, true, false, ◌&&◌, ◌||◌, cond}
use mathlib.Core.List.{List, [], ◌∷◌, map}
use Prim.Native.Nat.{ℕ, zero, suc, ◌+◌, ◌-◌, ◌≤◌, ◌<◌}
use native.Mathlib.Omega.{arith}
use borrow.Author.Tests.{le-leb, lt-leb, ne_eqb}
use lib.Dec.{leb, eqb}
use lib.ListN.{length, take, drop, get_or, replicate, drop_of_length-le, length-drop, length-map, length-replicate}
use lib.Seq.{drop-drop}
use Rattle.rules_formats.specs.Format.{Format, close, number, skip, text, slash, I, X, H, new_record, times, again_from, has_number}
use Rattle.rules_formats.specs.Words.{field_word}
use Rattle.rules_formats.specs.Fields.{is_blank, is_digit}
use Rattle.rules_formats.specs.Punched.{left_paren, right_paren, comma, stroke, letter_i, letter_x, letter_h, Mark, a_blank, a_comma, a_stroke, a_left, a_right, an_i, an_x, an_h, other, a_digit, mark_of, Found, found, bad, provided, before, number_from, right_number, Place, after_comma, after_slash, after_field, may_field, may_comma, may_slash, may_close, width_of, counted, after_count, column, list}
use Rattle.rules_formats.proofs.PunchedSteps.{list_none, list_step_lem}
use Rattle.read_formats.specs.Puts.{text_words, Puts, Repeats}
use Rattle.read_formats.specs.declared.Sofar.{Sofar}
use Rattle.read_formats.specs.declared.Run.{Run}
use Rattle.read_formats.specs.declared.Place.{Place as Placed}
use Rattle.read_formats.specs.declared.Place.TheVariants.{AfterComma, AfterSlash, AfterField}
use Rattle.read_formats.specs.declared.Step.{Step}
use Rattle.read_formats.specs.declared.Step.TheVariants.{Closes, Next, Opens}
use Rattle.std.specs.Prelude.{Option, Some, None}
use Rattle.read_formats.specs.Reads.{place_of, Counts, Ready, Ahead, field_at, Steps}
use Rattle.read_formats.proofs.NumberLaws.{split, Counted, counted_none}
use Rattle.read_formats.proofs.PutLaws.{puts_none, puts_same}

-- what is said of one reading is said of another that is equal
pub steps_same : (cs a b : List ℕ) (s : Sofar) (o q : Found Format) (r : Option Step) → o ≡ q → Steps cs a b s q r → Steps cs a b s o r
steps_same cs a b s o q r e h = subst (λ (x : Found Format). Steps cs a b s x r) (sym e) h

pub steps_bad : (cs a b : List ℕ) (s : Sofar) (o : Found Format) → o ≡ bad → Steps cs a b s o None
steps_bad cs a b s o e = record { so = e }

-- ---- small laws

or_true : (b : Bool) → true ≡ (b || true)
or_true true = refl
or_true false = refl

provided_bad : (b : Bool) → bad ≡ provided {A = Format} b bad
provided_bad true = refl
provided_bad false = refl

before_same : (o : Found Format) → o ≡ before (λ f. f) o
before_same (found f rest) = refl
before_same bad = refl

words_repeated : (n w : ℕ) → times n ((16777216 + w) ∷ []) ≡ map field_word (replicate n (I w))
words_repeated zero w = refl
words_repeated (suc n) w = ap (λ (l : List ℕ). (16777216 + w) ∷ l) (words_repeated n w)

words_of_text : (cs : List ℕ) → text_words cs ≡ map field_word (map H cs)
words_of_text [] = refl
words_of_text (c ∷ cs) = ap (λ (l : List ℕ). (50331648 + c) ∷ l) (words_of_text cs)

-- reading goes on at a column, with so many words
pub record Moved (s : Sofar) (column count : ℕ) (t : Sofar) : Type 0 where
  pub there : t.at ≡ column
  pub top : t.top ≡ count
  pub again : t.again ≡ s.again
  pub numbers : t.numbers ≡ s.numbers

pub moved : (s : Sofar) (column count : ℕ) → Moved s column count (record { at = column; top = count; again = s.again; numbers = s.numbers })
moved s column count = record { there = refl; top = refl; again = refl; numbers = refl }

-- ---- marks

abbrev marked : Bool → Bool → Bool → Bool → Bool → Bool → Bool → Bool → Bool → ℕ → Mark
marked d b k s l r i x h c =
    cond d (a_digit (c - 48))
    (cond b a_blank
    (cond k a_comma
    (cond s a_stroke
    (cond l a_left
    (cond r a_right
    (cond i an_i
    (cond x an_x
    (cond h an_h other))))))))

-- after a count, only I, X, H and a parenthesis
pub counted_bad : (n c : ℕ) (cs : List ℕ) → (c ≡ letter_i → ⊥) → (c ≡ left_paren → ⊥) → (c ≡ letter_x → ⊥) → (c ≡ letter_h → ⊥) → counted list n (mark_of c) cs ≡ bad
counted_bad n c cs i l x h =
    ap (λ (m : Mark). counted list n m cs) (λ j. marked (is_digit c) (is_blank c) (eqb c comma) (eqb c stroke) (ne_eqb c left_paren l j) (eqb c right_paren) (ne_eqb c letter_i i j) (ne_eqb c letter_x x j) (ne_eqb c letter_h h j) c)
    ∙ go (is_digit c) (is_blank c) (eqb c comma) (eqb c stroke) (eqb c right_paren)
  where
    go : (d b k s r : Bool) → counted list n (marked d b k s false r false false false c) cs ≡ bad
    go true b k s r = refl
    go false true k s r = refl
    go false false true s r = refl
    go false false false true r = refl
    go false false false false true = refl
    go false false false false false = refl

-- a field begins with I, a parenthesis or a digit
pub field_bad : (c : ℕ) (cs : List ℕ) → (c ≡ letter_i → ⊥) → (c ≡ left_paren → ⊥) → is_digit c ≡ false → field_at (mark_of c) cs ≡ bad
field_bad c cs i l e =
    ap (λ (m : Mark). field_at m cs) (λ j. marked (e j) (is_blank c) (eqb c comma) (eqb c stroke) (ne_eqb c left_paren l j) (eqb c right_paren) (ne_eqb c letter_i i j) (eqb c letter_x) (eqb c letter_h) c)
    ∙ go (is_blank c) (eqb c comma) (eqb c stroke) (eqb c right_paren) (eqb c letter_x) (eqb c letter_h)
  where
    go : (b k s r x h : Bool) → field_at (marked false b k s false r false x h c) cs ≡ bad
    go true k s r x h = refl
    go false true s r x h = refl
    go false false true r x h = refl
    go false false false true x h = refl
    go false false false false true h = refl
    go false false false false false true = refl
    go false false false false false false = refl

-- what is no blank, comma, slash or closing parenthesis is a field, if one may stand there
pub column_field : (p : Place) (c : ℕ) (cs : List ℕ) → (c ≡ 32 → ⊥) → (c ≡ comma → ⊥) → (c ≡ stroke → ⊥) → (c ≡ right_paren → ⊥)
    → column list p (mark_of c) cs ≡ provided (may_field p) (field_at (mark_of c) cs)
column_field p c cs b k s r =
    ap (λ (m : Mark). column list p m cs) same
    ∙ go (is_digit c) (eqb c left_paren) (eqb c letter_i) (eqb c letter_x) (eqb c letter_h)
    ∙ ap (λ (m : Mark). provided (may_field p) (field_at m cs)) (sym same)
  where
    same : mark_of c ≡ marked (is_digit c) false false false (eqb c left_paren) false (eqb c letter_i) (eqb c letter_x) (eqb c letter_h) c
    same = λ j. marked (is_digit c) (ne_eqb c 32 b j) (ne_eqb c comma k j) (ne_eqb c stroke s j) (eqb c left_paren) (ne_eqb c right_paren r j) (eqb c letter_i) (eqb c letter_x) (eqb c letter_h) c

    go : (d l i x h : Bool) → column list p (marked d false false false l false i x h c) cs ≡ provided (may_field p) (field_at (marked d false false false l false i x h c) cs)
    go true l i x h = refl
    go false true i x h = refl
    go false false true x h = refl
    go false false false true h = provided_bad (may_field p)
    go false false false false true = provided_bad (may_field p)
    go false false false false false = provided_bad (may_field p)

module _ (cs a : List ℕ) (s : Sofar) where
  -- ---- the width after nI

  pub width_bad : (at n : ℕ) → Counts cs at 0 None → Steps cs a a s (width_of list n (number_from 0 (drop at cs))) None
  width_bad at n k = record { so = ap (width_of list n) k.is ∙ ap (λ (b : Bool). provided b (before (number n k.v) (list after_field (drop k.end cs)))) (counted_none cs at 0 k) }

  pub width_goes : (at n : ℕ) → Ahead cs a s at n → (w : Run) → Counted cs at 0 w → (b c : List ℕ) (once top : ℕ)
      → Puts ((16777216 + w.value) ∷ []) a b s.top once → Repeats n b c s.top once top
      → Steps cs a c s (width_of list n (number_from 0 (drop at cs))) (Some (Next (record { at = w.at; top = top; again = s.again; numbers = true }) AfterField))
  width_goes at n h w k b c once top p q =
      let same : times n ((16777216 + w.value) ∷ []) ≡ map field_word (replicate n (I w.value)) = words_repeated n w.value in
      record {
        so =
            record {
              make = number n w.value;
              fields = replicate n (I w.value);
              is = ap (width_of list n) k.is ∙ ap (λ (b : Bool). provided b (before (number n w.value) (list after_field (drop w.at cs)))) k.right;
              written = λ f. refl;
              scan = λ x y f. ap (λ (m : ℕ). again_from x (y + m) f) (sym (length-replicate n (I w.value)));
              numbered = λ f. or_true s.numbers;
              puts = puts_same _ _ a c s.top top same (q.is ((16777216 + w.value) ∷ []) a h.ready.top p);
              again = refl;
              onward = omega (arith, h.onward, k.onward);
              within = k.within;
            };
      }

  -- ---- after a count

  module _ (at n : ℕ) (h : Ahead cs a s (at + 1) n) where
    -- the letter
    is : (c : ℕ) → get_or cs at 0 ≡ c → counted list n (mark_of (get_or cs at 0)) (drop (at + 1) cs) ≡ counted list n (mark_of c) (drop (at + 1) cs)
    is c e = ap (λ (x : ℕ). counted list n (mark_of x) (drop (at + 1) cs)) e

    pub count_number : get_or cs at 0 ≡ letter_i → (b : List ℕ) (r : Option Step) → Steps cs a b s (width_of list n (number_from 0 (drop (at + 1) cs))) r
        → Steps cs a b s (counted list n (mark_of (get_or cs at 0)) (drop (at + 1) cs)) r
    count_number e b r k = steps_same cs a b s _ _ r (is letter_i e) k

    pub count_group : get_or cs at 0 ≡ left_paren
        → Steps cs a a s (counted list n (mark_of (get_or cs at 0)) (drop (at + 1) cs)) (Some (Opens (record { at = at + 1; top = s.top; again = s.again; numbers = s.numbers }) n))
    count_group e =
        record {
          so = (is left_paren e, record { words = refl; top = refl; again = refl; numbers = refl; onward = h.onward; within = h.inside }, h.least, h.most);
        }

    pub count_skip : get_or cs at 0 ≡ letter_x → (b : List ℕ) (top : ℕ) → Puts ((33554432 + n) ∷ []) a b s.top top
        → Steps cs a b s (counted list n (mark_of (get_or cs at 0)) (drop (at + 1) cs)) (Some (Next (record { at = at + 1; top = top; again = s.again; numbers = s.numbers }) AfterField))
    count_skip e b top p =
        record {
          so =
              record {
                make = skip n;
                fields = X n ∷ [];
                is = is letter_x e;
                written = λ f. refl;
                scan = λ x y f. let k : suc y ≡ y + 1 = omega arith in ap (λ (m : ℕ). again_from x m f) k;
                numbered = λ f. refl;
                puts = p;
                again = refl;
                onward = h.onward;
                within = h.inside;
              };
        }

    pub count_short : get_or cs at 0 ≡ letter_h → length cs - (at + 1) < n → Steps cs a a s (counted list n (mark_of (get_or cs at 0)) (drop (at + 1) cs)) None
    count_short e l =
        record {
          so =
              is letter_h e
              ∙ ap (λ (b : Bool). provided b (before (text (take n (drop (at + 1) cs))) (list after_field (drop n (drop (at + 1) cs)))))
              (lt-leb n (length (drop (at + 1) cs)) (omega (arith, length-drop (at + 1) cs)));
        }

    pub count_text : get_or cs at 0 ≡ letter_h → n ≤ length cs - (at + 1) → (b : List ℕ) (top : ℕ) → Puts (text_words (take n (drop (at + 1) cs))) a b s.top top
        → Steps cs a b s (counted list n (mark_of (get_or cs at 0)) (drop (at + 1) cs)) (Some (Next (record { at = at + 1 + n; top = top; again = s.again; numbers = s.numbers }) AfterField))
    count_text e l b top p =
        record {
          so =
              record {
                make = text (take n (drop (at + 1) cs));
                fields = map H (take n (drop (at + 1) cs));
                is =
                    is letter_h e
                    ∙ ap (λ (b : Bool). provided b (before (text (take n (drop (at + 1) cs))) (list after_field (drop n (drop (at + 1) cs)))))
                    (le-leb n (length (drop (at + 1) cs)) (omega (arith, length-drop (at + 1) cs)))
                    ∙ ap (λ (x : List ℕ). before (text (take n (drop (at + 1) cs))) (list after_field x)) (drop-drop n (at + 1) cs);
                written = λ f. refl;
                scan = λ x y f. ap (λ (m : ℕ). again_from x (y + m) f) (sym (length-map (take n (drop (at + 1) cs)) H));
                numbered = λ f. refl;
                puts = puts_same _ _ a b s.top top (words_of_text (take n (drop (at + 1) cs))) p;
                again = refl;
                onward = omega (arith, h.onward);
                within = omega (arith, h.inside);
              };
        }

  -- ---- a field

  pub ahead_once : Ready cs a s → s.at < length cs → Ahead cs a s (s.at + 1) 1
  ahead_once r l = record { ready = r; onward = omega arith; inside = omega arith; least = omega arith; most = omega arith }

  pub ahead_counted : Ready cs a s → (d : ℕ) (n : Run) → Counted cs (s.at + 1) d n → n.at < length cs → Ahead cs a s (n.at + 1) n.value
  ahead_counted r d n k h = record { ready = r; onward = omega (arith, k.onward); inside = omega arith; least = k.least; most = k.most }

  module _ (inside : s.at < length cs) where
    -- with no count: I, or a group
    pub field_once : (c : ℕ) → get_or cs s.at 0 ≡ c → field_at (mark_of c) (drop (s.at + 1) cs) ≡ counted list 1 (mark_of c) (drop (s.at + 1) cs) → (b : List ℕ) (r : Option Step)
        → Steps cs a b s (counted list 1 (mark_of (get_or cs s.at 0)) (drop (s.at + 1) cs)) r → Steps cs a b s (field_at (mark_of (get_or cs s.at 0)) (drop (s.at + 1) cs)) r
    field_once c e same b r k =
        steps_same cs a b s _ _ r
        (ap (λ (x : ℕ). field_at (mark_of x) (drop (s.at + 1) cs)) e ∙ same ∙ sym (ap (λ (x : ℕ). counted list 1 (mark_of x) (drop (s.at + 1) cs)) e)) k

    digit_at : (d : ℕ) → 48 ≤ get_or cs s.at 0 → get_or cs s.at 0 ≤ 57 → d + 48 ≡ get_or cs s.at 0
        → field_at (mark_of (get_or cs s.at 0)) (drop (s.at + 1) cs) ≡ after_count list (number_from d (drop (s.at + 1) cs))
    digit_at d l m e =
        let c = get_or cs s.at 0 in
        let is : is_digit (get_or cs s.at 0) ≡ true = ap (λ (b : Bool). b && leb c 57) (le-leb 48 c l) ∙ le-leb c 57 m in
        let same : get_or cs s.at 0 - 48 ≡ d = omega arith in
        ap (λ (b : Bool). field_at (marked b (is_blank c) (eqb c comma) (eqb c stroke) (eqb c left_paren) (eqb c right_paren) (eqb c letter_i) (eqb c letter_x) (eqb c letter_h) c) (drop (s.at + 1) cs)) is
        ∙ ap (λ (x : ℕ). after_count list (number_from x (drop (s.at + 1) cs))) same

    pub field_low : (get_or cs s.at 0 ≡ letter_i → ⊥) → (get_or cs s.at 0 ≡ left_paren → ⊥) → get_or cs s.at 0 < 48 → Steps cs a a s (field_at (mark_of (get_or cs s.at 0)) (drop (s.at + 1) cs)) None
    field_low i l h = record { so = field_bad (get_or cs s.at 0) _ i l (ap (λ (b : Bool). b && leb (get_or cs s.at 0) 57) (lt-leb 48 (get_or cs s.at 0) h)) }

    pub field_high : (get_or cs s.at 0 ≡ letter_i → ⊥) → (get_or cs s.at 0 ≡ left_paren → ⊥) → 48 ≤ get_or cs s.at 0 → 57 < get_or cs s.at 0 → Steps cs a a s (field_at (mark_of (get_or cs s.at 0)) (drop (s.at + 1) cs)) None
    field_high i l g h =
        record {
          so =
              field_bad (get_or cs s.at 0) _ i l
              (ap (λ (b : Bool). b && leb (get_or cs s.at 0) 57) (le-leb 48 (get_or cs s.at 0) g) ∙ lt-leb (get_or cs s.at 0) 57 h);
        }

    module _ (d : ℕ) (l : 48 ≤ get_or cs s.at 0) (m : get_or cs s.at 0 ≤ 57) (e : d + 48 ≡ get_or cs s.at 0) where
      wrong : (v : ℕ) (rest : List ℕ) → right_number v ≡ false → after_count list (found v rest) ≡ bad
      wrong v [] w = refl
      wrong v (c ∷ rest) w = ap (λ (b : Bool). provided b (counted list v (mark_of c) rest)) w

      pub field_wrong : Counts cs (s.at + 1) d None → Steps cs a a s (field_at (mark_of (get_or cs s.at 0)) (drop (s.at + 1) cs)) None
      field_wrong k = record { so = digit_at d l m e ∙ ap (after_count list) k.is ∙ wrong k.v (drop k.end cs) (counted_none cs (s.at + 1) d k) }

      module _ (n : Run) (k : Counted cs (s.at + 1) d n) where
        count_is : field_at (mark_of (get_or cs s.at 0)) (drop (s.at + 1) cs) ≡ after_count list (found n.value (drop n.at cs))
        count_is = digit_at d l m e ∙ ap (after_count list) k.is

        pub field_ends : length cs ≤ n.at → Steps cs a a s (field_at (mark_of (get_or cs s.at 0)) (drop (s.at + 1) cs)) None
        field_ends z = record { so = count_is ∙ ap (λ (x : List ℕ). after_count list (found n.value x)) (drop_of_length-le cs z) }

        pub field_counted : n.at < length cs → (b : List ℕ) (r : Option Step)
            → Steps cs a b s (counted list n.value (mark_of (get_or cs n.at 0)) (drop (n.at + 1) cs)) r
            → Steps cs a b s (field_at (mark_of (get_or cs s.at 0)) (drop (s.at + 1) cs)) r
        field_counted g b r h =
            steps_same cs a b s _ _ r
            (count_is
            ∙ ap (λ (x : List ℕ). after_count list (found n.value x)) (split cs n.at g)
            ∙ ap (λ (x : Bool). provided x (counted list n.value (mark_of (get_or cs n.at 0)) (drop (n.at + 1) cs))) k.right) h

  -- ---- any column of a list

  module _ (p : Placed) where
    pub one_end : length cs ≤ s.at → Steps cs a a s (list (place_of p) (drop s.at cs)) None
    one_end h = record { so = ap (list (place_of p)) (drop_of_length-le cs h) ∙ list_none (place_of p) }

    module _ (ready : Ready cs a s) (inside : s.at < length cs) where
      here : list (place_of p) (drop s.at cs) ≡ column list (place_of p) (mark_of (get_or cs s.at 0)) (drop (s.at + 1) cs)
      here = ap (list (place_of p)) (split cs s.at inside) ∙ list_step_lem (place_of p) (get_or cs s.at 0) (drop (s.at + 1) cs)

      there : (c : ℕ) → get_or cs s.at 0 ≡ c → list (place_of p) (drop s.at cs) ≡ column list (place_of p) (mark_of c) (drop (s.at + 1) cs)
      there c e = here ∙ ap (λ (x : ℕ). column list (place_of p) (mark_of x) (drop (s.at + 1) cs)) e

      -- nothing but the column is passed
      passed : (t : Sofar) → Moved s (s.at + 1) s.top t → (q : Placed) → list (place_of p) (drop s.at cs) ≡ list (place_of q) (drop (s.at + 1) cs)
          → Steps cs a a s (list (place_of p) (drop s.at cs)) (Some (Next t q))
      passed t m q e =
          record {
            so =
                record {
                  make = λ f. f;
                  fields = [];
                  is = e ∙ ap (λ (x : ℕ). list (place_of q) (drop x cs)) (sym m.there) ∙ before_same (list (place_of q) (drop t.at cs));
                  written = λ f. refl;
                  scan = λ x y f. let k : y ≡ y + 0 = omega arith in ap (λ (z : ℕ). again_from x z f) k;
                  numbered = λ f. ap (λ (b : Bool). b || has_number f) m.numbers;
                  puts = subst (λ (z : ℕ). Puts [] a a s.top z) (sym m.top) (puts_none a s.top ready.sized ready.top);
                  again = m.again;
                  onward = omega (arith, m.there);
                  within = omega (arith, m.there);
                };
          }

      pub one_blank : get_or cs s.at 0 ≡ 32 → (t : Sofar) → Moved s (s.at + 1) s.top t → Steps cs a a s (list (place_of p) (drop s.at cs)) (Some (Next t p))
      one_blank e t m = passed t m p (there 32 e)

      pub no_comma : get_or cs s.at 0 ≡ comma → may_comma (place_of p) ≡ false → Steps cs a a s (list (place_of p) (drop s.at cs)) None
      no_comma e w = record { so = there comma e ∙ ap (λ (b : Bool). provided b (list after_comma (drop (s.at + 1) cs))) w }

      pub one_comma : get_or cs s.at 0 ≡ comma → may_comma (place_of p) ≡ true → (t : Sofar) → Moved s (s.at + 1) s.top t → Steps cs a a s (list (place_of p) (drop s.at cs)) (Some (Next t AfterComma))
      one_comma e w t m = passed t m AfterComma (there comma e ∙ ap (λ (b : Bool). provided b (list after_comma (drop (s.at + 1) cs))) w)

      pub no_slash : get_or cs s.at 0 ≡ stroke → may_slash (place_of p) ≡ false → Steps cs a a s (list (place_of p) (drop s.at cs)) None
      no_slash e w = record { so = there stroke e ∙ ap (λ (b : Bool). provided b (before slash (list after_slash (drop (s.at + 1) cs)))) w }

      pub one_slash : get_or cs s.at 0 ≡ stroke → may_slash (place_of p) ≡ true → (b : List ℕ) (top : ℕ) → Puts (67108864 ∷ []) a b s.top top
          → (t : Sofar) → Moved s (s.at + 1) top t → Steps cs a b s (list (place_of p) (drop s.at cs)) (Some (Next t AfterSlash))
      one_slash e w b top q t m =
          record {
            so =
                record {
                  make = slash;
                  fields = new_record ∷ [];
                  is =
                      there stroke e
                      ∙ ap (λ (b : Bool). provided b (before slash (list after_slash (drop (s.at + 1) cs)))) w
                      ∙ ap (λ (x : ℕ). before slash (list after_slash (drop x cs))) (sym m.there);
                  written = λ f. refl;
                  scan = λ x y f. let k : suc y ≡ y + 1 = omega arith in ap (λ (z : ℕ). again_from x z f) k;
                  numbered = λ f. ap (λ (b : Bool). b || has_number f) m.numbers;
                  puts = subst (λ (z : ℕ). Puts (67108864 ∷ []) a b s.top z) (sym m.top) q;
                  again = m.again;
                  onward = omega (arith, m.there);
                  within = omega (arith, m.there);
                };
          }

      pub no_close : get_or cs s.at 0 ≡ right_paren → may_close (place_of p) ≡ false → Steps cs a a s (list (place_of p) (drop s.at cs)) None
      no_close e w = record { so = there right_paren e ∙ ap (λ (b : Bool). provided b (found close (drop (s.at + 1) cs))) w }

      pub one_close : get_or cs s.at 0 ≡ right_paren → may_close (place_of p) ≡ true → (t : Sofar) → Moved s (s.at + 1) s.top t → Steps cs a a s (list (place_of p) (drop s.at cs)) (Some (Closes t))
      one_close e w t m =
          record {
            so = (
              there right_paren e ∙ ap (λ (b : Bool). provided b (found close (drop (s.at + 1) cs))) w ∙ ap (λ (x : ℕ). found close (drop x cs)) (sym m.there),
              record { words = refl; top = m.top; again = m.again; numbers = m.numbers; onward = omega (arith, m.there); within = omega (arith, m.there) },
            );
          }

      module _ (b : get_or cs s.at 0 ≡ 32 → ⊥) (k : get_or cs s.at 0 ≡ comma → ⊥) (t : get_or cs s.at 0 ≡ stroke → ⊥) (r : get_or cs s.at 0 ≡ right_paren → ⊥) where
        some_field : list (place_of p) (drop s.at cs) ≡ provided (may_field (place_of p)) (field_at (mark_of (get_or cs s.at 0)) (drop (s.at + 1) cs))
        some_field = here ∙ column_field (place_of p) (get_or cs s.at 0) (drop (s.at + 1) cs) b k t r

        pub no_field : may_field (place_of p) ≡ false → Steps cs a a s (list (place_of p) (drop s.at cs)) None
        no_field w = record { so = some_field ∙ ap (λ (x : Bool). provided x (field_at (mark_of (get_or cs s.at 0)) (drop (s.at + 1) cs))) w }

        pub one_field : may_field (place_of p) ≡ true → (c : List ℕ) (u : Option Step) → Steps cs a c s (field_at (mark_of (get_or cs s.at 0)) (drop (s.at + 1) cs)) u → Steps cs a c s (list (place_of p) (drop s.at cs)) u
        one_field w c u h = steps_same cs a c s _ _ u (some_field ∙ ap (λ (x : Bool). provided x (field_at (mark_of (get_or cs s.at 0)) (drop (s.at + 1) cs))) w) h
