-- The laws of putting a card's columns and a statement's text, byte after byte.
-- Assumes nothing.
use Prim.Native.Nat.{ℕ, suc, ◌+◌, ◌-◌, ◌≤◌, ◌<◌}
use mathlib.Core.Path.{◌≡◌, refl, sym, ap, ◌∙◌}
use mathlib.Core.Bool.{true, false}
use mathlib.Core.List.{List, [], ◌∷◌, ◌++◌}
use native.Mathlib.Omega.{arith}
use native.Mathlib.Numerals.{add-one}
use Rattle.std.proofs.Common.{append_assoc}
use borrow.Rule.Slice.PartMut.{put_mid}
use lib.ListN.{length, get_or, set, take, drop, length-append, length-drop, drop_of_length-le}
use lib.Seq.{sets, sets-eq, take_at, drop-cons, drop-drop, length-sets, length-take-le}
use borrow.Author.Tests.{ne_eqb}
use Rattle.rules_text.specs.Cards.{comment, text_columns, read_as, text_of}
use Rattle.rules_text.proofs.CardsLaws.{text_length_lem}
use Rattle.read_texts.specs.Taking.{over, joined, Put}

-- ---- a list put over another

pub over_none : (n : ℕ) (o : List ℕ) → over n [] o ≡ o
unfolding over
over_none n o = refl

pub over_more : (n x : ℕ) (xs o : List ℕ) → over n (x ∷ xs) o ≡ over (n + 1) xs (set o n x)
unfolding over
over_more n x xs o = ap (λ (k : ℕ). sets (set o n x) k xs) (sym (add-one n))

pub over_append : (n : ℕ) (xs ys o : List ℕ) → over n (xs ++ ys) o ≡ over (n + length xs) ys (over n xs o)
over_append n [] ys o =
    let z : n ≡ n + 0 = omega arith in
    ap (λ (l : List ℕ). over n ys l) (sym (over_none n o)) ∙ ap (λ (m : ℕ). over m ys (over n [] o)) z
over_append n (x ∷ xs) ys o =
    let e : n + 1 + length xs ≡ n + suc (length xs) = omega arith in
    over_more n x (xs ++ ys) o
    ∙ over_append (n + 1) xs ys (set o n x)
    ∙ ap (λ (l : List ℕ). over (n + 1 + length xs) ys l) (sym (over_more n x xs o))
    ∙ ap (λ (m : ℕ). over m ys (over n (x ∷ xs) o)) e

-- Where there is room, what is stored stands there.
pub over_stands : (xs o : List ℕ) → length xs ≤ length o → take (length xs) (over 0 xs o) ≡ xs
unfolding over
over_stands xs o h =
    let r : 0 + length xs ≤ length o = omega arith in
    ap (take (length xs)) (sets-eq xs o 0 r) ∙ take_at xs (drop (0 + length xs) o) (length xs) refl

-- Where there is room, what is copied is stored.
pub over_copied : (n k : ℕ) (xs raw : List ℕ) → length xs ≡ k → n + k ≤ length raw → put_mid n (n + k - n) raw xs ≡ over n xs raw
unfolding over
over_copied n k xs raw e h =
    let m : n + k - n ≡ length xs = omega arith in
    let r : n + length xs ≤ length raw = omega arith in
    ap (λ (j : ℕ). put_mid n j raw xs) m ∙ ap (λ (l : List ℕ). take n raw ++ (xs ++ l)) (drop-drop (length xs) n raw) ∙ sym (append_assoc (take n raw) xs _) ∙ sym (sets-eq xs raw n r)

over_long : (n : ℕ) (xs o : List ℕ) → length (over n xs o) ≡ length o
unfolding over
over_long n xs o = length-sets o n xs

-- ---- a text

pub text_none : text_of [] ≡ []
unfolding text_of
text_none = refl

text_blank : (c : ℕ) (s : List ℕ) → c ≡ 32 → text_of (c ∷ s) ≡ text_of s
unfolding text_of
text_blank c s e = simp e

text_solid : (c : ℕ) (s : List ℕ) → (c ≡ 32 → ⊥) → text_of (c ∷ s) ≡ read_as c ∷ text_of s
unfolding text_of
text_solid c s n = simp (ne_eqb c 32 n)

pub as_star : (c : ℕ) → c ≡ 36 → 42 ≡ read_as c
as_star c e = sym (simp e)

pub as_itself : (c : ℕ) → (c ≡ 36 → ⊥) → c ≡ read_as c
as_itself c n = sym (simp (ne_eqb c 36 n))

-- ---- columns 7-72 of cards

-- the cards before i are put, the rest is still to come from n on
pub record Putting (cards : List (List ℕ)) (before raw : List ℕ) (n i : ℕ) : Type 0 where
  pub same : over 0 (joined cards) before ≡ over n (joined (drop i cards)) raw
  pub count : length (joined cards) ≡ n + length (joined (drop i cards))

pub putting_end : (cards : List (List ℕ)) (before raw : List ℕ) (n i : ℕ) → Putting cards before raw n i → length cards ≤ i → Put (joined cards) before raw n
putting_end cards before raw n i p h =
    let e : joined (drop i cards) ≡ [] = ap joined (drop_of_length-le cards h) in
    let z = ap (length {A = ℕ}) e in
    record { count = omega (arith, p.count); put = sym (p.same ∙ ap (λ (s : List ℕ). over n s raw) e ∙ over_none n raw) }

module _ (cards : List (List ℕ)) (before raw : List ℕ) (n i : ℕ) (p : Putting cards before raw n i) (h : i < length cards) where
  abbrev card : List ℕ
  card = get_or cards i []

  abbrev others : List (List ℕ)
  others = drop (i + 1) cards

  at_card : drop i cards ≡ card ∷ others
  at_card = drop-cons cards i [] h ∙ ap (λ (k : ℕ). card ∷ drop k cards) (sym (add-one i))

  pub putting_past : comment card ≡ true → Putting cards before raw n (i + 1)
  putting_past c =
      let e : joined (drop i cards) ≡ joined others = ap joined at_card ∙ simp c in
      let z = ap (length {A = ℕ}) e in
      record { same = p.same ∙ ap (λ (s : List ℕ). over n s raw) e; count = omega (arith, p.count) }

  module _ (c : comment card ≡ false) (l : length card ≡ 80) where
    joined_text : joined (drop i cards) ≡ text_columns card ++ joined others
    joined_text = ap joined at_card ∙ simp c

    columns : length (text_columns card) ≡ 66
    columns = length-take-le 66 (drop 6 card) (omega (arith, length-drop 6 card))

    pub putting_room : length (joined cards) ≤ 660 → n + 66 ≤ 660
    putting_room m =
        let z = ap (length {A = ℕ}) joined_text ∙ length-append (text_columns card) (joined others) in
        omega (arith, p.count, columns)

    pub putting_on : length before ≡ 660 → length (joined cards) ≤ 660 → Putting cards before (put_mid n (n + 66 - n) raw (text_columns card)) (n + 66) (i + 1)
    putting_on w r =
        let o : length raw ≡ 660 = sym (over_long n (joined (drop i cards)) raw) ∙ sym (ap length p.same) ∙ over_long 0 (joined cards) before ∙ w in
        let b = putting_room r in
        let t = over_copied n 66 (text_columns card) raw columns (omega arith) in
        let z = ap (length {A = ℕ}) joined_text ∙ length-append (text_columns card) (joined others) in
        let m : n + length (text_columns card) ≡ n + 66 = omega (arith, columns) in
        record {
          same =
              p.same ∙ ap (λ (s : List ℕ). over n s raw) joined_text ∙ over_append n (text_columns card) (joined others) raw
              ∙ ap (λ (k : ℕ). over k (joined others) (over n (text_columns card) raw)) m ∙ ap (over (n + 66) (joined others)) (sym t);
          count = omega (arith, p.count, columns);
        }

-- ---- the text of what is punched

-- what is before i is written, the rest is still to come from n on
pub record Writing (raw before text : List ℕ) (n i : ℕ) : Type 0 where
  pub same : over 0 (text_of raw) before ≡ over n (text_of (drop i raw)) text
  pub count : length (text_of raw) ≡ n + length (text_of (drop i raw))

module _ (raw before : List ℕ) where
  pub writing_start : Writing raw before before 0 0
  writing_start = record { same = refl; count = omega arith }

  module _ (text : List ℕ) (n i : ℕ) (p : Writing raw before text n i) where
    pub writing_end : length raw ≤ i → Put (text_of raw) before text n
    writing_end h =
        let e : text_of (drop i raw) ≡ [] = ap text_of (drop_of_length-le raw h) ∙ text_none in
        let z = ap (length {A = ℕ}) e in
        record { count = omega (arith, p.count); put = sym (p.same ∙ ap (λ (s : List ℕ). over n s text) e ∙ over_none n text) }

    module _ (h : i < length raw) where
      abbrev c : ℕ
      c = get_or raw i 0

      abbrev rest : List ℕ
      rest = drop (i + 1) raw

      at_byte : drop i raw ≡ c ∷ rest
      at_byte = drop-cons raw i 0 h ∙ ap (λ (k : ℕ). c ∷ drop k raw) (sym (add-one i))

      solid : (c ≡ 32 → ⊥) → text_of (drop i raw) ≡ read_as c ∷ text_of rest
      solid s = ap text_of at_byte ∙ text_solid c rest s

      pub writing_room : length raw ≤ 660 → (c ≡ 32 → ⊥) → n < 660
      writing_room m s =
          let z = ap (length {A = ℕ}) (solid s) in
          omega (arith, p.count, text_length_lem raw)

      pub writing_blank : (text' : List ℕ) (n' : ℕ) → c ≡ 32 → text' ≡ text → n' ≡ n → Writing raw before text' n' (i + 1)
      writing_blank text' n' b t m =
          let e : text_of (drop i raw) ≡ text_of rest = ap text_of at_byte ∙ text_blank c rest b in
          let z = ap (length {A = ℕ}) e in
          record {
            same = p.same ∙ ap (λ (s : List ℕ). over n s text) e ∙ (cc);
            count = omega (arith, p.count);
          }

      pub writing_solid : (text' : List ℕ) (n' x : ℕ) → (c ≡ 32 → ⊥) → x ≡ read_as c → text' ≡ set text n x → n' ≡ n + 1 → Writing raw before text' n' (i + 1)
      writing_solid text' n' x s q t m =
          let e = solid s in
          let z = ap (length {A = ℕ}) e in
          record {
            same = p.same ∙ ap (λ (s : List ℕ). over n s text) e ∙ over_more n (read_as c) (text_of rest) text ∙ (cc);
            count = omega (arith, p.count);
          }
