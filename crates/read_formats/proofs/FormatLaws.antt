-- The word FORMAT, blanks after the list, and the whole statement.
-- Assumes nothing.
use mathlib.Core.Path.{◌≡◌, refl, sym, ap, ◌∙◌, subst}
use mathlib.Core.Bool.{Bool, true, false, cond}
use mathlib.Core.List.{List, [], ◌∷◌, ◌++◌, map}
use mathlib.Core.Option.{none, some}
use mathlib.Core.Option as book
use Rattle.std.specs.Prelude.{Some, None, Result, Ok, Err}
use Prim.Native.Nat.{ℕ, suc, ◌+◌, ◌≤◌, ◌<◌}
use native.Mathlib.Omega.{arith}
use borrow.Author.Tests.{eq-eqb, ne_eqb}
use lib.Dec.{eqb}
use lib.ListN.{length, take, drop, get_or, drop_of_length-le, length-append}
use Rattle.rules_formats.specs.Format.{Format, close, number, skip, text, slash, group, written_out, times, again_from, again, flat}
use Rattle.rules_formats.specs.Words.{most_words, field_word, end_word, format_words}
use Rattle.rules_formats.specs.Fields.{is_blank}
use Rattle.rules_formats.specs.Punched.{first, list, opening, after, after_word, without_blanks, alone, ended, opened, format_of}
use Rattle.read_formats.specs.Puts.{Puts}
use Rattle.read_formats.specs.declared.Sofar.{Sofar}
use Rattle.read_formats.specs.declared.Words.{Words}
use Rattle.read_formats.specs.declared.FormatError.{FormatError}
use Rattle.read_formats.specs.declared.FormatError.TheVariants.{Bad, Full}
use Rattle.read_formats.specs.Reads.{Ready, Reads, Stood, Alone}
use Rattle.read_formats.specs.Formatted.{Formatted}
use Rattle.read_formats.proofs.NumberLaws.{split}
use Rattle.read_formats.proofs.PutLaws.{puts_both}

module _ (cs : List ℕ) (at w i : ℕ) (k : after w (drop at cs) ≡ after w (drop i cs)) where
  -- ---- a character, with blanks before it

  here : i < length cs → after w (drop at cs) ≡ cond (is_blank (get_or cs i 0)) (after w (drop (i + 1) cs)) (cond (eqb (get_or cs i 0) w) (some (drop (i + 1) cs)) none)
  here h = k ∙ ap (after w) (split cs i h)

  here_full : i < length cs → (get_or cs i 0 ≡ 32 → ⊥) → after w (drop at cs) ≡ cond (eqb (get_or cs i 0) w) (some (drop (i + 1) cs)) none
  here_full h n = here h ∙ ap (λ (b : Bool). cond b (after w (drop (i + 1) cs)) (cond (eqb (get_or cs i 0) w) (some (drop (i + 1) cs)) none)) (ne_eqb (get_or cs i 0) 32 n)

  pub past_there : i < length cs → (get_or cs i 0 ≡ 32 → ⊥) → get_or cs i 0 ≡ w → Stood cs (after w (drop at cs)) (Some (i + 1))
  past_there h n e = record { so = (here_full h n ∙ ap (λ (b : Bool). cond b (some (drop (i + 1) cs)) none) (eq-eqb (get_or cs i 0) w e), omega arith) }

  pub past_other : i < length cs → (get_or cs i 0 ≡ 32 → ⊥) → (get_or cs i 0 ≡ w → ⊥) → Stood cs (after w (drop at cs)) None
  past_other h n e = record { so = here_full h n ∙ ap (λ (b : Bool). cond b (some (drop (i + 1) cs)) none) (ne_eqb (get_or cs i 0) w e) }

  pub past_blank : i < length cs → get_or cs i 0 ≡ 32 → after w (drop at cs) ≡ after w (drop (i + 1) cs)
  past_blank h e = here h ∙ ap (λ (b : Bool). cond b (after w (drop (i + 1) cs)) (cond (eqb (get_or cs i 0) w) (some (drop (i + 1) cs)) none)) (eq-eqb (get_or cs i 0) 32 e)

  pub past_end : length cs ≤ i → Stood cs (after w (drop at cs)) None
  past_end h = record { so = k ∙ ap (after w) (drop_of_length-le cs h) }

module _ (cs : List ℕ) (at i : ℕ) (k : without_blanks (drop at cs) ≡ without_blanks (drop i cs)) where
  -- ---- blanks only

  there : i < length cs → without_blanks (drop at cs) ≡ cond (is_blank (get_or cs i 0)) (without_blanks (drop (i + 1) cs)) (get_or cs i 0 ∷ without_blanks (drop (i + 1) cs))
  there h = k ∙ ap without_blanks (split cs i h)

  pub blanks_more : i < length cs → get_or cs i 0 ≡ 32 → without_blanks (drop at cs) ≡ without_blanks (drop (i + 1) cs)
  blanks_more h e = there h ∙ ap (λ (b : Bool). cond b (without_blanks (drop (i + 1) cs)) (get_or cs i 0 ∷ without_blanks (drop (i + 1) cs))) (eq-eqb (get_or cs i 0) 32 e)

  pub blanks_no : i < length cs → (get_or cs i 0 ≡ 32 → ⊥) → Alone (drop at cs) false
  blanks_no h n =
      record {
        is = λ f. ap (alone f) (there h ∙ ap (λ (b : Bool). cond b (without_blanks (drop (i + 1) cs)) (get_or cs i 0 ∷ without_blanks (drop (i + 1) cs))) (ne_eqb (get_or cs i 0) 32 n));
      }

  pub blanks_all : length cs ≤ i → Alone (drop at cs) true
  blanks_all h = record { is = λ f. ap (alone f) (k ∙ ap without_blanks (drop_of_length-le cs h)) }

-- ---- the word

-- k of its letters are read
pub record Opening (cs : List ℕ) (at k : ℕ) : Type 0 where
  pub is : after_word opening (some cs) ≡ after_word (drop k opening) (some (drop at cs))
  pub within : at ≤ length cs

pub opening_start : (cs : List ℕ) → Opening cs 0 0
opening_start cs = record { is = refl; within = omega arith }

none_after : (word : List ℕ) → after_word word none ≡ none
none_after [] = refl
none_after (w ∷ word) = refl

module _ (cs : List ℕ) (at k : ℕ) (g : Opening cs at k) where
  letter : k < 7 → after_word opening (some cs) ≡ after_word (drop (k + 1) opening) (after (get_or opening k 0) (drop at cs))
  letter h = g.is ∙ ap (λ (l : List ℕ). after_word l (some (drop at cs))) (split opening k h)

  pub opening_no : k < 7 → Stood cs (after (get_or opening k 0) (drop at cs)) None → Stood cs (after_word opening (some cs)) None
  opening_no h e = record { so = letter h ∙ ap (after_word (drop (k + 1) opening)) e.so ∙ none_after (drop (k + 1) opening) }

  pub opening_more : k < 7 → (i : ℕ) → Stood cs (after (get_or opening k 0) (drop at cs)) (Some i) → Opening cs i (k + 1)
  opening_more h i e = record { is = letter h ∙ ap (after_word (drop (k + 1) opening)) e.so.0; within = e.so.1 }

  pub opening_end : 7 ≤ k → Stood cs (after_word opening (some cs)) (Some at)
  opening_end h =
      let e : drop k opening ≡ [] = drop_of_length-le opening h in
      record { so = (g.is ∙ ap (λ (x : List ℕ). after_word x (some (drop at cs))) e, g.within) }

-- ---- the statement

-- all as far on in the table
again_shift : (d x y : ℕ) (f : Format) → again_from (d + x) (d + y) f ≡ d + again_from x y f
again_shift d x y close = refl
again_shift d x y (number r w f) = let e : d + y + r ≡ d + (y + r) = omega arith in ap (λ (z : ℕ). again_from (d + x) z f) e ∙ again_shift d x (y + r) f
again_shift d x y (skip n f) = let e : suc (d + y) ≡ d + suc y = omega arith in ap (λ (z : ℕ). again_from (d + x) z f) e ∙ again_shift d x (suc y) f
again_shift d x y (text cs f) = let e : d + y + length cs ≡ d + (y + length cs) = omega arith in ap (λ (z : ℕ). again_from (d + x) z f) e ∙ again_shift d x (y + length cs) f
again_shift d x y (slash f) = let e : suc (d + y) ≡ d + suc y = omega arith in ap (λ (z : ℕ). again_from (d + x) z f) e ∙ again_shift d x (suc y) f
again_shift d x y (group r inner f) =
    let n = length (times r (written_out inner)) in
    let e : d + y + length (times r (written_out inner)) ≡ d + (y + length (times r (written_out inner))) = omega arith in
    ap (λ (z : ℕ). again_from (d + y) z f) e ∙ again_shift d y (y + n) f

again_there : (top : ℕ) (f : Format) → again_from top top f ≡ top + again f
unfolding again
again_there top f = let e : top ≡ top + 0 = omega arith in ap (λ (z : ℕ). again_from z z f) e ∙ again_shift top 0 0 f

words_are : (top : ℕ) (f : Format) → map field_word (written_out f) ++ (end_word (top + again f) ∷ []) ≡ format_words top (flat f)
unfolding format_words flat
words_are top f = refl

words_long : (top : ℕ) (f : Format) (e : ℕ) → length (format_words top (flat f)) ≡ length (map field_word (written_out f) ++ (e ∷ []))
words_long top f e =
    ap length (sym (words_are top f)) ∙ length-append (map field_word (written_out f)) (end_word (top + again f) ∷ []) ∙ sym (length-append (map field_word (written_out f)) (e ∷ []))

formatted_same : (a b : List ℕ) (top : ℕ) (o q : book.Option Format) (r : Result Words FormatError) → o ≡ q → Formatted a b top q r → Formatted a b top o r
formatted_same a b top o q r e h = subst (λ (x : book.Option Format). Formatted a b top x r) (sym e) h

module _ (cs a : List ℕ) (top : ℕ) where
  pub format_unopened : Stood cs (after_word opening (some cs)) None → Formatted a a top (format_of cs) (Err Bad)
  unfolding format_of
  format_unopened e = record { so = ap opened e.so }

  module _ (at : ℕ) (e : Stood cs (after_word opening (some cs)) (Some at)) where
    is_list : format_of cs ≡ ended (list first (drop at cs))
    unfolding format_of
    is_list = ap opened e.so.0

    -- where the list begins
    abbrev pub begin : Sofar
    begin = record { at = at; top = top; again = top; numbers = false }

    pub ready_list : length a ≡ most_words → top ≤ most_words → Ready cs a begin
    ready_list z l = record { within = e.so.1; sized = z; top = omega arith; again = omega arith }

    pub format_no_list : (b : List ℕ) → Reads cs a b begin (list first (drop at cs)) None → Formatted a b top (format_of cs) (Err Bad)
    format_no_list b h = record { so = is_list ∙ ap ended h.so }

    module _ (b : List ℕ) (u : Sofar) (h : Reads cs a b begin (list first (drop at cs)) (Some u)) where
      is_alone : (r : Bool) → Alone (drop u.at cs) r → format_of cs ≡ cond r (some h.so.f) none
      is_alone r k = is_list ∙ ap ended h.so.is ∙ k.is h.so.f

      pub format_followed : (r : Bool) → Alone (drop u.at cs) r → r ≡ false → Formatted a b top (format_of cs) (Err Bad)
      format_followed r k w = record { so = is_alone r k ∙ ap (λ (x : Bool). cond x (some h.so.f) none) w }

      module _ (r : Bool) (k : Alone (drop u.at cs) r) (w : r ≡ true) (c : List ℕ) (end : ℕ) (p : Puts ((83886080 + u.again) ∷ []) b c u.top end) where
        is_format : format_of cs ≡ some h.so.f
        is_format = is_alone r k ∙ ap (λ (x : Bool). cond x (some h.so.f) none) w

        all : Puts (map field_word (written_out h.so.f) ++ ((83886080 + u.again) ∷ [])) a c top end
        all = puts_both _ _ a b c top u.top end h.so.puts p

        pub format_full : most_words < end → Formatted a c top (format_of cs) (Err Full)
        format_full g =
            formatted_same a c top (format_of cs) (some h.so.f) (Err Full) is_format
            (record { so = omega (arith, all.over g, words_long top h.so.f (83886080 + u.again)) })

        pub format_stored : end ≤ most_words → Formatted a c top (format_of cs) (Ok (record { top = end; numbers = u.numbers }))
        format_stored g =
            let there : u.again ≡ top + again h.so.f = h.so.again (omega (arith, p.count g)) ∙ again_there top h.so.f in
            let same : map field_word (written_out h.so.f) ++ ((83886080 + u.again) ∷ []) ≡ format_words top (flat h.so.f) = ap (λ (x : ℕ). map field_word (written_out h.so.f) ++ ((83886080 + x) ∷ [])) there ∙ words_are top h.so.f in
            formatted_same a c top (format_of cs) (some h.so.f) (Ok (record { top = end; numbers = u.numbers })) is_format
            (record {
              so =
                  record {
                    fits = g;
                    count = all.count g ∙ ap (λ (l : List ℕ). top + length l) same;
                    stand = all.stand g ∙ ap (λ (l : List ℕ). take top a ++ l) same;
                    numbers = h.so.numbers;
                  };
            })
