-- A text written part after part: what is still to come is written from where the last part ended.
-- Assumes nothing.
use Prim.Native.Nat.{ℕ, ◌+◌, ◌≤◌, ◌<◌}
use mathlib.Core.Path.{◌≡◌, refl, sym, ap, ◌∙◌, subst}
use mathlib.Core.List.{List, [], ◌∷◌, ◌++◌}
use native.Mathlib.Omega.{arith}
use native.Mathlib.Numerals.{add-one}
use lib.ListN.{length, get_or, set, drop, length-append, drop_of_length-le}
use lib.Seq.{drop-cons}
use borrow.Author.Tests.{ne_eqb}
use Rattle.read_texts.specs.Taking.{over}
use Rattle.read_texts.proofs.TextLaws.{over_none, over_append}
use Rattle.rules_text.specs.Cards.{without_blanks}
use Rattle.print_numbers.specs.Puts.{Room, Puts}
use Rattle.print_numbers.proofs.PutLaws.{puts_length, one_byte}

pub record Going (whole : List ℕ) (at : ℕ) (before out : List ℕ) (n : ℕ) (rest : List ℕ) : Type 0 where
  pub same : over at whole before ≡ over n rest out
  pub count : at + length whole ≡ n + length rest
  pub long : length out ≡ length before

pub going_start : (whole : List ℕ) (at : ℕ) (before : List ℕ) → Going whole at before before at whole
going_start whole at before = record { same = refl; count = refl; long = refl }

module _ {whole : List ℕ} {at : ℕ} {before out : List ℕ} {n : ℕ} where
  pub going_room : (a rest : List ℕ) → Going whole at before out n (a ++ rest) → Room whole at before → Room a n out
  going_room a rest g r = record { fits = omega (arith, g.count, g.long, r.fits, length-append a rest) }

  pub going_on : (a rest : List ℕ) {out' : List ℕ} {n' : ℕ} → Going whole at before out n (a ++ rest) → Puts a n out out' n' → Going whole at before out' n' rest
  going_on a rest {out'} {n'} g p =
      record {
        same =
            g.same
            ∙ over_append n a rest out
            ∙ ap (λ (o : List ℕ). over (n + length a) rest o) (sym p.put)
            ∙ ap (λ (k : ℕ). over k rest out') (sym p.end);
        count = omega (arith, g.count, p.end, length-append a rest);
        long = puts_length a p ∙ g.long;
      }

  pub going_as : {a b : List ℕ} → a ≡ b → Going whole at before out n a → Going whole at before out n b
  going_as e g = subst (λ (l : List ℕ). Going whole at before out n l) e g

  pub going_end : {rest : List ℕ} → rest ≡ [] → Going whole at before out n rest → Puts whole at before out n
  going_end e g =
      let h = going_as e g in
      record { end = omega (arith, h.count); put = sym (h.same ∙ over_none n out) }

-- ---- a name's bytes, blanks gone: i of them so far

pub record Naming (text : List ℕ) (at : ℕ) (before out : List ℕ) (n i : ℕ) : Type 0 where
  pub going : Going (without_blanks text) at before out n (without_blanks (drop i text))

module _ (text : List ℕ) (at : ℕ) (before : List ℕ) where
  pub naming_start : Naming text at before before at 0
  naming_start = record { going = going_start (without_blanks text) at before }

  module _ (out : List ℕ) (n i : ℕ) (p : Naming text at before out n i) where
    pub naming_end : length text ≤ i → Puts (without_blanks text) at before out n
    naming_end h = going_end (ap without_blanks (drop_of_length-le text h)) p.going

    module _ (h : i < length text) where
      abbrev c : ℕ
      c = get_or text i 0

      abbrev rest : List ℕ
      rest = drop (i + 1) text

      here : drop i text ≡ c ∷ rest
      here = drop-cons text i 0 h ∙ ap (λ (k : ℕ). c ∷ drop k text) (sym (add-one i))

      on : (c ≡ 32 → ⊥) → Going (without_blanks text) at before out n ((c ∷ []) ++ without_blanks rest)
      on b = going_as (ap without_blanks here ∙ simp (ne_eqb c 32 b)) p.going

      pub naming_room : (c ≡ 32 → ⊥) → Room (without_blanks text) at before → n < length out
      naming_room b r = let f = going_room (c ∷ []) (without_blanks rest) (on b) r in omega (arith, f.fits)

      pub naming_blank : (out' : List ℕ) (n' : ℕ) → c ≡ 32 → out' ≡ out → n' ≡ n → Naming text at before out' n' (i + 1)
      naming_blank out' n' b e f =
          subst (λ (o : List ℕ). Naming text at before o n' (i + 1)) (sym e)
          (subst (λ (k : ℕ). Naming text at before out k (i + 1)) (sym f)
          (record { going = going_as (ap without_blanks here ∙ simp b) p.going }))

      pub naming_solid : (out' : List ℕ) (n' : ℕ) → (c ≡ 32 → ⊥) → out' ≡ set out n c → n' ≡ n + 1 → Naming text at before out' n' (i + 1)
      naming_solid out' n' b e f =
          let one : Puts (c ∷ []) n out out' n' = record { end = f; put = e ∙ sym (one_byte c n out) } in
          record { going = going_on (c ∷ []) (without_blanks rest) (on b) one }
