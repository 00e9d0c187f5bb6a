-- The 1401's house is lawful, whatever k is; and what a lawful house gives.
-- Assumes nothing.
use mathlib.Core.Path.{◌≡◌, refl, sym, ap, ◌∙◌}
use Prim.Native.Nat.{ℕ, ◌≤◌}
use native.Mathlib.Omega.{arith}
use mathlib.Core.Bool.{Bool, true, false, ◌&&◌}
use mathlib.Core.List.{List, [], ◌∷◌, ◌++◌}
use lib.Dec.{leb}
use borrow.Author.Tests.{leb-true}
use Rattle.number.specs.Number.{digits_rule}
use Rattle.rules_shared.specs.Limits.{limits}
use Rattle.rules_shared.specs.House.{House, house1401}
use Rattle.rules_shared.specs.Lists.{all}
use Rattle.rules_text.specs.Trees.{Digits, Form, form_exits, form_last}
use Rattle.rules_text.specs.Cards.{right_digits}
use Rattle.rules_deck.specs.Judge.{number_within, right13}
use Rattle.rules_deck.specs.Lawful.{Lawful}
use Rattle.rules_text.proofs.CardsLaws.{and_both}
use Rattle.rules_text.proofs.Values.{ten_most}

digits1401 : (k : ℕ) → right_digits (house1401 k) ≡ true → (1 ≤ k) × (k ≤ limits.digits)
unfolding right_digits
digits1401 k e =
    let h = and_both (leb 1 k) (leb k limits.digits) e in
    (leb-true 1 k h.0, leb-true k limits.digits h.1)

pub lawful1401 : (k : ℕ) → Lawful (house1401 k)
unfolding digits_rule
lawful1401 k =
    record {
      edition = refl;
      rule = λ o e. ap (λ (n : ℕ). (house1401 n).rule) e;
      digits = digits1401 k;
      constants = λ e. (omega arith, ten_most k (digits1401 k e).1);
      names = omega arith;
      entries = refl;
      exits = refl;
      height = λ p. omega arith;
    }

module _ {house : House} (lawful : Lawful house) where
  pub name_fits : house.name_length ≤ house.name_bytes
  name_fits = omega (arith, lawful.names, lawful.entries)

all_append : (test : Digits → Bool) (xs ys : List Digits) → all test (xs ++ ys) ≡ (all test xs && all test ys)
all_append test [] ys = refl
all_append test (x ∷ xs) ys = ap (λ (b : Bool). test x && b) (all_append test xs ys) ∙ sym (and_assoc (test x) (all test xs) (all test ys))
  where
    and_assoc : (a b c : Bool) → ((a && b) && c) ≡ (a && (b && c))
    and_assoc true b c = refl
    and_assoc false b c = refl

-- 13 as one test of every number
pub right13_all : {house : House} → Lawful house → (f : Form) → right13 house f ≡ all (number_within false) (form_exits f ++ form_last f)
unfolding right13
right13_all lawful f = rw lawful.exits (sym (all_append (number_within false) (form_exits f) (form_last f)))
