-- When two names, and two keys, are the same.
-- Assumes nothing.
use mathlib.Core.Path.{◌≡◌, refl, sym, ap, ◌∙◌}
use mathlib.Core.Bool.{true, false, false≢true}
use lib.Dec.{eqb}
use borrow.Author.Tests.{eqb-true, eq-eqb}
use Rattle.rules_text.specs.Trees.{Name}
use Rattle.rules_deck.specs.Deck.{same_name}
use Rattle.rules_deck.specs.Meaning.{Key, plain, element_at, same_key}
use Rattle.rules_text.proofs.Readers.{both_true}
use Rattle.rules_deck.proofs.TestLaws.{both}
pub use Rattle.rules_deck.proofs.TestLaws.{same_name_lem, name_same}

pub other_name : (x y : Name) → same_name x y ≡ false → x ≡ y → ⊥
other_name x y e p = false≢true (sym e ∙ ap (λ (z : Name). same_name x z) (sym p) ∙ name_same x)

pub same_key_lem : (x y : Key) → same_key x y ≡ true → x ≡ y
same_key_lem (plain x) (plain y) e = ap plain (same_name_lem x y e)
same_key_lem (plain x) (element_at y q) e = absurd (false≢true e)
same_key_lem (element_at x p) (plain y) e = absurd (false≢true e)
same_key_lem (element_at x p) (element_at y q) e =
    let h = both_true (same_name x y) (eqb p q) e in
    let a = same_name_lem x y h.0 in
    let b = eqb-true p q h.1 in
    cc

pub key_same : (x : Key) → same_key x x ≡ true
key_same (plain x) = name_same x
key_same (element_at x p) = both (same_name x x) (eqb p p) (name_same x) (eq-eqb p p refl)

pub other_key : (x y : Key) → same_key x y ≡ false → x ≡ y → ⊥
other_key x y e p = false≢true (sym e ∙ ap (λ (z : Key). same_key x z) (sym p) ∙ key_same x)
