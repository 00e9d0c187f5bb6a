-- The entries of DOs, of which the first have their bodies.
-- Assumes nothing.
use mathlib.Core.Path.{◌≡◌, refl, sym, ap, ◌∙◌}
use Prim.Native.Nat.{ℕ, zero, suc, ◌+◌, ◌*◌, ◌≤◌, ◌<◌}
use native.Mathlib.Omega.{arith}
use native.Mathlib.Numerals.{add-one}
use mathlib.Core.List.{List, [], ◌∷◌, ◌++◌, map}
use mathlib.Core.Option.{some}
use lib.ListN.{length, take, get_or, get_elem?, set}
use lib.Seq.{take-set-lt}
use Rattle.rules_shared.specs.House.{House}
use Rattle.rules_object.specs.Object.{Loop}
use Rattle.rules_object.specs.Bytes.{concat, loop_words}
use Rattle.rules_text.specs.Trees.{Statement}
use Rattle.rules_deck.specs.Deck.{Do, dos_of}
use Rattle.rules_deck.specs.Translation.{address_at, loop_entry}
use Rattle.rules_deck.proofs.TestLaws.{clash, at_before}
use Rattle.rules_deck.proofs.Addresses.{at_some}
use Rattle.rules_deck.proofs.DoLaws.{do_at_lem}
use Rattle.final_addresses.specs.Given.{Loops, Starts}
use Rattle.final_addresses.proofs.Lasts.{among_at}
use Rattle.final_addresses.proofs.DeckEnds.{do_position}
use Rattle.take_draft.specs.Sketch.{open_entry}

module _ (deck : List Statement) where
  -- the first i with their bodies
  abbrev pub entered : ℕ → List Do → List Loop
  entered zero ds = map (open_entry deck) ds
  entered (suc i) [] = []
  entered (suc i) (d ∷ ds) = loop_entry deck d ∷ entered i ds

  entered_more : (i : ℕ) (ds : List Do) (d : Do) → get_elem? ds i ≡ some d
      → set (concat (map loop_words (entered i ds))) (4 * i + 3) (address_at deck (suc d.position)) ≡ concat (map loop_words (entered (suc i) ds))
  entered_more i [] d e = absurd (clash (sym e))
  entered_more zero (x ∷ ds) d e =
      let same : x ≡ d = cc in
      ap (λ (y : Do). set (concat (map loop_words (entered zero (x ∷ ds)))) 3 (address_at deck (suc y.position))) (sym same)
  entered_more (suc i) (x ∷ ds) d e =
      let n : 4 * suc i + 3 ≡ suc (suc (suc (suc (4 * i + 3)))) = omega arith in
      ap (λ (m : ℕ). set (concat (map loop_words (entered (suc i) (x ∷ ds)))) m (address_at deck (suc d.position))) n
      ∙ ap (λ (l : List ℕ). loop_words (loop_entry deck x) ++ l) (entered_more i ds d e)

  entered_all : (i : ℕ) (ds : List Do) → length ds ≤ i → entered i ds ≡ map (loop_entry deck) ds
  entered_all zero [] h = refl
  entered_all zero (d ∷ ds) h = absurd (omega arith)
  entered_all (suc i) [] h = refl
  entered_all (suc i) (d ∷ ds) h = ap (λ (l : List Loop). loop_entry deck d ∷ l) (entered_all i ds (omega arith))

module _ {house : House} {deck : List Statement} {loops : List ℕ} {n : ℕ} (told : Loops house deck loops n) where
  -- the body's position is that of a statement, or the one after the last
  pub body_small : (i : ℕ) → i < n → get_or loops (2 * i) 0 < 400
  body_small i h =
      let x = at_some (dos_of deck) i (omega (arith, told.dos_counted)) in
      let d = do_at_lem deck x.0 (among_at (dos_of deck) i x.0 x.1) in
      omega (arith, do_position told i x.0 x.1, at_before deck x.0.position d.at, told.accepted.count)

  pub body_more : {starts : List ℕ} (dos : List ℕ) (i body : ℕ) → i < n → body ≡ get_or loops (2 * i) 0 → Starts deck starts
      → take (4 * n) dos ≡ concat (map loop_words (entered deck i (dos_of deck)))
      → take (4 * n) (set dos (4 * i + 3) (get_or starts (body + 1) 0)) ≡ concat (map loop_words (entered deck (i + 1) (dos_of deck)))
  body_more {starts} dos i body h b at e =
      let x = at_some (dos_of deck) i (omega (arith, told.dos_counted)) in
      let d = do_at_lem deck x.0 (among_at (dos_of deck) i x.0 x.1) in
      let p = b ∙ do_position told i x.0 x.1 in
      let l = at_before deck x.0.position d.at in
      let a = at.at (body + 1) (omega arith) ∙ ap (λ (m : ℕ). address_at deck m) (add-one body ∙ ap suc p) in
      take-set-lt (4 * n) dos (4 * i + 3) (get_or starts (body + 1) 0) (omega arith)
      ∙ ap (λ (l : List ℕ). set l (4 * i + 3) (get_or starts (body + 1) 0)) e
      ∙ ap (λ (v : ℕ). set (concat (map loop_words (entered deck i (dos_of deck)))) (4 * i + 3) v) a
      ∙ entered_more deck i (dos_of deck) x.0 x.1
      ∙ ap (λ (m : ℕ). concat (map loop_words (entered deck m (dos_of deck)))) (sym (add-one i))

  pub body_all : (dos : List ℕ) (i : ℕ) → n ≤ i → take (4 * n) dos ≡ concat (map loop_words (entered deck i (dos_of deck)))
      → take (4 * n) dos ≡ concat (map loop_words (map (loop_entry deck) (dos_of deck)))
  body_all dos i h e = e ∙ ap (λ (l : List Loop). concat (map loop_words l)) (entered_all deck i (dos_of deck) (omega (arith, told.dos_counted)))
