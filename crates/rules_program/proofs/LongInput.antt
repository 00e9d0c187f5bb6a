-- Of an input that is longer than any control card and deck, the first bytes are enough: its deck's length is wrong whatever follows.
-- Assumes nothing.
use Prim.Native.Nat.{ℕ, ◌+◌, ◌*◌, ◌%◌, ◌≤◌, ◌<◌}
use mathlib.Core.Path.{◌≡◌, refl, sym, ap, ◌∙◌}
use mathlib.Core.Bool.{Bool, true, false, ◌&&◌, cond}
use mathlib.Core.List.{List}
use mathlib.Core.Option.{Option, none, some}
use native.Mathlib.Omega.{arith}
use lib.Dec.{leb, eqb}
use lib.ListN.{length, take, drop, replicate, length-drop}
use lib.Seq.{take-take, length-take-le}
use borrow.Author.Tests.{lt-leb}
use Rattle.rules_shared.specs.Limits.{limits}
use Rattle.rules_shared.specs.House.{House, house1401}
use Rattle.rules_text.specs.Cards.{Carded, cards_refused, right_digits, right_length, card_length, carded}
use Rattle.rules_deck.specs.Compile.{judge_read, read_carded, deck_of, write_read, compiling}
use Rattle.rules_program.specs.Program.{control_of, control_digits, most_bytes, compiled_lines, deck_lines, printed}

false_last : (a b : Bool) → (a && (b && false)) ≡ false
false_last true true = refl
false_last true false = refl
false_last false b = refl

long_wrong : (deck : List ℕ) → limits.cards * card_length < length deck → right_length deck ≡ false
unfolding right_length
long_wrong deck h =
    ap (λ (x : Bool). leb 1 (length deck) && (eqb (length deck % card_length) 0 && x)) (lt-leb (length deck) (limits.cards * card_length) h)
    ∙ false_last (leb 1 (length deck)) (eqb (length deck % card_length) 0)

-- ---- two decks that are both too long

module _ (house : House) (a b : List ℕ) (p : limits.cards * card_length < length a) (q : limits.cards * card_length < length b) where
  carded_long : (deck : List ℕ) → right_length deck ≡ false → carded house deck ≡ cond (right_digits house) (cards_refused 2 0) (cards_refused 1 0)
  unfolding carded
  carded_long deck e = simp e

  compiled_same : (output : List ℕ) → compiling house a output ≡ compiling house b output
  unfolding compiling deck_of
  compiled_same output =
      ap (λ (c : Carded). write_read house output (judge_read (read_carded house c))) (carded_long a (long_wrong a p) ∙ sym (carded_long b (long_wrong b q)))

-- ---- the input

pub printed_long : (n : ℕ) (input : List ℕ) → card_length + limits.cards * card_length < n → n ≤ length input → printed (take n input) ≡ printed input
unfolding printed control_digits
printed_long n input m h =
    ap (λ (c : List ℕ). deck_lines (drop card_length (take n input)) (control_of c)) (take-take card_length n input (omega arith)) ∙ go (control_of (take card_length input))
  where
    go : (c : Option ℕ) → deck_lines (drop card_length (take n input)) c ≡ deck_lines (drop card_length input) c
    go none = refl
    go (some k) =
        ap compiled_lines
        (compiled_same (house1401 k) (drop card_length (take n input)) (drop card_length input)
        (omega (arith, length-drop card_length (take n input), length-take-le n input h)) (omega (arith, length-drop card_length input)) (replicate most_bytes 0))
