-- Words at their places: in the rest of some bytes, and as the book's words.
-- Assumes nothing.
use mathlib.Core.Path.{◌≡◌, refl, sym, ap, ◌∙◌}
use Prim.Native.Nat.{ℕ, zero, suc, ◌+◌, ◌*◌, ◌≤◌}
use native.Mathlib.Nat.{add_assoc}
use native.Mathlib.Omega.{arith}
use mathlib.Core.List.{List, [], ◌∷◌}
use lib.ListN.{length, get_or, drop}
use lib.Seq.{get_or-drop}
use Rattle.rules_object.specs.Bytes.{words_of}
use Rattle.object_words.specs.Word.{word_at}

pub word_drop : (n : ℕ) (s : List ℕ) (a : ℕ) → word_at (drop n s) a ≡ word_at s (n + a)
unfolding word_at
word_drop n s a =
    rw (get_or-drop n s a 0, get_or-drop n s (a + 1) 0, get_or-drop n s (a + 2) 0, get_or-drop n s (a + 3) 0, add_assoc n a 1, add_assoc n a 2, add_assoc n a 3)

-- the word at byte 4 * i is the book's word i
pub word_at_lem : (s : List ℕ) (i : ℕ) → 4 * i + 4 ≤ length s → word_at s (4 * i) ≡ get_or (words_of s) i 0
unfolding word_at
word_at_lem [] i h = absurd (omega arith)
word_at_lem (a ∷ []) i h = absurd (omega arith)
word_at_lem (a ∷ b ∷ []) i h = absurd (omega arith)
word_at_lem (a ∷ b ∷ c ∷ []) i h = absurd (omega arith)
word_at_lem (a ∷ b ∷ c ∷ d ∷ s) zero h = refl
word_at_lem (a ∷ b ∷ c ∷ d ∷ s) (suc i) h =
    let e : 4 * suc i ≡ 4 + 4 * i = omega arith in
    ap (word_at (a ∷ b ∷ c ∷ d ∷ s)) e ∙ sym (word_drop 4 (a ∷ b ∷ c ∷ d ∷ s) (4 * i)) ∙ word_at_lem s i (omega arith)
