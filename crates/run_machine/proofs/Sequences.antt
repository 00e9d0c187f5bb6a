-- The last statement at or before an address, line by line. Assumes nothing.
use mathlib.Core.Path.{◌≡◌, refl, sym, ap, ap₂, ◌∙◌}
use mathlib.Core.Bool.{cond}
use mathlib.Core.List.{List}
use Prim.Native.Nat.{ℕ, zero, suc, ◌+◌, ◌-◌, ◌*◌, ◌≤◌, ◌<◌}
use native.Mathlib.Omega.{arith}
use lib.Dec.{leb}
use borrow.Author.Tests.{le-leb, lt-leb}
use Rattle.rules_object.specs.Object.{Line}
use Rattle.rules_object.specs.Calls.{last_at, sequence_of}
use Rattle.object_words.specs.Word.{word_at}
use Rattle.object_contents.specs.declared.Layout.{Layout}
use Rattle.object_contents.specs.Layout.{list_from, line_at, object_at}

module _ (s : List ℕ) (e : Layout) where
  -- what is left of the lines from i on
  abbrev pub rest : ℕ → List Line
  rest i = list_from (e.line_count - i) i (λ j. line_at s (e.lines + 12 * j))

  pub sequence_none : (mark : ℕ) → mark ≡ 0 → 0 ≡ sequence_of (object_at e s).lines mark
  unfolding sequence_of
  sequence_none mark q = ap (sequence_of (object_at e s).lines) (sym q)

  pub sequence_is : (mark address : ℕ) → (mark ≡ 0 → ⊥) → address ≡ mark - 1 → last_at (rest 0) address 0 ≡ sequence_of (object_at e s).lines mark
  unfolding sequence_of object_at
  sequence_is zero address n q = absurd (n refl)
  sequence_is (suc m) address n q =
      let same : address ≡ m = omega arith in
      let all : e.line_count - 0 ≡ e.line_count = omega arith in
      ap₂ (λ k a. last_at (list_from k 0 (λ j. line_at s (e.lines + 12 * j))) a 0) all same

  pub line_more : (i address found : ℕ) → i < e.line_count → last_at (rest i) address found ≡ last_at (rest (i + 1)) address (cond (leb (word_at s (e.lines + 12 * i + 8)) address) (word_at s (e.lines + 12 * i)) found)
  unfolding line_at
  line_more i address found l =
      let k : e.line_count - i ≡ suc (e.line_count - (i + 1)) = omega arith in
      let j : suc i ≡ i + 1 = omega arith in
      ap (λ n. last_at (list_from n i (λ j. line_at s (e.lines + 12 * j))) address found) k
      ∙ ap (λ n. last_at (list_from (e.line_count - (i + 1)) n (λ j. line_at s (e.lines + 12 * j))) address (cond (leb (word_at s (e.lines + 12 * i + 8)) address) (word_at s (e.lines + 12 * i)) found)) j

  pub line_taken : (i address found w v : ℕ) → i < e.line_count → w ≡ word_at s (e.lines + 12 * i + 8) → w ≤ address → v ≡ word_at s (e.lines + 12 * i)
      → last_at (rest i) address found ≡ last_at (rest (i + 1)) address v
  line_taken i address found w v l q a b =
      line_more i address found l
      ∙ ap₂ (λ t n. last_at (rest (i + 1)) address (cond t n found)) (le-leb (word_at s (e.lines + 12 * i + 8)) address (omega arith)) (sym b)

  pub line_passed : (i address found w : ℕ) → i < e.line_count → w ≡ word_at s (e.lines + 12 * i + 8) → address < w → last_at (rest i) address found ≡ last_at (rest (i + 1)) address found
  line_passed i address found w l q a =
      line_more i address found l
      ∙ ap (λ t. last_at (rest (i + 1)) address (cond t (word_at s (e.lines + 12 * i)) found)) (lt-leb (word_at s (e.lines + 12 * i + 8)) address (omega arith))

  pub lines_over : (i address found : ℕ) → e.line_count ≤ i → last_at (rest i) address found ≡ found
  lines_over i address found l = let k : e.line_count - i ≡ 0 = omega arith in ap (λ n. last_at (list_from n i (λ j. line_at s (e.lines + 12 * j))) address found) k
