-- Exits one by one, and the operands that name them.
-- Assumes nothing.
use mathlib.Core.Path.{◌≡◌, ◌∙◌}
use Prim.Native.Nat.{ℕ, suc, ◌+◌, ◌-◌, ◌*◌, ◌≤◌, ◌<◌}
use native.Mathlib.Numerals.{add-one}
use native.Mathlib.Omega.{arith}
use mathlib.Core.Bool.{Bool, false, ◌&&◌}
use mathlib.Core.List.{List}
use lib.Dec.{ltb, leb}
use lib.ListN.{length, take, drop, get_or-eq_default}
use lib.Seq.{drop-cons}
use Rattle.rules_object.specs.Operations.{targets}
use Rattle.object_words.specs.Word.{word_at}
use Rattle.object_contents.specs.declared.Layout.{Layout}
use borrow.Author.Tests.{lt-ltb, le-ltb}
use Rattle.object_contents.specs.Layout.{object_at}
use Rattle.object_contents.proofs.Entries.{exit_length, code_length, exit_at_lem}
use Rattle.check_operands.specs.Operands.{operand_right}

module _ (e : Layout) (s : List ℕ) where
  -- the exits from a on, before the one at b
  abbrev pub led : ℕ → ℕ → Bool
  led a b = targets (object_at e s) (take (b - a) (drop a (object_at e s).exits))

  pub led_is : (a n : ℕ) → targets (object_at e s) (take n (drop a (object_at e s).exits)) ≡ led a (a + n)
  led_is a n =
      let f : a + n - a ≡ n = omega arith in
      rw f

  module _ (a b : ℕ) (h : a < b) (g : b ≤ e.exit_count) where
    next : led a b ≡ (ltb (word_at s (e.exits + 4 * a)) e.code_count && led (a + 1) b)
    next =
        let f : b - a ≡ suc (b - (a + 1)) = omega arith in
        rw (f, drop-cons (object_at e s).exits a 0 (omega (arith, exit_length e s)), exit_at_lem e s a (omega arith), code_length e s, ← add-one a)

    pub led_more : word_at s (e.exits + 4 * a) < e.code_count → led a b ≡ led (a + 1) b
    led_more q = next ∙ rw (lt-ltb _ _ q)

    pub led_stops : e.code_count ≤ word_at s (e.exits + 4 * a) → led a b ≡ false
    led_stops q = next ∙ rw (le-ltb _ _ q)

module _ (e : Layout) (s : List ℕ) (x : ℕ) where
  abbrev pub right_at : ℕ → Bool
  right_at operation = operand_right (object_at e s) operation x

  pub br3_says : right_at 12 ≡ (ltb (x + 2) e.exit_count && targets (object_at e s) (take 3 (drop x (object_at e s).exits)))
  unfolding operand_right
  br3_says = rw (exit_length e s)

  pub brc_says : (n : ℕ) → x < e.exit_count → n ≡ word_at s (e.exits + 4 * x)
      → right_at 13 ≡ (leb 2 n && (leb n 10 && (ltb (x + n) e.exit_count && targets (object_at e s) (take n (drop (x + 1) (object_at e s).exits)))))
  unfolding operand_right
  brc_says n h q = rw (exit_length e s, exit_at_lem e s x h, ← q)

  pub brc_out : e.exit_count ≤ x → false ≡ right_at 13
  unfolding operand_right
  brc_out h =
      let past : length (object_at e s).exits ≤ x = omega (arith, exit_length e s) in
      rw (get_or-eq_default (object_at e s).exits 0 {n = x} past)
