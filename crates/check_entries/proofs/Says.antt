-- What the tests of an entry come to is what the book says of it.
-- Assumes nothing.
use mathlib.Core.Path.{◌≡◌, ap}
use Prim.Native.Nat.{ℕ, suc, ◌+◌, ◌-◌, ◌*◌, ◌^◌, ◌<◌}
use native.Mathlib.Nat.{add_assoc}
use native.Mathlib.Omega.{arith}
use mathlib.Core.Bool.{◌&&◌, cond}
use mathlib.Core.List.{List}
use lib.Dec.{ltb, leb}
use lib.ListN.{get_or}
use lib.IntN.{pos, negsuc}
use mir.Syntax.{w32}
use Rattle.std.specs.Int.{cast_signed}
use Rattle.number.specs.Number.{Rule, fits}
use Rattle.rules_object.specs.Bytes.{signed_of}
use Rattle.rules_object.specs.Object.{rule_of}
use Rattle.rules_object.specs.Check.{right_constant, right_element, right_loop, right_line}
use Rattle.rules_object.specs.Operations.{no_element, no_loop}
use Rattle.object_words.specs.Word.{word_at}
use Rattle.object_contents.specs.declared.Layout.{Layout}
use Rattle.object_contents.specs.Layout.{element_at, loop_at, line_at, object_at}
use Rattle.object_contents.proofs.Entries.{code_length, constant_at_lem, element_at_lem, do_at_lem, line_at_lem}
use Rattle.check_entries.specs.Judge.{no_line, subscript_at}

-- a word read as one with a sign
pub signed_cast : (w : ℕ) → cast_signed w32 w ≡ signed_of w
unfolding signed_of
signed_cast w = let e : 4294967296 - suc w ≡ 4294967295 - w = omega arith in ap (λ n. cond (ltb w (2 ^ 31)) (pos w) (negsuc n)) e

module _ (e : Layout) (s : List ℕ) (i : ℕ) where
  pub constant_says : (k : Rule) → k ≡ rule_of (object_at e s) → i < e.constant_count
      → fits k (pos (word_at s (e.constants + 4 * i))) ≡ right_constant (object_at e s) (get_or (object_at e s).constants i 0)
  unfolding right_constant
  constant_says k q h = rw (q, constant_at_lem e s i h)

  pub element_says : (k : Rule) → k ≡ rule_of (object_at e s) → i < e.element_count → (b : ℕ) → b ≡ e.elements + 36 * i → right_element (object_at e s) (get_or (object_at e s).elements i no_element)
      ≡ (leb 1 (word_at s (b + 4)) && (leb 1 (word_at s (b + 8)) && (leb (word_at s b + word_at s (b + 4) * word_at s (b + 8)) e.cells &&
      (subscript_at s (b + 12) e.cells k && subscript_at s (b + 24) e.cells k))))
  unfolding right_element element_at object_at subscript_at
  element_says k q h b is = rw (element_at_lem e s i no_element h, ← is, q, add_assoc b 12 8, add_assoc b 12 4, add_assoc b 24 8, add_assoc b 24 4)

  pub loop_says : i < e.do_count → (b : ℕ) → b ≡ e.dos + 16 * i → right_loop (object_at e s) (get_or (object_at e s).dos i no_loop)
      ≡ (ltb (word_at s b) e.cells && (ltb (word_at s (b + 4)) e.cells && (ltb (word_at s (b + 8)) e.cells && ltb (word_at s (b + 12)) e.code_count)))
  unfolding right_loop loop_at object_at
  loop_says h b is = rw (do_at_lem e s i no_loop h, code_length e s, is)

  pub line_says : i < e.line_count → ltb (word_at s (e.lines + 12 * i + 8)) e.code_count ≡ right_line (object_at e s) (get_or (object_at e s).lines i no_line)
  unfolding right_line line_at
  line_says h = rw (line_at_lem e s i no_line h, code_length e s)
