-- A list written word by word after what a table begins with; and words put in front of those that are left.
-- Assumes nothing.
use mathlib.Core.Path.{◌≡◌, refl, sym, ap, ◌∙◌}
use Prim.Native.Nat.{ℕ, zero, suc, ◌+◌, ◌-◌, ◌≤◌, ◌<◌}
use native.Mathlib.Omega.{arith}
use mathlib.Core.Bool.{Bool, true, false, cond}
use mathlib.Core.List.{List, [], ◌∷◌, ◌++◌, map, append_assoc}
use lib.Dec.{eqb}
use lib.ListN.{length, take, drop, length-append, length-take, take-append-drop}
use lib.Seq.{take_at, drop_at}
use Rattle.read_items.specs.Parsed.{Put}
use Rattle.final_addresses.specs.Ends.{last_at, ends_at}
use Rattle.final_statement.specs.Words.{end_word, end_of}

-- ---- in front of those that are left

-- of the words `whole`, put at top, `rest` are left to put at `at`
pub record Left (a b : List ℕ) (top at : ℕ) (rest whole : List ℕ) : Type 0 where
  pub size : at + length rest ≡ top + length whole
  pub words : take at b ++ rest ≡ take top a ++ whole

pub left_less : {a b c : List ℕ} {top at r : ℕ} {rest whole : List ℕ} (vs more : List ℕ) → rest ≡ vs ++ more → Left a b top at rest whole → Put b c at vs r → Left a c top r more whole
left_less {a} {b} {c} {top} {at} {r} {rest} {whole} vs more e l p =
    record {
      size = omega (arith, p.top, l.size, ap length e, length-append vs more);
      words = ap (λ (w : List ℕ). w ++ more) p.table ∙ append_assoc (take at b) vs more ∙ ap (λ (w : List ℕ). take at b ++ w) (sym e) ∙ l.words;
    }

-- ---- DOEs

module _ (loops jumps : List ℕ) (i : ℕ) where
  pub ends_less : (d : ℕ) → 0 < d → map end_word (ends_at loops jumps i d) ≡ end_of (last_at loops jumps (d - 1)) i (d - 1) ++ map end_word (ends_at loops jumps i (d - 1))
  ends_less zero h = absurd (omega arith)
  ends_less (suc d) h =
      let n : suc d - 1 ≡ d = omega arith in
      rw n (go (eqb (last_at loops jumps d) i))
    where
      go : (b : Bool) → map end_word (cond b (d ∷ ends_at loops jumps i d) (ends_at loops jumps i d)) ≡ cond b (end_word d ∷ []) [] ++ map end_word (ends_at loops jumps i d)
      go true = refl
      go false = refl

-- ---- a piece of what a table begins with

pub piece : (table : List ℕ) (m : ℕ) (a b c : List ℕ) → take m table ≡ a ++ (b ++ c) → take (length b) (drop (length a) table) ≡ b
piece table m a b c e =
    let whole : (a ++ (b ++ c)) ++ drop m table ≡ table = ap (λ (l : List ℕ). l ++ drop m table) (sym e) ∙ take-append-drop m table in
    let first = append_assoc a (b ++ c) (drop m table) in
    let second = append_assoc b c (drop m table) in
    ap (λ (l : List ℕ). take (length b) (drop (length a) l)) (sym whole ∙ first)
    ∙ ap (take (length b)) (drop_at a ((b ++ c) ++ drop m table) (length a) refl)
    ∙ ap (take (length b)) second ∙ take_at b (c ++ drop m table) (length b) refl

pub piece_inside : (table : List ℕ) (m : ℕ) (a b c : List ℕ) → take m table ≡ a ++ (b ++ c) → length a + length b ≤ length table
piece_inside table m a b c e = omega (arith, ap length e, length-append a (b ++ c), length-append b c, length-take m table)
