-- First the operand that stands first, then the items.
-- Assumes nothing.
use mathlib.Core.Path.{◌≡◌, sym, subst}
use Prim.Native.Nat.{ℕ, ◌+◌, ◌≤◌, ◌<◌}
use native.Mathlib.Omega.{arith}
use mathlib.Core.Bool.{false}
use mathlib.Core.List.{List, [], ◌∷◌, ◌++◌}
use Rattle.rules_deck.specs.Translation.{Held, hidden, appear}
use Rattle.take_draft.specs.Parts.{items_plain}
use Rattle.take_draft.specs.Names.{Lists, names_fit}
use Rattle.std.specs.Prelude.{Option, Some, None}
use Rattle.take_name_table.specs.declared.counted.Extent.{Extent}
use Rattle.take_name_table.specs.Appears.{Appeared}
use Rattle.take_names.specs.Takes.{Appears}
use Rattle.take_name_table.proofs.Growth.{cells_append, lists_hidden, over_cells, over_appear, appear_append}
use Rattle.take_cells.specs.Operands.{TakesBoth, Hides}

-- ---- cells

module _ (first items a b : List ℕ) (n : Extent) where
  pub first_full : (r : Option Extent) → Appears first a b n None → r ≡ None → TakesBoth first items a b n r
  first_full r h e held is js l p q t u =
      subst (λ (x : Option Extent). Appeared (appear held (items_plain is ++ items_plain js)) b x) (sym e)
      (subst (λ (x : List Held). names_fit x ≡ false) (sym (appear_append (items_plain is) (items_plain js) held))
      (over_appear (items_plain js) (appear held (items_plain is)) (h held is l p t)))

  pub both_take : (m : Extent) (c : List ℕ) (r : Option Extent) → Appears first a b n (Some m) → Appears items b c m r → TakesBoth first items a c n r
  both_take m c r h k held is js l p q t u =
      subst (λ (z : List Held). Appeared z c r) (sym (appear_append (items_plain is) (items_plain js) held)) (k (appear held (items_plain is)) js (h held is l p t) q u)

-- ---- hidden cells

pub no_hiding : (n : Extent) → 4094 < n.cells → Hides n None
no_hiding n h held table q l = over_cells (held ++ (hidden q ∷ [])) (omega (arith, cells_append held (hidden q ∷ []), l.cells_are))

pub hiding : (n : Extent) → n.cells ≤ 4094 → (held : List Held) (table : List ℕ) (q : ℕ) → Lists held table n.names n.cells
    → Lists (held ++ (hidden q ∷ [])) table n.names (n.cells + 2)
hiding n h held table q l = lists_hidden q l (omega arith)
