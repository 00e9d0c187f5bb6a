-- What the rows and the jumps tell of each statement.
-- Assumes nothing.
use mathlib.Core.Path.{◌≡◌, refl, sym, ap, ◌∙◌}
use Prim.Native.Nat.{ℕ, zero, suc, ◌+◌, ◌*◌, ◌≤◌, ◌<◌}
use native.Mathlib.Omega.{arith}
use mathlib.Core.List.{List, [], ◌∷◌, ◌++◌, map}
use mathlib.Core.Option.{some}
use lib.ListN.{length, take, get_or, get_elem?, length-take, get_or-append}
use lib.Seq.{get_or-take, get_or-append-add}
use Rattle.rules_shared.specs.House.{House}
use Rattle.rules_object.specs.Operations.{Instr, NEG}
use Rattle.rules_object.specs.Bytes.{concat}
use Rattle.rules_text.specs.Trees.{Name, Form, Statement}
use Rattle.rules_deck.specs.Deck.{Dims}
use Rattle.rules_deck.specs.Translation.{Held, form_code}
use Rattle.rules_deck.proofs.TestLaws.{clash, at_before}
use Rattle.rules_deck.proofs.TableLaws.{form_length}
use Rattle.take_draft.specs.Names.{dims_held}
use Rattle.take_draft.specs.Draft.{kind_of, jump_words, own_words, row_words}
use Rattle.final_addresses.specs.Given.{Rows}

-- ---- the length of a list that a table begins with

pub begins_long : (table ws : List ℕ) (m : ℕ) → take m table ≡ ws → length ws ≡ m → m ≤ length table
begins_long table ws m e l = omega (arith, ap length e, length-take m table)

pub begins_at : (table ws : List ℕ) (m : ℕ) → take m table ≡ ws → (i : ℕ) → i < m → get_or table i 0 ≡ get_or ws i 0
begins_at table ws m e i h = sym (get_or-take m table i 0 h) ∙ ap (λ (l : List ℕ). get_or l i 0) e

-- ---- rows

pub rows_length : (deck : List Statement) → length (concat (map row_words deck)) ≡ 5 * length deck
rows_length [] = refl
rows_length (s ∷ deck) = omega (arith, rows_length deck)

rows_get : (deck : List Statement) (j : ℕ) (s : Statement) → get_elem? deck j ≡ some s → (r : ℕ) → r < 5
    → get_or (concat (map row_words deck)) (5 * j + r) 0 ≡ get_or (row_words s) r 0
rows_get [] j s e r h = absurd (clash (sym e))
rows_get (t ∷ deck) zero s e r h =
    let same : t ≡ s = cc in
    let n : 5 * 0 + r ≡ r = omega arith in
    ap (λ (i : ℕ). get_or (row_words t ++ concat (map row_words deck)) i 0) n
    ∙ get_or-append (row_words t) (concat (map row_words deck)) 0 r h ∙ ap (λ (x : Statement). get_or (row_words x) r 0) same
rows_get (t ∷ deck) (suc j) s e r h =
    let n : 5 * suc j + r ≡ 5 + (5 * j + r) = omega arith in
    ap (λ (i : ℕ). get_or (row_words t ++ concat (map row_words deck)) i 0) n
    ∙ get_or-append-add (row_words t) (concat (map row_words deck)) (5 * j + r) 0 ∙ rows_get deck j s e r h

module _ {house : House} {deck : List Statement} {rows : List ℕ} {count : ℕ} (told : Rows house deck rows count) where
  pub rows_long : 5 * count ≤ length rows
  rows_long = begins_long rows (concat (map row_words deck)) (5 * count) told.rows_are (omega (arith, rows_length deck, told.counted))

  at_row : (j : ℕ) (s : Statement) → get_elem? deck j ≡ some s → (r : ℕ) → r < 5 → get_or rows (5 * j + r) 0 ≡ get_or (row_words s) r 0
  at_row j s e r h =
      begins_at rows (concat (map row_words deck)) (5 * count) told.rows_are (5 * j + r) (omega (arith, told.counted, at_before deck j e)) ∙ rows_get deck j s e r h

  module _ (j : ℕ) (s : Statement) (e : get_elem? deck j ≡ some s) where
    pub row_number : get_or rows (5 * j) 0 ≡ s.number
    row_number = let n : 5 * j ≡ 5 * j + 0 = omega arith in ap (λ (i : ℕ). get_or rows i 0) n ∙ at_row j s e 0 (omega arith)

    pub row_kind : get_or rows (5 * j + 1) 0 ≡ kind_of s.form
    row_kind = at_row j s e 1 (omega arith)

    pub row_own : get_or rows (5 * j + 3) 0 ≡ own_words s.form
    row_own = at_row j s e 3 (omega arith)

    pub row_jumps : get_or rows (5 * j + 4) 0 ≡ length (jump_words s.form)
    row_jumps = at_row j s e 4 (omega arith)

-- the length of a form's code depends on the form alone
pub own_length : (held : List Held) (dims : Name → Dims) (address : ℕ → ℕ) (entry : Instr) (f : Form) → length (form_code held dims address entry f) ≡ own_words f
own_length held dims address entry f = omega (arith, form_length held dims address entry f, form_length [] (dims_held []) (λ n. n) NEG f)
