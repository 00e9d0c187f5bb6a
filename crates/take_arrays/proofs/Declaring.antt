-- Arrays one after the other, taking their cells.
-- Assumes nothing.
use mathlib.Core.Path.{◌≡◌, refl, sym, ap, ◌∙◌, subst}
use Prim.Native.Nat.{ℕ, min, ◌+◌, ◌*◌, ◌≤◌, ◌<◌}
use mathlib.Core.Bool.{true, false}
use mathlib.Core.List.{List, [], ◌∷◌, ◌++◌, append_assoc, append-nil}
use mathlib.Core.Option.{none, some}
use lib.Dec.{leb}
use lib.ListN.{length, get_or}
use borrow.Author.Tests.{leb-true}
use Rattle.rules_shared.specs.Lists.{Each}
use Rattle.rules_text.specs.Trees.{Array, array, array_names, value_of}
use Rattle.rules_deck.specs.Deck.{declare}
use Rattle.rules_deck.specs.Translation.{Held}
use Rattle.rules_deck.specs.Judge.{some_cells, right_arrays}
use Rattle.rules_text.proofs.Readers.{both_true}
use Rattle.read_tokens.specs.declared.Name as code
use Rattle.read_tokens.specs.Words.{most, capped, name_at}
use Rattle.read_forms.specs.Statements.{array_words, all_words}
use Rattle.take_draft.specs.Names.{Lists, Told, names_fit}
use Rattle.std.specs.Prelude.{Option, Some, None}
use Rattle.take_name_table.specs.declared.counted.Extent.{Extent}
use Rattle.take_name_table.specs.Appears.{Appeared}
use Rattle.take_name_table.proofs.Growth.{over_more}
use Rattle.take_arrays.specs.One.{brought, right_array, TakesArray}
use Rattle.take_arrays.specs.Arrays.{Declares}
use Rattle.take_arrays.proofs.Judging.{word_at_lem, named_at_lem, Parted, parted_start, Next, parted_next, parted_end, parted_more, here_words, here_told, brought_both, brought_last, right_more}

-- ---- the words of an array that passes 15

rows_at : (a : Array) (more : List ℕ) → get_or (array_words a ++ more) 5 0 ≡ min (declare a).dims.rows most
unfolding array_words capped
rows_at (array v r none) more = refl
rows_at (array v r (some c)) more = refl

columns_at : (a : Array) (more : List ℕ) → get_or (array_words a ++ more) 6 0 ≡ min (declare a).dims.columns most
unfolding array_words capped
columns_at (array v r none) more = refl
columns_at (array v r (some c)) more = refl

some_rows : (a : Array) → some_cells a ≡ true → 1 ≤ (declare a).dims.rows
some_rows (array v r none) e = leb-true 1 (value_of r) e
some_rows (array v r (some c)) e = leb-true 1 (value_of r) (both_true (leb 1 (value_of r)) (leb 1 (value_of c)) e).0

-- ---- those passed have their cells

pub record Cells (held : List Held) (declared : List Array) (t : List ℕ) (i : ℕ) (n : Extent) : Type 0 where
  pub parted : Parted declared i
  pub lists : Lists (held ++ brought parted.before) t n.names n.cells
  pub right : right_arrays false (held ++ brought parted.before) parted.left ≡ true

abbrev pub Declaring : List ℕ → List ℕ → Extent → List ℕ → ℕ → Extent → Type 0
Declaring arrays t₀ n₀ t i n =
    (held : List Held) (declared : List Array) → Lists held t₀ n₀.names n₀.cells → arrays ≡ all_words declared → Each Told (array_names declared)
    → right_arrays false held declared ≡ true → Cells held declared t i n

-- what is declared, taken apart at an array
whole : (held : List Held) (declared : List Array) (i : ℕ) (p : Parted declared i) (x : Next declared i p)
    → ((held ++ brought p.before) ++ (Held.array (declare x.here) ∷ [])) ++ brought x.after ≡ held ++ brought declared
unfolding parted_more
whole held declared i p x =
    ap (λ (l : List Held). l ++ brought x.after) (brought_last held p.before x.here)
    ∙ append_assoc held (brought (p.before ++ (x.here ∷ []))) (brought x.after)
    ∙ ap (λ (l : List Held). held ++ l) (sym (brought_both (p.before ++ (x.here ∷ [])) x.after))
    ∙ ap (λ (l : List Array). held ++ brought l) (sym (parted_more p x).are)

module _ (arrays t₀ : List ℕ) (n₀ : Extent) where
  pub declaring_start : Declaring arrays t₀ n₀ t₀ 0 n₀
  unfolding parted_start
  declaring_start held declared l w told right =
      record {
        parted = parted_start declared;
        lists = subst (λ (x : List Held). Lists x t₀ n₀.names n₀.cells) (sym (append-nil held)) l;
        right = subst (λ (x : List Held). right_arrays false x declared ≡ true) (sym (append-nil held)) right;
      }

  module _ (m : ℕ) (h : 7 * m ≡ length arrays) where
    module _ {t : List ℕ} (i : ℕ) (n : Extent) {nm : code.Name} (d : Declaring arrays t₀ n₀ t i n) (l : i < m) (ne : nm ≡ name_at arrays (7 * i + 1)) where
      abbrev One : List ℕ → Option Extent → Type 0
      One t' r = TakesArray t t' n nm (get_or arrays (7 * i + 5) 0) (get_or arrays (7 * i + 6) 0) r

      -- the array here, in the book
      one_is : (t' : List ℕ) (r : Option Extent) → One t' r → (held : List Held) (declared : List Array) → arrays ≡ all_words declared → Each Told (array_names declared)
          → (c : Cells held declared t i n) (x : Next declared i c.parted) → Appeared ((held ++ brought c.parted.before) ++ (Held.array (declare x.here) ∷ [])) t' r
      one_is t' r one held declared w told c x =
          let p = c.parted in
          let ws = here_words p x arrays w in
          let ts = here_told p x told in
          let passes = sym (right_more held p.before x.here x.after) ∙ ap (right_arrays false (held ++ brought p.before)) (sym x.is) ∙ c.right in
          let here = (both_true (right_array (held ++ brought p.before) x.here) (right_arrays false (held ++ brought (p.before ++ (x.here ∷ []))) x.after) passes).0 in
          let cells-some = (both_true (some_cells x.here) _ here).0 in
          one (held ++ brought p.before) (declare x.here) c.lists ts.1 (named_at_lem p.before x.here x.after ws p.count ne)
          (word_at_lem p.before x.here x.after ws p.count 5 ∙ rows_at x.here (all_words x.after))
          (word_at_lem p.before x.here x.after ws p.count 6 ∙ columns_at x.here (all_words x.after))
          (some_rows x.here cells-some)

      pub declaring_full : (t' : List ℕ) (r : Option Extent) → One t' None → r ≡ None → Declares arrays t₀ t' n₀ r
      declaring_full t' r full e held declared ls w told right =
          let c = d held declared ls w told right in
          let x = parted_next c.parted arrays m w h l in
          subst (λ (y : Option Extent). Appeared (held ++ brought declared) t' y) (sym e)
          (subst (λ (y : List Held). names_fit y ≡ false) (whole held declared i c.parted x)
          (over_more ((held ++ brought c.parted.before) ++ (Held.array (declare x.here) ∷ [])) (brought x.after) (one_is t' None full held declared w told c x)))

      pub declaring_on : (t' : List ℕ) (m' : Extent) → One t' (Some m') → Declaring arrays t₀ n₀ t' (i + 1) m'
      unfolding parted_more
      declaring_on t' m' more held declared ls w told right =
          let c = d held declared ls w told right in
          let x = parted_next c.parted arrays m w h l in
          let p = c.parted in
          let passes = sym (right_more held p.before x.here x.after) ∙ ap (right_arrays false (held ++ brought p.before)) (sym x.is) ∙ c.right in
          record {
            parted = parted_more p x;
            lists = subst (λ (y : List Held). Lists y t' m'.names m'.cells) (brought_last held p.before x.here) (one_is t' (Some m') more held declared w told c x);
            right = (both_true (right_array (held ++ brought p.before) x.here) (right_arrays false (held ++ brought (p.before ++ (x.here ∷ []))) x.after) passes).1;
          }

    pub declaring_end : (t : List ℕ) (i : ℕ) (n : Extent) → Declaring arrays t₀ n₀ t i n → m ≤ i → Declares arrays t₀ t n₀ (Some n)
    declaring_end t i n d l held declared ls w told right =
        let c = d held declared ls w told right in
        let p = c.parted in
        let all = sym (p.are ∙ ap (λ (x : List Array). p.before ++ x) (parted_end p arrays m w h l) ∙ append-nil p.before) in
        subst (λ (x : List Array). Lists (held ++ brought x) t n.names n.cells) all c.lists
