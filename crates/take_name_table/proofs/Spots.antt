-- Where an entry stands in the table of names, and what it says.
-- Assumes nothing.
use mathlib.Core.Path.{◌≡◌, refl, sym, ap, ◌∙◌}
use Prim.Native.Nat.{ℕ, suc, ◌+◌, ◌*◌, ◌≤◌}
use native.Mathlib.Omega.{arith}
use mathlib.Core.Bool.{Bool, true, false, ◌&&◌, ◌||◌, cond, false≢true}
use mathlib.Core.List.{List, [], ◌∷◌, ◌++◌}
use lib.Dec.{ltb}
use lib.ListN.{get_or, drop}
use borrow.Author.Tests.{ne_eqb, le-leb, lt-ltb, le-ltb, ltb-true, ltb-false}
use Rattle.rules_shared.specs.Lists.{Each, each_more}
use Rattle.rules_text.specs.Trees.{Name}
use Rattle.rules_deck.specs.Deck.{same_name, Dims}
use Rattle.rules_deck.specs.Translation.{Held, name, array, hidden, array_size, is_the_name, is_array, first_cell, holds}
use Rattle.rules_deck.specs.Judge.{name_count}
use Rattle.rules_deck.specs.Cells.{names_held, arrays_held}
use Rattle.read_tokens.specs.Words.{name_of, no_name, name_words, same_words}
use Rattle.read_tokens.specs.declared.Name as code
use Rattle.take_draft.specs.Names.{held_words, dims_held, Told, SomeRows}
use Rattle.take_name_table.specs.Find.{of_kind, is_entry, first_entry}
use Rattle.take_name_table.proofs.Tests.{and_true, and_false}
use Rattle.take_draft.proofs.NameWords.{name_test, no_name_lem}

-- entry i of n, if it is one of them, and what it says
pub record Spot (words : List ℕ) (n i : ℕ) (found : Bool) (first rows columns : ℕ) : Type 0 where
  pub within : i ≤ n
  pub test : ltb i n ≡ found
  pub first_is : found ≡ true → get_or words (7 * i + 4) 0 ≡ first
  pub rows_are : found ≡ true → get_or words (7 * i + 5) 0 ≡ rows
  pub columns_are : found ≡ true → get_or words (7 * i + 6) 0 ≡ columns

spot_none : (words : List ℕ) (f r c : ℕ) → Spot words 0 0 false f r c
spot_none words f r c =
    record { within = omega arith; test = refl; first_is = λ e. absurd (false≢true e); rows_are = λ e. absurd (false≢true e); columns_are = λ e. absurd (false≢true e) }

abbrev entry : code.Name → ℕ → ℕ → ℕ → List ℕ → List ℕ
entry x a b d ws = name_words x ++ (a ∷ b ∷ d ∷ ws)

past : (x : code.Name) (a b d : ℕ) (ws : List ℕ) (i k : ℕ) → get_or (entry x a b d ws) (7 * suc i + k) 0 ≡ get_or ws (7 * i + k) 0
past x a b d ws i k =
    let e : 7 * suc i + k ≡ suc (suc (suc (suc (suc (suc (suc (7 * i + k))))))) = omega arith in
    ap (λ (j : ℕ). get_or (entry x a b d ws) j 0) e

lt_suc : (i n : ℕ) (b : Bool) → ltb i n ≡ b → ltb (suc i) (suc n) ≡ b
lt_suc i n true e = lt-ltb (suc i) (suc n) (let h = ltb-true i n e in omega (arith, h))
lt_suc i n false e = le-ltb (suc i) (suc n) (let h = ltb-false i n e in omega (arith, h))

-- one entry more before them
spot_step : (t : Bool) (x : code.Name) (a b d : ℕ) {ws : List ℕ} {n i : ℕ} {found : Bool} {f r c : ℕ} → Spot ws n i found f r c
    → Spot (entry x a b d ws) (suc n) (cond t 0 (suc i)) (t || found) (cond t a f) (cond t b r) (cond t d c)
spot_step true x a b d {ws} {n} {i} {found} {f} {r} {c} s =
    record { within = omega arith; test = lt-ltb 0 (suc n) (omega arith); first_is = λ e. refl; rows_are = λ e. refl; columns_are = λ e. refl }
spot_step false x a b d {ws} {n} {i} {found} {f} {r} {c} s =
    record {
      within = let h = s.within in omega (arith, h);
      test = lt_suc i n found s.test;
      first_is = λ e. past x a b d ws i 4 ∙ s.first_is e;
      rows_are = λ e. past x a b d ws i 5 ∙ s.rows_are e;
      columns_are = λ e. past x a b d ws i 6 ∙ s.columns_are e;
    }

-- what it says, in other words
spot_as : {words : List ℕ} {n i j : ℕ} {found found' : Bool} {f f' r r' c c' : ℕ} → Spot words n i found f r c → i ≡ j → found ≡ found' → f ≡ f' → r ≡ r' → c ≡ c'
    → Spot words n j found' f' r' c'
spot_as {words} {n} {i} {j} {found} {found'} {f} {f'} {r} {r'} {c} {c'} s ei e ef er ec =
    record {
      within = let h = s.within in omega (arith, h, ei);
      test = ap (λ (k : ℕ). ltb k n) (sym ei) ∙ s.test ∙ e;
      first_is = λ p. ap (λ (k : ℕ). get_or words (7 * k + 4) 0) (sym ei) ∙ s.first_is (e ∙ p) ∙ ef;
      rows_are = λ p. ap (λ (k : ℕ). get_or words (7 * k + 5) 0) (sym ei) ∙ s.rows_are (e ∙ p) ∙ er;
      columns_are = λ p. ap (λ (k : ℕ). get_or words (7 * k + 6) 0) (sym ei) ∙ s.columns_are (e ∙ p) ∙ ec;
    }

-- ---- a test of the first entry

cond_plus : (t : Bool) (at n f : ℕ) → cond t at (at + n + f) ≡ at + cond t 0 (n + f)
cond_plus true at n f = omega arith
cond_plus false at n f = omega arith

cond_same : (t : Bool) (a : ℕ) → cond t a a ≡ a
cond_same true a = refl
cond_same false a = refl

cond_rows : (t : Bool) (x y : Dims) → cond t x.rows y.rows ≡ (cond t x y).rows
cond_rows true x y = refl
cond_rows false x y = refl

cond_columns : (t : Bool) (x y : Dims) → cond t x.columns y.columns ≡ (cond t x y).columns
cond_columns true x y = refl
cond_columns false x y = refl

index_as : (s t : Bool) (i : ℕ) → s ≡ t → cond t 0 (suc i) ≡ cond s 0 (suc i)
index_as s t i e = ap (λ (b : Bool). cond b 0 (suc i)) (sym e)

-- ---- the entry of a name in n entries from the cell `at` on

abbrev pub PlainAt : List ℕ → ℕ → List Held → ℕ → Name → Type 0
PlainAt words n held at v = Spot words n (first_entry false (name_of v) n words) (holds (is_the_name v) held) (at + first_cell (is_the_name v) held) 0 0

abbrev pub ArrayAt : List ℕ → ℕ → List Held → ℕ → Name → Type 0
ArrayAt words n held at v =
    Spot words n (first_entry true (name_of v) n words) (holds (is_array v) held) (at + first_cell (is_array v) held) (dims_held held v).rows (dims_held held v).columns

module _ (v : Name) (tv : Told v) (rest : List ℕ) where
  pub spot_plain : (held : List Held) (at : ℕ) → Each Told (names_held held) → Each SomeRows (arrays_held held)
      → PlainAt (held_words at held ++ rest) (name_count held) held at v
  unfolding first_entry
  spot_plain [] at told some = spot_none rest (at + 0) 0 0
  spot_plain (name w ∷ held) at (each_more tw told) some =
      let t = same_name w v in
      let s = spot_plain held (suc at) told some in
      let e : is_entry false (name_of v) (held_words at (name w ∷ held) ++ rest) ≡ t = and_true (same_words (name_of w) (name_of v)) true refl ∙ name_test w v tw tv in
      spot_as (spot_step t (name_of w) at 0 0 s) (index_as _ t _ e) refl (first t (first_cell (is_the_name v) held)) (cond_same t 0) (cond_same t 0)
    where
      first : (t : Bool) (f : ℕ) → cond t at (suc at + f) ≡ at + cond t 0 (1 + f)
      first true f = omega arith
      first false f = omega arith
  spot_plain (array a ∷ held) at (each_more tw told) (each_more r some) =
      let n = array_size a.dims in
      let s = spot_plain held (at + n) told some in
      let e : is_entry false (name_of v) (held_words at (array a ∷ held) ++ rest) ≡ false =
      and_false (same_words (name_of a.name) (name_of v)) _ (ne_eqb a.dims.rows 0 (λ z. omega (arith, r, z))) in
      spot_as (spot_step false (name_of a.name) at a.dims.rows a.dims.columns s) (index_as _ false _ e) refl (omega arith) refl refl
  spot_plain (hidden q ∷ held) at told some = spot_as (spot_plain held (at + 2) told some) refl refl (omega arith) refl refl

  pub spot_array : (held : List Held) (at : ℕ) → Each Told (names_held held) → Each SomeRows (arrays_held held)
      → ArrayAt (held_words at held ++ rest) (name_count held) held at v
  unfolding first_entry
  spot_array [] at told some = spot_none rest (at + 0) 0 0
  spot_array (name w ∷ held) at (each_more tw told) some =
      let s = spot_array held (suc at) told some in
      let e : is_entry true (name_of v) (held_words at (name w ∷ held) ++ rest) ≡ false = and_false (same_words (name_of w) (name_of v)) false refl in
      spot_as (spot_step false (name_of w) at 0 0 s) (index_as _ false _ e) refl (omega arith) refl refl
  spot_array (array a ∷ held) at (each_more tw told) (each_more r some) =
      let n = array_size a.dims in
      let t = same_name a.name v in
      let s = spot_array held (at + n) told some in
      let e : is_entry true (name_of v) (held_words at (array a ∷ held) ++ rest) ≡ t =
      and_true (same_words (name_of a.name) (name_of v)) _ (le-leb 1 a.dims.rows r) ∙ name_test a.name v tw tv in
      spot_as (spot_step t (name_of a.name) at a.dims.rows a.dims.columns s) (index_as _ t _ e) refl (cond_plus t at n (first_cell (is_array v) held))
      (cond_rows t a.dims (dims_held held v)) (cond_columns t a.dims (dims_held held v))
  spot_array (hidden q ∷ held) at told some = spot_as (spot_array held (at + 2) told some) refl refl (omega arith) refl refl

-- ---- no entry is without a name

skip : (k : Bool) (n : ℕ) (words : List ℕ) (m : ℕ) → is_entry k no_name words ≡ false → first_entry k no_name n (drop 7 words) ≡ m → first_entry k no_name (suc n) words ≡ suc m
unfolding first_entry
skip k n words m e h = ap (λ (b : Bool). cond b 0 (suc (first_entry k no_name n (drop 7 words)))) e ∙ ap suc h

no_word : (k : Bool) (w : Name) (r : ℕ) → Told w → (same_words (name_of w) no_name && of_kind k r) ≡ false
no_word k w r t = ap (λ (b : Bool). b && of_kind k r) (no_name_lem w t)

pub spot_nothing : (k : Bool) (rest : List ℕ) (held : List Held) (at : ℕ) → Each Told (names_held held)
    → first_entry k no_name (name_count held) (held_words at held ++ rest) ≡ name_count held
unfolding first_entry
spot_nothing k rest [] at told = refl
spot_nothing k rest (name w ∷ held) at (each_more tw told) =
    skip k (name_count held) (held_words at (name w ∷ held) ++ rest) (name_count held) (no_word k w 0 tw) (spot_nothing k rest held (suc at) told)
spot_nothing k rest (array a ∷ held) at (each_more tw told) =
    skip k (name_count held) (held_words at (array a ∷ held) ++ rest) (name_count held) (no_word k a.name a.dims.rows tw)
    (spot_nothing k rest held (at + array_size a.dims) told)
spot_nothing k rest (hidden q ∷ held) at told = spot_nothing k rest held (at + 2) told
