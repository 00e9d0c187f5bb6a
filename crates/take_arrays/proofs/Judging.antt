-- 15 of one array, and of arrays one after the other.
-- Assumes nothing.
use mathlib.Core.Path.{◌≡◌, refl, sym, ap, ◌∙◌, subst}
use Prim.Native.Nat.{ℕ, suc, ◌+◌, ◌*◌, ◌≤◌, ◌<◌}
use native.Mathlib.Omega.{arith}
use mathlib.Core.Bool.{Bool, true, false, ◌&&◌, not}
use mathlib.Core.List.{List, [], ◌∷◌, ◌++◌, append_assoc, append-nil}
use lib.ListN.{length, get_or, drop, length-append}
use lib.Seq.{get_or-drop, drop_at}
use native.Mathlib.Nat.{add-zero}
use Rattle.rules_shared.specs.Lists.{Each, each_more}
use Rattle.rules_shared.proofs.EachLaws.{each_both}
use Rattle.rules_text.specs.Trees.{Name, Array, array, array_names}
use Rattle.rules_deck.specs.Deck.{declare}
use Rattle.rules_deck.specs.Translation.{Held}
use Rattle.rules_deck.specs.Judge.{ends_in_f, seen, some_cells, right_arrays}
use Rattle.read_tokens.specs.Words.{name_of, name_at}
use Rattle.read_forms.specs.Statements.{array_words, all_words}
use Rattle.take_draft.specs.Names.{Lists, Told}
use Rattle.take_name_table.proofs.Tests.{and_false}
use Rattle.take_arrays.specs.One.{brought, some_words, EndsInF, IsNew, right_array, RightArray}
use Rattle.take_arrays.specs.Arrays.{Dimensions}
use Rattle.read_tokens.specs.declared.Name as code
use Rattle.take_arrays.proofs.News.{name_drop, words_length, words_both, names_both, some_is, name_is}

-- ---- the words of the array at index i

module _ {arrays : List ℕ} {i : ℕ} (before : List Array) (a : Array) (after : List Array) (w : arrays ≡ all_words before ++ all_words (a ∷ after)) (c : i ≡ length before) where
  pub word_at_lem : (k : ℕ) → get_or arrays (7 * i + k) 0 ≡ get_or (array_words a ++ all_words after) k 0
  unfolding all_words
  word_at_lem k =
      let l : length (all_words before) ≡ 7 * i = let e = words_length before in omega (arith, e, c) in
      sym (get_or-drop (7 * i) arrays k 0) ∙ ap (λ (x : List ℕ). get_or (drop (7 * i) x) k 0) w
      ∙ ap (λ (x : List ℕ). get_or x k 0) (drop_at (all_words before) (all_words (a ∷ after)) (7 * i) l)

  pub first_at : get_or arrays (7 * i) 0 ≡ get_or (array_words a ++ all_words after) 0 0
  first_at = ap (λ (x : ℕ). get_or arrays x 0) (sym (add-zero (7 * i))) ∙ word_at_lem 0

  pub named_at_lem : {x : code.Name} → x ≡ name_at arrays (7 * i + 1) → x ≡ name_of (declare a).name
  unfolding all_words
  named_at_lem e =
      let l : length (all_words before) ≡ 7 * i = let k = words_length before in omega (arith, k, c) in
      e ∙ sym (name_drop arrays (7 * i) 1) ∙ ap (λ (x : List ℕ). name_at (drop (7 * i) x) 1) w
      ∙ ap (λ (x : List ℕ). name_at x 1) (drop_at (all_words before) (all_words (a ∷ after)) (7 * i) l) ∙ name_is a (all_words after)

  some_at : some_words (get_or arrays (7 * i) 0) (get_or arrays (7 * i + 5) 0) (get_or arrays (7 * i + 6) 0) ≡ some_cells a
  some_at =
      ap (λ (x : ℕ). some_words x (get_or arrays (7 * i + 5) 0) (get_or arrays (7 * i + 6) 0)) first_at
      ∙ ap (λ (x : ℕ). some_words (get_or (array_words a ++ all_words after) 0 0) x (get_or arrays (7 * i + 6) 0)) (word_at_lem 5)
      ∙ ap (λ (x : ℕ). some_words (get_or (array_words a ++ all_words after) 0 0) (get_or (array_words a ++ all_words after) 5 0) x) (word_at_lem 6)
      ∙ some_is a (all_words after)

module _ (arrays : List ℕ) (i : ℕ) (t : List ℕ) (n : ℕ) where
  abbrev some_here : Bool
  some_here = some_words (get_or arrays (7 * i) 0) (get_or arrays (7 * i + 5) 0) (get_or arrays (7 * i + 6) 0)

  pub one_empty : (r : Bool) → r ≡ some_here → r ≡ false → RightArray arrays i t n false
  one_empty r e p held cells before a after l w c told ta =
      let some = sym (some_at before a after w c) ∙ sym e ∙ p in
      sym (ap (λ (b : Bool). b && (not (seen (held ++ brought before) (declare a).name) && not (ends_in_f (declare a).name))) some)

  pub one_seen : {x : code.Name} (r : Bool) → x ≡ name_at arrays (7 * i + 1) → IsNew arrays i t n x r → r ≡ false → RightArray arrays i t n false
  one_seen r xe h p held cells before a after l w c told ta =
      let new = sym (h held cells before (all_words (a ∷ after)) (declare a).name l w c told ta (named_at_lem before a after w c xe)) ∙ p in
      sym (ap (λ (b : Bool). some_cells a && (b && not (ends_in_f (declare a).name))) new ∙ and_false (some_cells a) false refl)

  pub one_last : {x : code.Name} (q r f : Bool) → x ≡ name_at arrays (7 * i + 1) → q ≡ some_here → q ≡ true → IsNew arrays i t n x r → r ≡ true
      → EndsInF x f → RightArray arrays i t n (not f)
  one_last q r f xe e p h pr ef held cells before a after l w c told ta =
      let some = sym (some_at before a after w c) ∙ sym e ∙ p in
      let new = sym (h held cells before (all_words (a ∷ after)) (declare a).name l w c told ta (named_at_lem before a after w c xe)) ∙ pr in
      ap not (ef (declare a).name ta (named_at_lem before a after w c xe))
      ∙ sym (ap (λ (b : Bool). b && (not (seen (held ++ brought before) (declare a).name) && not (ends_in_f (declare a).name))) some
      ∙ ap (λ (b : Bool). b && not (ends_in_f (declare a).name)) new)

-- ---- arrays one after the other

and_assoc : (a b c d : Bool) → (a && (b && (c && d))) ≡ (a && (b && c)) && d
and_assoc true true c d = refl
and_assoc true false c d = refl
and_assoc false b c d = refl

-- those passed, and those that are left
pub record Parted (declared : List Array) (i : ℕ) : Type 0 where
  pub before : List Array
  pub left : List Array
  pub are : declared ≡ before ++ left
  pub count : i ≡ length before

unfoldable pub parted_start : (declared : List Array) → Parted declared 0
parted_start declared = record { before = []; left = declared; are = refl; count = refl }

pub record Next (declared : List Array) (i : ℕ) (p : Parted declared i) : Type 0 where
  pub here : Array
  pub after : List Array
  pub is : p.left ≡ here ∷ after

-- how many words there are
parted_words : {declared : List Array} {i : ℕ} (p : Parted declared i) (arrays : List ℕ) → arrays ≡ all_words declared → arrays ≡ all_words p.before ++ all_words p.left
parted_words p arrays w = w ∙ ap all_words p.are ∙ words_both p.before p.left

parted_count : {declared : List Array} {i : ℕ} (p : Parted declared i) (arrays : List ℕ) (m : ℕ) → arrays ≡ all_words declared → 7 * m ≡ length arrays → m ≡ i + length p.left
parted_count p arrays m w h =
    let a : length arrays ≡ length (all_words p.before ++ all_words p.left) = ap length (parted_words p arrays w) in
    let b = length-append (all_words p.before) (all_words p.left) in
    let x = words_length p.before in
    let y = words_length p.left in
    let c = p.count in
    omega (arith, a, b, x, y, c, h)

pub parted_next : {declared : List Array} {i : ℕ} (p : Parted declared i) (arrays : List ℕ) (m : ℕ) → arrays ≡ all_words declared → 7 * m ≡ length arrays → i < m → Next declared i p
parted_next {declared} {i} p arrays m w h l = go p.left refl
  where
    go : (x : List Array) → p.left ≡ x → Next declared i p
    go [] e = absurd (let c = parted_count p arrays m w h in let z : length p.left ≡ 0 = ap length e in omega (arith, c, z, l))
    go (a ∷ after) e = record { here = a; after = after; is = e }

pub parted_end : {declared : List Array} {i : ℕ} (p : Parted declared i) (arrays : List ℕ) (m : ℕ) → arrays ≡ all_words declared → 7 * m ≡ length arrays → m ≤ i → p.left ≡ []
parted_end {declared} {i} p arrays m w h l = go p.left refl
  where
    go : (x : List Array) → p.left ≡ x → x ≡ []
    go [] e = refl
    go (a ∷ after) e = absurd (let c = parted_count p arrays m w h in let z : length p.left ≡ suc (length after) = ap length e in omega (arith, c, z, l))

module _ {declared : List Array} {i : ℕ} (p : Parted declared i) (x : Next declared i p) where
  unfoldable pub parted_more : Parted declared (i + 1)
  parted_more =
      record {
        before = p.before ++ (x.here ∷ []);
        left = x.after;
        are = p.are ∙ ap (λ (l : List Array). p.before ++ l) x.is ∙ sym (append_assoc p.before (x.here ∷ []) x.after);
        count = let c = p.count in let e = length-append p.before (x.here ∷ []) in omega (arith, c, e);
      }

  pub here_words : (arrays : List ℕ) → arrays ≡ all_words declared → arrays ≡ all_words p.before ++ all_words (x.here ∷ x.after)
  here_words arrays w = parted_words p arrays w ∙ ap (λ (l : List Array). all_words p.before ++ all_words l) x.is

  name_first : (a : Array) (after : List Array) → array_names (a ∷ after) ≡ (declare a).name ∷ array_names after
  name_first (array v r c) after = refl

  pub here_told : Each Told (array_names declared) → Each Told (array_names p.before) × Told (declare x.here).name
  here_told told =
      let all = subst (λ (l : List Name). Each Told l) (ap array_names p.are ∙ names_both p.before p.left) told in
      let halves = each_both (array_names p.before) all in
      (halves.0, head (subst (λ (l : List Name). Each Told l) (ap array_names x.is ∙ name_first x.here x.after) halves.1))
    where
      head : {v : Name} {vs : List Name} → Each Told (v ∷ vs) → Told v
      head (each_more t ts) = t

pub brought_both : (a b : List Array) → brought (a ++ b) ≡ brought a ++ brought b
brought_both [] b = refl
brought_both (x ∷ a) b = ap (λ (l : List Held). Held.array (declare x) ∷ l) (brought_both a b)

pub brought_last : (held : List Held) (before : List Array) (a : Array) → (held ++ brought before) ++ (Held.array (declare a) ∷ []) ≡ held ++ brought (before ++ (a ∷ []))
brought_last held before a = append_assoc held (brought before) (Held.array (declare a) ∷ []) ∙ ap (λ (l : List Held). held ++ l) (sym (brought_both before (a ∷ [])))

-- one array's test, then those after it
pub right_more : (held : List Held) (before : List Array) (a : Array) (after : List Array)
    → right_arrays false (held ++ brought before) (a ∷ after) ≡ right_array (held ++ brought before) a && right_arrays false (held ++ brought (before ++ (a ∷ []))) after
right_more held before a after =
    and_assoc (some_cells a) (not (seen (held ++ brought before) (declare a).name)) (not (ends_in_f (declare a).name))
    (right_arrays false ((held ++ brought before) ++ (Held.array (declare a) ∷ [])) after)
    ∙ ap (λ (l : List Held). right_array (held ++ brought before) a && right_arrays false l after) (brought_last held before a)

pub record Judged (held : List Held) (declared : List Array) (i : ℕ) : Type 0 where
  pub parted : Parted declared i
  pub same : right_arrays false held declared ≡ right_arrays false (held ++ brought parted.before) parted.left

abbrev pub Checking : List ℕ → List ℕ → ℕ → ℕ → Type 0
Checking arrays t n i =
    (held : List Held) (cells : ℕ) (declared : List Array) → Lists held t n cells → arrays ≡ all_words declared → Each Told (array_names declared) → Judged held declared i

pub checking_start : (arrays t : List ℕ) (n : ℕ) → Checking arrays t n 0
unfolding parted_start
checking_start arrays t n held cells declared l w told =
    record { parted = parted_start declared; same = ap (λ (x : List Held). right_arrays false x declared) (sym (append-nil held)) }

module _ (arrays t : List ℕ) (n m : ℕ) (h : 7 * m ≡ length arrays) where
  step : (i : ℕ) (r : Bool) → RightArray arrays i t n r → i < m → (held : List Held) (cells : ℕ) (declared : List Array) → Lists held t n cells
      → arrays ≡ all_words declared → Each Told (array_names declared) → (j : Judged held declared i) (x : Next declared i j.parted)
      → right_arrays false held declared ≡ r && right_arrays false (held ++ brought (j.parted.before ++ (x.here ∷ []))) x.after
  step i r right l held cells declared ls w told j x =
      let p = j.parted in
      let ts = here_told p x told in
      j.same ∙ ap (right_arrays false (held ++ brought p.before)) x.is ∙ right_more held p.before x.here x.after
      ∙ ap (λ (b : Bool). b && right_arrays false (held ++ brought (p.before ++ (x.here ∷ []))) x.after)
      (sym (right held cells p.before x.here x.after ls (here_words p x arrays w) p.count ts.0 ts.1))

  pub checking_no : (i : ℕ) (r : Bool) → Checking arrays t n i → i < m → RightArray arrays i t n r → r ≡ false → Dimensions arrays t n false
  checking_no i r c l right e held cells declared ls w told =
      let j = c held cells declared ls w told in
      let x = parted_next j.parted arrays m w h l in
      sym (step i r right l held cells declared ls w told j x ∙ ap (λ (b : Bool). b && right_arrays false (held ++ brought (j.parted.before ++ (x.here ∷ []))) x.after) e)

  pub checking_on : (i : ℕ) (r : Bool) → Checking arrays t n i → i < m → RightArray arrays i t n r → r ≡ true → Checking arrays t n (i + 1)
  unfolding parted_more
  checking_on i r c l right e held cells declared ls w told =
      let j = c held cells declared ls w told in
      let x = parted_next j.parted arrays m w h l in
      record {
        parted = parted_more j.parted x;
        same = step i r right l held cells declared ls w told j x ∙ ap (λ (b : Bool). b && right_arrays false (held ++ brought (j.parted.before ++ (x.here ∷ []))) x.after) e;
      }

  pub checking_end : (i : ℕ) → Checking arrays t n i → m ≤ i → Dimensions arrays t n true
  checking_end i c l held cells declared ls w told =
      let j = c held cells declared ls w told in
      sym (j.same ∙ ap (right_arrays false (held ++ brought j.parted.before)) (parted_end j.parted arrays m w h l))
