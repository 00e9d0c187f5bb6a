-- Words of arrays one after the other, and whether a name is new.
-- Assumes nothing.
use mathlib.Core.Path.{◌≡◌, refl, sym, ap, ◌∙◌}
use Prim.Native.Nat.{ℕ, zero, suc, min, ◌+◌, ◌-◌, ◌*◌, ◌≤◌, ◌<◌}
use native.Mathlib.Omega.{arith}
use mathlib.Core.Bool.{Bool, true, false, ◌&&◌, ◌||◌, not}
use mathlib.Core.List.{List, [], ◌∷◌, ◌++◌}
use mathlib.Core.Option.{none, some}
use lib.Dec.{leb}
use lib.ListN.{length, get_or, drop}
use lib.Seq.{get_or-drop, drop-drop}
use borrow.Author.Tests.{le-leb}
use Rattle.rules_shared.specs.Lists.{Each, each_more}
use Rattle.rules_text.specs.Trees.{Name, Array, array, array_names, value_of}
use Rattle.rules_deck.specs.Deck.{same_name, declare}
use Rattle.rules_deck.specs.Translation.{Held, is_the_name, is_array, holds}
use Rattle.rules_deck.specs.Judge.{seen, some_cells}
use Rattle.read_tokens.specs.Words.{most, capped, name_of, name_words, name_at, same_words}
use Rattle.read_tokens.specs.declared.Name as code
use Rattle.read_forms.specs.Statements.{array_words, all_words}
use Rattle.take_draft.specs.Names.{Told}
use Rattle.take_name_table.specs.Lookups.{Holds}
use Rattle.take_name_table.proofs.Tests.{and_true}
use Rattle.take_draft.proofs.NameWords.{name_test}
use Rattle.take_arrays.specs.One.{brought, is_named, some_words, IsNew}

-- ---- words

pub words_length : (a : List Array) → length (all_words a) ≡ 7 * length a
unfolding all_words array_words
words_length [] = refl
words_length (array v r none ∷ a) = let e = words_length a in omega (arith, e)
words_length (array v r (some c) ∷ a) = let e = words_length a in omega (arith, e)

pub words_both : (a b : List Array) → all_words (a ++ b) ≡ all_words a ++ all_words b
unfolding all_words array_words
words_both [] b = refl
words_both (array v r none ∷ a) b = ap (λ (l : List ℕ). 1 ∷ (name_words (name_of v) ++ (capped r ∷ 0 ∷ l))) (words_both a b)
words_both (array v r (some c) ∷ a) b = ap (λ (l : List ℕ). 2 ∷ (name_words (name_of v) ++ (capped r ∷ capped c ∷ l))) (words_both a b)

pub names_both : (a b : List Array) → array_names (a ++ b) ≡ array_names a ++ array_names b
names_both [] b = refl
names_both (array v r c ∷ a) b = ap (λ (l : List Name). v ∷ l) (names_both a b)

-- ---- rows and columns

most_some : (c : ℕ) → leb 1 (min c most) ≡ leb 1 c
most_some zero = refl
most_some (suc c) = le-leb 1 (min (suc c) most) (omega arith) ∙ sym (le-leb 1 (suc c) (omega arith))

pub some_is : (a : Array) (more : List ℕ) → some_words (get_or (array_words a ++ more) 0 0) (get_or (array_words a ++ more) 5 0) (get_or (array_words a ++ more) 6 0) ≡ some_cells a
unfolding array_words capped
some_is (array v r none) more = and_true (leb 1 (min (value_of r) most)) true refl ∙ most_some (value_of r)
some_is (array v r (some c)) more = ap (λ (b : Bool). b && leb 1 (min (value_of c) most)) (most_some (value_of r)) ∙ ap (λ (b : Bool). leb 1 (value_of r) && b) (most_some (value_of c))

pub name_is : (a : Array) (more : List ℕ) → name_at (array_words a ++ more) 1 ≡ name_of (declare a).name
unfolding array_words
name_is (array v r none) more = refl
name_is (array v r (some c)) more = refl

-- ---- the search for a name

pub record Hunting (w : code.Name) (n : ℕ) (t : List ℕ) (i : ℕ) : Type 0 where
  pub within : i ≤ n
  pub is : is_named w n t ≡ is_named w (n - i) (drop (7 * i) t)

-- a name's place, where the words before it are left out
pub name_drop : (t : List ℕ) (k at : ℕ) → name_at (drop k t) at ≡ name_at t (k + at)
name_drop t k at =
    let at₁ : k + (at + 1) ≡ k + at + 1 = omega arith in
    let at₂ : k + (at + 2) ≡ k + at + 2 = omega arith in
    let at₃ : k + (at + 3) ≡ k + at + 3 = omega arith in
    λ j. record { 0 = get_or-drop k t at 0 j; 1 = further 1 at₁ j; 2 = further 2 at₂ j; 3 = further 3 at₃ j }
  where
    further : (i : ℕ) → k + (at + i) ≡ k + at + i → get_or (drop k t) (at + i) 0 ≡ get_or t (k + at + i) 0
    further i e = get_or-drop k t (at + i) 0 ∙ ap (λ (x : ℕ). get_or t x 0) e

module _ (w : code.Name) (n : ℕ) (t : List ℕ) where
  hunt_step : (i m : ℕ) → m ≡ suc (n - (i + 1)) → is_named w m (drop (7 * i) t) ≡ same_words (name_at t (7 * i + 1)) w || is_named w (n - (i + 1)) (drop (7 * (i + 1)) t)
  unfolding is_named
  hunt_step i m e =
      ap (λ (x : ℕ). is_named w x (drop (7 * i) t)) e
      ∙ ap (λ (x : code.Name). same_words x w || is_named w (n - (i + 1)) (drop 7 (drop (7 * i) t))) (name_drop t (7 * i) 1)
      ∙ ap (λ (l : List ℕ). same_words (name_at t (7 * i + 1)) w || is_named w (n - (i + 1)) l) (drop-drop 7 (7 * i) t)
      ∙ (let f : 7 * i + 7 ≡ 7 * (i + 1) = omega arith in ap (λ (j : ℕ). same_words (name_at t (7 * i + 1)) w || is_named w (n - (i + 1)) (drop j t)) f)

  pub hunt_found : (i : ℕ) → Hunting w n t i → i < n → same_words (name_at t (7 * i + 1)) w ≡ true → true ≡ is_named w n t
  hunt_found i h l e =
      sym (h.is ∙ hunt_step i (n - i) (omega arith) ∙ ap (λ (b : Bool). b || is_named w (n - (i + 1)) (drop (7 * (i + 1)) t)) e)

  pub hunt_next : (i : ℕ) → Hunting w n t i → i < n → same_words (name_at t (7 * i + 1)) w ≡ false → Hunting w n t (i + 1)
  hunt_next i h l e =
      record {
        within = omega arith;
        is = h.is ∙ hunt_step i (n - i) (omega arith) ∙ ap (λ (b : Bool). b || is_named w (n - (i + 1)) (drop (7 * (i + 1)) t)) e;
      }

  pub hunt_end : (i : ℕ) → Hunting w n t i → n ≤ i → false ≡ is_named w n t
  unfolding is_named
  hunt_end i h l = sym (h.is ∙ (let e : n - i ≡ 0 = omega arith in ap (λ (m : ℕ). is_named w m (drop (7 * i) t)) e))

-- ---- a name that was not seen

named_is : (v : Name) (before : List Array) (more : List ℕ) → Told v → Each Told (array_names before)
    → is_named (name_of v) (length before) (all_words before ++ more) ≡ holds (is_array v) (brought before)
unfolding is_named all_words array_words
named_is v [] more tv told = refl
named_is v (array w r none ∷ before) more tv (each_more tw told) =
    ap (λ (b : Bool). b || is_named (name_of v) (length before) (all_words before ++ more)) (name_test w v tw tv)
    ∙ ap (λ (b : Bool). same_name w v || b) (named_is v before more tv told)
named_is v (array w r (some c) ∷ before) more tv (each_more tw told) =
    ap (λ (b : Bool). b || is_named (name_of v) (length before) (all_words before ++ more)) (name_test w v tw tv)
    ∙ ap (λ (b : Bool). same_name w v || b) (named_is v before more tv told)

or_none : (b : Bool) → (b || false) ≡ b
or_none true = refl
or_none false = refl

holds_both : (test : Held → Bool) (a b : List Held) → holds test (a ++ b) ≡ holds test a || holds test b
holds_both test [] b = refl
holds_both test (h ∷ a) b = go (test h) (holds_both test a b)
  where
    go : (t : Bool) → holds test (a ++ b) ≡ holds test a || holds test b → (t || holds test (a ++ b)) ≡ (t || holds test a) || holds test b
    go true e = refl
    go false e = e

no_names : (v : Name) (before : List Array) → holds (is_the_name v) (brought before) ≡ false
no_names v [] = refl
no_names v (a ∷ before) = no_names v before

-- plain, an array, or earlier in the same DIMENSION
pub seen_is : (held : List Held) (before : List Array) (v : Name)
    → seen (held ++ brought before) v ≡ holds (is_the_name v) held || (holds (is_array v) held || holds (is_array v) (brought before))
seen_is held before v =
    let plain = holds_both (is_the_name v) held (brought before) ∙ ap (λ (b : Bool). holds (is_the_name v) held || b) (no_names v before) ∙ or_none (holds (is_the_name v) held) in
    ap (λ (b : Bool). b || holds (is_array v) (held ++ brought before)) plain
    ∙ ap (λ (b : Bool). holds (is_the_name v) held || b) (holds_both (is_array v) held (brought before))

or_true : (a : Bool) → (a || true) ≡ true
or_true true = refl
or_true false = refl

module _ (arrays : List ℕ) (i : ℕ) (t : List ℕ) (n : ℕ) (word : code.Name) where
  pub new_plain : (p : Bool) → Holds t n word false p → p ≡ true → IsNew arrays i t n word false
  new_plain p hp e held cells before more v l w c told tv is =
      sym (ap not (seen_is held before v ∙ ap (λ (b : Bool). b || (holds (is_array v) held || holds (is_array v) (brought before))) (sym (hp.is held cells v l tv is) ∙ e)))

  pub new_array : (a : Bool) → Holds t n word true a → a ≡ true → IsNew arrays i t n word false
  new_array a ha e held cells before more v l w c told tv is =
      sym (ap not (seen_is held before v ∙ ap (λ (b : Bool). holds (is_the_name v) held || (b || holds (is_array v) (brought before))) (sym (ha.is held cells v l tv is) ∙ e)
      ∙ or_true (holds (is_the_name v) held)))

  pub new_last : (p a r : Bool) → Holds t n word false p → p ≡ false → Holds t n word true a → a ≡ false → r ≡ is_named word i arrays
      → IsNew arrays i t n word (not r)
  new_last p a r hp ep ha ea e held cells before more v l w c told tv is =
      let named =
      e ∙ ap (λ (x : code.Name). is_named x i arrays) is ∙ ap (λ (x : ℕ). is_named (name_of v) x arrays) c ∙ ap (is_named (name_of v) (length before)) w
      ∙ named_is v before more tv told in
      sym (ap not (seen_is held before v
      ∙ ap (λ (b : Bool). b || (holds (is_array v) held || holds (is_array v) (brought before))) (sym (hp.is held cells v l tv is) ∙ ep)
      ∙ ap (λ (b : Bool). b || holds (is_array v) (brought before)) (sym (ha.is held cells v l tv is) ∙ ea)
      ∙ sym named))
