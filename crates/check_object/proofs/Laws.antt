-- Each answer of the check over plain lists; the first bad entry is one of those there are.
-- Assumes nothing.
use mathlib.Core.Path.{◌≡◌, refl, sym, subst}
use mathlib.Core.Bool.{Bool, true, false, cond}
use mathlib.Core.List.{List, [], ◌∷◌}
use mathlib.Core.Option.{Option, none, some}
use Prim.Native.Nat.{ℕ, zero, suc, ◌+◌, ◌≤◌, ◌<◌}
use native.Mathlib.Omega.{arith}
use lib.ListN.{length, get_or, take}
use Rattle.number.specs.Number.{digits_rule}
use Rattle.rules_object.specs.Object.{Object, rule_of}
use Rattle.rules_object.specs.Check.{right41, right_constant, right_element, right_loop, right_line, right_named, right_format, right_item, right_transfer}
use Rattle.rules_object.specs.Operations.{no_element, no_loop, no_transfer, right43, flow_of}
use Rattle.rules_object.specs.Heights.{heights}
use Rattle.rules_object.specs.Bytes.{read_object}
use Rattle.rules_object.specs.Writable.{Edition}
use Rattle.rules_shared.specs.Refusals.{Refusal, refusal, at_entry}
use Rattle.rules_shared.specs.Lists.{first_bad, first_from}
use Rattle.rules_object.specs.Calls.{refused42, refused43, refused, passed, checked}
use Rattle.rules_object.proofs.Passed.{some_none}
use Rattle.rules_object.proofs.Limited.{Limited, limited}
use Rattle.rules_object.proofs.Accepts.{If, or_if}
use Rattle.object_contents.specs.declared.Layout.{Layout}
use Rattle.object_contents.specs.Layout.{object_at, Placed}
use Rattle.check_names.specs.Names.{no_name}
use Rattle.check_formats.specs.Formats.{no_item}
use Rattle.check_entries.specs.Judge.{no_line}
use Rattle.check_heights.specs.Judged.{answered}
use Rattle.check_object.specs.Verdicts.{judged_all}

-- ---- the first bad entry, of those counted from n

abbrev First : {A : Type 0} → (A → Bool) → List A → ℕ → A → Option ℕ → Type 0
First test l n d none = (i : ℕ) → i < length l → test (get_or l i d) ≡ true
First test l n d (some i) = i < n + length l

first : {A : Type 0} (test : A → Bool) (l : List A) (n : ℕ) (d : A) → First test l n d (first_bad test l n)
first test [] n d = λ i h. absurd (omega arith)
first test (a ∷ more) n d = by (test a) refl (first_bad test more (suc n)) (first test more (suc n) d)
  where
    by : (b : Bool) → test a ≡ b → (f : Option ℕ) → First test more (suc n) d f → First test (a ∷ more) n d (cond b f (some n))
    by false q f h = omega arith
    by true q (some i) h = omega arith
    by true q none h = all
      where
        all : (i : ℕ) → i < suc (length more) → test (get_or (a ∷ more) i d) ≡ true
        all zero l = q
        all (suc i) l = h i (omega arith)

-- a place below the longest body's count
abbrev Low : Refusal → Type 0
Low r = r.place < 4096

low : {A : Type 0} (test : A → Bool) (l : List A) (d : A) (number kind : ℕ) → length l ≤ 4096 → If Low (at_entry number kind (first_bad test l 0))
low test l d number kind h = by (first_bad test l 0) (first test l 0 d)
  where
    by : (f : Option ℕ) → First test l 0 d f → If Low (at_entry number kind f)
    by none g = tt
    by (some i) g = omega arith

-- the first of n places from i on is one of them
abbrev Below : ℕ → Option ℕ → Type 0
Below n none = Unit
Below n (some i) = i < n

from_below : (test : ℕ → Bool) (n i : ℕ) → Below (i + n) (first_from test n i)
from_below test zero i = tt
from_below test (suc n) i = by (test i) (first_from test n (suc i)) (from_below test n (suc i))
  where
    by : (b : Bool) (f : Option ℕ) → Below (suc i + n) f → Below (i + suc n) (cond b f (some i))
    by true none h = tt
    by true (some j) h = omega arith
    by false f h = omega arith

low_from : (test : ℕ → Bool) (n number kind : ℕ) → n ≤ 4096 → If Low (at_entry number kind (first_from test n 0))
low_from test n number kind h = by (first_from test n 0) (from_below test n 0)
  where
    by : (f : Option ℕ) → Below (0 + n) f → If Low (at_entry number kind f)
    by none g = tt
    by (some i) g = omega arith

-- ---- 41 and what it settles

pub digits_low : (e : Layout) (s : List ℕ) → Placed e s → right41 (object_at e s) ≡ true → e.digits < 10
unfolding object_at
digits_low e s p h = let l = limited (object_at e s) p.edition h in omega (arith, l.digits)

-- the rule by the layout's digits
pub rule_is : (e : Layout) (s : List ℕ) → digits_rule e.digits ≡ rule_of (object_at e s)
unfolding object_at
rule_is e s = refl

low_42 : (o : Object) → Limited o → If Low (refused42 o)
unfolding refused42
low_42 o l =
    or_if Low (at_entry 42 1 (first_bad (right_constant o) o.constants 0)) _ (low (right_constant o) o.constants 0 42 1 (omega arith))
    (or_if Low (at_entry 42 2 (first_bad (right_element o) o.elements 0)) _ (low (right_element o) o.elements no_element 42 2 (omega arith))
    (or_if Low (at_entry 42 4 (first_bad (right_loop o) o.dos 0)) _ (low (right_loop o) o.dos no_loop 42 4 (omega arith))
    (or_if Low (at_entry 42 6 (first_bad (right_line o) o.lines 0)) _ (low (right_line o) o.lines no_line 42 6 (omega arith))
    (or_if Low (at_entry 42 7 (first_bad (right_named o) o.names 0)) _ (low (right_named o) o.names no_name 42 7 (omega arith))
    (or_if Low (at_entry 42 8 (first_from (right_format o) (length o.formats) 0)) _ (low_from (right_format o) (length o.formats) 42 8 (omega arith))
    (or_if Low (at_entry 42 9 (first_bad (right_item o) o.items 0)) _ (low (right_item o) o.items no_item 42 9 (omega arith))
    (low (right_transfer o) o.transfers no_transfer 42 10 (omega arith))))))))

low_43 : (o : Object) → Limited o → If Low (refused43 o)
unfolding refused43
low_43 o l = low (right43 o) o.code 0 43 5 (omega arith)

-- ---- what was found, of 42 and of 43

module _ (o : Object) (v : Edition o) (r : right41 o ≡ true) (p k : ℕ) where
  pub place_42 : some (refusal 42 p k) ≡ refused42 o → p < 4096
  place_42 h = subst (If Low) (sym h) (low_42 o (limited o v r))

  pub place_43 : some (refusal 43 p k) ≡ refused43 o → p < 4096
  place_43 h = subst (If Low) (sym h) (low_43 o (limited o v r))

-- every word is right
pub all_43 : (o : Object) → none ≡ refused43 o → (a : ℕ) → a < length o.code → right43 o (get_or o.code a 0) ≡ true
unfolding refused43
all_43 o h = by (first_bad (right43 o) o.code 0) (first (right43 o) o.code 0 0) (sym h)
  where
    by : (g : Option ℕ) → First (right43 o) o.code 0 0 g → at_entry 43 5 g ≡ none → (a : ℕ) → a < length o.code → right43 o (get_or o.code a 0) ≡ true
    by none all e = all
    by (some i) g e = absurd (some_none e)

-- ---- the verdict, by the first that refuses

pub over_limit : (o : Object) → right41 o ≡ false → refused (refusal 41 0 0) ≡ judged_all o
unfolding judged_all
over_limit o h = rw h

module _ (o : Object) (r : right41 o ≡ true) where
  pub by_42 : {f : Refusal} → some f ≡ refused42 o → refused f ≡ judged_all o
  unfolding judged_all
  by_42 h = rw (r, ← h)

  module _ (h : none ≡ refused42 o) where
    pub by_43 : {f : Refusal} → some f ≡ refused43 o → refused f ≡ judged_all o
    unfolding judged_all
    by_43 g = rw (r, ← h, ← g)

    module _ (g : none ≡ refused43 o) (n : ℕ) (table : List ℕ) where
      pub with_table : heights (flow_of o) ≡ answered n table true → passed o (take n table) ≡ judged_all o
      unfolding judged_all answered
      with_table q = rw (r, ← h, ← g, q)

      pub no_table : heights (flow_of o) ≡ answered n table false → refused (refusal 44 0 0) ≡ judged_all o
      unfolding judged_all answered
      no_table q = rw (r, ← h, ← g, q)

-- ---- 40

pub unread : (s : List ℕ) → read_object s ≡ none → refused (refusal 40 0 0) ≡ checked s
unfolding checked
unread s h = rw h

pub read : (s : List ℕ) (o : Object) → read_object s ≡ some o → judged_all o ≡ checked s
unfolding checked judged_all
read s o h = rw h
