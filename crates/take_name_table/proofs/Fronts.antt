-- Words that are items: the item that they start with, and the words after it.
-- Assumes nothing.
use mathlib.Core.Path.{◌≡◌, refl, sym, ap, ◌∙◌, subst}
use Prim.Native.Nat.{ℕ, ◌+◌, ◌-◌, ◌≤◌, ◌<◌}
use native.Mathlib.Omega.{arith}
use mathlib.Core.List.{List, [], ◌∷◌, ◌++◌}
use lib.ListN.{length, get_or, take, drop, length-append, length-drop}
use lib.Seq.{drop-drop, drop_at, take_all}
use Rattle.number.specs.Number.{Op, add, sub, mul, div}
use Rattle.take_draft.specs.Parts.{Item, value, plain, place, negate, apply, item_words, items_words, Worded}
use Rattle.take_name_table.specs.Find.{item_length}
use Rattle.take_name_table.proofs.Tests.{head_at}

pub item_length_lem : (i : Item) (more : List ℕ) → length (item_words i) ≡ item_length (get_or (item_words i ++ more) 0 0)
item_length_lem (value c) more = refl
item_length_lem (plain v) more = refl
item_length_lem (place v s) more = refl
item_length_lem negate more = refl
item_length_lem (apply add) more = refl
item_length_lem (apply sub) more = refl
item_length_lem (apply mul) more = refl
item_length_lem (apply div) more = refl

-- an item has a word at least
pub item_some : (i : Item) → 1 ≤ length (item_words i)
item_some (value c) = omega arith
item_some (plain v) = omega arith
item_some (place v s) = omega arith
item_some negate = omega arith
item_some (apply o) = omega arith

pub record Front (words : List ℕ) (is : List Item) : Type 0 where
  pub first : Item
  pub rest : List Item
  pub both : is ≡ first ∷ rest
  pub are : words ≡ item_words first ++ items_words rest
  pub long : length (item_words first) ≡ item_length (get_or words 0 0)
  pub next : drop (item_length (get_or words 0 0)) words ≡ items_words rest

pub front : (words : List ℕ) (is : List Item) → words ≡ items_words is → 0 < length words → Front words is
front words [] e h = absurd (let z : length words ≡ 0 = ap length e in omega (arith, z, h))
front words (i ∷ is) e h =
    let l : length (item_words i) ≡ item_length (get_or words 0 0) = item_length_lem i (items_words is) ∙ ap (λ (w : List ℕ). item_length (get_or w 0 0)) (sym e) in
    record {
      first = i;
      rest = is;
      both = refl;
      are = e;
      long = l;
      next = ap (drop (item_length (get_or words 0 0))) e ∙ drop_at (item_words i) (items_words is) (item_length (get_or words 0 0)) l;
    }

-- all its words are there
pub front_long : {words : List ℕ} {is : List Item} → Front words is → item_length (get_or words 0 0) ≤ length words
front_long {words} f =
    let a : length words ≡ length (item_words f.first ++ items_words f.rest) = ap length f.are in
    let b = length-append (item_words f.first) (items_words f.rest) in
    let c = f.long in
    omega (arith, a, b, c)

pub front_some : {words : List ℕ} {is : List Item} → Front words is → 1 ≤ item_length (get_or words 0 0)
front_some f = let a = f.long in let b = item_some f.first in omega (arith, a, b)

pub none_left : (words : List ℕ) (is : List Item) → words ≡ items_words is → length words ≡ 0 → is ≡ []
none_left words [] e h = refl
none_left words (i ∷ is) e h =
    absurd (let a : length words ≡ length (item_words i ++ items_words is) = ap length e in
    let b = length-append (item_words i) (items_words is) in
    let c = item_some i in
    omega (arith, a, b, c, h))

-- ---- a place in some words

pub record Ahead (words : List ℕ) (at : ℕ) : Type 0 where
  pub some : 1 ≤ item_length (get_or words at 0)
  pub within : at + item_length (get_or words at 0) ≤ length words
  pub worded : Worded (drop (at + item_length (get_or words at 0)) words)

pub step_on : (words : List ℕ) (at : ℕ) (is : List Item) → at < length words → (f : Front (drop at words) is)
    → drop (at + item_length (get_or words at 0)) words ≡ items_words f.rest
step_on words at is l f =
    sym (drop-drop (item_length (get_or words at 0)) at words)
    ∙ ap (λ (w : ℕ). drop (item_length w) (drop at words)) (sym (head_at words at))
    ∙ f.next

pub ahead : (words : List ℕ) (at : ℕ) → Worded (drop at words) → at < length words → Ahead words at
ahead words at w l =
    let d = length-drop at words in
    let f = front (drop at words) w.items w.are (omega (arith, d, l)) in
    let h = head_at words at in
    let g : item_length (get_or (drop at words) 0 0) ≡ item_length (get_or words at 0) = ap item_length h in
    record {
      some = let a = front_some f in omega (arith, a, g);
      within = let a = front_long f in omega (arith, a, g, d, l);
      worded = record { items = f.rest; are = step_on words at w.items l f };
    }

-- the words from a place on, as they are lent
pub lent : (words : List ℕ) (at : ℕ) → take (length words - at) (drop at words) ≡ drop at words
lent words at = take_all (length words - at) (drop at words) (let d = length-drop at words in omega (arith, d))

pub rest_worded : (words : List ℕ) (at : ℕ) → Worded (drop at words) → at < length words
    → Worded (take (length words - at) (drop at words)) × (0 < length (take (length words - at) (drop at words)))
rest_worded words at w l =
    subst (λ (x : List ℕ). Worded x × (0 < length x)) (sym (lent words at)) (w, (let d = length-drop at words in omega (arith, d, l)))

pub kind_is : {items : List ℕ} (i : Item) (more : List ℕ) → items ≡ item_words i ++ more → (k : ℕ) → get_or items 0 0 ≡ k → get_or (item_words i ++ more) 0 0 ≡ k
kind_is i more e k h = ap (λ (x : List ℕ). get_or x 0 0) (sym e) ∙ h

-- an operation's first word is none of an operand
pub no_operand : (o : Op) (more : List ℕ) (k : ℕ) → k < 5 → get_or (item_words (apply o) ++ more) 0 0 ≡ k → ⊥
no_operand add more k l e = omega (arith, l, e)
no_operand sub more k l e = omega (arith, l, e)
no_operand mul more k l e = omega (arith, l, e)
no_operand div more k l e = omega (arith, l, e)
