-- What the lookups give is what the book's entry has.
-- Assumes nothing.
use mathlib.Core.Path.{◌≡◌, refl, sym, ap, ◌∙◌, subst}
use Prim.Native.Nat.{ℕ, zero, suc, ◌+◌, ◌*◌, ◌%◌, ◌^◌, ◌<◌}
use native.Mathlib.Omega.{arith}
use native.Mathlib.Nat.{mod-eq_of_lt}
use mathlib.Core.List.{List, [], ◌∷◌, ◌++◌}
use mathlib.Core.Option.{Option, none, some}
use lib.ListN.{take}
use lib.IntN.{pos, neg_ℤ}
use Rattle.rules_object.specs.Bytes.{signed_word}
use Rattle.rules_shared.specs.Lists.{Each}
use Rattle.rules_shared.proofs.EachLaws.{each_head, each_tail, each_both}
use Rattle.rules_text.specs.Trees.{Name, Digits, value_of, optional, Addend, nothing, plus, minus, constant, linear, one, two, addend_constants, subscript_names, subscript_constants, subscripts_names, subscripts_constants}
use Rattle.rules_text.specs.Trees as trees
use Rattle.rules_deck.specs.Deck.{Dims, width}
use Rattle.rules_deck.specs.Meaning.{times, addend}
use Rattle.rules_deck.specs.Translation.{Held, base_of, first_entry}
use Rattle.read_tokens.specs.Words.{capped}
use Rattle.read_elements.specs.declared.Subscript.{Subscript}
use Rattle.read_elements.specs.declared.Subscripts.{Subscripts}
use Rattle.read_elements.specs.declared.Element.{Element}
use Rattle.read_elements.specs.Values.{addend_value, times_of, subscript_value, subscripts_value}
use Rattle.std.specs.Prelude.{max}
use Rattle.take_draft.specs.Names.{Lists, Exact, dims_held}
use Rattle.take_name_table.specs.declared.Entry.{Entry}
use Rattle.take_name_table.specs.Lookups.{CellOf, ArrayOf}
use Rattle.take_draft.proofs.NameWords.{first_word}
use Rattle.take_entries.specs.declared.Linear.{Linear}
use Rattle.take_entries.specs.Places.{linear_words, entry_words, Signed, Clear, subscript_words, LinearOf, SecondOf, PutsElement}

-- ---- numbers

exact : (c : Digits) → Exact c → capped c ≡ value_of c
unfolding capped
exact c h = omega (arith, h)

three : {a b c d e f : ℕ} → a ≡ d → b ≡ e → c ≡ f → ◌≡◌ {A = List ℕ} (a ∷ b ∷ c ∷ []) (d ∷ e ∷ f ∷ [])
three {a} {b} {c} {d} {e} {f} p q r =
    ap (λ (x : ℕ). x ∷ b ∷ c ∷ []) p ∙ ap (λ (x : ℕ). d ∷ x ∷ c ∷ []) q ∙ ap (λ (x : ℕ). d ∷ e ∷ x ∷ []) r

times_are : (m : Option Digits) → Each Exact (optional m) → times_of m % 2 ^ 32 ≡ times m
unfolding times_of
times_are none h = refl
times_are (some c) h = let e = exact c (each_head h) in ap (λ (x : ℕ). x % 2 ^ 32) e ∙ mod-eq_of_lt (let k : value_of c < 1000000000 = each_head h in omega (arith, k))

addend_is : (a : Addend) {r : ℕ} → Each Exact (addend_constants a) → Signed (addend_value a).minus (addend_value a).value r → r ≡ signed_word (addend a)
unfolding addend_value signed_word
addend_is nothing h s = s.plus refl (omega arith)
addend_is (plus c) h s = let k : value_of c < 1000000000 = each_head h in let e = exact c (each_head h) in s.plus refl (omega (arith, k, e)) ∙ e
addend_is (minus c) h s =
    let k : value_of c < 1000000000 = each_head h in
    let e = exact c (each_head h) in
    s.less refl (omega (arith, k, e)) ∙ ap (λ (x : ℕ). signed_word (neg_ℤ (pos x))) e

word : (w : ℕ) → w ≡ signed_word (pos w)
unfolding signed_word
word w = refl

-- ---- a subscript

module _ (table : List ℕ) (count : ℕ) {s : Subscript} {times plus : ℕ} (t : times ≡ s.times % 2 ^ 32) (g : Signed s.minus s.addend plus) where
  pub of_constant : s.name.0 ≡ 0 → LinearOf table count s (record { times = times; cell = 0; plus = plus })
  unfolding subscript_value
  of_constant z held cells dims (constant c) l e k =
      let x = exact c (each_head k.exact) in
      let y : value_of c < 1000000000 = each_head k.exact in
      let a : s.addend ≡ capped c = ap (λ (x : Subscript). x.addend) e in
      let n : s.minus ≡ 0 = ap (λ (x : Subscript). x.minus) e in
      three (t ∙ ap (λ (x : Subscript). x.times % 2 ^ 32) e) refl (g.plus n (omega (arith, x, y, a)) ∙ a ∙ x ∙ word (value_of c))
  of_constant z held cells dims (linear m v a) l e k = absurd (first_word v (each_head k.told) (sym (ap (λ (x : Subscript). x.name.0) e) ∙ z))

  pub of_name : {r : ℕ} → (s.name.0 ≡ 0 → ⊥) → CellOf table count s.name r → LinearOf table count s (record { times = times; cell = r; plus = plus })
  unfolding subscript_value
  of_name z f held cells dims (constant c) l e k = absurd (z (ap (λ (x : Subscript). x.name.0) e))
  of_name {r} z f held cells dims (linear m v a) l e k =
      let b = each_both (optional m) k.exact in
      three (t ∙ ap (λ (x : Subscript). x.times % 2 ^ 32) e ∙ times_are m b.0)
      (f.is held cells v l (each_head k.told) (ap (λ (x : Subscript). x.name) e) (each_head k.plains))
      (addend_is a b.1 (subst (λ (x : Subscript). Signed x.minus x.addend plus) e g))

-- ---- the second

module _ (table : List ℕ) (count : ℕ) {p : Subscripts} where
  pub only_one : p.count ≡ 1 → SecondOf table count p (record { times = 0; cell = 0; plus = 1 })
  unfolding subscripts_value signed_word
  only_one z held cells dims (one s) l e k = refl
  only_one z held cells dims (two s t) l e k =
      absurd (let c : p.count ≡ 2 = ap (λ (x : Subscripts). x.count) e in omega (arith, c, z))

  pub of_second : {r : Linear} → (p.count ≡ 1 → ⊥) → LinearOf table count p.second r → SecondOf table count p r
  unfolding subscripts_value
  of_second z f held cells dims (one s) l e k = absurd (z (ap (λ (x : Subscripts). x.count) e))
  of_second z f held cells dims (two s t) l e k =
      f held cells dims t l (ap (λ (x : Subscripts). x.second) e)
      (record {
        told = (each_both (subscript_names s) k.told).1;
        exact = (each_both (subscript_constants s) k.exact).1;
        plains = (each_both (subscript_names s) k.plains).1;
      })

width_max : (c : ℕ) → max c 1 ≡ width c
width_max zero = refl
width_max (suc c) = omega arith

-- ---- the entry

first_is : (table : List ℕ) (count : ℕ) (held : List Held) (cells : ℕ) (dims : Name → Dims) (s : trees.Subscripts) {p : Subscripts} {r : Linear}
    → LinearOf table count p.first r → Lists held table count cells → p ≡ subscripts_value s → Clear held (subscripts_names s) (subscripts_constants s)
    → linear_words r ≡ subscript_words (first_entry held dims s)
unfolding subscripts_value
first_is table count held cells dims (one s) f l e k = f held cells dims s l (ap (λ (y : Subscripts). y.first) e) k
first_is table count held cells dims (two s t) f l e k =
    f held cells dims s l (ap (λ (y : Subscripts). y.first) e)
    (record {
      told = (each_both (subscript_names s) k.told).0;
      exact = (each_both (subscript_constants s) k.exact).0;
      plains = (each_both (subscript_names s) k.plains).0;
    })

module _ (table : List ℕ) (count n : ℕ) {x : Element} {array : Entry} {columns : ℕ} {first second : Linear} where
  pub entered : (a b : List ℕ) → ArrayOf table count x.name array → columns ≡ max array.columns 1 → LinearOf table count x.subscripts.first first
      → SecondOf table count x.subscripts second → take (9 * n + 9) b ≡ take (9 * n) a ++ entry_words array.first array.rows columns first second
      → PutsElement table count x a b n
  entered a b f w g h p held cells v s l e k =
      let st = f.is held cells (record { name = v; subscripts = s }) l (each_head k.told) (ap (λ (y : Element). y.name) e) (each_head k.arrays) in
      let se : x.subscripts ≡ subscripts_value s = ap (λ (y : Element). y.subscripts) e in
      let cl : Clear held (subscripts_names s) (subscripts_constants s) = record { told = each_tail k.told; exact = k.exact; plains = k.plains } in
      let dims = dims_held held in
      let c : columns ≡ width (dims v).columns = w ∙ width_max array.columns ∙ ap width st.columns_are in
      let one = three st.first_is st.rows_are c in
      let two = first_is table count held cells dims s g l se cl in
      let three' = h held cells dims s l se cl in
      p
      ∙ ap (λ (ws : List ℕ). take (9 * n) a ++ (ws ++ (linear_words first ++ linear_words second))) one
      ∙ ap (λ (ws : List ℕ). take (9 * n) a ++ ((base_of held v ∷ (dims v).rows ∷ width (dims v).columns ∷ []) ++ (ws ++ linear_words second))) two
      ∙ ap (λ (ws : List ℕ). take (9 * n) a ++ ((base_of held v ∷ (dims v).rows ∷ width (dims v).columns ∷ []) ++ (subscript_words (first_entry held dims s) ++ ws))) three'
