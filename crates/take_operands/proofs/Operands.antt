-- Plain names, constants, elements and targets: the instructions of operands.
-- Assumes nothing.
use mathlib.Core.Path.{◌≡◌, refl, sym, ap, ◌∙◌, subst}
use Prim.Native.Nat.{ℕ, ◌+◌, ◌*◌, ◌%◌, ◌^◌, ◌<◌}
use native.Mathlib.Omega.{arith}
use native.Mathlib.Nat.{mod-eq_of_lt}
use mathlib.Core.List.{List, [], ◌∷◌, ◌++◌, map, append_assoc, append-nil}
use lib.ListN.{length, take, length-append}
use Rattle.rules_object.specs.Operations.{CON, LOD, STO, STE}
use Rattle.rules_object.specs.Bytes.{concat, element_words}
use Rattle.rules_shared.proofs.EachLaws.{each_head, each_both}
use Rattle.rules_text.specs.Trees.{Digits, value_of}
use Rattle.rules_deck.specs.Translation.{Held, cell_of, element_entry, Tables, pool, pool_at, tables_after}
use Rattle.read_tokens.specs.Words.{capped, name_of}
use Rattle.read_tokens.specs.declared.Name as code
use Rattle.read_elements.specs.declared.Element.{Element}
use Rattle.read_elements.specs.declared.Target.{Target}
use Rattle.read_elements.specs.Values.{subscripts_value, target_value}
use Rattle.take_draft.specs.declared.Counts.{Counts}
use Rattle.take_draft.specs.Counts.{with_constants, with_elements}
use Rattle.take_draft.specs.Parts.{Item, item_names, item_constants, item_plain, item_references}
use Rattle.take_draft.specs.Names.{dims_held, Exact, Known}
use Rattle.take_draft.specs.Kept.{Tabled, Fit}
use Rattle.take_name_table.specs.Lookups.{CellOf}
use Rattle.take_entries.specs.Pooling.{PooledAt}
use Rattle.take_entries.specs.Places.{KnownItem, PutsElement}
use Rattle.std.specs.Prelude.{Option, None}
use Rattle.take_instructions.specs.Emits.{Grows, Appends}
use Rattle.take_operands.specs.Operands.{EmitsConstant, EmitsRefer, EmitsStore, EmitsLoad}
use Rattle.take_instructions.proofs.Fits.{constants_over, elements_over}
use Rattle.take_instructions.proofs.Both.{no_room_lem}
use Rattle.take_instructions.proofs.One.{Between, itself, grows, one, no_counts_lem}
use Rattle.rules_object.specs.Object as object
use Rattle.rules_text.specs.Trees as trees
use Rattle.read_elements.specs.declared.Target.TheVariants as target

-- ---- plain names

module _ {ws ws' : List ℕ} {n : Counts} {r : Option Counts} (f : Fit n) where
  pub loaded : {names : List ℕ} {word : code.Name} {x : ℕ} → CellOf names n.names word x → Appends ws ws' n 2 x r → Grows 0 n r × EmitsLoad word names ws ws' n r
  loaded {names} {word} {x} g a = (
    grows (itself n) f a,
    λ held v T c e l t q told h. one (itself n) f a T (LOD (cell_of held v)) t refl (g.is held n.cells v l told q h) (omega (arith, g.low)),
  )

-- ---- constants

value_is : (c : Digits) {word value : ℕ} → word ≡ value % 2 ^ 32 → value ≡ capped c → Exact c → word ≡ value_of c
unfolding capped
value_is c {word} {value} w e h =
    let k : value ≡ value_of c = omega (arith, e, h) in
    let s : value < 4294967296 = omega (arith, k, h) in
    w ∙ mod-eq_of_lt s ∙ k

module _ (n : Counts) (a : List ℕ) where
  pub pooled_fit : {b : List ℕ} {word index count : ℕ} → Fit n → PooledAt a b n.constants word index count → Fit (with_constants n count)
  pooled_fit f p =
      record {
        names = f.names;
        cells = f.cells;
        constants = p.count_low;
        elements = f.elements;
        exits = f.exits;
        dos = f.dos;
        code = f.code;
        statements = f.statements;
        jumps = f.jumps;
      }

  pub pooled_one : {b ws ws' : List ℕ} {value word index count : ℕ} {r : Option Counts} → word ≡ value % 2 ^ 32 → Fit n → PooledAt a b n.constants word index count
      → Appends ws ws' (with_constants n count) 1 index r → Grows 0 n r × EmitsConstant value a ws b ws' n r
  pooled_one {b} {ws} {ws'} {value} {word} {index} {count} {r} w f p q =
      let g = pooled_fit f p in
      let bt : Between n (with_constants n count) = record { beside = record { names = refl; cells = refl; dos = refl; jumps = refl; statements = refl }; code = refl } in (
        grows bt g q,
        λ c T e t v x.
            let k : word ≡ value_of c = value_is c w v x in
            let same : pool (take n.constants a) word ≡ pool T.constants (value_of c) =
            ap (λ (l : List ℕ). pool l word) t.constants_are ∙ ap (pool T.constants) k in
            let place : index ≡ pool_at T.constants (value_of c) =
            p.index_is ∙ ap (λ (l : List ℕ). pool_at l word) t.constants_are ∙ ap (pool_at T.constants) k in
            one bt g q T (CON (value_of c))
            (record {
              constants_are = p.table ∙ same;
              constants_count = p.count_is ∙ ap length same;
              elements_are = t.elements_are;
              elements_count = t.elements_count;
              exits_count = t.exits_count;
            }) refl place (omega (arith, p.index_low)),
      )

  pub pooled_none : {b ws : List ℕ} {value word : ℕ} {r : Option Counts} → word ≡ value % 2 ^ 32 → 256 < length (pool (take n.constants a) word) → r ≡ None
      → Grows 0 n r × EmitsConstant value a ws b ws n r
  pooled_none {b} {ws} {value} {word} w p z =
      subst (λ (r : Option Counts). Grows 0 n r × EmitsConstant value a ws b ws n r) (sym z) (
        no_counts_lem 0 n,
        λ c T e t v x.
            let k : word ≡ value_of c = value_is c w v x in
            let same : pool (take n.constants a) word ≡ pool T.constants (value_of c) =
            ap (λ (l : List ℕ). pool l word) t.constants_are ∙ ap (pool T.constants) k in
            no_room_lem (constants_over (tables_after T (CON (value_of c))) (n.code + 1) (n.dos + 0) (omega (arith, p, ap length same))),
      )

-- ---- elements

entries_more : (es : List object.Element) (e : object.Element) → concat (map element_words (es ++ (e ∷ []))) ≡ concat (map element_words es) ++ element_words e
entries_more [] e = append-nil (element_words e)
entries_more (x ∷ es) e =
    ap (λ (l : List ℕ). element_words x ++ l) (entries_more es e) ∙ sym (append_assoc (element_words x) (concat (map element_words es)) (element_words e))

module _ (n : Counts) where
  pub referred_fit : Fit n → (n.elements ≡ 256 → ⊥) → Fit (with_elements n (n.elements + 1))
  referred_fit f h =
      record {
        names = f.names;
        cells = f.cells;
        constants = f.constants;
        elements = omega (arith, f.elements, h);
        exits = f.exits;
        dos = f.dos;
        code = f.code;
        statements = f.statements;
        jumps = f.jumps;
      }

  pub referred : {names a b ws ws' : List ℕ} {op : ℕ} {x : Element} {r : Option Counts} → Fit n → (n.elements ≡ 256 → ⊥) → PutsElement names n.names x a b n.elements
      → Appends ws ws' (with_elements n (n.elements + 1)) op n.elements r → Grows 0 n r × EmitsRefer op x names a ws b ws' n r
  referred {names} {a} {b} {ws} {ws'} {op} {x} {r} f h p q =
      let g = referred_fit f h in
      let bt : Between n (with_elements n (n.elements + 1)) =
      record { beside = record { names = refl; cells = refl; dos = refl; jumps = refl; statements = refl }; code = refl } in (
        grows bt g q,
        λ held v s T c i l t z k y.
            let e = element_entry held (dims_held held) v s in
            let nine : 9 * (n.elements + 1) ≡ 9 * n.elements + 9 = omega arith in
            one bt g q T i
            (subst (λ (U : Tables). Tabled U c b (with_elements n (n.elements + 1))) (sym y.adds)
            (record {
              constants_are = t.constants_are;
              constants_count = t.constants_count;
              elements_are =
                  ap (λ (j : ℕ). take j b) nine ∙ p held n.cells v s l z k ∙ ap (λ (m : List ℕ). m ++ element_words e) t.elements_are ∙ sym (entries_more T.elements e);
              elements_count = omega (arith, t.elements_count, length-append T.elements (e ∷ []));
              exits_count = t.exits_count;
            })) y.number (t.elements_count ∙ sym y.index) (omega (arith, f.elements)),
      )

  pub not_referred : {names a ws : List ℕ} {op : ℕ} {x : Element} → n.elements ≡ 256 → Grows 0 n None × EmitsRefer op x names a ws a ws n None
  not_referred {names} {a} {ws} {op} {x} h = (
    no_counts_lem 0 n,
    λ held v s T c i l t z k y.
        let e = element_entry held (dims_held held) v s in
        let size = ap (λ (U : Tables). length U.elements) y.adds in
        no_room_lem (elements_over (tables_after T i) (n.code + 1) (n.dos + 0) (omega (arith, h, t.elements_count, size, length-append T.elements (e ∷ [])))),
  )

-- ---- targets

pub known_first : {held : List Held} {i : Item} {is : List Item} → Known held (i ∷ is) → KnownItem held i
known_first {held} {i} k =
    record {
      told = (each_both (item_names i) k.told).0;
      exact = (each_both (item_constants i) k.exact).0;
      plains = (each_both (item_plain i) k.plains).0;
      arrays = (each_both (item_references i) k.arrays).0;
    }

pub known_rest : {held : List Held} {i : Item} {is : List Item} → Known held (i ∷ is) → Known held is
known_rest {held} {i} k =
    record {
      told = (each_both (item_names i) k.told).1;
      exact = (each_both (item_constants i) k.exact).1;
      plains = (each_both (item_plain i) k.plains).1;
      arrays = (each_both (item_references i) k.arrays).1;
    }

module _ {n : Counts} {names ws ws' a : List ℕ} {x : Target} {r : Option Counts} where
  pub stored_cell : {word : code.Name} {y : ℕ} → Fit n → x ≡ target.Cell word → CellOf names n.names word y → Appends ws ws' n 3 y r → Grows 0 n r × EmitsStore x names a ws a ws' n r
  unfolding target_value
  stored_cell {word} {y} f z g p = (grows (itself n) f p, emits)
    where
      emits : EmitsStore x names a ws a ws' n r
      emits held (trees.cell v) T c l t q k =
          let same : word ≡ name_of v = cc in
          one (itself n) f p T (STO (cell_of held v)) t refl (g.is held n.cells v l (each_head k.told) same (each_head k.plains)) (omega (arith, g.low))
      emits held (trees.element v s) T c l t q k = let no : ◌≡◌ {A = ℕ} 0 1 = cc in absurd (omega arith)

  pub stored_element : {b : List ℕ} {e : Element} → x ≡ target.Element e → Grows 0 n r × EmitsRefer 5 e names a ws b ws' n r → Grows 0 n r × EmitsStore x names a ws b ws' n r
  unfolding target_value
  stored_element {b} {e} z g = (g.0, emits)
    where
      emits : EmitsStore x names a ws b ws' n r
      emits held (trees.cell v) T c l t q k = let no : ◌≡◌ {A = ℕ} 0 1 = cc in absurd (omega arith)
      emits held (trees.element v s) T c l t q k =
          let same : e ≡ record { name = name_of v; subscripts = subscripts_value s } = cc in
          g.1 held v s T c (STE (element_entry held (dims_held held) v s)) l t same (known_first k) (record { number = refl; index = refl; adds = refl })
