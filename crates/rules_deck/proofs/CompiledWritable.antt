-- An accepted deck's object is as its bytes hold it, so they read back as it; and it passes the check, 40 to 44.
-- Assumes nothing.
use mathlib.Core.Path.{◌≡◌, ap, subst}
use mathlib.Core.Logic.{◌⊎◌, inl, inr}
use Prim.Native.Nat.{ℕ, zero, suc, ◌+◌, ◌*◌, ◌≤◌, ◌<◌}
use native.Mathlib.Omega.{arith}
use mathlib.Core.Bool.{true}
use mathlib.Core.List.{List, [], ◌∷◌, ◌++◌}
use mathlib.Core.Option.{some}
use lib.ListN.{length, replicate, length-append, length-take}
use lib.IntN.{ℤ, pos, negsuc, nat_abs}
use Rattle.number.specs.Number.{add, sub, mul, div}
use Rattle.rules_shared.specs.Limits.{limits}
use Rattle.rules_shared.specs.House.{House}
use Rattle.rules_object.specs.Object.{SubscriptEntry, Element, Loop, Line, Named, Object}
use Rattle.rules_object.specs.Kinds.{edition, kinds_of, most_words, contents_length}
use Rattle.rules_object.specs.Check.{span, is_letter, is_digit}
use Rattle.rules_object.specs.Operations.{Instr, HLT, CON, LOD, STO, LDE, STE, OP, NEG, JMP, BR3, BRC, DOI, DOE, READ, PRINT, operation_of, operation_number, flow_of}
use Rattle.rules_object.specs.Bytes.{object_bytes, read_object}
use Rattle.rules_object.specs.Flow.{Reached}
use Rattle.rules_object.specs.Calls.{passed, checked, verdict, checking}
use Rattle.rules_object.specs.Writable.{IsByte, IsWord, IsSigned, WritableSubscript, WritableElement, WritableLoop, WritableLine, WritableNamed, Writable}
use Rattle.rules_shared.specs.Lists.{Each, each_none, each_more}
use Rattle.rules_shared.proofs.EachLaws.{each_map, each_append, each_take}
use Rattle.rules_object.proofs.Limited.{tables_within_lem}
use Rattle.rules_object.proofs.RoundTrip.{all_eight, object_most, reads_back}
use Rattle.rules_text.specs.Trees.{Name, Statement}
use Rattle.rules_text.specs.Tokens.{is_letter_or_digit}
use Rattle.rules_deck.specs.Translation.{filled, translate}
use Rattle.rules_deck.specs.Compile.{read, deck_of}
use Rattle.rules_deck.specs.Seen.{levels_in}
use Rattle.rules_deck.specs.Lawful.{Lawful}
use Rattle.rules_deck.specs.Accepted.{Accepted}
use Rattle.rules_text.specs.Spelling.{Passes, IsName, is_name}
use Rattle.rules_text.proofs.Readers.{digit_bounds, letter_bounds}
use Rattle.rules_deck.proofs.TestLaws.{or_one}
use Rattle.rules_deck.proofs.FittingDeck.{fitting}
use Rattle.rules_deck.proofs.Emitted.{code_length}
use Rattle.rules_deck.proofs.HeightsCompiled.{below}
use Rattle.rules_deck.proofs.TableCompiled.{stands, levels_most, compiled_table, compiled_height}
use Rattle.rules_deck.proofs.RightCode.{RightSubscript, RightElement}
use Rattle.rules_deck.proofs.RightDeck.{each_place, LoopWithin, LineWithin, NameWithin, digits_right, most, right_tables, right_loops, right_lines, right_names}
use Rattle.rules_deck.proofs.CompiledRight.{compiled_edition, passes_41, passes_42, passes_43, coded}

-- ---- names of eight bytes

filled_eight : (v : Name) → length (filled 8 v) ≡ 8
filled_eight v =
    let t = length-take 8 (v ++ replicate 8 32) in
    let a = length-append v (replicate 8 32) in
    omega arith

blank_bytes : (b : ℕ) → Each IsByte (replicate b 32)
blank_bytes zero = each_none
blank_bytes (suc b) = each_more {x = 32} (omega arith) (blank_bytes b)

tail_bytes : (s : List ℕ) → Each (Passes is_letter_or_digit) s → Each IsByte s
unfolding is_letter_or_digit
tail_bytes [] each_none = each_none
tail_bytes (c ∷ s) (each_more p ps) = each_more (go (or_one (is_letter c) (is_digit c) p)) (tail_bytes s ps)
  where
    go : (is_letter c ≡ true) ⊎ (is_digit c ≡ true) → c < 256
    go (inl h) = omega (arith, letter_bounds c h)
    go (inr h) = omega (arith, digit_bounds c h)

name_bytes : (v : Name) → IsName v → Each IsByte v
name_bytes (c ∷ s) (is_name q qs) = each_more {x = c} (omega (arith, letter_bounds c q)) (tail_bytes s qs)
name_bytes [] x' = elim x' [ ]

-- ---- entries

signed_small : (m : ℕ) (z : ℤ) → m ≤ 1000000000 → nat_abs z < m → IsSigned z
signed_small m (pos x) l h = omega arith
signed_small m (negsuc x) l h = omega arith

span_rows : (r c : ℕ) → r ≤ span r c
span_rows zero c = omega arith
span_rows (suc r) zero = omega arith
span_rows (suc r) (suc c) = omega arith

span_columns : (r c : ℕ) → 1 ≤ r → c ≤ span r c
span_columns zero c h = absurd (omega arith)
span_columns (suc r) zero h = omega arith
span_columns (suc r) (suc c) h = omega arith

module _ {m n cells : ℕ} (digits : m ≤ 1000000000) (code : n ≤ limits.code) (most : cells ≤ limits.cells) where
  subscript_writable : (s : SubscriptEntry) → RightSubscript m n cells s → WritableSubscript s
  subscript_writable s h = record { times = omega (arith, h.0); cell = omega (arith, h.2); plus = signed_small m s.plus digits h.1 }

  rows_most : (b r c : ℕ) → 1 ≤ r → 1 ≤ c → b + r * c ≤ cells → (b ≤ cells) × (r ≤ cells) × (c ≤ cells)
  rows_most b (suc r) zero p q h = absurd (omega arith)
  rows_most b zero c p q h = absurd (omega arith)
  rows_most b (suc r) (suc c) p q h = (omega arith, omega arith, omega arith)

  element_writable : (e : Element) → RightElement m n cells e → WritableElement e
  element_writable e h =
      let x = rows_most e.base e.rows e.columns h.0 h.1 h.2 in
      record {
        base = omega (arith, x.0);
        rows = omega (arith, x.1);
        columns = omega (arith, x.2);
        first = subscript_writable e.first h.3;
        second = subscript_writable e.second h.4;
      }

  loop_writable : (d : Loop) → LoopWithin n cells d → WritableLoop d
  loop_writable d h = record { variable = omega (arith, h.0); limit = omega (arith, h.1); step = omega (arith, h.2); body = omega (arith, h.3) }

  line_writable : (l : Line) → LineWithin n l → WritableLine l
  line_writable l h = record { sequence = omega (arith, h.0); number = omega (arith, h.1); address = omega (arith, h.2) }

  named_writable : {house : House} → Lawful house → (e : Named) → NameWithin house cells e → WritableNamed e
  named_writable lawful e h =
      record {
        eight = rw (h.named, lawful.entries) (filled_eight h.of);
        bytes = rw (h.named, lawful.entries) (each_take 8 (h.of ++ replicate 8 32) (each_append (name_bytes h.of h.proper.name) (blank_bytes 8)));
        first = omega (arith, h.inside.within);
        rows = omega (arith, h.inside.within, span_rows e.rows e.columns);
        columns = go h.inside.either;
      }
    where
      go : ((e.rows ≡ 0) × (e.columns ≡ 0)) ⊎ (1 ≤ e.rows) → IsWord e.columns
      go (inl z) = omega (arith, z.1)
      go (inr l) = omega (arith, h.inside.within, span_columns e.rows e.columns l)

operation_few : (i : Instr) → operation_number i ≤ 17
operation_few (HLT x) = omega arith
operation_few (CON c) = omega arith
operation_few (LOD a) = omega arith
operation_few (STO a) = omega arith
operation_few (LDE e) = omega arith
operation_few (STE e) = omega arith
operation_few (OP add) = omega arith
operation_few (OP sub) = omega arith
operation_few (OP mul) = omega arith
operation_few (OP div) = omega arith
operation_few NEG = omega arith
operation_few (JMP a) = omega arith
operation_few (BR3 a b c) = omega arith
operation_few (BRC ts) = omega arith
operation_few (DOI q d) = omega arith
operation_few (DOE q d) = omega arith
operation_few (READ q f list) = omega arith
operation_few (PRINT q f list) = omega arith

word_small : (w : ℕ) → operation_of w ≤ 17 → IsWord w
unfolding operation_of
word_small w h = omega arith

-- ---- the deck's object

module _ {house : House} {deck : List Statement} (accepted : Accepted house deck) where
  names_writable : Each WritableNamed (translate house deck).names
  unfolding translate
  names_writable = each_map (named_writable (most accepted) (fitting accepted).code (fitting accepted).cells accepted.lawful) (right_names accepted)

  -- at most the bytes of an object whose bodies are all full
  pub compiled_most : length (object_bytes (translate house deck)) ≤ contents_length (length (kinds_of edition)) + 4 * most_words (kinds_of edition)
  unfolding translate
  compiled_most =
      let o : Object = translate house deck in
      subst (λ (e : ℕ). length (object_bytes o) ≤ contents_length (length (kinds_of e)) + 4 * most_words (kinds_of e)) accepted.lawful.edition
      (object_most o (all_eight o.names names_writable) (tables_within_lem o (passes_41 accepted)))

  pub compiled_writable : Writable (translate house deck)
  unfolding translate
  compiled_writable =
      let o : Object = translate house deck in
      let d = most accepted in
      let n = (fitting accepted).code in
      let c = (fitting accepted).cells in
      let t = right_tables accepted in
      record {
        edition = compiled_edition accepted;
        digits = omega (arith, (digits_right accepted).1);
        cells = omega (arith, c);
        constants = each_map (λ x h. omega arith) t.constants;
        elements = each_map (element_writable d n c) t.elements;
        exits = each_map (λ x h. omega arith) t.exits;
        dos = each_map (loop_writable d n c) (right_loops accepted);
        code = each_place o.code (λ a w e. let x = coded accepted a w e in word_small w (omega (arith, x.2, operation_few x.0)));
        lines = each_map (line_writable d n c) (right_lines accepted);
        names = names_writable;
        formats = each_none;
        items = each_none;
        transfers = each_none;
        some_code = omega (arith, code_length house deck, below deck (stands accepted) 0 (stands accepted).some);
        small = omega (arith, compiled_most);
      }

  -- an accepted deck's bytes read back as its object
  pub compiled_reads : read_object (object_bytes (translate house deck)) ≡ some (translate house deck)
  compiled_reads = reads_back (translate house deck) compiled_writable

  low : 2 * levels_in deck + 3 ≤ limits.stack
  low = omega (arith, levels_most accepted)

  pub accepted_passes : (table : List ℕ) × (checked (object_bytes (translate house deck)) ≡ passed (translate house deck) table)
  unfolding checked
  accepted_passes =
      let h = compiled_table house (stands accepted) (fitting accepted) low in
      (h.0, rw (compiled_reads, passes_41 accepted, passes_42 accepted, passes_43 accepted, h.1))

  -- a deck with p levels of parentheses never stands above 2p+3
  pub accepted_height : (a h : ℕ) → Reached (flow_of (translate house deck)) a h → h ≤ 2 * levels_in deck + 3
  accepted_height = compiled_height house (stands accepted) (fitting accepted) low

-- ---- everything compiled

pub compiled_checked : (house : House) → Lawful house → (bytes : List ℕ) (deck : List Statement) → deck_of house bytes ≡ read deck
    → (table : List ℕ) × (checked (object_bytes (translate house deck)) ≡ passed (translate house deck) table)
compiled_checked house lawful bytes deck e = accepted_passes (Rattle.rules_deck.proofs.AcceptedDeck.accepted house lawful bytes deck e)

pub compiled_passes : (house : House) → Lawful house → (bytes : List ℕ) (deck : List Statement) → deck_of house bytes ≡ read deck → checking (object_bytes (translate house deck)) ≡ Rattle.rules_shared.specs.Refusals.accepted
unfolding checking
compiled_passes house lawful bytes deck e = ap verdict (compiled_checked house lawful bytes deck e).1
