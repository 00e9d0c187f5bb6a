-- An accepted deck's object passes 41, 42 and 43.
-- Assumes nothing.
use mathlib.Core.Path.{◌≡◌, refl, sym, ap, ◌∙◌, subst}
use mathlib.Core.Logic.{◌⊎◌, inl, inr}
use Prim.Native.Nat.{ℕ, zero, suc, ◌+◌, ◌*◌, ◌≤◌, ◌<◌}
use native.Mathlib.Omega.{arith}
use mathlib.Core.Bool.{Bool, true, ◌||◌}
use mathlib.Core.List.{List, [], ◌∷◌, ◌++◌}
use mathlib.Core.Option.{none, some}
use lib.Dec.{leb, ltb, eqb}
use lib.ListN.{length, get_elem?, take, replicate}
use lib.IntN.{ℤ, pos, nat_abs}
use borrow.Author.Tests.{le-leb, lt-ltb, eq-eqb}
use Rattle.number.specs.Number.{Rule, add, sub, mul, div, fits}
use Rattle.number.proofs.Laws.{yes_fits}
use Rattle.rules_shared.specs.Limits.{limits}
use Rattle.rules_shared.specs.House.{House}
use Rattle.rules_object.specs.Object.{SubscriptEntry, Element, Loop, Line, Named, Object, rule_of}
use Rattle.rules_object.specs.Check.{right41, right_constant, right_subscript, right_element, right_loop, right_line, blanks, name_tail, right_name, span, right_named}
use Rattle.rules_object.specs.Operations.{Instr, HLT, CON, LOD, STO, LDE, STE, OP, NEG, JMP, BR3, BRC, DOI, DOE, READ, PRINT, operation_of, operand_of, targets, exit_at, operation_at, right43, operation_number}
use Rattle.rules_shared.specs.Refusals.{at_entry}
use Rattle.rules_shared.specs.Lists.{first_bad, Each, each_none, each_more}
use Rattle.rules_object.specs.Calls.{refused42, refused43}
use Rattle.rules_object.specs.Writable.{Edition, one}
use Rattle.rules_object.proofs.Limited.{Limited, passes}
use Rattle.rules_shared.proofs.EachLaws.{each_one, each_map}
use Rattle.rules_text.specs.Trees.{Name, Statement}
use Rattle.rules_text.specs.Tokens.{is_letter_or_digit}
use Rattle.rules_deck.specs.Judge.{starts_integer}
use Rattle.rules_deck.specs.Translation.{held_of, cell_count, code_of, filled, translate}
use Rattle.rules_deck.specs.Lawful.{Lawful}
use Rattle.rules_deck.specs.Accepted.{Accepted}
use Rattle.rules_text.specs.Spelling.{Passes, IsName, is_name}
use Rattle.rules_text.proofs.CardsLaws.{and_both}
use Rattle.rules_deck.proofs.TestLaws.{both, or_either, at_before}
use Rattle.rules_deck.proofs.Addresses.{at_head, at_tail, at_fits, at_some}
use Rattle.rules_deck.proofs.Tables.{get_d_at, slice_at, InTables}
use Rattle.rules_deck.proofs.Emitted.{each_at, code_length, sized, emitted}
use Rattle.rules_deck.proofs.FittingDeck.{names_count, fitting}
use Rattle.rules_deck.proofs.RightCode.{RightSubscript, RightElement, Right}
use Rattle.rules_deck.proofs.RightDeck.{each_place, LoopWithin, LineWithin, ProperName, NameWithin, lines_few, digits_right, right_code, right_tables, right_loops, right_lines, right_names}

-- ---- nothing fails

none_bad : {A : Type 0} (test : A → Bool) (l : List A) (i : ℕ) → Each (λ x. test x ≡ true) l → first_bad test l i ≡ none
none_bad test [] i h = refl
none_bad test (x ∷ l) i (each_more h hs) = rw h (none_bad test l (suc i) hs)

none_of : {A : Type 0} (P : A → Type 0) (test : A → Bool) (l : List A) → ((x : A) → P x → test x ≡ true) → Each P l → first_bad test l 0 ≡ none
none_of P test l f h = none_bad test l 0 (each_map f h)

-- ---- names

blanks_only : (t b : ℕ) → blanks (take t (replicate b 32)) ≡ true
blanks_only zero b = refl
blanks_only (suc t) zero = refl
blanks_only (suc t) (suc b) = blanks_only t b

tail_blank : (i t b : ℕ) → name_tail i (take t (replicate b 32)) ≡ true
tail_blank zero t b = blanks_only t b
tail_blank (suc i) zero b = refl
tail_blank (suc i) (suc t) zero = refl
tail_blank (suc i) (suc t) (suc b) = blanks_only t b

tail_right : (i t b : ℕ) (s : List ℕ) → length s ≤ i → Each (Passes is_letter_or_digit) s → name_tail i (take t (s ++ replicate b 32)) ≡ true
unfolding is_letter_or_digit
tail_right i t b [] l each_none = tail_blank i t b
tail_right zero t b (c ∷ s) l h = absurd (omega arith)
tail_right (suc i) zero b (c ∷ s) l h = refl
tail_right (suc i) (suc t) b (c ∷ s) l (each_more p ps) = rw p (tail_right i t b s (omega arith) ps)

name_right : {house : House} → Lawful house → (v : Name) → ProperName house v → right_name (filled house.name_bytes v) ≡ true
name_right {house} lawful v p = rw lawful.entries (go v p.name (omega (arith, p.short, lawful.names)) p.integer)
  where
    go : (v : Name) → IsName v → length v ≤ 6 → starts_integer v ≡ true → right_name (filled 8 v) ≡ true
    go (c ∷ s) (is_name q qs) l h =
        let t = and_both (leb 73 c) (leb c 78) h in
        both (leb 73 c) _ t.0 (both (leb c 78) _ t.1 (tail_right 5 7 8 s (omega arith) qs))
    go [] x3 l h = elim x3 [ ]

-- ---- entries and operands of an object whose numbers stay below m, with n words of code and c cells

record Sizes (o : Object) (m n c : ℕ) : Type 0 where
  rule : m ≡ (rule_of o).ceiling
  code : length o.code ≡ n
  cells : o.cells ≡ c

module _ {o : Object} {m n c : ℕ} (sizes : Sizes o m n c) where
  fits_right : (z : ℤ) → nat_abs z < m → fits (rule_of o) z ≡ true
  fits_right z h = yes_fits (rule_of o) z (omega (arith, h, sizes.rule))

  in_cells_lem : (a : ℕ) → a < c → ltb a o.cells ≡ true
  in_cells_lem a h = lt-ltb a o.cells (omega (arith, sizes.cells))

  in_code : (a : ℕ) → a < n → ltb a (length o.code) ≡ true
  in_code a h = lt-ltb a (length o.code) (omega (arith, sizes.code))

  constant_right : (x : ℕ) → x < m → right_constant o x ≡ true
  unfolding right_constant
  constant_right x h = fits_right (pos x) h

  subscript_right : (s : SubscriptEntry) → RightSubscript m n c s → right_subscript o s ≡ true
  subscript_right s h =
      both (fits (rule_of o) (pos s.times)) _ (fits_right (pos s.times) h.0) (both (fits (rule_of o) s.plus) _ (fits_right s.plus h.1) (in_cells_lem s.cell h.2))

  element_right_lem : (e : Element) → RightElement m n c e → right_element o e ≡ true
  unfolding right_element
  element_right_lem e h =
      both (leb 1 e.rows) _ (le-leb 1 e.rows h.0) (both (leb 1 e.columns) _ (le-leb 1 e.columns h.1)
      (both (leb (e.base + e.rows * e.columns) o.cells) _ (le-leb (e.base + e.rows * e.columns) o.cells (omega (arith, h.2, sizes.cells)))
      (both (right_subscript o e.first) _ (subscript_right e.first h.3) (subscript_right e.second h.4))))

  loop_right_lem : (d : Loop) → LoopWithin n c d → right_loop o d ≡ true
  unfolding right_loop
  loop_right_lem d h =
      both (ltb d.variable o.cells) _ (in_cells_lem d.variable h.0) (both (ltb d.limit o.cells) _ (in_cells_lem d.limit h.1)
      (both (ltb d.step o.cells) _ (in_cells_lem d.step h.2) (in_code d.body h.3)))

  line_right : (l : Line) → LineWithin n l → right_line o l ≡ true
  unfolding right_line
  line_right l h = in_code l.address h.2

  named_right : {house : House} → Lawful house → (e : Named) → NameWithin house c e → right_named o e ≡ true
  unfolding right_named
  named_right lawful e h =
      let r : right_name e.name ≡ true = rw h.named (name_right lawful h.of h.proper) in
      both (right_name e.name) _ r
      (both (leb 1 e.rows || eqb e.columns 0) _ (or_either (leb 1 e.rows) (eqb e.columns 0) (shape h.inside.either))
      (le-leb (e.first + span e.rows e.columns) o.cells (omega (arith, h.inside.within, sizes.cells))))
    where
      shape : ((e.rows ≡ 0) × (e.columns ≡ 0)) ⊎ (1 ≤ e.rows) → (leb 1 e.rows ≡ true) ⊎ (eqb e.columns 0 ≡ true)
      shape (inl z) = inr (eq-eqb e.columns 0 z.1)
      shape (inr l) = inl (le-leb 1 e.rows l)

  targets_right : (ts : List ℕ) → Each (λ t. t < n) ts → targets o ts ≡ true
  targets_right [] h = refl
  targets_right (t ∷ ts) (each_more h hs) = both (ltb t (length o.code)) (targets o ts) (in_code t h) (targets_right ts hs)

  operand_right_lem : (i : Instr) (x : ℕ) → Right m n c i → InTables o i x → (operation_at (operation_number i)).operand_right o x ≡ true
  operand_right_lem (HLT y) x r h = le-leb x 1 (omega arith)
  operand_right_lem (CON v) x r h = lt-ltb x (length o.constants) (at_before o.constants x (at_head h))
  operand_right_lem (LOD a) x r h = in_cells_lem x (omega arith)
  operand_right_lem (STO a) x r h = in_cells_lem x (omega arith)
  operand_right_lem (LDE e) x r h = lt-ltb x (length o.elements) (at_before o.elements x (at_head h))
  operand_right_lem (STE e) x r h = lt-ltb x (length o.elements) (at_before o.elements x (at_head h))
  operand_right_lem (OP add) x r h = eq-eqb x 0 h
  operand_right_lem (OP sub) x r h = eq-eqb x 0 h
  operand_right_lem (OP mul) x r h = eq-eqb x 0 h
  operand_right_lem (OP div) x r h = eq-eqb x 0 h
  operand_right_lem NEG x r h = eq-eqb x 0 h
  operand_right_lem (JMP a) x r h = in_code x (omega arith)
  operand_right_lem (BR3 t u v) x r h =
      both (ltb (x + 2) (length o.exits)) _ (lt-ltb (x + 2) (length o.exits) (omega (arith, at_fits x t (u ∷ v ∷ []) h)))
      (ap (targets o) (slice_at x (t ∷ u ∷ v ∷ []) h) ∙ targets_right (t ∷ u ∷ v ∷ []) (each_more r.0 (each_more r.1 (each_one r.2))))
  operand_right_lem (BRC ts) x r h =
      let e : exit_at o x ≡ length ts = get_d_at o.exits x (length ts) 0 (at_head h) in
      let one : x + 1 ≡ suc x = omega arith in
      both (leb limits.fewest_exits (exit_at o x)) _ (le-leb limits.fewest_exits (exit_at o x) (omega (arith, r.0)))
      (both (leb (exit_at o x) limits.most_exits) _ (le-leb (exit_at o x) limits.most_exits (omega (arith, r.1)))
      (both (ltb (x + exit_at o x) (length o.exits)) _ (lt-ltb (x + exit_at o x) (length o.exits) (omega (arith, at_fits x (length ts) ts h)))
      (rw (e, one) (ap (targets o) (slice_at (suc x) ts (at_tail h)) ∙ targets_right ts r.2))))
  operand_right_lem (DOI q d) x r h = lt-ltb x (length o.dos) (at_before o.dos x (at_head h.1))
  operand_right_lem (DOE q d) x r h = lt-ltb x (length o.dos) (at_before o.dos x (at_head h.1))
  operand_right_lem (READ q f list) x r h = lt-ltb x (length o.transfers) (at_before o.transfers x h.entry)
  operand_right_lem (PRINT q f list) x r h = lt-ltb x (length o.transfers) (at_before o.transfers x h.entry)

-- ---- the deck's object

module _ {house : House} {deck : List Statement} (accepted : Accepted house deck) where
  sizes : Sizes (translate house deck) house.rule.ceiling (length (code_of deck)) (cell_count (held_of deck))
  unfolding translate
  sizes = record { rule = sym (ap (λ (r : Rule). r.ceiling) (accepted.lawful.rule (translate house deck) refl)); code = code_length house deck; cells = refl }

  pub compiled_edition : Edition (translate house deck)
  unfolding translate
  compiled_edition = one accepted.lawful.edition (record { formats = refl; items = refl; transfers = refl })

  limited : Limited (translate house deck)
  unfolding translate
  limited =
      let s = sized house deck (fitting accepted) in
      let d = digits_right accepted in
      record {
        some_digits = d.0;
        digits = d.1;
        cells = s.cells;
        constants = s.constants;
        elements = s.elements;
        exits = s.exits;
        dos = s.dos;
        code = s.code;
        lines = omega (arith, lines_few deck 0 deck, accepted.count);
        names = omega (arith, (fitting accepted).names, names_count house 0 (held_of deck));
        formats = omega arith;
        items = omega arith;
        transfers = omega arith;
      }

  pub passes_41 : right41 (translate house deck) ≡ true
  passes_41 = passes (translate house deck) compiled_edition limited

  pub passes_42 : refused42 (translate house deck) ≡ none
  unfolding refused42 translate
  passes_42 =
      let o : Object = translate house deck in
      let t = right_tables accepted in
      let c = none_of _ (right_constant o) o.constants (constant_right sizes) t.constants in
      let e = none_of _ (right_element o) o.elements (element_right_lem sizes) t.elements in
      let d = none_of _ (right_loop o) o.dos (loop_right_lem sizes) (right_loops accepted) in
      let l = none_of _ (right_line o) o.lines (line_right sizes) (right_lines accepted) in
      let n = none_of _ (right_named o) o.names (named_right sizes accepted.lawful) (right_names accepted) in
      rw (c, e, d, l, n)

  -- each word of the code, and the instruction that it is
  pub coded : (a w : ℕ) → get_elem? (translate house deck).code a ≡ some w
      → (i : Instr) × Right house.rule.ceiling (length (code_of deck)) (cell_count (held_of deck)) i × (operation_of w ≡ operation_number i) × InTables (translate house deck) i (operand_of w)
  coded a w e =
      let x = at_some (code_of deck) a (omega (arith, at_before (translate house deck).code a e, code_length house deck)) in
      let m = emitted house deck (fitting accepted) a x.0 x.1 in
      let same : m.word ≡ w = is_some (sym m.stands ∙ e) in (
        x.0,
        each_at (Right house.rule.ceiling (length (code_of deck)) (cell_count (held_of deck))) (code_of deck) a x.0 x.1 (right_code accepted),
        rw same at m.operation,
        rw same at m.in_tables,
      )
    where
      is_some : {u v : ℕ} → some u ≡ some v → u ≡ v
      is_some h = cc

  pub passes_43 : refused43 (translate house deck) ≡ none
  unfolding refused43 right43
  passes_43 =
      ap (at_entry 43 5) (none_bad (right43 (translate house deck)) (translate house deck).code 0 (each_place (translate house deck).code (λ a w e.
      let x = coded a w e in
      subst (λ n. (operation_at n).operand_right (translate house deck) (operand_of w) ≡ true) (sym x.2) (operand_right_lem sizes x.0 (operand_of w) x.1 x.3))))
