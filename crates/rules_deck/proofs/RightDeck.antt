-- What stands in each of the seven lists of an accepted deck's object.
-- Assumes nothing.
use mathlib.Core.Path.{◌≡◌, refl}
use Prim.Native.Nat.{ℕ, suc, ◌+◌, ◌-◌, ◌*◌, ◌≤◌, ◌<◌}
use native.Mathlib.Nat.{zero-add}
use native.Mathlib.Omega.{arith}
use mathlib.Core.Bool.{Bool, true, false, ◌&&◌, cond}
use mathlib.Core.List.{List, [], ◌∷◌, map}
use mathlib.Core.Option.{some}
use lib.Dec.{leb, eqb}
use lib.ListN.{length, get_elem?}
use borrow.Author.Tests.{leb-true}
use Rattle.rules_shared.specs.Limits.{limits}
use Rattle.rules_shared.specs.House.{House}
use Rattle.rules_object.specs.Object.{Element, Loop, Line, Named}
use Rattle.rules_object.specs.Operations.{Listed, a_span, one_element, Instr, HLT, CON, LOD, STO, LDE, STE, OP, NEG, JMP, BR3, BRC, DOI, DOE, READ, PRINT}
use Rattle.rules_shared.specs.Lists.{Each, each_none, each_more}
use Rattle.rules_shared.proofs.EachLaws.{each_one, each_map, each_append}
use Rattle.rules_text.specs.Trees.{Name, Digits, value_of, Statement, form_constants}
use Rattle.rules_deck.specs.Deck.{position_of, dos_of, dims_of, width}
use Rattle.rules_deck.specs.Meaning.{plain, element_at}
use Rattle.rules_deck.specs.Judge.{starts_integer, right11, right12, Reference, form_references}
use Rattle.rules_deck.specs.Translation.{held_of, cell_count, form_plain, address_at, loop_entry, code_of, Tables, no_tables, pool, add_element, add_exits, list_elements, add_transfer, tables_after, tables_of, executable, lines_from, filled, names_from}
use Rattle.rules_deck.specs.Cells.{key, limit, step}
use Rattle.rules_deck.specs.Accepted.{Among, here, there, Accepted}
use Rattle.rules_text.specs.Spelling.{IsName}
use Rattle.rules_text.proofs.CardsLaws.{and_both}
use Rattle.rules_text.proofs.ReadForms.{read_names, read_constants}
use Rattle.rules_deck.proofs.TestLaws.{all_among, at_before}
use Rattle.rules_deck.proofs.NestedDeck.{targets, last_defined, last_after}
use Rattle.rules_deck.proofs.DeclaredDeck.{element_rows}
use Rattle.rules_deck.proofs.CellLaws.{slot_below}
use Rattle.rules_deck.proofs.DeckCells.{plain_has, hidden_has, variable_has, size-dims}
use Rattle.rules_deck.proofs.MapNames.{Inside}
use Rattle.rules_deck.proofs.BodySeven.{each_here, InDeck, entry_name, names_inside}
use Rattle.rules_text.proofs.Values.{ten_some, value_within}
use Rattle.rules_deck.proofs.HeightsCompiled.{below}
use Rattle.rules_deck.proofs.TableCompiled.{stands}
use Rattle.rules_deck.proofs.RightCode.{RightElement, RightListed, Right, Spanned, product_some, width_some, Fine, code_right}

-- ---- every one of a list

pub each_among : {A : Type 0} {P : A → Type 0} (l : List A) → ((x : A) → Among x l → P x) → Each P l
each_among [] h = each_none
each_among (x ∷ l) h = each_more (h x here) (each_among l (λ y a. h y (there a)))

pub each_place : {A : Type 0} {P : A → Type 0} (l : List A) → ((i : ℕ) (x : A) → get_elem? l i ≡ some x → P x) → Each P l
each_place [] h = each_none
each_place (x ∷ l) h = each_more (h 0 x refl) (each_place l (λ i y e. h (suc i) y e))

each_mapped : {A B : Type 0} (P : B → Type 0) (f : A → B) (l : List A) → ((x : A) → Among x l → P (f x)) → Each P (map f l)
each_mapped P f [] h = each_none
each_mapped P f (x ∷ l) h = each_more (h x here) (each_mapped P f l (λ y a. h y (there a)))

-- ---- tables of right code

each_pool : (P : ℕ → Type 0) (l : List ℕ) (c : ℕ) → Each P l → P c → Each P (pool l c)
each_pool P [] c h p = each_one p
each_pool P (b ∷ l) c (each_more h hs) p = go (eqb b c) (each_pool P l c hs p)
  where
    go : (t : Bool) → Each P (pool l c) → Each P (cond t (b ∷ l) (b ∷ pool l c))
    go true r = each_more h hs
    go false r = each_more h r

-- the tables of right code: an exit word is an address or a count
pub record RightTables (m n cells : ℕ) (T : Tables) : Type 0 where
  pub constants : Each (λ c. c < m) T.constants
  pub elements : Each (RightElement m n cells) T.elements
  pub exits : Each (λ x. x < n + 11) T.exits

module _ (m n cells : ℕ) where
  far : (ts : List ℕ) → Each (λ t. t < n) ts → Each (λ x. x < n + 11) ts
  far ts h = each_map (λ t l. omega arith) h

  with_element : (T : Tables) (e : Element) → RightTables m n cells T → RightElement m n cells e → RightTables m n cells (add_element T e)
  with_element T e r h = record { constants = r.constants; elements = each_append r.elements (each_one h); exits = r.exits }

  with_exits_lem : (T : Tables) (ts : List ℕ) → RightTables m n cells T → Each (λ x. x < n + 11) ts → RightTables m n cells (add_exits T ts)
  with_exits_lem T ts r h = record { constants = r.constants; elements = r.elements; exits = each_append r.exits h }

  elements_right : (list : List Listed) → Each (RightListed m n cells) list → Each (RightElement m n cells) (list_elements list)
  elements_right [] each_none = each_none
  elements_right (a_span first count ∷ list) (each_more h hs) = elements_right list hs
  elements_right (one_element e ∷ list) (each_more h hs) = each_more h (elements_right list hs)

  with_transfer : (T : Tables) (format : ℕ) (list : List Listed) → RightTables m n cells T → Each (RightListed m n cells) list → RightTables m n cells (add_transfer T format list)
  with_transfer T format list r h = record { constants = r.constants; elements = each_append r.elements (elements_right list h); exits = r.exits }

  after_right : (T : Tables) (i : Instr) → RightTables m n cells T → Right m n cells i → RightTables m n cells (tables_after T i)
  after_right T (HLT x) r h = r
  after_right T (CON c) r h = record { constants = each_pool (λ x. x < m) T.constants c r.constants h; elements = r.elements; exits = r.exits }
  after_right T (LOD a) r h = r
  after_right T (STO a) r h = r
  after_right T (LDE e) r h = with_element T e r h
  after_right T (STE e) r h = with_element T e r h
  after_right T (OP o) r h = r
  after_right T NEG r h = r
  after_right T (JMP a) r h = r
  after_right T (BR3 a b c) r h = with_exits_lem T (a ∷ b ∷ c ∷ []) r (far (a ∷ b ∷ c ∷ []) (each_more h.0 (each_more h.1 (each_one h.2))))
  after_right T (BRC ts) r h = with_exits_lem T (length ts ∷ ts) r (each_more {x = length ts} (omega (arith, h.1)) (far ts h.2))
  after_right T (DOI q d) r h = r
  after_right T (DOE q d) r h = r
  after_right T (READ q f list) r h = with_transfer T q list r h
  after_right T (PRINT q f list) r h = with_transfer T q list r h

  tables_right : (T : Tables) (is : List Instr) → RightTables m n cells T → Each (Right m n cells) is → RightTables m n cells (tables_of T is)
  tables_right T [] r h = r
  tables_right T (i ∷ is) r (each_more h hs) = tables_right (tables_after T i) is (after_right T i r h) hs

-- ---- DOs, statements and names

abbrev pub LoopWithin : ℕ → ℕ → Loop → Type 0
LoopWithin n cells d = (d.variable < cells) × (d.limit < cells) × (d.step < cells) × (d.body < n)

abbrev pub LineWithin : ℕ → Line → Type 0
LineWithin n l = (l.sequence ≤ limits.statements) × (l.number ≤ limits.statement_number) × (l.address < n)

-- a letter I-N, then letters or digits, as long as the house has names
pub record ProperName (house : House) (v : Name) : Type 0 where
  pub name : IsName v
  pub short : length v ≤ house.name_length
  pub integer : starts_integer v ≡ true

pub record NameWithin (house : House) (cells : ℕ) (e : Named) : Type 0 where
  pub of : Name
  pub named : e.name ≡ filled house.name_bytes of
  pub proper : ProperName house of
  pub inside : Inside cells e

lines_each : (P : Line → Type 0) (deck : List Statement) (q : ℕ) (more : List Statement)
    → ((j : ℕ) (s : Statement) → get_elem? more j ≡ some s → P (record { sequence = suc (q + j); number = s.number; address = address_at deck (q + j) })) → Each P (lines_from deck q more)
lines_each P deck q [] h = each_none
lines_each P deck q (s ∷ more) h = go (executable s.form) (lines_each P deck (suc q) more (λ j t e. let p : q + suc j ≡ suc q + j = omega arith in rw p at (h (suc j) t e)))
  where
    first : P (record { sequence = suc q; number = s.number; address = address_at deck q })
    first = let p : q + 0 ≡ q = omega arith in rw p at (h 0 s refl)

    go : (t : Bool) → Each P (lines_from deck (suc q) more)
        → Each P (cond t (record { sequence = suc q; number = s.number; address = address_at deck q } ∷ lines_from deck (suc q) more) (lines_from deck (suc q) more))
    go true r = each_more first r
    go false r = r

pub lines_few : (deck : List Statement) (q : ℕ) (more : List Statement) → length (lines_from deck q more) ≤ length more
lines_few deck q [] = omega arith
lines_few deck q (s ∷ more) = go (executable s.form) (lines_few deck (suc q) more)
  where
    go : (t : Bool) → length (lines_from deck (suc q) more) ≤ length more
        → length (cond t (record { sequence = suc q; number = s.number; address = address_at deck q } ∷ lines_from deck (suc q) more) (lines_from deck (suc q) more)) ≤ suc (length more)
    go true r = omega arith
    go false r = omega arith

-- ---- of an accepted deck

module _ {house : House} {deck : List Statement} (accepted : Accepted house deck) where
  pub digits_right : (1 ≤ house.digits) × (house.digits ≤ limits.digits)
  digits_right = accepted.lawful.digits accepted.digits

  -- what numbers stay below
  abbrev m : ℕ
  m = house.rule.ceiling

  pub most : m ≤ 1000000000
  most = (accepted.lawful.constants accepted.digits).1

  abbrev n : ℕ
  n = length (code_of deck)

  abbrev cells : ℕ
  cells = cell_count (held_of deck)

  small : (j : ℕ) (s : Statement) → get_elem? deck j ≡ some s → (c : Digits) → Among c (form_constants s.form) → value_of c < m
  unfolding right12
  small j s e c a =
      let h = accepted.judged j s e in
      let short = leb-true (length c) house.digits (all_among (λ c. leb (length c) house.digits) h.passes12 a) in
      let below = value_within house.digits c (each_here (read_constants h.text s.form h.form) a) short in
      omega (arith, (accepted.lawful.constants accepted.digits).0)

  spanned : (j : ℕ) (s : Statement) → get_elem? deck j ≡ some s → (r : Reference) → Among r (form_references s.form) → Spanned (held_of deck) (dims_of deck) m n cells r
  spanned j s e r a =
      let rows = element_rows accepted j s e r a in
      let v : Name = r.name in
      let size : ℕ = (dims_of deck v).rows * width (dims_of deck v).columns in
      let some : 1 ≤ size = product_some (dims_of deck v).rows (width (dims_of deck v).columns) rows (width_some (dims_of deck v).columns) in
      let b = slot_below (held_of deck) (key (element_at v (size - 1))) (omega (arith, size-dims deck v)) in
      (rows, omega arith)

  fine : (j : ℕ) (s : Statement) → get_elem? deck j ≡ some s → Fine m n cells deck s.form
  fine j s e =
      record {
        small = each_among (form_constants s.form) (small j s e);
        celled = each_among (form_plain s.form) (λ v a. slot_below (held_of deck) (key (plain v)) (plain_has deck j s v e a));
        spanned = each_among (form_references s.form) (spanned j s e);
        exits = λ x a. below deck (stands accepted) (position_of deck (value_of x)) (targets accepted j s e x a);
        shaped = (stands accepted).shaped j s e;
      }

  pub right_code : Each (Right m n cells) (code_of deck)
  right_code = code_right m n cells deck (omega (arith, ten_some house.digits digits_right.0, (accepted.lawful.constants accepted.digits).0)) fine

  pub right_tables : RightTables m n cells (tables_of no_tables (code_of deck))
  right_tables = tables_right m n cells no_tables (code_of deck) (record { constants = each_none; elements = each_none; exits = each_none }) right_code

  pub right_loops : Each (LoopWithin n cells) (map (loop_entry deck) (dos_of deck))
  right_loops =
      each_mapped (LoopWithin n cells) (loop_entry deck) (dos_of deck) (λ d a. (
        slot_below (held_of deck) (key (plain d.variable)) (variable_has deck d a),
        slot_below (held_of deck) (limit d.position) (hidden_has deck d a),
        slot_below (held_of deck) (step d.position) (hidden_has deck d a),
        below deck (stands accepted) (suc d.position) (omega (arith, last_after accepted d a, last_defined accepted d a)),
      ))

  pub right_lines : Each (LineWithin n) (lines_from deck 0 deck)
  right_lines =
      lines_each (LineWithin n) deck 0 deck (λ j s e.
      let b = at_before deck j e in
      let z : 0 + j ≡ j = zero-add j in
      (omega (arith, accepted.count), (accepted.judged j s e).number, rw z (below deck (stands accepted) j b)))

  proper : (v : Name) → InDeck deck v → ProperName house v
  unfolding right11
  proper v i =
      let h = accepted.judged i.position i.statement i.at in
      let t = and_both (leb (length v) house.name_length) (starts_integer v) (all_among (λ v. leb (length v) house.name_length && starts_integer v) h.passes11 i.among) in
      record { name = each_here (read_names h.text i.statement.form h.form) i.among; short = leb-true (length v) house.name_length t.0; integer = t.1 }

  pub right_names : Each (NameWithin house cells) (names_from house 0 (held_of deck))
  right_names =
      each_place (names_from house 0 (held_of deck)) (λ i e f.
      let x = entry_name house deck i e f in
      record { of = x.0; named = x.2; proper = proper x.0 x.1; inside = names_inside house deck accepted i e f })
