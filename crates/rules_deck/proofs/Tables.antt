-- Words and tables of emitted code: what an instruction's operand stands for in an object, and that its word decodes to it.
-- Assumes nothing.
use mathlib.Core.Path.{◌≡◌, refl, sym, ap, ◌∙◌}
use Prim.Native.Nat.{ℕ, zero, suc, ◌+◌, ◌^◌, ◌≤◌, ◌<◌}
use native.Mathlib.Omega.{arith}
use mathlib.Core.Bool.{Bool, true, false, cond}
use mathlib.Core.List.{List, [], ◌∷◌, ◌++◌, map}
use mathlib.Core.Option.{some}
use lib.Arith.{digits_div, digits_mod}
use lib.Dec.{eqb}
use lib.ListN.{length, get_elem?, get_or, take, drop, length-map}
use borrow.Author.Tests.{eqb-true, ne_eqb}
use Rattle.number.specs.Number.{add, sub, mul, div}
use Rattle.rules_shared.specs.Limits.{limits}
use Rattle.rules_shared.specs.Lists.{Each, each_more}
use Rattle.rules_formats.specs.Format.{Flat}
use Rattle.rules_object.specs.Object.{Element, ListItem, Object}
use Rattle.rules_object.specs.Operations.{Listed, a_span, one_element, Instr, HLT, CON, LOD, STO, LDE, STE, OP, NEG, JMP, BR3, BRC, DOI, DOE, READ, PRINT, operation_of, operand_of, no_element, no_transfer, element_at, format_at, listed, list_at, says_transfer, meant, decode, operation_number}
use Rattle.rules_deck.specs.Translation.{Tables, pool, pool_at, list_elements, add_element, add_exits, list_items, add_transfer, tables_after, operand, word_of, emit, tables_of}
use Rattle.rules_deck.proofs.Addresses.{At, none_left, has, at_head, at_tail, at_end_lem}
use Rattle.rules_deck.proofs.TestLaws.{clash, at_before}

-- ---- what stands at an index

module _ {A : Type 0} where
  pub get_d_at : (l : List A) (a : ℕ) (x d : A) → get_elem? l a ≡ some x → get_or l a d ≡ x
  get_d_at [] a x d e = absurd (clash (sym e))
  get_d_at (y ∷ l) zero x d e = cc
  get_d_at (y ∷ l) (suc a) x d e = get_d_at l a x d e

  drop_at : (l : List A) (a : ℕ) (x : A) → get_elem? l a ≡ some x → drop a l ≡ x ∷ drop (suc a) l
  drop_at [] a x e = absurd (clash (sym e))
  drop_at (y ∷ l) zero x e = let same : y ≡ x = cc in ap (λ z. z ∷ l) same
  drop_at (y ∷ l) (suc a) x e = drop_at l a x e

  pub slice_at : {l : List A} (a : ℕ) (b : List A) → At l a b → take (length b) (drop a l) ≡ b
  slice_at {l} a [] h = refl
  slice_at {l} a (x ∷ b) h = ap (take (suc (length b))) (drop_at l a x (at_head h)) ∙ ap (λ r. x ∷ r) (slice_at (suc a) b (at_tail h))

-- ---- what an operand stands for

-- the entry of a READ or PRINT tells the FORMAT whose first word is at n, and its items are the list
pub record Transferred (o : Object) (n : ℕ) (f : Flat) (list : List Listed) (x : ℕ) : Type 0 where
  pub first : ℕ
  pub entry : get_elem? o.transfers x ≡ some (record { format = n; first = first; count = length list })
  pub items : List ListItem
  pub stand : At o.items first items
  pub say : map (listed o) items ≡ list
  pub format : format_at o n ≡ f

abbrev pub InTables : Object → Instr → ℕ → Type 0
InTables o (HLT y) x = x ≡ y
InTables o (CON c) x = At o.constants x (c ∷ [])
InTables o (LOD a) x = x ≡ a
InTables o (STO a) x = x ≡ a
InTables o (LDE e) x = At o.elements x (e ∷ [])
InTables o (STE e) x = At o.elements x (e ∷ [])
InTables o (OP p) x = x ≡ 0
InTables o NEG x = x ≡ 0
InTables o (JMP a) x = x ≡ a
InTables o (BR3 a b c) x = At o.exits x (a ∷ b ∷ c ∷ [])
InTables o (BRC ts) x = At o.exits x (length ts ∷ ts)
InTables o (DOI n d) x = (x ≡ n) × At o.dos x (d ∷ [])
InTables o (DOE n d) x = (x ≡ n) × At o.dos x (d ∷ [])
InTables o (READ n f list) x = Transferred o n f list x
InTables o (PRINT n f list) x = Transferred o n f list x

transfer_reads : (instr : ℕ → Flat → List Listed → Instr) (o : Object) {n : ℕ} {f : Flat} {list : List Listed} (x : ℕ) → Transferred o n f list x → says_transfer instr o x ≡ instr n f list
transfer_reads instr o {n} {f} {list} x h =
    let count : length list ≡ length h.items = sym (ap length h.say) ∙ length-map h.items (listed o) in
    let same : list_at o (record { format = n; first = h.first; count = length list }) ≡ list =
    ap (λ (c : ℕ). map (listed o) (take c (drop h.first o.items))) count ∙ ap (map (listed o)) (slice_at h.first h.items h.stand) ∙ h.say in
    ap (λ t. instr t.format (format_at o t.format) (list_at o t)) (get_d_at o.transfers x _ no_transfer h.entry) ∙ rw (h.format, same)

reads : (o : Object) (i : Instr) (x : ℕ) → InTables o i x → meant o (operation_number i) x ≡ i
reads o (HLT y) x h = ap HLT h
reads o (CON c) x h = ap CON (get_d_at o.constants x c 0 (at_head h))
reads o (LOD a) x h = ap LOD h
reads o (STO a) x h = ap STO h
reads o (LDE e) x h = ap LDE (get_d_at o.elements x e _ (at_head h))
reads o (STE e) x h = ap STE (get_d_at o.elements x e _ (at_head h))
reads o (OP add) x h = refl
reads o (OP sub) x h = refl
reads o (OP mul) x h = refl
reads o (OP div) x h = refl
reads o NEG x h = refl
reads o (JMP a) x h = ap JMP h
reads o (BR3 a b c) x h =
    let one : x + 1 ≡ suc x = omega arith in
    let two : x + 2 ≡ suc (suc x) = omega arith in
    let p = get_d_at o.exits x a 0 (at_head h) in
    let q = get_d_at o.exits (suc x) b 0 (at_head (at_tail h)) in
    let r = get_d_at o.exits (suc (suc x)) c 0 (at_head (at_tail (at_tail h))) in
    rw (one, two, p, q, r) refl
reads o (BRC ts) x h =
    let one : x + 1 ≡ suc x = omega arith in
    let p = get_d_at o.exits x (length ts) 0 (at_head h) in
    ap BRC (rw (one, p) (slice_at (suc x) ts (at_tail h)))
reads o (DOI n d) x h = rw (← h.0) (ap (DOI x) (get_d_at o.dos x d _ (at_head h.1)))
reads o (DOE n d) x h = rw (← h.0) (ap (DOE x) (get_d_at o.dos x d _ (at_head h.1)))
reads o (READ n f list) x h = transfer_reads READ o x h
reads o (PRINT n f list) x h = transfer_reads PRINT o x h

-- ---- tables only grow

pub record Grows {A : Type 0} (l l' : List A) : Type 0 where
  pub keeps : (i : ℕ) (v : A) → get_elem? l i ≡ some v → get_elem? l' i ≡ some v

at_grow : {A : Type 0} {l l' b : List A} {x : ℕ} → Grows l l' → At l x b → At l' x b
at_grow g none_left = none_left
at_grow g (has e h) = has (g.keeps _ _ e) (at_grow g h)

keeps_append : {A : Type 0} (l r : List A) (i : ℕ) (v : A) → get_elem? l i ≡ some v → get_elem? (l ++ r) i ≡ some v
keeps_append [] r i v e = absurd (clash (sym e))
keeps_append (x ∷ l) r zero v e = e
keeps_append (x ∷ l) r (suc i) v e = keeps_append l r i v e

keeps_pool : (cs : List ℕ) (c : ℕ) (i : ℕ) (v : ℕ) → get_elem? cs i ≡ some v → get_elem? (pool cs c) i ≡ some v
keeps_pool [] c i v e = absurd (clash (sym e))
keeps_pool (b ∷ cs) c i v e = go (eqb b c) i e (keeps_pool cs c)
  where
    go : (t : Bool) (i : ℕ) → get_elem? (b ∷ cs) i ≡ some v → ((i : ℕ) (v : ℕ) → get_elem? cs i ≡ some v → get_elem? (pool cs c) i ≡ some v)
        → get_elem? (cond t (b ∷ cs) (b ∷ pool cs c)) i ≡ some v
    go true i e ih = e
    go false zero e ih = e
    go false (suc i) e ih = ih i v e

pool_has : (cs : List ℕ) (c : ℕ) → get_elem? (pool cs c) (pool_at cs c) ≡ some c
pool_has [] c = refl
pool_has (b ∷ cs) c = go (eqb b c) (eqb-true b c) (pool_has cs c)
  where
    go : (t : Bool) → (t ≡ true → b ≡ c) → get_elem? (pool cs c) (pool_at cs c) ≡ some c → get_elem? (cond t (b ∷ cs) (b ∷ pool cs c)) (cond t 0 (suc (pool_at cs c))) ≡ some c
    go true p e = ap some (p refl)
    go false p e = e

grow_append : {A : Type 0} {l m : List A} (r : List A) → Grows (l ++ r) m → Grows l m
grow_append {A} {l} r g = record { keeps = λ i v e. g.keeps i v (keeps_append l r i v e) }

pub grows_self : {A : Type 0} {l : List A} → Grows l l
grows_self = record { keeps = λ i v e. e }

-- all of the tables stands in the object's
pub record Within (T : Tables) (o : Object) : Type 0 where
  pub constants : Grows T.constants o.constants
  pub elements : Grows T.elements o.elements
  pub exits : Grows T.exits o.exits
  pub items : Grows T.items o.items
  pub transfers : Grows T.transfers o.transfers

module _ {o : Object} {T : Tables} where
  without_element : (e : Element) → Within (add_element T e) o → Within T o
  without_element e w = record { constants = w.constants; elements = grow_append (e ∷ []) w.elements; exits = w.exits; items = w.items; transfers = w.transfers }

  without_exits : (ts : List ℕ) → Within (add_exits T ts) o → Within T o
  without_exits ts w = record { constants = w.constants; elements = w.elements; exits = grow_append ts w.exits; items = w.items; transfers = w.transfers }

  without_transfer : (n : ℕ) (list : List Listed) → Within (add_transfer T n list) o → Within T o
  without_transfer n list w =
      record {
        constants = w.constants;
        elements = grow_append (list_elements list) w.elements;
        exits = w.exits;
        items = grow_append (list_items (length T.elements) list) w.items;
        transfers = grow_append _ w.transfers;
      }

within_before : (o : Object) (T : Tables) (i : Instr) → Within (tables_after T i) o → Within T o
within_before o T (HLT x) w = w
within_before o T (CON c) w =
    record { constants = record { keeps = λ i v e. w.constants.keeps i v (keeps_pool T.constants c i v e) }; elements = w.elements; exits = w.exits; items = w.items; transfers = w.transfers }
within_before o T (LOD a) w = w
within_before o T (STO a) w = w
within_before o T (LDE e) w = without_element e w
within_before o T (STE e) w = without_element e w
within_before o T (OP p) w = w
within_before o T NEG w = w
within_before o T (JMP a) w = w
within_before o T (BR3 a b c) w = without_exits (a ∷ b ∷ c ∷ []) w
within_before o T (BRC ts) w = without_exits (length ts ∷ ts) w
within_before o T (DOI n d) w = w
within_before o T (DOE n d) w = w
within_before o T (READ n f list) w = without_transfer n list w
within_before o T (PRINT n f list) w = without_transfer n list w

within_start : (o : Object) (T : Tables) (is : List Instr) → Within (tables_of T is) o → Within T o
within_start o T [] w = w
within_start o T (i ∷ is) w = within_before o T i (within_start o (tables_after T i) is w)

-- ---- what the code says beside its tables

-- a span has a cell at least
abbrev pub HasCells : Listed → Type 0
HasCells (a_span first count) = 0 < count
HasCells (one_element e) = Unit {0}

-- A halt is STOP or END, a cell at most the count, an address at most the code's length, a DO's entry stands at its number, and a FORMAT's words at their index.
abbrev pub Bounded : Object → Instr → Type 0
Bounded o (HLT x) = x ≤ 1
Bounded o (CON c) = Unit {0}
Bounded o (LOD a) = a ≤ o.cells
Bounded o (STO a) = a ≤ o.cells
Bounded o (LDE e) = Unit {0}
Bounded o (STE e) = Unit {0}
Bounded o (OP p) = Unit {0}
Bounded o NEG = Unit {0}
Bounded o (JMP a) = a ≤ length o.code
Bounded o (BR3 a b c) = Unit {0}
Bounded o (BRC ts) = Unit {0}
Bounded o (DOI n d) = get_elem? o.dos n ≡ some d
Bounded o (DOE n d) = get_elem? o.dos n ≡ some d
Bounded o (READ n f list) = (format_at o n ≡ f) × Each HasCells list
Bounded o (PRINT n f list) = (format_at o n ≡ f) × Each HasCells list

-- the items of a list, its elements' entries being those from number `at` on, are the list
list_says : (o : Object) (at : ℕ) (list : List Listed) → At o.elements at (list_elements list) → Each HasCells list → map (listed o) (list_items at list) ≡ list
list_says o at [] h s = refl
list_says o at (a_span first count ∷ list) h (each_more s ss) =
    ap (λ (b : Bool). cond b (one_element (element_at o first)) (a_span first count) ∷ map (listed o) (list_items at list)) (ne_eqb count 0 (λ e. omega arith))
    ∙ ap (λ (l : List Listed). a_span first count ∷ l) (list_says o at list h ss)
list_says o at (one_element e ∷ list) h (each_more s ss) =
    ap (λ (d : Element). one_element d ∷ map (listed o) (list_items (suc at) list)) (get_d_at o.elements at e no_element (at_head h))
    ∙ ap (λ (l : List Listed). one_element e ∷ l) (list_says o (suc at) list (at_tail h) ss)

transfer_now : (o : Object) (T : Tables) (n : ℕ) (f : Flat) (list : List Listed) → Within (add_transfer T n list) o → (format_at o n ≡ f) × Each HasCells list → Transferred o n f list (length T.transfers)
transfer_now o T n f list w b =
    record {
      first = length T.items;
      entry = w.transfers.keeps _ _ (at_head (at_end_lem T.transfers (record { format = n; first = length T.items; count = length list } ∷ [])));
      items = list_items (length T.elements) list;
      stand = at_grow w.items (at_end_lem T.items (list_items (length T.elements) list));
      say = list_says o (length T.elements) list (at_grow w.elements (at_end_lem T.elements (list_elements list))) b.1;
      format = b.0;
    }

means_now : (o : Object) (T : Tables) (i : Instr) → Within (tables_after T i) o → Bounded o i → InTables o i (operand T i)
means_now o T (HLT x) w b = refl
means_now o T (CON c) w b = has (w.constants.keeps _ _ (pool_has T.constants c)) none_left
means_now o T (LOD a) w b = refl
means_now o T (STO a) w b = refl
means_now o T (LDE e) w b = at_grow w.elements (at_end_lem T.elements (e ∷ []))
means_now o T (STE e) w b = at_grow w.elements (at_end_lem T.elements (e ∷ []))
means_now o T (OP p) w b = refl
means_now o T NEG w b = refl
means_now o T (JMP a) w b = refl
means_now o T (BR3 x y z) w b = at_grow w.exits (at_end_lem T.exits (x ∷ y ∷ z ∷ []))
means_now o T (BRC ts) w b = at_grow w.exits (at_end_lem T.exits (length ts ∷ ts))
means_now o T (DOI n d) w b = (refl, has b none_left)
means_now o T (DOE n d) w b = (refl, has b none_left)
means_now o T (READ n f list) w b = transfer_now o T n f list w b
means_now o T (PRINT n f list) w b = transfer_now o T n f list w b

-- ---- the round trip

pub emit_length : (T : Tables) (is : List Instr) → length (emit T is) ≡ length is
emit_length T [] = refl
emit_length T (i ∷ is) = ap suc (emit_length (tables_after T i) is)

emit_at : (o : Object) (T : Tables) (is : List Instr) → Within (tables_of T is) o → (a : ℕ) (i : Instr) → get_elem? is a ≡ some i → Bounded o i
    → (U : Tables) × (get_elem? (emit T is) a ≡ some (word_of U i)) × InTables o i (operand U i)
emit_at o T [] w a i e b = absurd (clash (sym e))
emit_at o T (j ∷ is) w zero i e b =
    let same : j ≡ i = cc in
    let v = rw same at (within_start o (tables_after T j) is w) in
    (T, ap (λ k. some (word_of T k)) same, means_now o T i v b)
emit_at o T (j ∷ is) w (suc a) i e b = emit_at o (tables_after T j) is w a i e b

-- each table is within its limit
pub record Sized (o : Object) : Type 0 where
  pub cells : o.cells ≤ limits.cells
  pub code : length o.code ≤ limits.code
  pub constants : length o.constants ≤ limits.constants
  pub elements : length o.elements ≤ limits.elements
  pub exits : length o.exits ≤ limits.exits
  pub dos : length o.dos ≤ limits.dos
  pub transfers : length o.transfers ≤ limits.transfers

operand_small : (o : Object) (i : Instr) (x : ℕ) → Sized o → Bounded o i → InTables o i x → x < 2 ^ 24
operand_small o (HLT y) x s b h = omega arith
operand_small o (CON c) x s b h = omega (arith, s.constants, at_before o.constants x (at_head h))
operand_small o (LOD a) x s b h = omega (arith, s.cells)
operand_small o (STO a) x s b h = omega (arith, s.cells)
operand_small o (LDE e) x s b h = omega (arith, s.elements, at_before o.elements x (at_head h))
operand_small o (STE e) x s b h = omega (arith, s.elements, at_before o.elements x (at_head h))
operand_small o (OP p) x s b h = omega arith
operand_small o NEG x s b h = omega arith
operand_small o (JMP a) x s b h = omega (arith, s.code)
operand_small o (BR3 t u v) x s b h = omega (arith, s.exits, at_before o.exits x (at_head h))
operand_small o (BRC ts) x s b h = omega (arith, s.exits, at_before o.exits x (at_head h))
operand_small o (DOI n d) x s b h = omega (arith, s.dos, at_before o.dos x (at_head h.1))
operand_small o (DOE n d) x s b h = omega (arith, s.dos, at_before o.dos x (at_head h.1))
operand_small o (READ n f list) x s b h = omega (arith, s.transfers, at_before o.transfers x h.entry)
operand_small o (PRINT n f list) x s b h = omega (arith, s.transfers, at_before o.transfers x h.entry)

-- an instruction's word in an object
pub record Emitted (o : Object) (a : ℕ) (i : Instr) : Type 0 where
  pub word : ℕ
  pub stands : get_elem? o.code a ≡ some word
  pub operation : operation_of word ≡ operation_number i
  pub in_tables : InTables o i (operand_of word)

pub emitted_at : (o : Object) (T : Tables) (is : List Instr) → emit T is ≡ o.code → Within (tables_of T is) o → Sized o
    → (a : ℕ) (i : Instr) → get_elem? is a ≡ some i → Bounded o i → Emitted o a i
unfolding operation_of operand_of word_of
emitted_at o T is c w s a i e b =
    let r = emit_at o T is w a i e b in
    let l = operand_small o i (operand r.0 i) s b r.2 in
    record {
      word = word_of r.0 i;
      stands = ap (λ l. get_elem? l a) (sym c) ∙ r.1;
      operation = digits_div (operation_number i) l;
      in_tables = rw (digits_mod (operation_number i) l) r.2;
    }

-- it decodes to the instruction
pub decoded : (o : Object) (a : ℕ) (i : Instr) → Emitted o a i → decode o (get_or o.code a 0) ≡ i
unfolding decode
decoded o a i m = rw (get_d_at o.code a m.word 0 m.stands, m.operation) (reads o i (operand_of m.word) m.in_tables)
