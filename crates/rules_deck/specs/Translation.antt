-- The translation of a deck: its cells, its code as instructions, and the object's lists. 01 "Translation", 2026-01.
-- Assumes nothing.
use Rattle.std.specs.Prelude.{ℕ, zero, suc, ◌+◌, ◌*◌, ◌^◌, Bool, false, ◌||◌, cond, List, [], ◌∷◌, ◌++◌, map, eqb, ltb, length, take, replicate, pos}
use Rattle.rules_shared.specs.House.{House}
use Rattle.rules_object.specs.Object.{SubscriptEntry, Element, Loop, Line, Named, ListItem, Transfer, Object}
use Rattle.rules_object.specs.Operations.{Listed, a_span, one_element, Instr, HLT, CON, LOD, STO, LDE, STE, OP, NEG, JMP, BR3, BRC, DOI, DOE, READ, PRINT, operation_number}
use Rattle.rules_text.specs.Trees.{Name, value_of, Subscript, constant, linear, Subscripts, one, two, subscripts_names, Expr, con, var, elm, neg, par, bin, Target, cell, element, written, Form, assign, go_to, computed, ifs, loop, continue, stop, end, dimension, Statement, Phrase, sets, chooses, computes, steps, declares, Range, parts_of, gathered}
use Rattle.rules_deck.specs.Deck.{same_name, position_of, Do, do_at, dos_of, endings, Dims, Declared, declare, arrays_in, dims_of, width}
use Rattle.rules_deck.specs.Meaning.{times, addend, third}

-- ---- cells go in order of first appearance in the text

-- what stands in the cells, in their order: a name one cell, an array all its cells, the DO at position q its limit and step
pub data Held : Type 0 where
  name : Name → Held
  array : Declared → Held
  hidden : ℕ → Held

-- rows and columns, 0 columns for one dimension
abbrev pub array_size : Dims → ℕ
array_size d = d.rows * width d.columns

abbrev pub size : Held → ℕ
size (name v) = 1
size (array a) = array_size a.dims
size (hidden q) = 2

-- the cells of everything in a list
abbrev pub cell_count : List Held → ℕ
cell_count [] = 0
cell_count (h ∷ hs) = size h + cell_count hs

abbrev pub is_the_name : Name → Held → Bool
is_the_name v (name w) = same_name w v
is_the_name v (array a) = false
is_the_name v (hidden q) = false

abbrev pub is_array : Name → Held → Bool
is_array v (name w) = false
is_array v (array a) = same_name a.name v
is_array v (hidden q) = false

abbrev pub is_hidden : ℕ → Held → Bool
is_hidden q (name w) = false
is_hidden q (array a) = false
is_hidden q (hidden p) = eqb p q

-- the first cell of the first that passes a test: the sizes of those before it
abbrev pub first_cell : (Held → Bool) → List Held → ℕ
first_cell test [] = 0
first_cell test (h ∷ hs) = cond (test h) 0 (size h + first_cell test hs)

unfoldable pub cell_of : List Held → Name → ℕ
cell_of held v = first_cell (is_the_name v) held

unfoldable pub base_of : List Held → Name → ℕ
base_of held v = first_cell (is_array v) held

unfoldable pub limit_of : List Held → ℕ → ℕ
limit_of held q = first_cell (is_hidden q) held

abbrev pub holds : (Held → Bool) → List Held → Bool
holds test [] = false
holds test (h ∷ hs) = test h || holds test hs

-- a name takes a cell where it first appears
abbrev pub appear : List Held → List Name → List Held
appear held [] = held
appear held (v ∷ vs) = appear (cond (holds (is_the_name v) held) held (held ++ (name v ∷ []))) vs

-- the plain names of a text in order; an array's name takes no cell where it is used
abbrev pub expr_plain : Expr → List Name
expr_plain (con c) = []
expr_plain (var v) = v ∷ []
expr_plain (elm v s) = subscripts_names s
expr_plain (neg e) = expr_plain e
expr_plain (par e) = expr_plain e
expr_plain (bin o a b) = expr_plain a ++ expr_plain b

abbrev pub target_plain : Target → List Name
target_plain (cell v) = v ∷ []
target_plain (element v s) = subscripts_names s

abbrev pub phrase_plain : Phrase → List Name
phrase_plain (sets t) = target_plain t
phrase_plain (chooses v) = v ∷ []
phrase_plain (computes e) = expr_plain e
phrase_plain (steps r) = written expr_plain r
phrase_plain (declares arrays) = []

unfoldable pub form_plain : Form → List Name
form_plain f = gathered phrase_plain (parts_of f).text

-- a DO's hidden cells come after its names, an array's cells at its DIMENSION
abbrev pub hidden_in : ℕ → Form → List Held
hidden_in q f = map (λ (d : Range). hidden q) (parts_of f).opens

abbrev pub brings : ℕ → Form → List Held → List Held
brings q f held = appear held (form_plain f) ++ (hidden_in q f ++ map (λ a. array (declare a)) (arrays_in f))

abbrev pub held_from : ℕ → List Statement → List Held → List Held
held_from q [] held = held
held_from q (s ∷ deck) held = held_from (suc q) deck (brings q s.form held)

unfoldable pub held_of : List Statement → List Held
held_of deck = held_from 0 deck []

-- ---- code is postfix

module _ (held : List Held) (dims : Name → Dims) where
  -- a constant has multiplier 0 and cell 0
  abbrev pub subscript_entry : Subscript → SubscriptEntry
  subscript_entry (constant c) = record { times = 0; cell = 0; plus = pos (value_of c) }
  subscript_entry (linear m v a) = record { times = times m; cell = cell_of held v; plus = addend a }

  -- one dimension has columns 1 and second subscript 0, 0, 1
  abbrev pub second_entry : Subscripts → SubscriptEntry
  second_entry (one s) = record { times = 0; cell = 0; plus = pos 1 }
  second_entry (two s t) = subscript_entry t

  abbrev pub first_entry : Subscripts → SubscriptEntry
  first_entry (one s) = subscript_entry s
  first_entry (two s t) = subscript_entry s

  abbrev pub element_entry : Name → Subscripts → Element
  element_entry v s =
      record { base = base_of held v; rows = (dims v).rows; columns = width (dims v).columns; first = first_entry s; second = second_entry s }

  -- the first term, NEG if its sign is minus, then each further term with its operation
  abbrev pub expr_code : Expr → List Instr
  expr_code (con c) = CON (value_of c) ∷ []
  expr_code (var v) = LOD (cell_of held v) ∷ []
  expr_code (elm v s) = LDE (element_entry v s) ∷ []
  expr_code (neg e) = expr_code e ++ (NEG ∷ [])
  expr_code (par e) = expr_code e
  expr_code (bin o a b) = expr_code a ++ (expr_code b ++ (OP o ∷ []))

  abbrev pub store_code : Target → Instr
  store_code (cell v) = STO (cell_of held v)
  store_code (element v s) = STE (element_entry v s)

  -- `address` gives a statement number's address; `entry` the DO's number in body 4 and its entry
  abbrev pub form_code : (ℕ → ℕ) → Instr → Form → List Instr
  form_code address entry (assign t e) = expr_code e ++ (store_code t ∷ [])
  form_code address entry (go_to n) = JMP (address (value_of n)) ∷ []
  form_code address entry (computed ns v) = LOD (cell_of held v) ∷ BRC (map (λ n. address (value_of n)) ns) ∷ []
  form_code address entry (ifs e a b c) = expr_code e ++ (BR3 (address (value_of a)) (address (value_of b)) (address (value_of c)) ∷ [])
  form_code address entry (loop n v p₁ p₂ p₃) = expr_code p₁ ++ (expr_code p₂ ++ (expr_code (third p₃) ++ (entry ∷ [])))
  form_code address entry continue = []
  form_code address entry stop = HLT 0 ∷ []
  form_code address entry end = HLT 1 ∷ []
  form_code address entry (dimension arrays) = []

-- ---- addresses

-- how many DOs stand before position q: the number of its entry
abbrev pub do_number : List Do → ℕ → ℕ
do_number [] q = 0
do_number (d ∷ ds) q = cond (ltb d.position q) (suc (do_number ds q)) (do_number ds q)

module _ (deck : List Statement) where
  -- words of a statement's code, with the ends of the DOs whose last statement it is; no address is needed for that
  unfoldable pub words : Statement → ℕ
  words s = length (form_code (held_of deck) (dims_of deck) (λ n. 0) NEG s.form) + length (endings deck s.number)

  abbrev pub address_in : List Statement → ℕ → ℕ
  address_in [] j = 0
  address_in (s ∷ more) zero = 0
  address_in (s ∷ more) (suc j) = words s + address_in more j

  -- the address of the statement at position j
  unfoldable pub address_at : ℕ → ℕ
  address_at j = address_in deck j

  abbrev pub address_of : ℕ → ℕ
  address_of n = address_at (position_of deck n)

  -- a DO's entry; its body is the statement after it
  abbrev pub loop_entry : Do → Loop
  loop_entry d =
      record {
        variable = cell_of (held_of deck) d.variable;
        limit = limit_of (held_of deck) d.position;
        step = suc (limit_of (held_of deck) d.position);
        body = address_at (suc d.position);
      }

  abbrev pub do_instr : (ℕ → Loop → Instr) → Do → Instr
  do_instr f d = f (do_number (dos_of deck) d.position) (loop_entry d)

  -- the DOI of a DO at position q
  abbrev pub doi_for : ℕ → List Range → Instr
  doi_for q [] = NEG
  doi_for q (d ∷ ds) = do_instr DOI (do_at q d)

  abbrev pub enter_code : ℕ → Form → Instr
  enter_code q f = doi_for q (parts_of f).opens

  -- a statement's code; after a last statement, its DOEs, innermost first
  abbrev pub statement_code : ℕ → Statement → List Instr
  statement_code q s =
      form_code (held_of deck) (dims_of deck) address_of (enter_code q s.form) s.form ++ map (do_instr DOE) (endings deck s.number)

  abbrev pub code_from : ℕ → List Statement → List Instr
  code_from q [] = []
  code_from q (s ∷ more) = statement_code q s ++ code_from (suc q) more

  unfoldable pub code_of : List Instr
  code_of = code_from 0 deck

-- ---- instructions to words and tables, in order of emission

pub record Tables : Type 0 where
  pub constants : List ℕ
  pub elements : List Element
  pub exits : List ℕ
  pub items : List ListItem
  pub transfers : List Transfer

abbrev pub no_tables : Tables
no_tables = record { constants = []; elements = []; exits = []; items = []; transfers = [] }

-- constants are pooled by value
abbrev pub pool : List ℕ → ℕ → List ℕ
pool [] c = c ∷ []
pool (b ∷ bs) c = cond (eqb b c) (b ∷ bs) (b ∷ pool bs c)

abbrev pub pool_at : List ℕ → ℕ → ℕ
pool_at [] c = 0
pool_at (b ∷ bs) c = cond (eqb b c) 0 (suc (pool_at bs c))

abbrev pub add_constant : Tables → ℕ → Tables
add_constant T c = record { constants = pool T.constants c; elements = T.elements; exits = T.exits; items = T.items; transfers = T.transfers }

-- each element reference has its own entry, and each IF or computed GO TO its own exits
abbrev pub add_element : Tables → Element → Tables
add_element T e = record { constants = T.constants; elements = T.elements ++ (e ∷ []); exits = T.exits; items = T.items; transfers = T.transfers }

abbrev pub add_exits : Tables → List ℕ → Tables
add_exits T ts = record { constants = T.constants; elements = T.elements; exits = T.exits ++ ts; items = T.items; transfers = T.transfers }

-- each READ or PRINT has its own items and transfer, and each element of its list its own entry, from number `at` on
abbrev pub list_elements : List Listed → List Element
list_elements [] = []
list_elements (a_span first count ∷ list) = list_elements list
list_elements (one_element e ∷ list) = e ∷ list_elements list

abbrev pub list_items : ℕ → List Listed → List ListItem
list_items at [] = []
list_items at (a_span first count ∷ list) = record { first = first; count = count } ∷ list_items at list
list_items at (one_element e ∷ list) = record { first = at; count = 0 } ∷ list_items (suc at) list

abbrev pub add_transfer : Tables → ℕ → List Listed → Tables
add_transfer T format list =
    record {
      constants = T.constants;
      elements = T.elements ++ list_elements list;
      exits = T.exits;
      items = T.items ++ list_items (length T.elements) list;
      transfers = T.transfers ++ (record { format = format; first = length T.items; count = length list } ∷ []);
    }

abbrev pub tables_after : Tables → Instr → Tables
tables_after T (HLT x) = T
tables_after T (CON c) = add_constant T c
tables_after T (LOD a) = T
tables_after T (STO a) = T
tables_after T (LDE e) = add_element T e
tables_after T (STE e) = add_element T e
tables_after T (OP o) = T
tables_after T NEG = T
tables_after T (JMP a) = T
tables_after T (BR3 a b c) = add_exits T (a ∷ b ∷ c ∷ [])
tables_after T (BRC ts) = add_exits T (length ts ∷ ts)
tables_after T (DOI n d) = T
tables_after T (DOE n d) = T
tables_after T (READ n f list) = add_transfer T n list
tables_after T (PRINT n f list) = add_transfer T n list

abbrev pub operand : Tables → Instr → ℕ
operand T (HLT x) = x
operand T (CON c) = pool_at T.constants c
operand T (LOD a) = a
operand T (STO a) = a
operand T (LDE e) = length T.elements
operand T (STE e) = length T.elements
operand T (OP o) = 0
operand T NEG = 0
operand T (JMP a) = a
operand T (BR3 a b c) = length T.exits
operand T (BRC ts) = length T.exits
operand T (DOI n d) = n
operand T (DOE n d) = n
operand T (READ n f list) = length T.transfers
operand T (PRINT n f list) = length T.transfers

-- the top eight bits name the operation, the low twenty-four the operand
unfoldable pub word_of : Tables → Instr → ℕ
word_of T i = operation_number i * 2 ^ 24 + operand T i

abbrev pub emit : Tables → List Instr → List ℕ
emit T [] = []
emit T (i ∷ is) = word_of T i ∷ emit (tables_after T i) is

abbrev pub tables_of : Tables → List Instr → Tables
tables_of T [] = T
tables_of T (i ∷ is) = tables_of (tables_after T i) is

-- ---- body 6: executable statements and END; body 7: names in cell order

abbrev pub executable : Form → Bool
executable f = (parts_of f).executable

abbrev pub lines_from : List Statement → ℕ → List Statement → List Line
lines_from deck q [] = []
lines_from deck q (s ∷ more) =
    cond (executable s.form) (record { sequence = suc q; number = s.number; address = address_at deck q } ∷ lines_from deck (suc q) more)
    (lines_from deck (suc q) more)

-- so many bytes, blank-filled
abbrev pub filled : ℕ → Name → List ℕ
filled bytes v = take bytes (v ++ replicate bytes 32)

abbrev pub names_from : House → ℕ → List Held → List Named
names_from house at [] = []
names_from house at (name v ∷ held) = record { name = filled house.name_bytes v; first = at; rows = 0; columns = 0 } ∷ names_from house (suc at) held
names_from house at (array a ∷ held) =
    record { name = filled house.name_bytes a.name; first = at; rows = a.dims.rows; columns = a.dims.columns } ∷ names_from house (at + array_size a.dims) held
names_from house at (hidden q ∷ held) = names_from house (at + 2) held

-- ---- the object; no statement is a FORMAT, READ or PRINT yet

unfoldable pub translate : House → List Statement → Object
translate house deck =
    record {
      edition = house.edition;
      digits = house.digits;
      cells = cell_count (held_of deck);
      constants = (tables_of no_tables (code_of deck)).constants;
      elements = (tables_of no_tables (code_of deck)).elements;
      exits = (tables_of no_tables (code_of deck)).exits;
      dos = map (loop_entry deck) (dos_of deck);
      code = emit no_tables (code_of deck);
      lines = lines_from deck 0 deck;
      names = names_from house 0 (held_of deck);
      formats = [];
      items = [];
      transfers = [];
    }
