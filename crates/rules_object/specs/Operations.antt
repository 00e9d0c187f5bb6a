-- The operations of the machine: what a word says, what 43 and a bench run ask of it, and the flow of control that 44 is about. 01 "Translation", "Refusal numbers", 2026-01.
-- Assumes nothing.
use Rattle.std.specs.Prelude.{ℕ, suc, ◌+◌, ◌/◌, ◌%◌, ◌^◌, Bool, true, false, ◌&&◌, ◌||◌, cond, List, [], ◌∷◌, map, ltb, leb, eqb, length, get_or, take, drop, pos}
use Rattle.number.specs.Number.{Op, add, sub, mul, div}
use Rattle.rules_shared.specs.Limits.{limits}
use Rattle.rules_shared.specs.Lists.{all}
use Rattle.rules_formats.specs.Format.{Flat}
use Rattle.rules_formats.specs.Words.{is_end, format_from}
use Rattle.rules_object.specs.Object.{SubscriptEntry, Element, Loop, ListItem, Transfer, Object}
use Rattle.rules_object.specs.Flow.{Flow}
use Rattle.rules_object.specs.Check.{in_code, in_cells, right_constant, right_element, right_loop, right_format, right_item, right_transfer}

-- ---- what a word says

-- an item of a list: so many cells from the first, or an element
pub data Listed : Type 0 where
  a_span : ℕ → ℕ → Listed
  one_element : Element → Listed

-- an operation with what its operand stands for
pub data Instr : Type 0 where
  -- STOP (0) or END
  HLT : ℕ → Instr
  CON : ℕ → Instr
  LOD STO : ℕ → Instr
  LDE STE : Element → Instr
  OP : Op → Instr
  NEG : Instr
  JMP : ℕ → Instr
  BR3 : ℕ → ℕ → ℕ → Instr
  BRC : List ℕ → Instr
  -- a DO by its entry's number, and the entry
  DOI DOE : ℕ → Loop → Instr
  -- a FORMAT by the index of its first word, and what it is; and the list
  READ PRINT : ℕ → Flat → List Listed → Instr

-- the top eight bits name the operation, the low twenty-four the operand
unfoldable pub operation_of : ℕ → ℕ
operation_of word = word / 2 ^ 24

unfoldable pub operand_of : ℕ → ℕ
operand_of word = word % 2 ^ 24

abbrev pub no_subscript : SubscriptEntry
no_subscript = record { times = 0; cell = 0; plus = pos 0 }

-- entries that stand in for those outside a body, where nothing was checked
abbrev pub no_element : Element
no_element = record { base = 0; rows = 0; columns = 0; first = no_subscript; second = no_subscript }

abbrev pub no_loop : Loop
no_loop = record { variable = 0; limit = 0; step = 0; body = 0 }

abbrev pub no_transfer : Transfer
no_transfer = record { format = 0; first = 0; count = 0 }

-- the entries by number
abbrev pub constant_at : Object → ℕ → ℕ
constant_at o x = get_or o.constants x 0

abbrev pub element_at : Object → ℕ → Element
element_at o x = get_or o.elements x no_element

abbrev pub exit_at : Object → ℕ → ℕ
exit_at o x = get_or o.exits x 0

abbrev pub loop_at : Object → ℕ → Loop
loop_at o x = get_or o.dos x no_loop

abbrev pub transfer_at : Object → ℕ → Transfer
transfer_at o x = get_or o.transfers x no_transfer

abbrev pub format_at : Object → ℕ → Flat
format_at o first = format_from first (drop first o.formats)

abbrev pub listed : Object → ListItem → Listed
listed o i = cond (eqb i.count 0) (one_element (element_at o i.first)) (a_span i.first i.count)

abbrev pub items_at : Object → Transfer → List ListItem
items_at o t = take t.count (drop t.first o.items)

abbrev pub list_at : Object → Transfer → List Listed
list_at o t = map (listed o) (items_at o t)

-- ---- the table of operations

pub record Operation : Type 0 where
  -- what a word says, by its operand
  pub says : Object → ℕ → Instr
  -- 43: is the operand right, and each exit that the instruction uses
  pub operand_right : Object → ℕ → Bool
  -- 42: is the entry that the instruction uses right
  pub entry_right : Object → ℕ → Bool
  pub pops : ℕ
  pub pushes : ℕ

abbrev pub targets : Object → List ℕ → Bool
targets o [] = true
targets o (t ∷ ts) = in_code o t && targets o ts

abbrev pub three_exits : Object → ℕ → Bool
three_exits o x = ltb (x + 2) (length o.exits) && targets o (take 3 (drop x o.exits))

-- the first is the count of those that follow
abbrev pub counted_exits : Object → ℕ → Bool
counted_exits o x =
    leb limits.fewest_exits (exit_at o x) && (leb (exit_at o x) limits.most_exits &&
    (ltb (x + exit_at o x) (length o.exits) && targets o (take (exit_at o x) (drop (x + 1) o.exits))))

abbrev pub zero_operand : Object → ℕ → Bool
zero_operand o x = eqb x 0

abbrev pub an_element : Object → ℕ → Bool
an_element o x = ltb x (length o.elements)

abbrev pub a_loop : Object → ℕ → Bool
a_loop o x = ltb x (length o.dos)

abbrev pub no_entry : Object → ℕ → Bool
no_entry o x = true

abbrev pub element_right : Object → ℕ → Bool
element_right o x = right_element o (element_at o x)

abbrev pub loop_right : Object → ℕ → Bool
loop_right o x = right_loop o (loop_at o x)

abbrev pub a_transfer : Object → ℕ → Bool
a_transfer o x = ltb x (length o.transfers)

-- every word of a FORMAT from the one at i on, its end too
abbrev pub format_right : Object → ℕ → List ℕ → Bool
format_right o i [] = true
format_right o i (w ∷ words) = right_format o i && (is_end w || format_right o (suc i) words)

-- an item, and the element's entry that it uses
abbrev pub item_right : Object → ListItem → Bool
item_right o i = right_item o i && (cond (eqb i.count 0) (element_right o i.first) true)

-- a transfer, every word of its FORMAT, and every item of its list
abbrev pub transfer_right : Object → ℕ → Bool
transfer_right o x =
    right_transfer o (transfer_at o x) && (format_right o (transfer_at o x).format (drop (transfer_at o x).format o.formats) && all (item_right o) (items_at o (transfer_at o x)))

abbrev pub says_transfer : (ℕ → Flat → List Listed → Instr) → Object → ℕ → Instr
says_transfer instr o x = instr (transfer_at o x).format (format_at o (transfer_at o x).format) (list_at o (transfer_at o x))

-- by number
abbrev pub operations : List Operation
operations =
    record { says = λ o x. HLT x; operand_right = λ o x. leb x 1; entry_right = no_entry; pops = 0; pushes = 0 } ∷
    record { says = λ o x. CON (constant_at o x); operand_right = λ o x. ltb x (length o.constants); entry_right = λ o x. right_constant o (constant_at o x); pops = 0; pushes = 1 } ∷
    record { says = λ o x. LOD x; operand_right = in_cells; entry_right = no_entry; pops = 0; pushes = 1 } ∷
    record { says = λ o x. STO x; operand_right = in_cells; entry_right = no_entry; pops = 1; pushes = 0 } ∷
    record { says = λ o x. LDE (element_at o x); operand_right = an_element; entry_right = element_right; pops = 0; pushes = 1 } ∷
    record { says = λ o x. STE (element_at o x); operand_right = an_element; entry_right = element_right; pops = 1; pushes = 0 } ∷
    record { says = λ o x. OP add; operand_right = zero_operand; entry_right = no_entry; pops = 2; pushes = 1 } ∷
    record { says = λ o x. OP sub; operand_right = zero_operand; entry_right = no_entry; pops = 2; pushes = 1 } ∷
    record { says = λ o x. OP mul; operand_right = zero_operand; entry_right = no_entry; pops = 2; pushes = 1 } ∷
    record { says = λ o x. OP div; operand_right = zero_operand; entry_right = no_entry; pops = 2; pushes = 1 } ∷
    record { says = λ o x. NEG; operand_right = zero_operand; entry_right = no_entry; pops = 1; pushes = 1 } ∷
    record { says = λ o x. JMP x; operand_right = in_code; entry_right = no_entry; pops = 0; pushes = 0 } ∷
    record { says = λ o x. BR3 (exit_at o x) (exit_at o (x + 1)) (exit_at o (x + 2)); operand_right = three_exits; entry_right = no_entry; pops = 1; pushes = 0 } ∷
    record { says = λ o x. BRC (take (exit_at o x) (drop (x + 1) o.exits)); operand_right = counted_exits; entry_right = no_entry; pops = 1; pushes = 0 } ∷
    record { says = λ o x. DOI x (loop_at o x); operand_right = a_loop; entry_right = loop_right; pops = 3; pushes = 0 } ∷
    record { says = λ o x. DOE x (loop_at o x); operand_right = a_loop; entry_right = loop_right; pops = 0; pushes = 0 } ∷
    record { says = says_transfer READ; operand_right = a_transfer; entry_right = transfer_right; pops = 0; pushes = 0 } ∷
    record { says = says_transfer PRINT; operand_right = a_transfer; entry_right = transfer_right; pops = 0; pushes = 0 } ∷ []

-- that of no other number
abbrev pub unknown : Operation
unknown = record { says = λ o x. HLT x; operand_right = λ o x. false; entry_right = no_entry; pops = 0; pushes = 0 }

abbrev pub operation_at : ℕ → Operation
operation_at n = get_or operations n unknown

-- ---- a word

abbrev pub meant : Object → ℕ → ℕ → Instr
meant o operation operand = (operation_at operation).says o operand

unfoldable pub decode : Object → ℕ → Instr
decode o word = meant o (operation_of word) (operand_of word)

unfoldable pub right43 : Object → ℕ → Bool
right43 o word = (operation_at (operation_of word)).operand_right o (operand_of word)

unfoldable pub entry_right : Object → ℕ → Bool
entry_right o word = (operation_at (operation_of word)).entry_right o (operand_of word)

abbrev pub instruction : Object → ℕ → Instr
instruction o a = decode o (get_or o.code a 0)

-- ---- an instruction

abbrev pub operation_number : Instr → ℕ
operation_number (HLT x) = 0
operation_number (CON c) = 1
operation_number (LOD a) = 2
operation_number (STO a) = 3
operation_number (LDE e) = 4
operation_number (STE e) = 5
operation_number (OP add) = 6
operation_number (OP sub) = 7
operation_number (OP mul) = 8
operation_number (OP div) = 9
operation_number NEG = 10
operation_number (JMP a) = 11
operation_number (BR3 a b c) = 12
operation_number (BRC ts) = 13
operation_number (DOI n d) = 14
operation_number (DOE n d) = 15
operation_number (READ n f is) = 16
operation_number (PRINT n f is) = 17

abbrev pub pops : Instr → ℕ
pops i = (operation_at (operation_number i)).pops

abbrev pub pushes : Instr → ℕ
pushes i = (operation_at (operation_number i)).pushes

-- where control can go from the instruction at a
abbrev pub successors : ℕ → Instr → List ℕ
successors a (HLT x) = []
successors a (CON c) = suc a ∷ []
successors a (LOD x) = suc a ∷ []
successors a (STO x) = suc a ∷ []
successors a (LDE e) = suc a ∷ []
successors a (STE e) = suc a ∷ []
successors a (OP o) = suc a ∷ []
successors a NEG = suc a ∷ []
successors a (JMP t) = t ∷ []
successors a (BR3 t u v) = t ∷ u ∷ v ∷ []
successors a (BRC ts) = ts
successors a (DOI n d) = suc a ∷ []
successors a (DOE n d) = d.body ∷ suc a ∷ []
successors a (READ n f is) = suc a ∷ []
successors a (PRINT n f is) = suc a ∷ []

unfoldable pub flow_of : Object → Flow
flow_of o =
    record {
      n = length o.code;
      takes = λ a. pops (instruction o a);
      gives = λ a. pushes (instruction o a);
      width = λ a. length (successors a (instruction o a));
      next = λ a k. get_or (successors a (instruction o a)) k 0;
    }
