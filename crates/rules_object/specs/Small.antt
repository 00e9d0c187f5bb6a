-- Small objects of k = 5, written by what they have, for examples.
-- Assumes nothing.
use Rattle.std.specs.Prelude.{ℕ, ◌+◌, ◌*◌, ◌^◌, List, [], ◌++◌, take, replicate, ℤ}
use Rattle.rules_object.specs.Object.{Element, Loop, Line, Named, ListItem, Transfer, Object}

-- words of code, by operation and operand
abbrev pub does : ℕ → ℕ → ℕ
does operation operand = operation * 2 ^ 24 + operand

abbrev pub word_hlt : ℕ → ℕ
word_hlt x = does 0 x

abbrev pub word_con : ℕ → ℕ
word_con x = does 1 x

abbrev pub word_lod : ℕ → ℕ
word_lod x = does 2 x

abbrev pub word_sto : ℕ → ℕ
word_sto x = does 3 x

abbrev pub word_lde : ℕ → ℕ
word_lde x = does 4 x

abbrev pub word_ste : ℕ → ℕ
word_ste x = does 5 x

abbrev pub word_add : ℕ → ℕ
word_add x = does 6 x

abbrev pub word_sub : ℕ → ℕ
word_sub x = does 7 x

abbrev pub word_mul : ℕ → ℕ
word_mul x = does 8 x

abbrev pub word_div : ℕ → ℕ
word_div x = does 9 x

abbrev pub word_neg : ℕ → ℕ
word_neg x = does 10 x

abbrev pub word_jmp : ℕ → ℕ
word_jmp x = does 11 x

abbrev pub word_br3 : ℕ → ℕ
word_br3 x = does 12 x

abbrev pub word_brc : ℕ → ℕ
word_brc x = does 13 x

abbrev pub word_doi : ℕ → ℕ
word_doi x = does 14 x

abbrev pub word_doe : ℕ → ℕ
word_doe x = does 15 x

abbrev pub word_read : ℕ → ℕ
word_read x = does 16 x

abbrev pub word_print : ℕ → ℕ
word_print x = does 17 x

abbrev pub object : ℕ → List ℕ → List Element → List ℕ → List Loop → List ℕ → Object
object cells constants elements exits dos code =
    record {
      edition = 1;
      digits = 5;
      cells = cells;
      constants = constants;
      elements = elements;
      exits = exits;
      dos = dos;
      code = code;
      lines = [];
      names = [];
      formats = [];
      items = [];
      transfers = [];
    }

-- code alone, with no entry and no cell
abbrev pub code_only : List ℕ → Object
code_only code = object 0 [] [] [] [] code

abbrev pub element : ℕ → ℕ → ℕ → ℕ → ℕ → ℤ → ℕ → ℕ → ℤ → Element
element base rows columns m c a n d b =
    record { base = base; rows = rows; columns = columns; first = record { times = m; cell = c; plus = a }; second = record { times = n; cell = d; plus = b } }

abbrev pub loop : ℕ → ℕ → ℕ → ℕ → Loop
loop variable limit step body = record { variable = variable; limit = limit; step = step; body = body }

abbrev pub line : ℕ → ℕ → ℕ → Line
line sequence number address = record { sequence = sequence; number = number; address = address }

-- a name of up to eight characters, blank-filled
abbrev pub named : List ℕ → ℕ → ℕ → ℕ → Named
named name first rows columns = record { name = take 8 (name ++ replicate 8 32); first = first; rows = rows; columns = columns }

abbrev pub with_lines : List Line → Object → Object
with_lines lines o =
    record {
      edition = o.edition;
      digits = o.digits;
      cells = o.cells;
      constants = o.constants;
      elements = o.elements;
      exits = o.exits;
      dos = o.dos;
      code = o.code;
      lines = lines;
      names = o.names;
      formats = o.formats;
      items = o.items;
      transfers = o.transfers;
    }

abbrev pub with_names : List Named → Object → Object
with_names names o =
    record {
      edition = o.edition;
      digits = o.digits;
      cells = o.cells;
      constants = o.constants;
      elements = o.elements;
      exits = o.exits;
      dos = o.dos;
      code = o.code;
      lines = o.lines;
      names = names;
      formats = o.formats;
      items = o.items;
      transfers = o.transfers;
    }

-- of edition 2, with FORMATs, list items and transfers
abbrev pub with_transfers : List ℕ → List ListItem → List Transfer → Object → Object
with_transfers formats items transfers o =
    record {
      edition = 2;
      digits = o.digits;
      cells = o.cells;
      constants = o.constants;
      elements = o.elements;
      exits = o.exits;
      dos = o.dos;
      code = o.code;
      lines = o.lines;
      names = o.names;
      formats = formats;
      items = items;
      transfers = transfers;
    }
