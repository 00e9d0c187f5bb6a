-- Counts with some of them changed: no other definition makes counts by their parts, but for those of nothing.
-- Assumes nothing.
use Rattle.std.specs.Prelude.{ℕ, ◌+◌}
use Rattle.take_draft.specs.declared.Counts.{Counts}

abbrev pub with_names : Counts → ℕ → ℕ → Counts
with_names n names cells =
    record {
      names = names;
      cells = cells;
      constants = n.constants;
      elements = n.elements;
      exits = n.exits;
      dos = n.dos;
      code = n.code;
      jumps = n.jumps;
      statements = n.statements;
    }

abbrev pub with_constants : Counts → ℕ → Counts
with_constants n constants =
    record {
      names = n.names;
      cells = n.cells;
      constants = constants;
      elements = n.elements;
      exits = n.exits;
      dos = n.dos;
      code = n.code;
      jumps = n.jumps;
      statements = n.statements;
    }

abbrev pub with_elements : Counts → ℕ → Counts
with_elements n elements =
    record {
      names = n.names;
      cells = n.cells;
      constants = n.constants;
      elements = elements;
      exits = n.exits;
      dos = n.dos;
      code = n.code;
      jumps = n.jumps;
      statements = n.statements;
    }

abbrev pub with_exits : Counts → ℕ → Counts
with_exits n exits =
    record {
      names = n.names;
      cells = n.cells;
      constants = n.constants;
      elements = n.elements;
      exits = exits;
      dos = n.dos;
      code = n.code;
      jumps = n.jumps;
      statements = n.statements;
    }

-- one DO more
abbrev pub with_do : Counts → Counts
with_do n =
    record {
      names = n.names;
      cells = n.cells;
      constants = n.constants;
      elements = n.elements;
      exits = n.exits;
      dos = n.dos + 1;
      code = n.code;
      jumps = n.jumps;
      statements = n.statements;
    }

-- one word more of code
abbrev pub with_word : Counts → Counts
with_word n =
    record {
      names = n.names;
      cells = n.cells;
      constants = n.constants;
      elements = n.elements;
      exits = n.exits;
      dos = n.dos;
      code = n.code + 1;
      jumps = n.jumps;
      statements = n.statements;
    }

-- one statement more, and so many jumps then
abbrev pub with_marks : Counts → ℕ → Counts
with_marks n jumps =
    record {
      names = n.names;
      cells = n.cells;
      constants = n.constants;
      elements = n.elements;
      exits = n.exits;
      dos = n.dos;
      code = n.code;
      jumps = jumps;
      statements = n.statements + 1;
    }
