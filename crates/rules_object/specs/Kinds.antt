-- The kinds of an object's bodies: what reading, writing, 41 and the longest object go by. 01 "Object", "Limits", 2026-01.
-- Assumes nothing.
use Rattle.std.specs.Prelude.{ℕ, ◌+◌, ◌*◌, cond, List, [], ◌∷◌, ◌++◌, map, eqb}
use Rattle.rules_shared.specs.Limits.{limits}

-- words in an entry, and how many entries at most
pub record Kind : Type 0 where
  pub words : ℕ
  pub most : ℕ

-- the edition that is written
abbrev pub edition : ℕ
edition = 1

-- by kind from 1 on: constants, elements, exits, DOs, code, statements, names
abbrev pub first_kinds : List Kind
first_kinds =
    record { words = 1; most = limits.constants }
    ∷ record { words = 9; most = limits.elements }
    ∷ record { words = 1; most = limits.exits }
    ∷ record { words = 4; most = limits.dos }
    ∷ record { words = 1; most = limits.code }
    ∷ record { words = 3; most = limits.statements }
    ∷ record { words = 5; most = limits.names }
    ∷ []

-- from 8 on, since edition 2: format words, list items, transfers
abbrev pub transfer_kinds : List Kind
transfer_kinds =
    record { words = 1; most = limits.format_words }
    ∷ record { words = 2; most = limits.list_items }
    ∷ record { words = 3; most = limits.transfers }
    ∷ []

-- an edition that is none has no kinds
abbrev pub kinds_of : ℕ → List Kind
kinds_of e = cond (eqb e 1) first_kinds (cond (eqb e 2) (first_kinds ++ transfer_kinds) [])

abbrev pub entry_sizes : List Kind → List ℕ
entry_sizes kinds = map (λ (k : Kind). k.words) kinds

-- the words of bodies that are all full
abbrev pub most_words : List Kind → ℕ
most_words [] = 0
most_words (k ∷ kinds) = k.words * k.most + most_words kinds

-- bytes of the contents of so many bodies
abbrev pub contents_length : ℕ → ℕ
contents_length count = 4 * (4 + 3 * count)
