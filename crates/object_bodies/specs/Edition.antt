-- The kinds of bodies as the code has them: those of the edition that is written, and for every edition two tables by kind from 0 on.
-- Assumes nothing.
use Rattle.std.specs.Prelude.{ℕ, List, ◌++◌, map, length}
use Rattle.rules_object.specs.Kinds.{Kind, edition, first_kinds, transfer_kinds, kinds_of, entry_sizes, contents_length}

-- ---- the edition that is written: its kinds, how many they are, and the bytes before the bodies

abbrev pub kinds : List Kind
kinds = kinds_of edition

abbrev pub count : ℕ
count = length kinds

abbrev pub head : ℕ
head = contents_length count

-- ---- every edition: it has the first of these kinds

abbrev pub every_kind : List Kind
every_kind = first_kinds ++ transfer_kinds

abbrev pub most_kinds : ℕ
most_kinds = length every_kind

abbrev pub sizes : List ℕ
sizes = entry_sizes every_kind

abbrev pub mosts : List ℕ
mosts = map (λ (k : Kind). k.most) every_kind
