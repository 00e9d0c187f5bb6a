-- What the tables hold of a whole deck: rows, jumps, DOs, and the code with statement numbers for addresses and no DOEs.
-- Assumes nothing.
use Rattle.std.specs.Prelude.{ℕ, suc, ◌+◌, List, [], ◌∷◌, ◌++◌, map, length}
use Rattle.rules_object.specs.Object.{Loop}
use Rattle.rules_object.specs.Operations.{Instr, DOI}
use Rattle.rules_object.specs.Bytes.{concat}
use Rattle.rules_text.specs.Trees.{Name, Statement, form_last}
use Rattle.rules_deck.specs.Deck.{Do, Dims, dims_of}
use Rattle.rules_deck.specs.Translation.{Held, held_of, cell_of, limit_of, form_code}
use Rattle.take_draft.specs.Draft.{jump_words, row_words, loop_words, no_loop}

abbrev pub deck_rows : List Statement → List ℕ
deck_rows deck = concat (map row_words deck)

-- the numbers that the statements jump to, a DO's last number among them
abbrev pub deck_jumps : List Statement → List ℕ
deck_jumps deck = concat (map (λ (s : Statement). jump_words s.form) deck)

-- two words a DO, with j jumps before the statement at position q
abbrev pub loops_from : ℕ → ℕ → List Statement → List ℕ
loops_from q j [] = []
loops_from q j (s ∷ more) = loop_words q j s.form ++ loops_from (suc q) (j + length (jump_words s.form)) more

-- with d DOs before it
abbrev pub plain_from : List Held → (Name → Dims) → ℕ → List Statement → List Instr
plain_from held dims d [] = []
plain_from held dims d (s ∷ more) =
    form_code held dims (λ n. n) (DOI d no_loop) s.form ++ plain_from held dims (d + length (form_last s.form)) more

unfoldable pub plain_code : List Statement → List Instr
plain_code deck = plain_from (held_of deck) (dims_of deck) 0 deck

-- a DO's entry while its body is not known
abbrev pub open_entry : List Statement → Do → Loop
open_entry deck d =
    record {
      variable = cell_of (held_of deck) d.variable;
      limit = limit_of (held_of deck) d.position;
      step = suc (limit_of (held_of deck) d.position);
      body = 0;
    }
