-- What compiling gives, by the deck's statements: the translation's bytes, which pass the check and whose body 7 tells the named values' cells.
-- Assumes nothing.
use mathlib.Core.Path.{◌≡◌, refl, sym, ap, ◌∙◌, subst}
use Prim.Native.Nat.{ℕ, ◌≤◌, ◌<◌}
use native.Mathlib.Omega.{arith}
use mathlib.Core.Bool.{Bool, true, false}
use mathlib.Core.List.{List}
use mathlib.Core.Option.{some}
use lib.Dec.{leb}
use lib.ListN.{length, drop}
use lib.Seq.{take-append_seam}
use lib.IntN.{ℤ}
use Rattle.rules_shared.specs.House.{House}
use Rattle.rules_object.specs.Bytes.{object_bytes, read_object}
use Rattle.rules_shared.specs.Refusals.{Refusal, refusal, accepted, no_room}
use Rattle.rules_shared.specs.Output.{written_if, write}
use Rattle.rules_object.specs.Calls.{passed, checked}
use Rattle.rules_text.specs.Trees.{Statement}
use Rattle.rules_deck.specs.Meaning.{Key}
use Rattle.rules_deck.specs.Translation.{held_of, cell_count, names_from, translate}
use Rattle.rules_deck.specs.Compile.{Read, not_read, read, deck_of, write_read, compiling}
use Rattle.rules_deck.specs.Lawful.{Lawful}
use Rattle.rules_deck.specs.Accepted.{Accepted}
use Rattle.rules_deck.specs.Cells.{key, slot_cell, Has, Holds}
use Rattle.rules_deck.specs.Seen.{object_in, cell_in, cell_in_object, named_cell, cell_value, named_values}
use Rattle.rules_deck.proofs.AcceptedDeck.{accepted as accepted_deck}
use Rattle.rules_deck.proofs.CompiledWritable.{compiled_reads, compiled_checked}
use Rattle.rules_deck.proofs.RefusedDeck.{ReadNumbered, refused_numbered}
use Rattle.rules_deck.proofs.SeenCells.{told, has_cell, cell_has}
use Rattle.promises.specs.Promises.{Compiled}

pub record Made (house : House) (deck object : List ℕ) : Type 0 where
  pub lawful : Lawful house
  pub statements : List Statement
  pub reads : deck_of house deck ≡ read statements
  pub bytes : object ≡ object_bytes (translate house statements)

not_accepted : (r : Refusal) → 0 < r.number → r ≡ accepted → ⊥
not_accepted r h e = let z : r.number ≡ 0 = ap (λ x. x.number) e in omega arith

wrote : (b : Bool) (bytes output : List ℕ) → (written_if no_room b bytes output).refusal ≡ accepted → object_in (written_if no_room b bytes output) ≡ bytes
unfolding object_in
wrote true bytes output e = take-append_seam bytes (drop (length bytes) output)
wrote false bytes output e = absurd (not_accepted (refusal no_room 0 0) (omega arith) e)

pub made : {house : House} {deck object : List ℕ} → Compiled house deck object → Made house deck object
unfolding compiling write
made {house} {deck} {object} c = go (deck_of house deck) refl c.accepts c.writes
  where
    go : (r : Read) → deck_of house deck ≡ r → (write_read house c.output r).refusal ≡ accepted → object_in (write_read house c.output r) ≡ object → Made house deck object
    go (not_read r) e a w = absurd (not_accepted r (subst ReadNumbered e (refused_numbered house deck)).0 a)
    go (read statements) e a w =
        record { lawful = c.lawful; statements = statements; reads = e; bytes = sym w ∙ wrote (leb (length (object_bytes (translate house statements))) (length c.output)) (object_bytes (translate house statements)) c.output a }

module _ {house : House} {deck object : List ℕ} (m : Made house deck object) where
  pub right : Accepted house m.statements
  right = accepted_deck house m.lawful deck m.statements m.reads

  pub reads_back : read_object object ≡ some (translate house m.statements)
  reads_back = ap read_object m.bytes ∙ compiled_reads right

  pub checks : (table : List ℕ) × (checked object ≡ passed (translate house m.statements) table)
  checks = let c = compiled_checked house m.lawful deck m.statements m.reads in (c.0, ap checked m.bytes ∙ c.1)

  -- ---- named values

  cells : (x : Key) → named_cell object x ≡ cell_in (names_from house 0 (held_of m.statements)) x
  unfolding named_cell translate
  cells x = ap (λ o. cell_in_object o x) reads_back

  pub named_has : (x : Key) (c : ℕ) → named_cell object x ≡ some c → Has (held_of m.statements) (key x) × (slot_cell (held_of m.statements) (key x) ≡ c)
  named_has x c e = cell_has house (held_of m.statements) (told house m.statements right) x c (sym (cells x) ∙ e)

  -- a store with room holds its own named values
  pub holds_named : (store : List ℤ) → cell_count (held_of m.statements) ≤ length store → Holds (held_of m.statements) (named_values object store) store
  unfolding named_values
  holds_named store room =
      record {
        room = room;
        same = λ x h. sym (ap (cell_value store) (cells x ∙ has_cell house (held_of m.statements) (told house m.statements right) x h));
      }
