-- The room for an object is enough for that of any deck: the program never refuses by 30.
-- Assumes nothing.
use Prim.Native.Nat.{ℕ, ◌≤◌}
use mathlib.Core.Path.{◌≡◌, ap, ◌∙◌}
use mathlib.Core.Bool.{Bool}
use mathlib.Core.List.{List}
use native.Mathlib.Omega.{arith}
use lib.ListN.{length, replicate, length-replicate}
use borrow.Author.Tests.{le-leb}
use Rattle.rules_shared.specs.House.{House}
use Rattle.rules_object.specs.Bytes.{object_bytes}
use Rattle.rules_shared.specs.Refusals.{accepted, no_room}
use Rattle.rules_shared.specs.Output.{written_if, write}
use Rattle.rules_text.specs.Trees.{Statement}
use Rattle.rules_deck.specs.Translation.{translate}
use Rattle.rules_deck.specs.Compile.{Read, read, deck_of, write_read, compiling}
use Rattle.rules_deck.specs.Lawful.{Lawful}
use Rattle.rules_deck.specs.Accepted.{Accepted}
use Rattle.rules_deck.proofs.AcceptedDeck.{accepted as accepted_deck}
use Rattle.rules_deck.proofs.CompiledWritable.{compiled_most}
use Rattle.rules_program.specs.Program.{most_bytes}

pub object_fits : {house : House} {deck : List Statement} → Accepted house deck → length (object_bytes (translate house deck)) ≤ most_bytes
object_fits c = compiled_most c

-- a deck that is read is compiled
pub room_enough : (house : House) → Lawful house → (bytes : List ℕ) (deck : List Statement) → deck_of house bytes ≡ read deck → (compiling house bytes (replicate most_bytes 0)).refusal ≡ accepted
unfolding compiling write
room_enough house lawful bytes deck e =
    let object : List ℕ = object_bytes (translate house deck) in
    let room : List ℕ = replicate most_bytes 0 in
    let l : length object ≤ length room = omega (arith, object_fits (accepted_deck house lawful bytes deck e), length-replicate {A = ℕ} most_bytes 0) in
    ap (λ (r : Read). (write_read house room r).refusal) e ∙ ap (λ (b : Bool). (written_if no_room b object room).refusal) (le-leb (length object) (length room) l)
