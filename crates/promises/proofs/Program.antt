-- The promise about the program: what it prints of every input.
-- Assumes nothing.
use mathlib.Core.Path.{◌≡◌, refl, sym, ap, subst}
use Prim.Native.Nat.{ℕ}
use mathlib.Core.List.{List}
use mathlib.Core.Option.{Option, none, some}
use lib.ListN.{take, drop, replicate}
use Rattle.rules_shared.specs.House.{house1401}
use Rattle.rules_object.specs.Bytes.{object_bytes}
use Rattle.rules_text.specs.Cards.{card_length}
use Rattle.rules_deck.specs.Translation.{translate}
use Rattle.rules_deck.specs.Compile.{Read, not_read, read, deck_of, write_read, compiling}
use Rattle.rules_deck.proofs.Houses.{lawful1401}
use Rattle.rules_deck.proofs.AcceptedDeck.{accepted as accepted_deck}
use Rattle.rules_deck.proofs.CompiledWritable.{compiled_reads}
use Rattle.rules_deck.proofs.RefusedDeck.{ReadNumbered, refused_numbered}
use Rattle.rules_program.specs.Program.{control_digits, most_bytes, printed}
use Rattle.rules_program.proofs.Enough.{room_enough}
use Rattle.rules_program.proofs.Prints.{no_card_lem, no_deck_lem, run_printed, run_accepted, object_written}
use Rattle.promises.specs.Promises.{Compiled, Prints, no_card, no_deck, ran, ProgramPrints}

module _ (input : List ℕ) where
  abbrev card : List ℕ
  card = take card_length input

  abbrev deck : List ℕ
  deck = drop card_length input

  as_printed : {lines : List ℕ} → printed input ≡ lines → Prints card deck lines → Prints card deck (printed input)
  as_printed e p = subst (Prints card deck) (sym e) p

  by_deck : (k : ℕ) → control_digits input ≡ some k → (x : Read) → deck_of (house1401 k) deck ≡ x → Prints card deck (printed input)
  unfolding control_digits compiling
  by_deck k c (not_read r) e =
      as_printed (no_deck_lem input k r c e)
      (no_deck k r c (λ output. ap (λ (x : Read). (write_read (house1401 k) output x).refusal) e) (subst ReadNumbered e (refused_numbered (house1401 k) deck)))
  by_deck k c (read statements) e =
      let object : List ℕ = object_bytes (translate (house1401 k) statements) in
      let room = room_enough (house1401 k) (lawful1401 k) deck statements e in
      let compiled : Compiled (house1401 k) deck object =
      record { lawful = lawful1401 k; output = replicate most_bytes 0; accepts = room; writes = object_written (house1401 k) (lawful1401 k) deck statements e (replicate most_bytes 0) room } in
      as_printed (run_printed input k statements c e)
      (ran k object (translate (house1401 k) statements) _ c compiled (compiled_reads (accepted_deck (house1401 k) (lawful1401 k) deck statements e)) refl (run_accepted (house1401 k) (lawful1401 k) deck statements e))

  by_card : (c : Option ℕ) → control_digits input ≡ c → Prints card deck (printed input)
  unfolding control_digits
  by_card none c = as_printed (no_card_lem input c) (no_card c)
  by_card (some k) c = by_deck k c (deck_of (house1401 k) deck) refl

pub program_kept : ProgramPrints
program_kept input = by_card input (control_digits input) refl
