-- What the program prints: REFUSED where the control card or the deck is refused, else the run of the deck's object, which no test of 30 or 40 to 52 refuses.
-- Assumes nothing.
use Prim.Native.Nat.{ℕ, zero, suc, ◌≤◌}
use mathlib.Core.Path.{◌≡◌, refl, sym, ap, ◌∙◌, subst}
use mathlib.Core.Bool.{Bool, true, false}
use mathlib.Core.List.{List, ◌++◌}
use mathlib.Core.Option.{Option, none, some}
use native.Mathlib.Omega.{arith}
use lib.Dec.{leb}
use lib.ListN.{length, take, drop, replicate, length-replicate}
use lib.Seq.{take-append_seam}
use lib.IntN.{ℤ, pos}
use borrow.Author.Tests.{le-leb}
use Rattle.number.specs.Number.{fits}
use Rattle.number.proofs.Laws.{digits_some, yes_fits}
use Rattle.rules_shared.specs.Limits.{limits}
use Rattle.rules_shared.specs.House.{House, house1401}
use Rattle.rules_formats.specs.Walk.{no_trays, devices_of}
use Rattle.rules_object.specs.Object.{Object, rule_of}
use Rattle.rules_object.specs.Check.{right41}
use Rattle.rules_object.specs.Machine.{fresh, step}
use Rattle.rules_object.specs.Bytes.{object_bytes}
use Rattle.rules_shared.specs.Refusals.{Refusal, accepted, no_room}
use Rattle.rules_shared.specs.Lists.{all}
use Rattle.rules_shared.specs.Output.{written_if, write}
use Rattle.rules_object.specs.Calls.{taken, given, right50, right51, Ran, running}
use Rattle.rules_object.specs.Safe.{fresh_lent}
use Rattle.rules_object.specs.Writable.{Edition}
use Rattle.rules_object.proofs.Passed.{check_passed}
use Rattle.rules_object.proofs.Limited.{limited}
use Rattle.rules_object.proofs.Lents.{and_true, fresh_stands, stands_52}
use Rattle.rules_object.proofs.Accepts.{Accepts, accepts_run}
use Rattle.rules_object.proofs.Refusals.{from_accepts}
use Rattle.rules_text.specs.Trees.{Statement}
use Rattle.rules_text.specs.Cards.{card_length}
use Rattle.rules_deck.specs.Translation.{translate}
use Rattle.rules_deck.specs.Compile.{Read, not_read, read, deck_of, write_read, compiling}
use Rattle.rules_deck.specs.Seen.{object_in}
use Rattle.rules_deck.specs.Lawful.{Lawful}
use Rattle.rules_deck.proofs.Houses.{lawful1401}
use Rattle.rules_deck.proofs.AcceptedDeck.{accepted as accepted_deck}
use Rattle.rules_deck.proofs.CompiledRight.{compiled_edition, passes_41}
use Rattle.rules_deck.proofs.CompiledWritable.{compiled_reads, compiled_checked}
use Rattle.rules_deck.proofs.RefusedDeck.{ReadNumbered, refused_numbered}
use Rattle.rules_program.specs.Text.{halt_line, refused_line, name_lines}
use Rattle.rules_program.specs.Program.{control_digits, allowance, zero_store, names_of, ran_lines, run_lines, printed_object, most_bytes, written_lines, compiled_lines, deck_lines, printed}
use Rattle.rules_program.proofs.Enough.{room_enough}

-- ---- a zero store of as many cells as an object may have passes 50 and 51 for every object that passes 41

all_same : (test : ℤ → Bool) (z : ℤ) (n m : ℕ) → test z ≡ true → all test (take n (replicate m z)) ≡ true
all_same test z zero m e = refl
all_same test z (suc n) zero e = refl
all_same test z (suc n) (suc m) e = and_true e (all_same test z n m e)

module _ (o : Object) (edition : Edition o) (right : right41 o ≡ true) where
  zero_50 : right50 o zero_store ≡ true
  unfolding right50
  zero_50 = le-leb o.cells (length zero_store) (omega (arith, (limited o edition right).cells, length-replicate {A = ℤ} limits.cells (pos 0)))

  zero_51 : right51 o zero_store ≡ true
  unfolding right51
  zero_51 = all_same (fits (rule_of o)) (pos 0) o.cells limits.cells (yes_fits (rule_of o) (pos 0) (digits_some o.digits))

-- ---- a deck that is read: its object is written, and its run is not refused

-- the halt line, and every name with its values
abbrev pub lines_of : Object → Ran → List ℕ
lines_of o r = halt_line r.halt r.steps r.sequence ++ name_lines o.names r.store

module _ (house : House) (lawful : Lawful house) (bytes : List ℕ) (deck : List Statement) (reads : deck_of house bytes ≡ read deck) where
  abbrev o : Object
  o = translate house deck

  abbrev object : List ℕ
  object = object_bytes (translate house deck)

  runs : Accepts object zero_store fresh_lent
  unfolding given
  runs =
      let c = compiled_checked house lawful bytes deck reads in
      let p = check_passed object o c.0 c.1 in
      let edition = compiled_edition (accepted_deck house lawful bytes deck reads) in
      let right = passes_41 (accepted_deck house lawful bytes deck reads) in
      record {
        object = o;
        table = c.0;
        is = c.1;
        passes = p;
        right50 = zero_50 o edition right;
        right51 = zero_51 o edition right;
        right52 = stands_52 (fresh zero_store (devices_of no_trays)) (fresh_stands p zero_store (devices_of no_trays) (zero_50 o edition right) (zero_51 o edition right));
      }

  pub run_accepted : (running object zero_store fresh_lent no_trays allowance).refusal ≡ accepted
  run_accepted = ap (λ (r : Ran). r.refusal) (accepts_run runs no_trays allowance) ∙ from_accepts runs.object no_trays (step runs.object) allowance (taken fresh_lent zero_store (devices_of no_trays))

  printed_object_lem : printed_object object ≡ lines_of o (running object zero_store fresh_lent no_trays allowance)
  unfolding printed_object
  printed_object_lem =
      ap (λ (p : Option Object). run_lines (names_of p) (running object zero_store fresh_lent no_trays allowance)) (compiled_reads (accepted_deck house lawful bytes deck reads))
      ∙ ap (ran_lines o.names (running object zero_store fresh_lent no_trays allowance)) (ap (λ (r : Refusal). r.number) run_accepted)

  -- wherever there is room for it
  pub object_written : (output : List ℕ) → (compiling house bytes output).refusal ≡ accepted → object_in (compiling house bytes output) ≡ object
  unfolding compiling write object_in
  object_written output e =
      ap (λ (r : Read). object_in (write_read house output r)) reads
      ∙ by (leb (length object) (length output)) (ap (λ (r : Read). (write_read house output r).refusal) (sym reads) ∙ e)
    where
      by : (b : Bool) → (written_if no_room b object output).refusal ≡ accepted → object_in (written_if no_room b object output) ≡ object
      by true e = take-append_seam object (drop (length object) output)
      by false e = let z : ◌≡◌ {A = ℕ} 30 0 = ap (λ (r : Refusal). r.number) e in absurd (omega arith)

  deck_printed : compiled_lines (compiling house bytes (replicate most_bytes 0)) ≡ printed_object object
  deck_printed =
      let room = room_enough house lawful bytes deck reads in
      ap (written_lines (compiling house bytes (replicate most_bytes 0))) (ap (λ (r : Refusal). r.number) room)
      ∙ ap printed_object (object_written (replicate most_bytes 0) room)

-- ---- what is printed

pub no_card_lem : (input : List ℕ) → control_digits input ≡ none → printed input ≡ refused_line 1 0
unfolding printed
no_card_lem input c = ap (deck_lines (drop card_length input)) c

pub no_deck_lem : (input : List ℕ) (k : ℕ) (r : Refusal) → control_digits input ≡ some k → deck_of (house1401 k) (drop card_length input) ≡ not_read r → printed input ≡ refused_line r.number r.place
unfolding printed compiling
no_deck_lem input k r c e =
    ap (deck_lines (drop card_length input)) c
    ∙ ap (λ (x : Read). compiled_lines (write_read (house1401 k) (replicate most_bytes 0) x)) e
    ∙ by r.number (subst ReadNumbered e (refused_numbered (house1401 k) (drop card_length input))).0
  where
    by : (n : ℕ) → 1 ≤ n → written_lines (write_read (house1401 k) (replicate most_bytes 0) (not_read r)) n ≡ refused_line n r.place
    by zero l = absurd (omega arith)
    by (suc n) l = refl

pub run_printed : (input : List ℕ) (k : ℕ) (deck : List Statement) → control_digits input ≡ some k → deck_of (house1401 k) (drop card_length input) ≡ read deck
    → printed input ≡ lines_of (translate (house1401 k) deck) (running (object_bytes (translate (house1401 k) deck)) zero_store fresh_lent no_trays allowance)
unfolding printed
run_printed input k deck c e =
    ap (deck_lines (drop card_length input)) c ∙ deck_printed (house1401 k) (lawful1401 k) (drop card_length input) deck e ∙ printed_object_lem (house1401 k) (lawful1401 k) (drop card_length input) deck e
