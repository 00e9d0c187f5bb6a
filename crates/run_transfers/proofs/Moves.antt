-- What PRINT and READ leave, as the book's step on the state.
-- Assumes nothing.
use mathlib.Core.Path.{◌≡◌, refl, sym, ap, ap₂, ◌∙◌, subst}
use mathlib.Core.List.{List}
use Prim.Native.Nat.{ℕ, ◌≤◌}
use native.Mathlib.Omega.{arith}
use lib.ListN.{drop}
use lib.IntN.{ℤ}
use Rattle.std.specs.Prelude.{Result, Ok, Err, IsErr, IsErrAnd}
use Rattle.number.specs.declared.Rule.{Rule}
use Rattle.rules_shared.specs.Runs.{go}
use Rattle.rules_formats.specs.Format.{Flat}
use Rattle.rules_formats.specs.Walk.{Trouble, bad_subscript, ran_out, bad_field, trouble_number, Outcome, fine, trouble, Paper, Taken, Devices, with_cards, with_paper, cards_of, prints, reads}
use Rattle.rules_object.specs.Halts.{halt_number, Out}
use Rattle.rules_object.specs.Object.{Object, rule_of}
use Rattle.rules_object.specs.Operations.{transfer_at, format_at, list_at, meant}
use Rattle.rules_object.specs.Machine.{State, next, with_store, with_devices, Spot, spots, spot_get, spot_set, halt_in, was_printed, was_read, act, step}
use Rattle.object_opcodes.specs.declared.Halt.{Halt}
use Rattle.run_registers.specs.Devices.{trays_of, paper_of, devices_in, Counted}
use Rattle.run_prints.specs.Lines.{Prints, printed}
use Rattle.run_reads.specs.Takes as reading
use Rattle.run_reads.specs.Takes.{read_by}
use Rattle.run_transfers.specs.declared.Trays.{Trays}
use Rattle.run_transfers.specs.Transfers.{Moved, done, not_done, after, Transfers}

same_number : (w : Trouble) → trouble_number w ≡ halt_number (halt_in w)
unfolding trouble_number halt_number
same_number bad_subscript = refl
same_number ran_out = refl
same_number bad_field = refl

-- the trays that a PRINT and a READ answer
abbrev pub with_written : Trays → Result ℕ Halt → Result Trays Halt
with_written trays (Ok n) = Ok (record { taken = trays.taken; written = n })
with_written trays (Err h) = Err h

abbrev pub with_taken : Trays → Result ℕ Halt → Result Trays Halt
with_taken trays (Ok n) = Ok (record { taken = n; written = trays.written })
with_taken trays (Err h) = Err h

module _ (cards lines : List ℕ) (trays : Trays) where
  -- a state with this store, these cards and these lines
  module _ (so : List ℤ) (t : State) (store : t.store ≡ so) (devices : t.devices ≡ devices_in cards trays.taken lines trays.written) where
    abbrev Moves : Result Trays Halt → List ℤ → List ℕ → Out State → Type 0
    Moves q so' lines' out = Moved q t so' (devices_in cards (after trays q).taken lines' (after trays q).written) out

    pub printed_moves : (b : Outcome Paper) (r : Result ℕ Halt) (lines' : List ℕ) → Prints lines trays.written b lines' r → Moves (with_written trays r) so lines' (was_printed b t)
    unfolding devices_in
    printed_moves (fine p) (Ok n) lines' h =
        let v : devices_in cards trays.taken lines' n ≡ with_paper p t.devices = ap (λ (q : Paper). record { cards = drop trays.taken (cards_of cards); paper = q }) h.paper ∙ ap (with_paper p) (sym devices) in
        subst (Moved (with_written trays (Ok n)) t so (devices_in cards trays.taken lines' n)) (ap₂ (λ (c : List ℤ) (d : Devices). go (next (with_devices d (with_store c t)))) (sym store) v) (done _ refl)
    printed_moves (fine p) (Err x) lines' h = absurd h
    printed_moves (trouble w) (Ok n) lines' h = absurd h
    printed_moves (trouble w) (Err x) lines' h =
        not_done w x refl (h.0 ∙ same_number w) (sym store) (ap (λ l. devices_in cards trays.taken l trays.written) h.1 ∙ sym devices)

    pub read_moves : (b : Outcome (Taken (List ℤ))) (r : Result ℕ Halt) (so' : List ℤ) → reading.Result cards trays.taken b so so' r → Moves (with_taken trays r) so' lines (was_read b t)
    unfolding devices_in
    read_moves (fine q) (Ok n) so' h =
        let v : devices_in cards n lines trays.written ≡ with_cards q.cards t.devices = ap (λ c. record { cards = c; paper = paper_of trays.written lines }) h.cards ∙ ap (with_cards q.cards) (sym devices) in
        subst (Moved (with_taken trays (Ok n)) t so' (devices_in cards n lines trays.written)) (ap₂ (λ (c : List ℤ) (d : Devices). go (next (with_devices d (with_store c t)))) h.store v) (done _ refl)
    read_moves (fine q) (Err x) so' h = absurd h
    read_moves (trouble w) (Ok n) so' h = absurd h
    read_moves (trouble w) (Err x) so' h = not_done w x refl (h.0 ∙ same_number w) (h.1 ∙ sym store) (sym devices)

  -- the counts are right again
  module _ (c : Counted (trays_of cards lines) trays.taken lines trays.written) where
    abbrev Counts : Result Trays Halt → List ℕ → Type 0
    Counts q lines' = Counted (trays_of cards lines) (after trays q).taken lines' (after trays q).written × (trays.written ≤ (after trays q).written)

    pub printed_counts : (b : Outcome Paper) (r : Result ℕ Halt) (lines' : List ℕ) → Prints lines trays.written b lines' r → Counts (with_written trays r) lines'
    printed_counts (fine p) (Ok n) lines' h = (record { cards = c.cards; room = h.room; long = h.long; rest = h.rest }, h.onward)
    printed_counts (fine p) (Err x) lines' h = absurd h
    printed_counts (trouble w) (Ok n) lines' h = absurd h
    printed_counts (trouble w) (Err x) lines' h = (subst (λ l. Counted (trays_of cards lines) trays.taken l trays.written) (sym h.1) c, omega arith)

    pub read_counts : (b : Outcome (Taken (List ℤ))) (r : Result ℕ Halt) (so so' : List ℤ) → reading.Result cards trays.taken b so so' r → Counts (with_taken trays r) lines
    read_counts (fine q) (Ok n) so so' h = (record { cards = h.within; room = c.room; long = refl; rest = refl }, omega arith)
    read_counts (fine q) (Err x) so so' h = absurd h
    read_counts (trouble w) (Ok n) so so' h = absurd h
    read_counts (trouble w) (Err x) so so' h = (c, omega arith)

    -- ---- the statement, told that the book's step is its act

    module _ (o : Object) (i x : ℕ) (so : List ℤ) where
      abbrev F : Flat
      F = format_at o (transfer_at o x).format

      abbrev L : List Spot
      L = spots (list_at o (transfer_at o x))

      pub print_transfers : ((t : State) → t.index ≡ i → act (rule_of o) (meant o 17 x) t ≡ step o t) → (r : Result ℕ Halt) (lines' : List ℕ) → Prints lines trays.written (printed o x so (paper_of trays.written lines)) lines' r
          → Transfers o i so cards lines trays (with_written trays r) so lines'
      unfolding printed devices_in
      print_transfers acts r lines' h =
          let b = printed o x so (paper_of trays.written lines) in
          let n = printed_counts b r lines' h in
          record {
            is = λ t index store devices.
                subst (Moves so t store devices (with_written trays r) so lines')
                (ap₂ (λ (s : List ℤ) (d : Devices). was_printed (prints spot_get F L s d.paper) t) (sym store) (sym devices) ∙ acts t index)
                (printed_moves so t store devices b r lines' h);
            counted = n.0;
            onward = n.1;
          }

      pub read_transfers : (k : Rule) → k.ceiling ≡ (rule_of o).ceiling → ((t : State) → t.index ≡ i → act (rule_of o) (meant o 16 x) t ≡ step o t) → (r : Result ℕ Halt) (so' : List ℤ)
          → reading.Result cards trays.taken (read_by o k x so (drop trays.taken (cards_of cards))) so so' r
          → Transfers o i so cards lines trays (with_taken trays r) so' lines
      unfolding read_by devices_in
      read_transfers k ceiling acts r so' h =
          let b = read_by o k x so (drop trays.taken (cards_of cards)) in
          let n = read_counts b r so so' h in
          record {
            is = λ t index store devices.
                subst (Moves so t store devices (with_taken trays r) so' lines)
                (ap (λ n. was_read (reads n spot_get spot_set F L so (drop trays.taken (cards_of cards))) t) ceiling
                ∙ ap₂ (λ (s : List ℤ) (d : Devices). was_read (reads (rule_of o).ceiling spot_get spot_set F L s d.cards) t) (sym store) (sym devices)
                ∙ acts t index)
                (read_moves so t store devices b r so' h);
            counted = n.0;
            onward = n.1;
          }

-- an error that is passed on
pub passed_on : (r : Result Trays Halt) (x : Halt) → IsErr r → IsErrAnd r (λ y. y ≡ x) → r ≡ Err x
passed_on (Ok u) x e f = absurd cc
passed_on (Err y) x e f = ap Err f
