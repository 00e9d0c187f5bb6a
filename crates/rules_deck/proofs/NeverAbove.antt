-- A run of a compiled deck with p levels of parentheses never stands above 2p+3, and so not above what its house has. 01 "Running".
-- Assumes nothing.
use mathlib.Core.Path.{◌≡◌, refl, sym, ap, ◌∙◌, subst}
use Prim.Native.Nat.{ℕ, ◌+◌, ◌*◌, ◌≤◌}
use native.Mathlib.Omega.{arith}
use mathlib.Core.List.{List}
use mathlib.Core.Option.{some}
use lib.ListN.{length}
use lib.IntN.{ℤ}
use Rattle.rules_shared.specs.Limits.{limits}
use Rattle.rules_shared.specs.House.{House}
use Rattle.rules_shared.specs.Runs.{go, halt, run, steps}
use Rattle.rules_formats.specs.Walk.{Trays, devices_of}
use Rattle.rules_object.specs.Halts.{Out}
use Rattle.rules_object.specs.Object.{Object}
use Rattle.rules_object.specs.Operations.{flow_of}
use Rattle.rules_object.specs.Machine.{State, step}
use Rattle.rules_object.specs.Bytes.{object_bytes}
use Rattle.rules_object.specs.Flow.{Reached}
use Rattle.rules_object.specs.Calls.{Lent, taken, given, ran, running}
use Rattle.rules_object.specs.Safe.{Stands}
use Rattle.rules_object.proofs.HeightsExact.{height_reached}
use Rattle.rules_object.specs.Passed.{Passed}
use Rattle.rules_object.proofs.Safe.{run_stands, run_halts}
use Rattle.rules_object.proofs.Lents.{taken_stands}
use Rattle.rules_object.proofs.Accepts.{Accepts, Answer, refuses, runs, answer}
use Rattle.rules_text.specs.Trees.{Statement}
use Rattle.rules_deck.specs.Translation.{translate}
use Rattle.rules_deck.specs.Compile.{read, deck_of}
use Rattle.rules_deck.specs.Lawful.{Lawful}
use Rattle.rules_deck.specs.Accepted.{Accepted}
use Rattle.rules_deck.specs.Seen.{levels_in, deck_levels}
use Rattle.rules_deck.proofs.AcceptedDeck.{accepted}
use Rattle.rules_deck.proofs.CompiledWritable.{compiled_reads, accepted_height}

-- a state that stands is at a height that a path comes with
stands_reached : {bytes : List ℕ} {o : Object} {table : List ℕ} → Passed bytes o table → (t : State) → Stands o table t → Reached (flow_of o) t.index (length t.stack)
unfolding flow_of
stands_reached {o = o} {table = table} p t s = height_reached (flow_of o) table p.least t.index (length t.stack) s.inside s.height s.low

module _ {house : House} {deck : List Statement} (good : Accepted house deck) where
  stands_low : {bytes : List ℕ} {o : Object} {table : List ℕ} → o ≡ translate house deck → Passed bytes o table → (t : State) → Stands o table t
      → length t.stack ≤ 2 * levels_in deck + 3
  stands_low {o = o} e p t s = accepted_height good t.index (length t.stack) (subst (λ x. Reached (flow_of x) t.index (length t.stack)) e (stands_reached p t s))

  accepted_above : (store : List ℤ) (l : Lent) → length l.places ≡ limits.stack → (trays : Trays) (a : ℕ) → (running (object_bytes (translate house deck)) store l trays a).refusal ≡ Rattle.rules_shared.specs.Refusals.accepted
      → (running (object_bytes (translate house deck)) store l trays a).lent.height ≤ 2 * levels_in deck + 3
  unfolding given
  accepted_above store l forty trays a right = by (answer (object_bytes (translate house deck)) store l)
    where
      same : {o p : Object} → some o ≡ some p → o ≡ p
      same e = cc

      left : (x : Accepts (object_bytes (translate house deck)) store l) (n : ℕ) (r : Out State) → run (step x.object) a (taken l store (devices_of trays)) ≡ r
          → (ran x.object trays n r).lent.height ≤ 2 * levels_in deck + 3
      left x n r e = go_on_lem r e
        where
          is : x.object ≡ translate house deck
          is = same (sym x.passes.reads ∙ compiled_reads good)

          begins : Stands x.object x.table (taken l store (devices_of trays))
          begins = taken_stands x.object x.table l store (devices_of trays) forty x.right50 x.right51 x.right52

          go_on_lem : (r : Out State) → run (step x.object) a (taken l store (devices_of trays)) ≡ r → (ran x.object trays n r).lent.height ≤ 2 * levels_in deck + 3
          go_on_lem (go t) e = stands_low is x.passes t (run_stands x.passes a (taken l store (devices_of trays)) t begins e).0
          go_on_lem (halt h t) e = stands_low is x.passes t (run_halts x.passes a (taken l store (devices_of trays)) t h begins e).0.0

      by : Answer (object_bytes (translate house deck)) store l → (running (object_bytes (translate house deck)) store l trays a).lent.height ≤ 2 * levels_in deck + 3
      by (refuses r p q) = let z : r.number ≡ 0 = ap (λ x. x.number) (sym (ap (λ x. x.refusal) (q trays a)) ∙ right) in absurd (omega arith)
      by (runs x q) = rw (q trays a) (left x (steps (step x.object) a (taken l store (devices_of trays))) (run (step x.object) a (taken l store (devices_of trays))) refl)

pub never_above : (house : House) → Lawful house → (bytes : List ℕ) (deck : List Statement) → deck_of house bytes ≡ read deck → (store : List ℤ) (l : Lent) → length l.places ≡ limits.stack → (trays : Trays) (a : ℕ)
    → (running (object_bytes (translate house deck)) store l trays a).refusal ≡ Rattle.rules_shared.specs.Refusals.accepted
    → (running (object_bytes (translate house deck)) store l trays a).lent.height ≤ house.height (deck_levels house bytes)
unfolding deck_levels
never_above house lawful bytes deck e store l forty trays a right =
    let low = accepted_above (accepted house lawful bytes deck e) store l forty trays a right in
    let most = lawful.height (levels_in deck) in
    rw e (omega arith)
