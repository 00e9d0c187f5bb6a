-- A READ or PRINT: what it keeps of the store, and its outcome by the number that the code has for it.
-- Assumes nothing.
use mathlib.Core.Path.{◌≡◌, refl, ap, ◌∙◌, subst}
use mathlib.Core.Logic.{◌⊎◌, inl, inr}
use mathlib.Core.List.{List}
use mathlib.Core.Option.{Option, none, some}
use Prim.Native.Nat.{ℕ, ◌<◌}
use lib.ListN.{length, length-set}
use lib.IntN.{ℤ, nat_abs}
use Rattle.number.specs.Number.{Rule}
use Rattle.rules_shared.specs.Runs.{go, halt}
use Rattle.rules_formats.specs.Walk.{Trouble, Outcome, fine, trouble, Paper, Taken, Devices, prints, reads}
use Rattle.rules_shared.proofs.EachLaws.{each_of}
use Rattle.rules_formats.proofs.Kept.{Holds, KeepsP, reads_keep}
use Rattle.rules_object.specs.Halts.{halt_number, Out}
use Rattle.rules_object.specs.Operations.{Instr, operation_number}
use Rattle.rules_object.specs.Machine.{State, cell, next, with_store, with_devices, Spot, spots, spot_cell, store_with, spot_get, spot_set, halt_in, was_printed, was_read, act}
use Rattle.std.specs.Prelude.{Result, Ok, Err}
use Rattle.object_opcodes.specs.declared.Halt as opcodes
use Rattle.object_opcodes.specs.Halts.{number_of}
use Rattle.run_transfers.specs.declared.Trays.{Trays}
use Rattle.run_transfers.specs.Transfers.{Moved, done, not_done}
use Rattle.run_machine.specs.Running.{IsTransfer, a_read, a_print}
use Rattle.run_machine.proofs.Places.{small_set}

pub transfer_number : {n : Instr} → IsTransfer n → (operation_number n ≡ 16) ⊎ (operation_number n ≡ 17)
transfer_number (a_read n f list) = inl refl
transfer_number (a_print n f list) = inr refl

-- ---- the store

-- as long as before, its cells within the digits
module _ (k : Rule) (cells long : ℕ) where
  abbrev pub KeptCells : List ℤ → Type 0
  KeptCells so = (length so ≡ long) × ((a : ℕ) → a < cells → nat_abs (cell so a) < k.ceiling)

  set_keeps : (so : List ℤ) (x : Spot) (v : ℤ) → KeptCells so → nat_abs v < k.ceiling → Holds KeptCells (spot_set so x v)
  unfolding spot_set
  set_keeps so x v h l = by (spot_cell so x)
    where
      by : (c : Option ℕ) → Holds KeptCells (store_with so v c)
      by none = tt
      by (some a) = (length-set so a v ∙ h.0, λ b m. small_set k.ceiling so a v l b (h.1 b m))

  abbrev store_in : Out State → List ℤ
  store_in (go u) = u.store
  store_in (halt x u) = u.store

  pub transfer_keeps : (n : Instr) → IsTransfer n → (t : State) → KeptCells t.store → (u : State) → act k n t ≡ go u → KeptCells u.store
  transfer_keeps _ (a_read n f list) t h u e = by (reads k.ceiling spot_get spot_set f (spots list) t.store t.devices.cards) (reads_keep k.ceiling spot_get spot_set KeptCells (λ x. Unit {0}) (λ so x v h i l. set_keeps so x v h l) f (spots list) (each_of (λ x. tt) (spots list)) t.store h t.devices.cards) e
    where
      by : (r : Outcome (Taken (List ℤ))) → KeepsP KeptCells r → was_read r t ≡ go u → KeptCells u.store
      by (fine r) g e = subst KeptCells (ap store_in e) g
      by (trouble w) g e = subst KeptCells (ap store_in e) h
  transfer_keeps _ (a_print n f list) t h u e = by (prints spot_get f (spots list) t.store t.devices.paper) e
    where
      by : (p : Outcome Paper) → was_printed p t ≡ go u → KeptCells u.store
      by (fine p) e = subst KeptCells (ap store_in e) h
      by (trouble w) e = subst KeptCells (ap store_in e) h

-- ---- the outcome

pub moved_on : {r : Result Trays opcodes.Halt} {t : State} {so : List ℤ} {v : Devices} {b : Out State} → Moved r t so v b → (now : Trays) → r ≡ Ok now → b ≡ go (next (with_devices v (with_store so t)))
moved_on (done was e) now z = refl
moved_on (not_done w x e q f g) now z = absurd cc

-- halted, and all is as it was
pub record Stopped (x : opcodes.Halt) (t : State) (so : List ℤ) (v : Devices) (b : Out State) : Type 0 where
  pub trouble : Trouble
  pub is : b ≡ halt (halt_in trouble) t
  pub number : number_of x ≡ halt_number (halt_in trouble)
  pub store : so ≡ t.store
  pub devices : v ≡ t.devices

pub moved_not : {r : Result Trays opcodes.Halt} {t : State} {so : List ℤ} {v : Devices} {b : Out State} → Moved r t so v b → (x : opcodes.Halt) → r ≡ Err x → Stopped x t so v b
moved_not (done now e) x z = absurd cc
moved_not (not_done w y e q f g) x z = let same : x ≡ y = cc in record { trouble = w; is = refl; number = ap number_of same ∙ q; store = f; devices = g }
