-- What is printed of what compiling answered, by its number of refusal; what it writes is an object that can be printed; and what is printed of the whole input.
-- Assumes nothing.
use Prim.Native.Nat.{ℕ, zero, suc, ◌-◌, ◌≤◌, ◌<◌}
use mathlib.Core.Path.{◌≡◌, refl, sym, ap, ◌∙◌, subst}
use mathlib.Core.Bool.{Bool, true, false}
use mathlib.Core.List.{List}
use mathlib.Core.Option.{none, some}
use Rattle.std.specs.Prelude.{Ok, Err}
use Rattle.refusals.specs.declared.Reason.{Reason}
use Rattle.refusals.specs.declared.Reason.TheVariants as reason
use Rattle.refusals.specs.declared.Refusal.{Refusal}
use Rattle.refusals.specs.Numbers.{number_of}
use native.Mathlib.Omega.{arith}
use lib.Dec.{leb}
use lib.ListN.{length, take, drop, length-append, length-drop, replicate}
use lib.Seq.{take-append_seam, take_all}
use Rattle.rules_shared.specs.House.{house1401}
use Rattle.rules_object.specs.Bytes.{object_bytes}
use Rattle.rules_shared.specs.Refusals.{refusal, no_room}
use Rattle.rules_shared.specs.Output.{Written, not_written, written_if, write}
use Rattle.rules_deck.specs.Translation.{translate}
use Rattle.rules_text.specs.Cards.{card_length}
use Rattle.rules_deck.specs.Seen.{object_in}
use Rattle.rules_deck.specs.Compile.{Read, not_read, read, deck_of, write_read, compiling}
use Rattle.rules_deck.proofs.Houses.{lawful1401}
use Rattle.rules_deck.proofs.RefusedDeck.{ReadNumbered, refused_numbered}
use Rattle.rules_program.specs.Text.{refused_line}
use Rattle.rules_program.specs.Program.{control_digits, printed_object, most_bytes, compiled_lines, deck_lines, printed}
use Rattle.rules_program.specs.Tidy.{TidyObject}
use Rattle.rules_program.proofs.TidyDeck.{compiled_tidy}
use Rattle.compiler.specs.Compiled.{answer}

-- an object stands there
pub record Object (n : ℕ) (bytes : List ℕ) : Type 0 where
  pub within : n ≤ length bytes
  pub tidy : TidyObject (take n bytes)

-- ---- what is printed of an answer

no_zero : (q : Reason) → number_of q ≡ 0 → ⊥
no_zero reason.Digits e = omega arith
no_zero reason.DeckLength e = omega arith
no_zero reason.Character e = omega arith
no_zero reason.NumberColumns e = omega arith
no_zero reason.Continuation e = omega arith
no_zero reason.Empty e = omega arith
no_zero reason.Statements e = omega arith
no_zero reason.Form e = omega arith
no_zero reason.Name e = omega arith
no_zero reason.Constant e = omega arith
no_zero reason.Number e = omega arith
no_zero reason.Parentheses e = omega arith
no_zero reason.Dimension e = omega arith
no_zero reason.Element e = omega arith
no_zero reason.Table e = omega arith
no_zero reason.End e = omega arith
no_zero reason.DefinedTwice e = omega arith
no_zero reason.Undefined e = omega arith
no_zero reason.Range e = omega arith
no_zero reason.Jump e = omega arith
no_zero reason.Variable e = omega arith
no_zero reason.Room e = omega arith
no_zero reason.Contents e = omega arith
no_zero reason.Limits e = omega arith
no_zero reason.Entry e = omega arith
no_zero reason.Instruction e = omega arith
no_zero reason.Heights e = omega arith
no_zero reason.StoreLength e = omega arith
no_zero reason.StoreNumber e = omega arith
no_zero reason.State e = omega arith

pub compiled_refused : (r : Refusal) (object : List ℕ) → compiled_lines (answer (Err r) object) ≡ refused_line (number_of r.reason) r.place
compiled_refused r object = by (number_of r.reason) (no_zero r.reason)
  where
    by : (m : ℕ) → (m ≡ 0 → ⊥) → compiled_lines (not_written (refusal m r.place r.kind) object) ≡ refused_line m r.place
    by zero h = absurd (h refl)
    by (suc m) h = refl

pub compiled_printed : (n : ℕ) (object : List ℕ) → compiled_lines (answer (Ok n) object) ≡ printed_object (take n object)
unfolding object_in
compiled_printed n object = refl

module _ (k : ℕ) (deck output : List ℕ) where
  object_from : (r : Read) → deck_of (house1401 k) deck ≡ r → (write_read (house1401 k) output r).refusal.number ≡ 0 → Object (write_read (house1401 k) output r).length (write_read (house1401 k) output r).output
  unfolding write
  object_from (not_read r) e z = absurd (let p : 0 < r.number = (subst ReadNumbered e (refused_numbered (house1401 k) deck)).0 in omega (arith, p, z))
  object_from (read statements) e z = wrote (leb (length (object_bytes (translate (house1401 k) statements))) (length output)) z
    where
      wrote : (b : Bool) → (written_if no_room b (object_bytes (translate (house1401 k) statements)) output).refusal.number ≡ 0
          → Object (written_if no_room b (object_bytes (translate (house1401 k) statements)) output).length (written_if no_room b (object_bytes (translate (house1401 k) statements)) output).output
      wrote true q =
          let object : List ℕ = object_bytes (translate (house1401 k) statements) in
          record {
            within = omega (arith, length-append object (drop (length object) output));
            tidy = subst TidyObject (sym (take-append_seam object (drop (length object) output))) (compiled_tidy (house1401 k) (lawful1401 k) deck statements e);
          }
      wrote false q = absurd (omega (arith, q))

  -- where compiling is not refused
  pub object_written : (w : Written) → w ≡ compiling (house1401 k) deck output → w.refusal.number ≡ 0 → Object w.length w.output
  unfolding compiling
  object_written w e z =
      subst (λ (x : Written). Object x.length x.output) (sym e)
      (object_from (deck_of (house1401 k) deck) refl (ap (λ (x : Written). x.refusal.number) (sym e) ∙ z))

-- ---- the whole

pub printed_refused : (input : List ℕ) → none ≡ control_digits input → refused_line 1 0 ≡ printed input
unfolding printed
printed_refused input e = ap (deck_lines (drop card_length input)) e

pub printed_deck : (input : List ℕ) (k : ℕ) → some k ≡ control_digits input
    → compiled_lines (compiling (house1401 k) (take (length input - 80) (drop 80 input)) (replicate most_bytes 0)) ≡ printed input
unfolding printed
printed_deck input k e =
    ap (λ (deck : List ℕ). compiled_lines (compiling (house1401 k) deck (replicate most_bytes 0))) (take_all (length input - 80) (drop 80 input) (omega (arith, length-drop 80 input)))
    ∙ ap (deck_lines (drop card_length input)) e
