-- The names of a compiled deck are tidy: their values stand in cells of their own.
-- Assumes nothing.
use Prim.Native.Nat.{ℕ, zero, suc, ◌+◌, ◌*◌, ◌≤◌}
use mathlib.Core.Path.{◌≡◌, refl, sym, ◌∙◌, subst}
use mathlib.Core.List.{List, [], ◌∷◌}
use mathlib.Core.Option.{some}
use native.Mathlib.Omega.{arith}
use Rattle.rules_shared.specs.House.{House}
use Rattle.rules_object.specs.Object.{Object}
use Rattle.rules_object.specs.Check.{span}
use Rattle.rules_object.specs.Bytes.{object_bytes}
use Rattle.rules_text.specs.Trees.{Statement}
use Rattle.rules_deck.specs.Deck.{width}
use Rattle.rules_deck.specs.Translation.{Held, name, array, hidden, array_size, cell_count, held_of, names_from, translate}
use Rattle.rules_deck.specs.Compile.{read, deck_of}
use Rattle.rules_deck.specs.Lawful.{Lawful}
use Rattle.rules_deck.specs.Accepted.{Accepted, here, there}
use Rattle.rules_deck.proofs.MapNames.{Full}
use Rattle.rules_deck.proofs.MapOnce.{once_held}
use Rattle.rules_deck.proofs.BodySeven.{names_inside}
use Rattle.rules_deck.proofs.FittingDeck.{fitting}
use Rattle.rules_deck.proofs.AcceptedDeck.{accepted}
use Rattle.rules_deck.proofs.CompiledWritable.{compiled_reads}
use Rattle.rules_program.specs.Tidy.{values, Tidy, TidyObject}

span_size : (r c : ℕ) → 1 ≤ r → span r c ≡ r * width c
span_size zero c h = absurd (omega arith)
span_size (suc r) zero h = omega arith
span_size (suc r) (suc c) h = refl

full_rest : {h : Held} {held : List Held} → Full (h ∷ held) → Full held
full_rest f = record { rows = λ a i. f.rows a (there i) }

few_from : (house : House) (held : List Held) (at : ℕ) → Full held → values (names_from house at held) ≤ cell_count held
few_from house [] at f = omega arith
few_from house (name v ∷ held) at f = omega (arith, few_from house held (suc at) (full_rest f))
few_from house (array a ∷ held) at f =
    omega (arith, span_size a.dims.rows a.dims.columns (f.rows a here), few_from house held (at + array_size a.dims) (full_rest f))
few_from house (hidden q ∷ held) at f = omega (arith, few_from house held (at + 2) (full_rest f))

tidy_deck : (house : House) (deck : List Statement) → Accepted house deck → Tidy (translate house deck).names
unfolding translate
tidy_deck house deck c =
    record {
      few = omega (arith, few_from house (held_of deck) 0 (once_held house deck c).full, (fitting c).cells);
      inside = λ i n e. omega (arith, (names_inside house deck c i n e).within, (fitting c).cells);
    }

some_same : {a b : Object} → some a ≡ some b → a ≡ b
some_same e = cc

-- the object of a deck that is read
pub compiled_tidy : (house : House) → Lawful house → (bytes : List ℕ) (deck : List Statement) → deck_of house bytes ≡ read deck → TidyObject (object_bytes (translate house deck))
compiled_tidy house lawful bytes deck e =
    let c = accepted house lawful bytes deck e in
    record { names = λ o r. subst (λ (x : Object). Tidy x.names) (some_same (sym (compiled_reads c) ∙ r)) (tidy_deck house deck c) }
