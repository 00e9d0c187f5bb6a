-- The row and the jumps.
-- Assumes nothing.
use mathlib.Core.Path.{◌≡◌, sym, ap, ◌∙◌}
use Prim.Native.Nat.{ℕ, ◌+◌, ◌*◌, ◌-◌}
use native.Mathlib.Omega.{arith}
use mathlib.Core.List.{List, [], ◌∷◌, ◌++◌}
use lib.ListN.{length, take}
use Rattle.read_items.specs.Parsed.{Put}
use Rattle.take_kinds.specs.Kinds.{word_of}
use Rattle.take_draft.specs.declared.Counts.{Counts}
use Rattle.take_draft.specs.Counts.{with_marks}
use Rattle.take_plans.specs.declared.Plan.{Plan}
use Rattle.take_marks.specs.Marks.{numbers_of, set_of}
use Rattle.take_parts.specs.Steps.{Marked}

pub marking : {p : Plan} {number words : ℕ} {items rows jumps rows' jumps' : List ℕ} {m r : Counts} {top last kind set : ℕ} → Put jumps jumps' m.jumps (numbers_of p items) top
    → kind ≡ word_of p.kind → set ≡ set_of p → Put rows rows' (5 * m.statements) (number ∷ kind ∷ set ∷ words ∷ (top - m.jumps) ∷ []) last → r ≡ with_marks m top
    → Marked p number words items rows jumps rows' jumps' m r
marking {p} {number} {words} {items} {rows} {jumps} {rows'} {jumps'} {m} {r} {top} {last} {kind} {set} j kd s k e =
    let count : top - m.jumps ≡ length (numbers_of p items) = omega (arith, j.top) in
    let at : last ≡ 5 * (m.statements + 1) = omega (arith, k.top) in
    let row : number ∷ kind ∷ set ∷ words ∷ (top - m.jumps) ∷ [] ≡ number ∷ word_of p.kind ∷ set_of p ∷ words ∷ length (numbers_of p items) ∷ [] = cc in
    record {
      is = e ∙ ap (with_marks m) j.top;
      jumps_are = ap (λ (c : Counts). take c.jumps jumps') e ∙ j.table;
      rows_are =
          ap (λ (c : Counts). take (5 * c.statements) rows') e ∙ ap (λ (n : ℕ). take n rows') (sym at) ∙ k.table
          ∙ ap (λ (l : List ℕ). take (5 * m.statements) rows ++ l) row;
    }
