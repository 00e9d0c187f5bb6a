-- Statement after statement: what is read so far, and that one more goes on with it.
-- Assumes nothing.
use mathlib.Core.Path.{◌≡◌, refl, sym, ap, ◌∙◌, subst}
use Prim.Native.Nat.{ℕ, suc, ◌+◌}
use mathlib.Core.List.{List, [], ◌∷◌, ◌++◌}
use native.Mathlib.Omega.{arith}
use lib.ListN.{length, length-append}
use Rattle.rules_shared.specs.House.{house1401}
use Rattle.rules_shared.specs.Refusals.{Refusal, refusal}
use Rattle.rules_text.specs.Trees.{Statement}
use Rattle.rules_text.specs.Cards.{Punched, text_of}
use Rattle.rules_deck.specs.Judge.{Taken, nothing_taken, takes}
use Rattle.rules_deck.specs.Accepted.{taken_from}
use Rattle.rules_deck.specs.Compile.{Read, not_read, read, with_statement, read_text, read_from}
use Rattle.take_draft.specs.declared.Counts.{Counts}
use Rattle.take_draft.specs.Draft.{Draft, drafts, draft_of}
use Rattle.take_draft.specs.Kept.{Words, Fit, Kept}
use Rattle.take_draft.proofs.DraftDeck.{draft_next}
use Rattle.take_next.specs.Steps.{punched_as, to_come, Keeps}

-- ---- the statements before what is still to be read

abbrev pub after : List Statement → Read → Read
after [] r = r
after (s ∷ done) r = with_statement s (after done r)

after_last : (done : List Statement) (s : Statement) (r : Read) → after (done ++ (s ∷ [])) r ≡ after done (with_statement s r)
after_last [] s r = refl
after_last (d ∷ done) s r = ap (with_statement d) (after_last done s r)

after_refused : (done : List Statement) (x : Refusal) → after done (not_read x) ≡ not_read x
after_refused [] x = refl
after_refused (d ∷ done) x = ap (with_statement d) (after_refused done x)

after_end : (done : List Statement) → after done (read []) ≡ read done
after_end [] = refl
after_end (d ∷ done) = ap (with_statement d) (after_end done)

taken_last : (q : ℕ) (done : List Statement) (s : Statement) (t : Taken) → taken_from q (done ++ (s ∷ [])) t ≡ takes (q + length done) s.form (taken_from q done t)
taken_last q [] s t = ap (λ (i : ℕ). takes i s.form t) (omega arith)
taken_last q (d ∷ done) s t =
    taken_last (suc q) done s (takes q d.form t) ∙ ap (λ (i : ℕ). takes i s.form (taken_from (suc q) done (takes q d.form t))) (omega arith)

-- ---- what the loop keeps

pub record Going (k : ℕ) (deck : List ℕ) (ps : List Punched) (card : ℕ) (lent : Words) (n : Counts) : Type 0 where
  pub done : List Statement
  pub rest : read_from (house1401 k) 0 nothing_taken ps ≡ after done (read_from (house1401 k) n.statements (taken_from 0 done nothing_taken) (to_come deck card))
  pub few : n.statements + length (to_come deck card) ≡ length ps
  pub counted : n.statements ≡ length done
  pub fit : Fit n
  pub kept : Kept (draft_of done) lent n

-- what those before have taken
abbrev pub taken_by : List Statement → Taken
taken_by done = taken_from 0 done nothing_taken

module _ {k : ℕ} {deck : List ℕ} {ps : List Punched} {card : ℕ} {lent : Words} {n : Counts}
    (g : Going k deck ps card lent n) where
  pub going_ended : to_come deck card ≡ [] → read_from (house1401 k) 0 nothing_taken ps ≡ read g.done
  going_ended e = g.rest ∙ ap (λ (l : List Punched). after g.done (read_from (house1401 k) n.statements (taken_by g.done) l)) e ∙ after_end g.done

  pub going_refused : (number : ℕ) (p : Punched) (more : List Punched) → to_come deck card ≡ p ∷ more
      → ((rest : Taken → Read) → read_text (house1401 k) n.statements p.number (taken_by g.done) rest (text_of p.raw) ≡ not_read (refusal number (suc n.statements) 0))
      → read_from (house1401 k) 0 nothing_taken ps ≡ not_read (refusal number (suc n.statements) 0)
  going_refused number p more e h =
      g.rest
      ∙ ap (λ (l : List Punched). after g.done (read_from (house1401 k) n.statements (taken_by g.done) l)) e
      ∙ ap (after g.done) (h (λ u. read_from (house1401 k) (suc n.statements) u more))
      ∙ after_refused g.done (refusal number (suc n.statements) 0)

  pub going_on : {lent' : Words} {m : Counts} (p : Punched) (next : ℕ) → to_come deck card ≡ p ∷ to_come deck next
      → Keeps k n.statements (taken_by g.done) (draft_of g.done) p lent' m
      → Going k deck ps next lent' m
  going_on {lent'} {m} p next e h =
      let s = punched_as p h.form in
      let q = n.statements in
      let l : q ≡ length g.done = g.counted in
      let t : takes q h.form (taken_by g.done) ≡ taken_by (g.done ++ (s ∷ [])) =
      ap (λ (i : ℕ). takes i h.form (taken_by g.done)) l ∙ sym (taken_last 0 g.done s nothing_taken ∙ ap (λ (i : ℕ). takes i h.form (taken_by g.done)) (omega arith)) in
      let D : drafts q s (draft_of g.done) ≡ draft_of (g.done ++ (s ∷ [])) =
      ap (λ (i : ℕ). drafts i s (draft_of g.done)) l ∙ sym (draft_next g.done s) in
      let r : read_from (house1401 k) 0 nothing_taken ps ≡ after (g.done ++ (s ∷ [])) (read_from (house1401 k) (suc q) (taken_by (g.done ++ (s ∷ []))) (to_come deck next)) =
      g.rest
      ∙ ap (λ (x : List Punched). after g.done (read_from (house1401 k) q (taken_by g.done) x)) e
      ∙ ap (after g.done) (h.reads (λ u. read_from (house1401 k) (suc q) u (to_come deck next)))
      ∙ sym (after_last g.done s (read_from (house1401 k) (suc q) (takes q h.form (taken_by g.done)) (to_come deck next)))
      ∙ ap (λ (u : Taken). after (g.done ++ (s ∷ [])) (read_from (house1401 k) (suc q) u (to_come deck next))) t in
      let c = h.counted in
      let few = ap (length {A = Punched}) e in
      record {
        done = g.done ++ (s ∷ []);
        rest = r ∙ ap (λ (i : ℕ). after (g.done ++ (s ∷ [])) (read_from (house1401 k) i (taken_by (g.done ++ (s ∷ []))) (to_come deck next))) (sym c);
        few = omega (arith, g.few);
        counted = c ∙ simp length-append (omega arith);
        fit = h.fit;
        kept = subst (λ (E : Draft). Kept E lent' m) D h.kept;
      }
