-- Around the loop over a deck's statements: where it starts, what each turn gives, and how it ends.
-- Assumes nothing.
use mathlib.Core.Path.{◌≡◌, refl, sym, ap, ◌∙◌, subst}
use Prim.Native.Nat.{ℕ, suc, ◌+◌, ◌≤◌, ◌<◌}
use mathlib.Core.Bool.{Bool, true, false, ◌&&◌, cond}
use mathlib.Core.List.{List, [], ◌∷◌}
use native.Mathlib.Omega.{arith}
use lib.Dec.{leb}
use lib.ListN.{length}
use borrow.Author.Tests.{leb-true}
use Rattle.rules_shared.specs.House.{house1401}
use Rattle.rules_shared.specs.Refusals.{refusal}
use Rattle.rules_shared.specs.Lists.{each_none}
use Rattle.rules_text.specs.Cards.{Punched, cards_of, text_of, right_digits, Carded, cards_refused, statements, carded}
use Rattle.rules_deck.specs.Judge.{Taken, nothing_taken}
use Rattle.rules_deck.specs.Compile.{Read, not_read, read_text, read_from}
use Rattle.rules_text.proofs.CardsLaws.{statements_few}
use Rattle.read_texts.proofs.Onward.{from_start}
use Rattle.take_draft.specs.declared.Counts.{Counts}
use Rattle.take_draft.specs.Draft.{Draft, no_draft, draft_of}
use Rattle.take_draft.specs.Kept.{Words, Fit, Room, Kept}
use Rattle.take_draft.proofs.Matching.{matches_deck}
use Rattle.take_parts.specs.Fresh.{Fresh}
use Rattle.take_parts.proofs.HiddenCells.{fresh_deck}
use Rattle.std.specs.Prelude.{Option, Some, None, Result, Ok, Err}
use Rattle.refusals.specs.declared.Reason.{Reason}
use Rattle.refusals.specs.Numbers.{number_of}
use Rattle.take_next.specs.declared.Kept as code
use Rattle.take_next.specs.Steps.{to_come, Ahead, Keeps, Steps, Continues, ended, taken}
use Rattle.take_next.specs.Steps as steps
use Rattle.take_deck.specs.Drafted.{Begins, Drafts, refused, kept}
use Rattle.take_deck.proofs.Going.{Going, taken_by, going_ended, going_refused, going_on}

-- ---- k

digits_right : (k : ℕ) (deck : List ℕ) (ps : List Punched) → carded (house1401 k) deck ≡ statements ps → right_digits (house1401 k) ≡ true
unfolding carded
digits_right k deck ps = go (right_digits (house1401 k)) _
  where
    go : (b : Bool) (c : Carded) → cond b c (cards_refused 1 0) ≡ statements ps → b ≡ true
    go true c e = refl
    go false c e = absurd cc

digits_within : (k : ℕ) → right_digits (house1401 k) ≡ true → (1 ≤ k) × (k ≤ 9)
unfolding right_digits
digits_within k = go (leb 1 k) (leb k 9) refl refl
  where
    go : (a b : Bool) → leb 1 k ≡ a → leb k 9 ≡ b → (a && b) ≡ true → (1 ≤ k) × (k ≤ 9)
    go true true p q e = (leb-true 1 k p, leb-true k 9 q)
    go true false p q e = absurd cc
    go false b p q e = absurd cc

-- ---- nothing yet

abbrev pub no_counts : Counts
no_counts = record { names = 0; cells = 0; constants = 0; elements = 0; exits = 0; dos = 0; code = 0; jumps = 0; statements = 0 }

fit_none : Fit no_counts
fit_none =
    record {
      names = omega arith;
      cells = omega arith;
      constants = omega arith;
      elements = omega arith;
      exits = omega arith;
      dos = omega arith;
      code = omega arith;
      statements = omega arith;
      jumps = omega arith;
    }

kept_none : (lent : Words) → Kept no_draft lent no_counts
kept_none lent =
    record {
      held = record { words = refl; names_are = refl; cells_are = refl; names_fit = omega arith; cells_fit = omega arith; told = each_none; rows = each_none };
      tables = record { constants_are = refl; constants_count = refl; elements_are = refl; elements_count = refl; exits_count = refl };
      dos_are = refl;
      dos_count = refl;
      loops_are = refl;
      code_is = refl;
      code_count = refl;
      rows_are = refl;
      jumps_are = refl;
      jumps_count = refl;
    }

-- ---- a DO's position is not taken yet

going_fresh : {k : ℕ} {deck : List ℕ} {ps : List Punched} {card : ℕ} {lent : Words} {n : Counts}
    (g : Going k deck ps card lent n) → Fresh n.statements (draft_of g.done)
going_fresh g = subst (λ (q : ℕ). Fresh q (draft_of g.done)) (sym g.counted) (fresh_deck g.done)

-- ---- the loop; the tables are as long as at first

pub record Round (k : ℕ) (deck : List ℕ) (items₀ : List ℕ) (lent₀ : Words) (card : ℕ) (items : List ℕ) (lent : Words) (n : Counts) : Type 0 where
  pub going : (ps : List Punched) → carded (house1401 k) deck ≡ statements ps → Going k deck ps card lent n
  pub items_same : length items ≡ length items₀
  pub room : Room lent₀ → Room lent

pub round_start : (k : ℕ) (deck items : List ℕ) (lent : Words) → Round k deck items lent 0 items lent no_counts
unfolding draft_of
round_start k deck items lent =
    record {
      going = λ ps e.
          record {
            done = [];
            rest = ap (read_from (house1401 k) 0 nothing_taken) (from_start deck (record { digits = k; all = ps; is = e }));
            few = omega (arith, ap (length {A = Punched}) (from_start deck (record { digits = k; all = ps; is = e })));
            counted = refl;
            fit = fit_none;
            kept = kept_none lent;
          };
      items_same = refl;
      room = λ h. h;
    }

pub round_ahead : {k : ℕ} {deck items₀ : List ℕ} {lent₀ : Words} {card : ℕ} {items : List ℕ} {lent : Words} {n : Counts}
    → Begins k deck items₀ lent₀ → Round k deck items₀ lent₀ card items lent n → Ahead k deck card items lent n
round_ahead {k} {deck} {card = card} b r =
    let g = r.going b.punched b.are in
    let d = digits_within k (digits_right k deck b.punched b.are) in
    record {
      accepted = record { digits = k; all = b.punched; is = b.are };
      digits_some = d.0;
      digits_few = d.1;
      items_long = omega (arith, b.items_long, r.items_same);
      room = r.room b.room;
      fit = g.fit;
      few = omega (arith, g.few, statements_few (house1401 k) deck b.punched b.are);
      draft = draft_of g.done;
      kept = g.kept;
      fresh = going_fresh g;
    }

-- ---- what a turn gives

pub record Refuses (k : ℕ) (deck : List ℕ) (card : ℕ) (t : Taken) (n : Counts) (e : Reason) : Type 0 where
  pub punched : Punched
  pub more : List Punched
  pub others : to_come deck card ≡ punched ∷ more
  pub says : (rest : Taken → Read) → read_text (house1401 k) n.statements punched.number t rest (text_of punched.raw) ≡ not_read (refusal (number_of e) (suc n.statements) 0)

pub record Goes (k : ℕ) (deck : List ℕ) (card : ℕ) (t : Taken) (D : Draft) (n : Counts) (lent : Words) (next : ℕ) (m : Counts) : Type 0 where
  pub punched : Punched
  pub others : to_come deck card ≡ punched ∷ to_come deck next
  pub further : card < next
  pub within : next ≤ length (cards_of deck)
  pub keeps : Keeps k n.statements t D punched lent m

module _ {k : ℕ} {deck : List ℕ} {card : ℕ} {t : Taken} {D : Draft} {n : Counts} {lent : Words} where
  steps_ended : Steps k deck card t D n lent (Ok None) → (to_come deck card ≡ []) × Kept D lent n
  steps_ended (ended e h) = (e, h)

  steps_refused : {e : Reason} → Steps k deck card t D n lent (Err e) → Refuses k deck card t n e
  steps_refused (steps.refused e p more f h) = record { punched = p; more = more; others = f; says = h }

  steps_goes : {r : code.Kept} → Steps k deck card t D n lent (Ok (Some r)) → Goes k deck card t D n lent r.next r.counts
  steps_goes (taken p r e f w h) = record { punched = p; others = e; further = f; within = w; keeps = h }

module _ {k : ℕ} {deck : List ℕ} {ps : List Punched} {card : ℕ} {lent : Words} {lent' : Words} {n : Counts} {r : Result (Option code.Kept) Reason}
    (g : Going k deck ps card lent n) (c : Continues k deck card n lent lent' r) where
  turn : Steps k deck card (taken_by g.done) (draft_of g.done) n lent' r
  turn = c (draft_of g.done) (taken_by g.done) g.kept (matches_deck g.done) (going_fresh g)

  pub turn_ended : r ≡ Ok None → Drafts (read_from (house1401 k) 0 nothing_taken ps) lent' (Ok n)
  turn_ended e =
      let x = steps_ended (subst (Steps k deck card (taken_by g.done) (draft_of g.done) n lent') e turn) in
      kept g.done n (going_ended g x.0) g.counted g.fit x.1

  pub turn_refused : (e : Reason) → r ≡ Err e → Drafts (read_from (house1401 k) 0 nothing_taken ps) lent' (Err (record { reason = e; place = record { 0 = n.statements + 1 } }))
  turn_refused e q =
      let x = steps_refused (subst (Steps k deck card (taken_by g.done) (draft_of g.done) n lent') q turn) in
      let z : suc n.statements ≡ n.statements + 1 = omega arith in
      refused _ (going_refused g (number_of e) x.punched x.more x.others x.says ∙ ap (λ (i : ℕ). not_read (refusal (number_of e) i 0)) z)

  pub turn_further : (m : code.Kept) → r ≡ Ok (Some m) → (card < m.next) × (m.next ≤ length (cards_of deck))
  turn_further m e = let x = steps_goes (subst (Steps k deck card (taken_by g.done) (draft_of g.done) n lent') e turn) in (x.further, x.within)

  pub turn_on : (m : code.Kept) → r ≡ Ok (Some m) → Going k deck ps m.next lent' m.counts
  turn_on m e = let x = steps_goes (subst (Steps k deck card (taken_by g.done) (draft_of g.done) n lent') e turn) in going_on g x.punched m.next x.others x.keeps
