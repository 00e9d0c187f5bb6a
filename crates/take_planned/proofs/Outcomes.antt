-- Each way in which a planned statement is refused or taken.
-- Assumes nothing.
use mathlib.Core.Path.{◌≡◌, refl, sym, ap, ◌∙◌, subst}
use Prim.Native.Nat.{ℕ, ◌+◌, ◌≤◌, ◌<◌}
use native.Mathlib.Omega.{arith}
use mathlib.Core.Bool.{Bool, true, false}
use mathlib.Core.List.{List, [], ◌∷◌, map}
use lib.ListN.{length, length-take, length-map}
use Rattle.rules_shared.specs.House.{house1401}
use Rattle.read_tokens.specs.Words.{capped}
use Rattle.rules_text.specs.Trees.{Form}
use Rattle.rules_deck.specs.Translation.{Held, hidden, appear, form_plain, brings}
use Rattle.rules_deck.specs.Judge.{Taken, right15, right16}
use Rattle.take_draft.specs.declared.Counts.{Counts}
use Rattle.take_draft.specs.Parts.{items_words, form_first}
use Rattle.take_draft.specs.Names.{Lists, Known}
use Rattle.take_draft.specs.Draft.{Draft}
use Rattle.take_draft.specs.Kept.{Words, Fit, Kept, Matches}
use Rattle.take_draft.proofs.Matching.{jump_count}
use Rattle.take_name_table.proofs.Growth.{cells_append}
use Rattle.std.specs.Prelude.{Option, Some, None}
use Rattle.std.specs.Prelude.{Err}
use Rattle.refusals.specs.declared.Reason.TheVariants.{Dimension, Element, Table}
use Rattle.take_kinds.specs.declared.Kind.TheVariants.{Computed, Do}
use Rattle.take_plans.specs.declared.Plan.{Plan}
use Rattle.take_plans.specs.Plans.{form_plan, listed_words, Plans}
use Rattle.take_plans.proofs.ByKind.{at_do, at_computed}
use Rattle.take_marks.specs.Marks.{Jumping}
use Rattle.take_plan_names.specs.Naming.{RightArrays, RightOperands}
use Rattle.take_code.proofs.Ends.{of_kind_lem}
use Rattle.take_planned.specs.Judged.{Judged}
use Rattle.take_parts.specs.Fresh.{Fresh}
use Rattle.take_parts.specs.Steps.{Passed, Right, Onward, Filled, Fills, Entering, Counted, Entered, Enters}
use Rattle.take_planned.specs.Planned.{Planning, ComesPlanned}
use Rattle.take_planned.proofs.Judging.{told_of, right_of, judged_15, judged_16, judged_18}
use Rattle.rules_deck.proofs.Houses.{lawful1401}
use Rattle.take_planned.proofs.Counting.{After, after, book_numbers, low_numbers}
use Rattle.take_planned.proofs.Keeping.{full_18, dos_18, exits_grow}

-- a form of this plan, and the draft before it
pub record Given (p : Plan) (first items : List ℕ) (lent : Words) (n : Counts) (k : ℕ) (f : Form) (D : Draft) : Type 0 where
  pub plans : Plans f items p
  pub first_are : first ≡ items_words (form_first f)
  pub passed : Passed k f
  pub kept : Kept D lent n
  pub fresh : Fresh n.statements D

module _ {p : Plan} {first items : List ℕ} {lent : Words} {n : Counts} where
  pub given_of : (h : Planning p first items lent n)
      → Given p first items lent n h.digits h.readied.form h.draft
  given_of h = record { plans = h.readied.plans; first_are = h.readied.first_are; passed = h.passed; kept = h.kept; fresh = h.fresh }

  module _ {k : ℕ} {f : Form} {D : Draft} (g : Given p first items lent n k f D) where
    pub is_15 : {a : Bool} → RightArrays p items lent.names n.names a → a ≡ right15 (house1401 k) D.held f
    is_15 r = r k f D.held n.cells g.plans g.kept.held (told_of g.passed)

    pub is_16 : {a : Bool} → RightOperands p first items lent.names n.names a → a ≡ right16 D.held f
    is_16 r = r f D.held n.cells g.plans g.first_are g.kept.held (told_of g.passed)

    module _ {t : Taken} (M : Matches t D) where
      pub as_15 : {b : Bool} → right15 (house1401 k) D.held f ≡ b → right15 (house1401 k) t.held f ≡ b
      as_15 e = ap (λ (h : List Held). right15 (house1401 k) h f) M.held ∙ e

      pub as_16 : {b : Bool} → right16 D.held f ≡ b → right16 t.held f ≡ b
      as_16 e = ap (λ (h : List Held). right16 h f) M.held ∙ e

    module _ {a b : Bool} (ra : RightArrays p items lent.names n.names a) (ea : a ≡ true) (rb : RightOperands p first items lent.names n.names b) (eb : b ≡ true) where
      right15_is : right15 (house1401 k) D.held f ≡ true
      right15_is = sym (is_15 ra) ∙ ea

      right16_is : right16 D.held f ≡ true
      right16_is = sym (is_16 rb) ∙ eb

      pub rightly : Right k n.statements f D.held
      rightly = right_of n.statements D.held g.passed right15_is right16_is

      pub filled_of : {names' constants' elements' code' : List ℕ} {r : Option Counts} → Fills p first items lent.names lent.constants lent.elements lent.code names' constants' elements' code' n r
          → Filled n.statements f D.held D.tables lent.code names' constants' elements' code' n r
      filled_of s = s k n.statements f D.held D.tables g.plans g.first_are g.kept.held g.kept.tables rightly

      pub entered_of : {names' constants' elements' code' dos' loops' : List ℕ} {r : Option Counts} {s : Option Counts} {m : Counts}
          → Filled n.statements f D.held D.tables lent.code names' constants' elements' code' n r → r ≡ Some m → m.statements ≡ n.statements
          → Enters p names' lent.dos lent.loops dos' loops' m s → Entered n.statements f D.held lent.dos lent.loops dos' loops' m s
      entered_of {names'} {dos' = dos'} {loops'} {s = s} {m} w e q x =
          subst (λ (i : ℕ). Entered i f D.held lent.dos lent.loops dos' loops' m s) q
          (x f D.held g.plans.plan
          (subst (λ (i : ℕ). Lists (brings i f D.held) names' m.names m.cells) (sym q) (w.lists m e))
          (subst (λ (i : ℕ). Known (brings i f D.held) (form_first f)) (sym q) rightly.known_first)
          (g.fresh m.statements (omega arith)))

-- ---- what the code needs on its way

abbrev TwoCells : ℕ → List Held → List ℕ → ℕ → ℕ → Form → Type 0
TwoCells q held names c cells f = Lists (brings q f held) names c cells → 2 ≤ cells

two_cells : (q : ℕ) (held : List Held) (names : List ℕ) (c cells : ℕ) (f : Form) → (form_plan f).kind ≡ Do → TwoCells q held names c cells f
two_cells q held names c cells =
    at_do (TwoCells q held names c cells)
    (λ n v i j o l. omega (arith, l.cells_are, cells_append (appear held (form_plain (Form.loop n v i j o))) (hidden q ∷ [])))

pub entering : {p : Plan} {items code : List ℕ} {names' constants' elements' code' : List ℕ} {n m : Counts} {r : Option Counts} {f : Form} (D : Draft) → Plans f items p
    → Filled n.statements f D.held D.tables code names' constants' elements' code' n r → Onward p n r → r ≡ Some m → Fit n
    → n.statements < 400 → Entering p m
entering {p} {names' = names'} {n = n} {m} {r} {f} D pl w o e h few =
    record {
      fit = o.fit m e;
      room = o.room m e;
      cells = λ z. two_cells n.statements D.held names' m.names m.cells f (of_kind_lem p f pl.plan Do z) (w.lists m e);
      jumps = omega (arith, o.jumps m e, h.jumps, h.exits);
    }

taken_of : Draft → Taken
taken_of D =
    record {
      held = D.held;
      constants = D.tables.constants;
      elements = length D.tables.elements;
      exits = length D.tables.exits;
      dos = length D.dos;
      code = length D.code + length D.dos;
    }

matched : (D : Draft) → Matches (taken_of D) D
unfolding taken_of
matched D = record { held = refl; constants = refl; elements = refl; exits = refl; dos = refl; code = refl }

abbrev ListedRoom : Plan → List ℕ → Form → Type 0
ListedRoom p items f = Plans f items p → p.listed ≤ length items

listed_room : (p : Plan) (items : List ℕ) (f : Form) → (form_plan f).kind ≡ Computed → ListedRoom p items f
unfolding form_plan listed_words
listed_room p items =
    at_computed (ListedRoom p items)
    (λ ns v h.
    let n : p.listed ≡ length ns = ap (λ (x : Plan). x.listed) h.plan in
    omega (arith, length-take (length (map capped ns)) items, ap length h.listed, length-map ns capped))

module _ {p : Plan} {first items : List ℕ} {lent : Words} {n : Counts} {k : ℕ} {f : Form} {D : Draft}
    (g : Given p first items lent n k f D)
    {names' constants' elements' code' : List ℕ} {r : Option Counts} {m : Counts} (w : Filled n.statements f D.held D.tables lent.code names' constants' elements' code' n r)
    (e : r ≡ Some m) (o : Onward p n r) where
  pub code_grows : n.code ≤ m.code
  code_grows = omega (arith, w.code_count m e)

  module _ {s : Option Counts} {l : Counts} (c : Counted p m s) (x : s ≡ Some l) where
    later : After f m l
    later = after f g.plans.plan c x

    pub jumping : Fit n → n.statements < 400 → length lent.jumps ≡ 1424 → Jumping p items lent.jumps l.jumps
    jumping h few long =
        record {
          low = low_numbers (lawful1401 k) f g.plans g.passed.right_13;
          listed = λ z. listed_room p items f (of_kind_lem p f g.plans.plan Computed z) g.plans;
          room =
              omega (
                arith,
                ap length (book_numbers (lawful1401 k) f g.plans g.passed.right_13),
                jump_count f,
                exits_grow g.kept f 0 (matched D),
                (w.tables m e).exits_count,
                (o.fit m e).exits,
                h.jumps,
                later.jumps,
                o.jumps m e,
              );
        }

    pub statements_same : l.statements ≡ n.statements
    statements_same = later.statements ∙ o.statements m e

-- ---- the outcomes

module _ {p : Plan} (number : ℕ) {first items : List ℕ} {lent : Words} {n : Counts}
    (lent'' : Words) {a : Bool} (ra : RightArrays p items lent.names n.names a) where
  pub refused_15 : a ≡ false → (D : Draft) → Kept D lent n
      → ComesPlanned p number first items n.statements D lent'' (Err Dimension)
  unfolding Judged
  refused_15 e D kept k f t pl fa pa M fr =
      let g : Given p first items lent n k f D = record { plans = pl; first_are = fa; passed = pa; kept = kept; fresh = fr } in
      judged_15 n.statements t pa (as_15 g M (sym (is_15 g ra) ∙ e))

  module _ (ea : a ≡ true) {b : Bool} (rb : RightOperands p first items lent.names n.names b) where
    pub refused_16 : b ≡ false → (D : Draft) → Kept D lent n
        → ComesPlanned p number first items n.statements D lent'' (Err Element)
    unfolding Judged
    refused_16 e D kept k f t pl fa pa M fr =
        let g : Given p first items lent n k f D = record { plans = pl; first_are = fa; passed = pa; kept = kept; fresh = fr } in
        judged_16 n.statements t pa (as_15 g M (sym (is_15 g ra) ∙ ea)) (as_16 g M (sym (is_16 g rb) ∙ e))

    module _ (eb : b ≡ true) {names' constants' elements' code' : List ℕ} {r : Option Counts} (fills : Fills p first items lent.names lent.constants lent.elements lent.code names' constants' elements' code' n r) where
      pub no_room_lem : r ≡ None → (D : Draft) → Kept D lent n
          → ComesPlanned p number first items n.statements D lent'' (Err Table)
      unfolding Judged
      no_room_lem e D kept k f t pl fa pa M fr =
          let g : Given p first items lent n k f D = record { plans = pl; first_are = fa; passed = pa; kept = kept; fresh = fr } in
          judged_18 n.statements t pa (as_15 g M (sym (is_15 g ra) ∙ ea)) (as_16 g M (sym (is_16 g rb) ∙ eb))
          (full_18 kept f number M (filled_of g ra ea rb eb fills) e)

      module _ {m : Counts} (e : r ≡ Some m) (o : Onward p n r) {s : Option Counts} (c : Counted p m s) where
        pub too_many : s ≡ None → (D : Draft) → Kept D lent n
            → ComesPlanned p number first items n.statements D lent'' (Err Table)
        unfolding Judged
        too_many x D kept k f t pl fa pa M fr =
            let g : Given p first items lent n k f D = record { plans = pl; first_are = fa; passed = pa; kept = kept; fresh = fr } in
            let many = c.full x in
            judged_18 n.statements t pa (as_15 g M (sym (is_15 g ra) ∙ ea)) (as_16 g M (sym (is_16 g rb) ∙ eb))
            (dos_18 kept f number M (of_kind_lem p f pl.plan Do many.0) (omega (arith, o.dos m e, many.1)))
