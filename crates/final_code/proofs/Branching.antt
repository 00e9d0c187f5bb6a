-- The exits of a deck, one statement more.
-- Assumes nothing.
use mathlib.Core.Path.{◌≡◌, refl, sym, ap, ◌∙◌}
use Prim.Native.Nat.{ℕ, suc, ◌+◌, ◌*◌, ◌≤◌, ◌<◌}
use native.Mathlib.Omega.{arith}
use native.Mathlib.Numerals.{add-one}
use mathlib.Core.Bool.{cond}
use mathlib.Core.List.{List, [], ◌∷◌, ◌++◌, map, append-nil, append_assoc}
use mathlib.Core.Option.{some}
use lib.Dec.{eqb}
use lib.ListN.{length, take, drop, get_or, get_elem?, length-append, length-map}
use lib.Seq.{take-length}
use Rattle.rules_shared.specs.House.{House}
use Rattle.rules_object.specs.Operations.{Instr, DOE}
use Rattle.rules_text.specs.Trees.{Name, value_of, Expr, con, var, elm, neg, par, bin, Target, cell, element, Form, assign, go_to, computed, ifs, loop, continue, stop, end, dimension, Statement, form_exits, form_last}
use Rattle.rules_deck.specs.Deck.{Dims, Do, dims_of, endings}
use Rattle.rules_deck.specs.Meaning.{third}
use Rattle.rules_deck.specs.Translation.{Held, held_of, expr_code, store_code, form_code, address_of, do_instr, enter_code, statement_code, code_from, code_of, Tables, no_tables, tables_of, translate}
use Rattle.rules_deck.proofs.Addresses.{at_some}
use Rattle.rules_deck.proofs.TableLaws.{tables_append}
use Rattle.rules_deck.proofs.FittingDeck.{fitting}
use Rattle.take_draft.specs.Draft.{kind_of, jump_words}
use Rattle.read_items.specs.Parsed.{Put}
use Rattle.take_draft.specs.Sketch.{deck_jumps}
use Rattle.final_addresses.specs.Given.{Holds}
use Rattle.final_addresses.proofs.Told.{row_kind, row_jumps}
use Rattle.final_addresses.proofs.Lasts.{take_more}
use Rattle.final_addresses.proofs.Holding.{holds_more, holds_as, put_as}
use Rattle.final_code.specs.Settling.{Leading}
use Rattle.final_statement.specs.Words.{Aimed, exit_words}
use Rattle.final_code.proofs.Splitting.{code_more, code_split}
use Rattle.final_code.proofs.Aiming.{jumps_inside, jumps_many, targets_here, aimed_here, jumps_next}

-- ---- what code adds to the exits

pub record Adds (code : List Instr) (xs : List ℕ) : Type 0 where
  pub exits : (T : Tables) → (tables_of T code).exits ≡ T.exits ++ xs

adds_both : {a b : List Instr} {xs ys : List ℕ} → Adds a xs → Adds b ys → Adds (a ++ b) (xs ++ ys)
adds_both {a} {b} {xs} {ys} p q =
    record { exits = λ T. ap (λ (U : Tables). U.exits) (tables_append T a b) ∙ q.exits (tables_of T a) ∙ ap (λ (l : List ℕ). l ++ ys) (p.exits T) ∙ append_assoc T.exits xs ys }

adds_none : Adds [] []
adds_none = record { exits = λ T. sym (append-nil T.exits) }

-- by the addresses of a statement's jumps
abbrev exits_of : ℕ → List ℕ → List ℕ
exits_of kind ts = cond (eqb kind 2) (length ts ∷ ts) (cond (eqb kind 3) ts [])

module _ (held : List Held) (dims : Name → Dims) where
  expr_adds : (e : Expr) → Adds (expr_code held dims e) []
  expr_adds (con c) = record { exits = λ T. sym (append-nil T.exits) }
  expr_adds (var v) = record { exits = λ T. sym (append-nil T.exits) }
  expr_adds (elm v s) = record { exits = λ T. sym (append-nil T.exits) }
  expr_adds (neg e) = adds_both (expr_adds e) (record { exits = λ T. sym (append-nil T.exits) })
  expr_adds (par e) = expr_adds e
  expr_adds (bin o a b) = adds_both (expr_adds a) (adds_both (expr_adds b) (record { exits = λ T. sym (append-nil T.exits) }))

  store_adds : (t : Target) → Adds (store_code held dims t ∷ []) []
  store_adds (cell v) = record { exits = λ T. sym (append-nil T.exits) }
  store_adds (element v s) = record { exits = λ T. sym (append-nil T.exits) }

ends_add : (deck : List Statement) (ds : List Do) → Adds (map (do_instr deck DOE) ds) []
ends_add deck [] = adds_none
ends_add deck (d ∷ ds) = record { exits = λ T. (ends_add deck ds).exits T }

map_twice : (f : ℕ → ℕ) (ns : List Rattle.rules_text.specs.Trees.Digits) → map f (map value_of (ns ++ [])) ≡ map (λ n. f (value_of n)) ns
map_twice f [] = refl
map_twice f (n ∷ ns) = ap (λ (l : List ℕ). f (value_of n) ∷ l) (map_twice f ns)

module _ (deck : List Statement) (q : ℕ) where
  form_adds : (f : Form) → Adds (form_code (held_of deck) (dims_of deck) (address_of deck) (enter_code deck q f) f) (exits_of (kind_of f) (map (address_of deck) (jump_words f)))
  unfolding form_exits form_last
  form_adds (assign t e) = adds_both (expr_adds (held_of deck) (dims_of deck) e) (store_adds (held_of deck) (dims_of deck) t)
  form_adds (go_to n) = record { exits = λ T. sym (append-nil T.exits) }
  form_adds (computed ns v) = rw (map_twice (address_of deck) ns) (record { exits = λ T. refl })
  form_adds (ifs e a b c) = adds_both (expr_adds (held_of deck) (dims_of deck) e) (record { exits = λ T. refl })
  form_adds (loop n v p₁ p₂ p₃) =
      adds_both (expr_adds (held_of deck) (dims_of deck) p₁) (adds_both (expr_adds (held_of deck) (dims_of deck) p₂) (adds_both (expr_adds (held_of deck) (dims_of deck) (third p₃)) (record { exits = λ T. sym (append-nil T.exits) })))
  form_adds continue = adds_none
  form_adds stop = record { exits = λ T. sym (append-nil T.exits) }
  form_adds end = record { exits = λ T. sym (append-nil T.exits) }
  form_adds (dimension arrays) = adds_none

  statement_adds : (s : Statement) → Adds (statement_code deck q s) (exits_of (kind_of s.form) (map (address_of deck) (jump_words s.form)) ++ [])
  statement_adds s = adds_both (form_adds s.form) (ends_add deck (endings deck s.number))

-- the exits of the first i statements
abbrev pub exits_to : List Statement → ℕ → List ℕ
exits_to deck i = (tables_of no_tables (code_from deck 0 (take i deck))).exits

module _ {house : House} {deck : List Statement} {rows : List ℕ} {count : ℕ} {jumps starts : List ℕ} (told : Leading house deck rows count jumps starts) where
  exits_of_lem : (i : ℕ) (s : Statement) → get_elem? deck i ≡ some s → (j : ℕ) → j ≡ length (deck_jumps (take i deck))
      → exit_words (get_or rows (5 * i + 1) 0) (take (get_or rows (5 * i + 4) 0) (drop j jumps)) starts ≡ exits_of (kind_of s.form) (map (address_of deck) (jump_words s.form))
  exits_of_lem i s e j at =
      let r = row_jumps told.in_rows i s e in
      let ts = targets_here told i s e j (get_or rows (5 * i + 4) 0) at r in
      let n = jumps_many told i s e j (get_or rows (5 * i + 4) 0) at r ∙ r ∙ sym (length-map (jump_words s.form) (address_of deck)) in
      ap (λ (t : ℕ). exit_words t (take (get_or rows (5 * i + 4) 0) (drop j jumps)) starts) (row_kind told.in_rows i s e)
      ∙ ap (λ (l : List ℕ). cond (eqb (kind_of s.form) 2) (length (take (get_or rows (5 * i + 4) 0) (drop j jumps)) ∷ l) (cond (eqb (kind_of s.form) 3) l [])) ts
      ∙ ap (λ (m : ℕ). cond (eqb (kind_of s.form) 2) (m ∷ map (address_of deck) (jump_words s.form)) (cond (eqb (kind_of s.form) 3) (map (address_of deck) (jump_words s.form)) [])) n

  exits_next : (i : ℕ) (s : Statement) → get_elem? deck i ≡ some s
      → exits_to deck (i + 1) ≡ exits_to deck i ++ exits_of (kind_of s.form) (map (address_of deck) (jump_words s.form))
  exits_next i s e =
      ap (λ (m : ℕ). exits_to deck m) (add-one i)
      ∙ ap (λ (d : List Statement). (tables_of no_tables (code_from deck 0 d)).exits) (take_more deck i s e)
      ∙ ap (λ (c : List Instr). (tables_of no_tables c).exits) (code_more deck i s e)
      ∙ ap (λ (U : Tables). U.exits) (tables_append no_tables (code_from deck 0 (take i deck)) (statement_code deck i s))
      ∙ (statement_adds deck i s).exits (tables_of no_tables (code_from deck 0 (take i deck)))
      ∙ ap (λ (l : List ℕ). exits_to deck i ++ l) (append-nil (exits_of (kind_of s.form) (map (address_of deck) (jump_words s.form))))

  rest_adds : (q : ℕ) (more : List Statement) (T : Tables) → length T.exits ≤ length (tables_of T (code_from deck q more)).exits
  rest_adds q [] T = omega arith
  rest_adds q (s ∷ more) T =
      let h = rest_adds (suc q) more (tables_of T (statement_code deck q s)) in
      let e = ap (λ (U : Tables). length U.exits) (tables_append T (statement_code deck q s) (code_from deck (suc q) more)) in
      let a = ap length ((statement_adds deck q s).exits T) ∙ length-append T.exits _ in
      omega arith

  -- never more than the deck's
  exits_most : (i : ℕ) (s : Statement) → get_elem? deck i ≡ some s → length (exits_to deck (i + 1)) ≤ 1024
  exits_most i s e =
      let C = code_from deck 0 (take i deck) in
      let rest = code_from deck (suc i) (drop (suc i) deck) in
      let w = ap (λ (c : List Instr). length (tables_of no_tables c).exits) (code_split deck i s e ∙ sym (append_assoc C (statement_code deck i s) rest))
      ∙ ap (λ (U : Tables). length U.exits) (tables_append no_tables (C ++ statement_code deck i s) rest) in
      let n = ap (λ (m : ℕ). length (exits_to deck m)) (add-one i) ∙ ap (λ (d : List Statement). length (tables_of no_tables (code_from deck 0 d)).exits) (take_more deck i s e)
      ∙ ap (λ (c : List Instr). length (tables_of no_tables c).exits) (code_more deck i s e) in
      let r = rest_adds (suc i) (drop (suc i) deck) (tables_of no_tables (C ++ statement_code deck i s)) in
      omega (arith, (fitting told.in_rows.accepted).exits)

  pub exits_put : {a b : List ℕ} {top r : ℕ} (i j : ℕ) → i < count → j ≡ length (deck_jumps (take i deck)) → Put a b top (exit_words (get_or rows (5 * i + 1) 0) (take (get_or rows (5 * i + 4) 0) (drop j jumps)) starts) r
      → Holds a top (exits_to deck i) → Holds b r (exits_to deck (i + 1))
  exits_put i j l at p held =
      let s = at_some deck i (omega (arith, told.in_rows.counted)) in
      holds_as (sym (exits_next i s.0 s.1)) (holds_more held (put_as (exits_of_lem i s.0 s.1 j at) p))

  -- what putting them requires
  pub exits_room : {a : List ℕ} {top : ℕ} (i j : ℕ) → i < count → 400 < length starts → j ≡ length (deck_jumps (take i deck)) → Holds a top (exits_to deck i)
      → (top + length (exit_words (get_or rows (5 * i + 1) 0) (take (get_or rows (5 * i + 4) 0) (drop j jumps)) starts) ≤ 1024) × Aimed (take (get_or rows (5 * i + 4) 0) (drop j jumps)) starts
  exits_room {a} {top} i j l room at held =
      let s = at_some deck i (omega (arith, told.in_rows.counted)) in
      let x = ap length (exits_of_lem i s.0 s.1 j at) in
      let n = ap length (exits_next i s.0 s.1) ∙ length-append (exits_to deck i) _ in
      (omega (arith, exits_most i s.0 s.1, held.count), aimed_here told i s.0 s.1 j (get_or rows (5 * i + 4) 0) at (row_jumps told.in_rows i s.0 s.1) room)

  pub jumps_room : (i j : ℕ) → i < count → j ≡ length (deck_jumps (take i deck)) → j + get_or rows (5 * i + 4) 0 ≤ length jumps
  jumps_room i j l at =
      let s = at_some deck i (omega (arith, told.in_rows.counted)) in
      jumps_inside told i s.0 s.1 j (get_or rows (5 * i + 4) 0) at (row_jumps told.in_rows i s.0 s.1)

  pub jumps_after : (i j : ℕ) → i < count → j ≡ length (deck_jumps (take i deck)) → j + get_or rows (5 * i + 4) 0 ≡ length (deck_jumps (take (i + 1) deck))
  jumps_after i j l at =
      let s = at_some deck i (omega (arith, told.in_rows.counted)) in
      jumps_next told i s.0 s.1 j at

  pub exits_all : {a : List ℕ} {top : ℕ} (i : ℕ) → i ≡ count → Holds a top (exits_to deck i) → Holds a top (translate house deck).exits
  unfolding translate code_of
  exits_all i e held =
      holds_as (ap (λ (m : ℕ). exits_to deck m) (e ∙ told.in_rows.counted) ∙ ap (λ (d : List Statement). (tables_of no_tables (code_from deck 0 d)).exits) (take-length deck)) held
