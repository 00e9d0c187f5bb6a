-- The words of a translated deck decode to its code, and each operand stands in its table.
-- Assumes nothing.
use mathlib.Core.Path.{◌≡◌, refl, sym, ap, ◌∙◌, subst}
use Prim.Native.Nat.{ℕ, zero, suc, ◌+◌, ◌≤◌}
use native.Mathlib.Omega.{arith}
use mathlib.Core.Bool.{Bool, true, false, cond}
use mathlib.Core.List.{List, [], ◌∷◌, map}
use mathlib.Core.Option.{some}
use lib.ListN.{length, get_elem?, get_or, length-map}
use Rattle.rules_shared.specs.House.{House}
use Rattle.rules_object.specs.Object.{Object}
use Rattle.rules_object.specs.Operations.{Instr, DOE, decode}
use Rattle.rules_shared.specs.Lists.{Each, each_none, each_more}
use Rattle.rules_shared.proofs.EachLaws.{each_one, each_append}
use Rattle.rules_text.specs.Trees.{Name, value_of, Expr, con, var, elm, neg, par, bin, Target, cell, element, Form, assign, go_to, computed, ifs, loop, continue, stop, end, dimension, Statement, Range, parts_of}
use Rattle.rules_deck.specs.Deck.{position_of, Do, Dims, do_of, dos_from, dos_of, dims_of, endings, do_at}
use Rattle.rules_deck.specs.Meaning.{third}
use Rattle.rules_deck.specs.Translation.{Held, size, cell_count, first_cell, cell_of, held_of, expr_code, store_code, form_code, address_of, loop_entry, do_instr, enter_code, statement_code, code_from, code_of, Tables, no_tables, tables_of, translate, doi_for}
use Rattle.rules_deck.specs.Accepted.{Among, here, there, Fitting}
use Rattle.rules_deck.proofs.Addresses.{address_most}
use Rattle.rules_deck.proofs.TestLaws.{clash, among_left, among_right}
use Rattle.rules_deck.proofs.DoLaws.{among_endings}
use Rattle.rules_deck.proofs.Rows.{do_row}
use Rattle.rules_deck.proofs.TableLaws.{tables_append, statement_brings}
use Rattle.rules_deck.proofs.Tables.{Grows, grows_self, Within, Bounded, Sized, Emitted, emit_length, emitted_at, decoded}

pub each_at : {A : Type 0} (P : A → Type 0) (l : List A) (a : ℕ) (x : A) → get_elem? l a ≡ some x → Each P l → P x
each_at P [] a x e h = absurd (clash (sym e))
each_at P (y ∷ l) zero x e (each_more h hs) = let same : y ≡ x = cc in subst P same h
each_at P (y ∷ l) (suc a) x e (each_more h hs) = each_at P l a x e hs

-- ---- cells are at most the count

pub first_most : (test : Held → Bool) (held : List Held) → first_cell test held ≤ cell_count held
first_most test [] = omega arith
first_most test (h ∷ held) = go (test h) (first_most test held)
  where
    go : (t : Bool) → first_cell test held ≤ cell_count held → cond t 0 (size h + first_cell test held) ≤ size h + cell_count held
    go true l = omega arith
    go false l = omega arith

pub cell_most : (held : List Held) (v : Name) → cell_of held v ≤ cell_count held
unfolding cell_of
cell_most held v = first_most _ held

-- ---- code

module _ (o : Object) (held : List Held) (dims : Name → Dims) (cells : (v : Name) → cell_of held v ≤ o.cells) where
  expr_bounded : (e : Expr) → Each (Bounded o) (expr_code held dims e)
  expr_bounded (con c) = each_one tt
  expr_bounded (var v) = each_one (cells v)
  expr_bounded (elm v s) = each_one tt
  expr_bounded (neg e) = each_append (expr_bounded e) (each_one tt)
  expr_bounded (par e) = expr_bounded e
  expr_bounded (bin p a b) =
      each_append (expr_bounded a) (each_append (expr_bounded b) (each_one tt))

  store_bounded : (t : Target) → Bounded o (store_code held dims t)
  store_bounded (cell v) = cells v
  store_bounded (element v s) = tt

  form_bounded : (address : ℕ → ℕ) (entry : Instr) (f : Form) → ((n : ℕ) → address n ≤ length o.code) → Bounded o entry → Each (Bounded o) (form_code held dims address entry f)
  form_bounded address entry (assign t e) a b = each_append (expr_bounded e) (each_one (store_bounded t))
  form_bounded address entry (go_to n) a b = each_one (a (value_of n))
  form_bounded address entry (computed ns v) a b = each_more (cells v) (each_one tt)
  form_bounded address entry (ifs e x y z) a b = each_append (expr_bounded e) (each_one tt)
  form_bounded address entry (loop n v p₁ p₂ p₃) a b =
      each_append (expr_bounded p₁)
      (each_append (expr_bounded p₂) (each_append (expr_bounded (third p₃)) (each_one b)))
  form_bounded address entry continue a b = each_none
  form_bounded address entry stop a b = each_one (omega arith)
  form_bounded address entry end a b = each_one (omega arith)
  form_bounded address entry (dimension arrays) a b = each_none

-- ---- the deck's object

-- no statement is a READ or PRINT yet, so no code brings an item or a transfer
nothing_listed : (deck : List Statement) (q : ℕ) (more : List Statement) (T : Tables)
    → ((tables_of T (code_from deck q more)).items ≡ T.items) × ((tables_of T (code_from deck q more)).transfers ≡ T.transfers)
nothing_listed deck q [] T = (refl, refl)
nothing_listed deck q (s ∷ more) T =
    let code = statement_code deck q s in
    let both = tables_append T code (code_from deck (suc q) more) in
    let b = statement_brings deck q s in
    let r = nothing_listed deck (suc q) more (tables_of T code) in
    (ap (λ (U : Tables). U.items) both ∙ r.0 ∙ b.items T, ap (λ (U : Tables). U.transfers) both ∙ r.1 ∙ b.transfers T)

within_object : (house : House) (deck : List Statement) → Within (tables_of no_tables (code_of deck)) (translate house deck)
unfolding translate code_of
within_object house deck =
    let n = nothing_listed deck 0 deck no_tables in
    record {
      constants = grows_self;
      elements = grows_self;
      exits = grows_self;
      items = subst (λ l. Grows l []) (sym n.0) grows_self;
      transfers = subst (λ l. Grows l []) (sym n.1) grows_self;
    }

module _ (house : House) (deck : List Statement) where
  pub code_length : length (translate house deck).code ≡ length (code_of deck)
  unfolding translate
  code_length = emit_length no_tables (code_of deck)

  entry_bounded : (q : ℕ) (f : Form) → ((d : Do) → Among d (do_of q f) → Among d (dos_of deck)) → Bounded (translate house deck) (enter_code deck q f)
  unfolding translate
  entry_bounded q f g = go (parts_of f).opens g
    where
      go : (ds : List Range) → ((d : Do) → Among d (map (do_at q) ds) → Among d (dos_of deck)) → Bounded (translate house deck) (doi_for deck q ds)
      go [] = λ g. tt
      go (d ∷ ds) = λ g. do_row deck _ (g _ here)

  ends_bounded : (ds : List Do) → ((d : Do) → Among d ds → Among d (dos_of deck)) → Each (Bounded (translate house deck)) (map (do_instr deck DOE) ds)
  unfolding translate
  ends_bounded [] g = each_none
  ends_bounded (d ∷ ds) g = each_more (do_row deck d (g d here)) (ends_bounded ds (λ c h. g c (there h)))

  cells_most : (v : Name) → cell_of (held_of deck) v ≤ (translate house deck).cells
  unfolding translate
  cells_most v = cell_most (held_of deck) v

  statement_bounded : (q : ℕ) (s : Statement) → ((d : Do) → Among d (do_of q s.form) → Among d (dos_of deck)) → Each (Bounded (translate house deck)) (statement_code deck q s)
  statement_bounded q s g =
      let entry : Instr = enter_code deck q s.form in
      each_append
      (form_bounded (translate house deck) (held_of deck) (dims_of deck) cells_most (address_of deck) entry s.form
      (λ n. omega (arith, code_length, address_most deck (position_of deck n))) (entry_bounded q s.form g))
      (ends_bounded (endings deck s.number) (λ d h. (among_endings deck s.number d h).0))

  from_bounded : (q : ℕ) (more : List Statement) → ((d : Do) → Among d (dos_from q more) → Among d (dos_of deck)) → Each (Bounded (translate house deck)) (code_from deck q more)
  from_bounded q [] g = each_none
  from_bounded q (s ∷ more) g =
      each_append (statement_bounded q s (λ d h. g d (among_left (dos_from (suc q) more) h)))
      (from_bounded (suc q) more (λ d h. g d (among_right (do_of q s.form) h)))

  code_bounded : Each (Bounded (translate house deck)) (code_of deck)
  unfolding code_of dos_of
  code_bounded = from_bounded 0 deck (λ d h. h)

  pub bounded : (a : ℕ) (i : Instr) → get_elem? (code_of deck) a ≡ some i → Bounded (translate house deck) i
  bounded a i e = each_at (Bounded (translate house deck)) (code_of deck) a i e code_bounded

  pub sized : Fitting deck → Sized (translate house deck)
  unfolding translate
  sized f =
      record {
        cells = f.cells;
        code = omega (arith, f.code, emit_length no_tables (code_of deck));
        constants = f.constants;
        elements = f.elements;
        exits = f.exits;
        dos = omega (arith, f.dos, length-map (dos_of deck) (loop_entry deck));
        transfers = omega arith;
      }

  pub emitted : Fitting deck → (a : ℕ) (i : Instr) → get_elem? (code_of deck) a ≡ some i → Emitted (translate house deck) a i
  unfolding translate
  emitted f a i e = emitted_at (translate house deck) no_tables (code_of deck) refl (within_object house deck) (sized f) a i e (bounded a i e)

  pub fetched : Fitting deck → (a : ℕ) (i : Instr) → get_elem? (code_of deck) a ≡ some i → decode (translate house deck) (get_or (translate house deck).code a 0) ≡ i
  fetched f a i e = decoded (translate house deck) a i (emitted f a i e)
