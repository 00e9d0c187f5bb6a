-- What code brings to the object's tables: the code of an expression, of a form and of a statement bring just what right18 counts.
-- Assumes nothing.
use mathlib.Core.Path.{◌≡◌, refl, sym, ap, ◌∙◌}
use Prim.Native.Nat.{ℕ, suc, ◌+◌}
use native.Mathlib.Omega.{arith}
use mathlib.Core.List.{List, [], ◌∷◌, ◌++◌, map, append-nil}
use mathlib.Core.Option.{Option, none, some}
use lib.ListN.{length, length-append, length-map}
use Rattle.number.specs.Number.{Op}
use Rattle.rules_object.specs.Object.{Element, Loop}
use Rattle.rules_object.specs.Operations.{Instr, HLT, CON, LOD, STO, LDE, STE, OP, NEG, JMP, BR3, BRC, DOI, DOE}
use Rattle.rules_text.specs.Trees.{Name, value_of, Expr, con, var, elm, neg, par, bin, Target, cell, element, written, Form, assign, go_to, computed, ifs, loop, continue, stop, end, dimension, Statement, form_last, Range, parts_of}
use Rattle.rules_deck.specs.Deck.{Do, endings, Dims, dims_of}
use Rattle.rules_deck.specs.Meaning.{third}
use Rattle.rules_deck.specs.Translation.{Held, expr_code, store_code, form_code, do_instr, enter_code, statement_code, held_of, address_of, Tables, pool, tables_after, tables_of, doi_for}
use Rattle.rules_deck.specs.Judge.{expr_references, target_references, form_references, expr_pooled, form_pooled, pool_all, expr_words, form_words, form_exit_words}

-- ---- tables after code

pub tables_append : (T : Tables) (a b : List Instr) → tables_of T (a ++ b) ≡ tables_of (tables_of T a) b
tables_append T [] b = refl
tables_append T (i ∷ a) b = tables_append (tables_after T i) a b

pub pool_append : (pooled a b : List ℕ) → pool_all pooled (a ++ b) ≡ pool_all (pool_all pooled a) b
pool_append pooled [] b = refl
pool_append pooled (c ∷ a) b = pool_append (pool pooled c) a b

-- Code brings the constants cs in their order, n elements and x words of exits, to whatever tables there are; no item and no transfer, for no statement is a READ or PRINT yet.
pub record Brings (code : List Instr) (cs : List ℕ) (n x : ℕ) : Type 0 where
  pub constants : (T : Tables) → (tables_of T code).constants ≡ pool_all T.constants cs
  pub elements : (T : Tables) → length (tables_of T code).elements ≡ length T.elements + n
  pub exits : (T : Tables) → length (tables_of T code).exits ≡ length T.exits + x
  pub items : (T : Tables) → (tables_of T code).items ≡ T.items
  pub transfers : (T : Tables) → (tables_of T code).transfers ≡ T.transfers

pub brings_none : Brings [] [] 0 0
brings_none = record { constants = λ T. refl; elements = λ T. omega arith; exits = λ T. omega arith; items = λ T. refl; transfers = λ T. refl }

pub brings_both : {a b : List Instr} {cs ds : List ℕ} {n m x y : ℕ} → Brings a cs n x → Brings b ds m y → Brings (a ++ b) (cs ++ ds) (n + m) (x + y)
brings_both {a} {b} {cs} {ds} {n} {m} {x} {y} g h =
    record {
      constants = λ T. ap (λ (U : Tables). U.constants) (tables_append T a b) ∙ h.constants (tables_of T a) ∙ ap (λ (p : List ℕ). pool_all p ds) (g.constants T) ∙ sym (pool_append T.constants cs ds);
      elements = λ T.
          let e = ap (λ (U : Tables). length U.elements) (tables_append T a b) in
          let p = h.elements (tables_of T a) in
          let q = g.elements T in
          omega arith;
      exits = λ T.
          let e = ap (λ (U : Tables). length U.exits) (tables_append T a b) in
          let p = h.exits (tables_of T a) in
          let q = g.exits T in
          omega arith;
      items = λ T. ap (λ (U : Tables). U.items) (tables_append T a b) ∙ h.items (tables_of T a) ∙ g.items T;
      transfers = λ T. ap (λ (U : Tables). U.transfers) (tables_append T a b) ∙ h.transfers (tables_of T a) ∙ g.transfers T;
    }

-- the same said otherwise
brings_as : {code : List Instr} {cs : List ℕ} {n x : ℕ} (ds : List ℕ) (m y : ℕ) → Brings code cs n x → cs ≡ ds → n ≡ m → x ≡ y → Brings code ds m y
brings_as {code} {cs} {n} {x} ds m y h e f g = rw (← e, ← f, ← g) h

-- ---- one instruction

data Quiet : Instr → Type 0 where
  hlt : {x : ℕ} → Quiet (HLT x)
  lod : {a : ℕ} → Quiet (LOD a)
  sto : {a : ℕ} → Quiet (STO a)
  opr : {o : Op} → Quiet (OP o)
  sign : Quiet NEG
  jmp : {a : ℕ} → Quiet (JMP a)
  doi : {n : ℕ} {d : Loop} → Quiet (DOI n d)
  doe : {n : ℕ} {d : Loop} → Quiet (DOE n d)

brings_quiet : {i : Instr} → Quiet i → Brings (i ∷ []) [] 0 0
brings_quiet hlt = record { constants = λ T. refl; elements = λ T. omega arith; exits = λ T. omega arith; items = λ T. refl; transfers = λ T. refl }
brings_quiet lod = record { constants = λ T. refl; elements = λ T. omega arith; exits = λ T. omega arith; items = λ T. refl; transfers = λ T. refl }
brings_quiet sto = record { constants = λ T. refl; elements = λ T. omega arith; exits = λ T. omega arith; items = λ T. refl; transfers = λ T. refl }
brings_quiet opr = record { constants = λ T. refl; elements = λ T. omega arith; exits = λ T. omega arith; items = λ T. refl; transfers = λ T. refl }
brings_quiet sign = record { constants = λ T. refl; elements = λ T. omega arith; exits = λ T. omega arith; items = λ T. refl; transfers = λ T. refl }
brings_quiet jmp = record { constants = λ T. refl; elements = λ T. omega arith; exits = λ T. omega arith; items = λ T. refl; transfers = λ T. refl }
brings_quiet doi = record { constants = λ T. refl; elements = λ T. omega arith; exits = λ T. omega arith; items = λ T. refl; transfers = λ T. refl }
brings_quiet doe = record { constants = λ T. refl; elements = λ T. omega arith; exits = λ T. omega arith; items = λ T. refl; transfers = λ T. refl }

brings_constant : (c : ℕ) → Brings (CON c ∷ []) (c ∷ []) 0 0
brings_constant c = record { constants = λ T. refl; elements = λ T. omega arith; exits = λ T. omega arith; items = λ T. refl; transfers = λ T. refl }

brings_load : (e : Element) → Brings (LDE e ∷ []) [] 1 0
brings_load e = record { constants = λ T. refl; elements = λ T. length-append T.elements (e ∷ []); exits = λ T. omega arith; items = λ T. refl; transfers = λ T. refl }

brings_store : (e : Element) → Brings (STE e ∷ []) [] 1 0
brings_store e = record { constants = λ T. refl; elements = λ T. length-append T.elements (e ∷ []); exits = λ T. omega arith; items = λ T. refl; transfers = λ T. refl }

brings_three : (a b c : ℕ) → Brings (BR3 a b c ∷ []) [] 0 3
brings_three a b c = record { constants = λ T. refl; elements = λ T. omega arith; exits = λ T. length-append T.exits (a ∷ b ∷ c ∷ []); items = λ T. refl; transfers = λ T. refl }

brings_many : (ts : List ℕ) → Brings (BRC ts ∷ []) [] 0 (suc (length ts))
brings_many ts = record { constants = λ T. refl; elements = λ T. omega arith; exits = λ T. length-append T.exits (length ts ∷ ts); items = λ T. refl; transfers = λ T. refl }

-- ---- expressions, forms and statements

module _ (held : List Held) (dims : Name → Dims) where
  pub expr_brings : (e : Expr) → Brings (expr_code held dims e) (expr_pooled e) (length (expr_references e)) 0
  expr_brings (con c) = brings_constant (value_of c)
  expr_brings (var v) = brings_quiet lod
  expr_brings (elm v s) = brings_load _
  expr_brings (neg e) = brings_as (expr_pooled e) (length (expr_references e)) 0 (brings_both (expr_brings e) (brings_quiet sign)) (append-nil (expr_pooled e)) (omega arith) (omega arith)
  expr_brings (par e) = expr_brings e
  expr_brings (bin o a b) =
      brings_as (expr_pooled a ++ expr_pooled b) (length (expr_references a ++ expr_references b)) 0
      (brings_both (expr_brings a) (brings_both (expr_brings b) (brings_quiet (opr {o = o}))))
      (ap (λ (l : List ℕ). expr_pooled a ++ l) (append-nil (expr_pooled b)))
      (simp length-append (omega arith))
      (omega arith)

  target_brings : (t : Target) → Brings (store_code held dims t ∷ []) [] (length (target_references t)) 0
  target_brings (cell v) = brings_quiet sto
  target_brings (element v s) = brings_store _

  third_references : (p : Option Expr) → length (expr_references (third p)) ≡ length (written expr_references p)
  third_references none = refl
  third_references (some e) = refl

  form_brings : (address : ℕ → ℕ) (entry : Instr) → Quiet entry → (f : Form) → Brings (form_code held dims address entry f) (form_pooled f) (length (form_references f)) (form_exit_words f)
  unfolding form_pooled form_references form_exit_words
  form_brings address entry quiet (assign t e) =
      brings_as (expr_pooled e) (length (target_references t ++ expr_references e)) 0 (brings_both (expr_brings e) (target_brings t)) (append-nil (expr_pooled e)) (simp length-append (omega arith)) (omega arith)
  form_brings address entry quiet (go_to n) = brings_quiet jmp
  form_brings address entry quiet (computed ns v) =
      brings_as [] 0 (suc (length ns)) (brings_both (brings_quiet (lod {a = _})) (brings_many (map (λ n. address (value_of n)) ns))) refl (omega arith)
      (omega (arith, length-map ns (λ n. address (value_of n))))
  form_brings address entry quiet (ifs e a b c) =
      brings_as (expr_pooled e) (length (expr_references e)) 3 (brings_both (expr_brings e) (brings_three (address (value_of a)) (address (value_of b)) (address (value_of c)))) (append-nil (expr_pooled e)) (omega arith) (omega arith)
  form_brings address entry quiet (loop n v p₁ p₂ p₃) =
      let r = third_references p₃ in
      brings_as (expr_pooled p₁ ++ (expr_pooled p₂ ++ expr_pooled (third p₃))) (length (expr_references p₁ ++ (expr_references p₂ ++ written expr_references p₃))) 0
      (brings_both (expr_brings p₁) (brings_both (expr_brings p₂) (brings_both (expr_brings (third p₃)) (brings_quiet quiet))))
      (ap (λ (l : List ℕ). expr_pooled p₁ ++ (expr_pooled p₂ ++ l)) (append-nil (expr_pooled (third p₃))))
      (simp length-append (omega arith))
      (omega arith)
  form_brings address entry quiet continue = brings_none
  form_brings address entry quiet stop = brings_quiet hlt
  form_brings address entry quiet end = brings_quiet hlt
  form_brings address entry quiet (dimension arrays) = brings_none

  pub expr_length : (e : Expr) → length (expr_code held dims e) ≡ expr_words e
  expr_length (con c) = refl
  expr_length (var v) = refl
  expr_length (elm v s) = refl
  expr_length (neg e) = let h = expr_length e in simp length-append (omega arith)
  expr_length (par e) = expr_length e
  expr_length (bin o a b) =
      let h = expr_length a in
      let i = expr_length b in
      simp length-append (omega arith)

  -- a DO's code is without its DOE
  pub form_length : (address : ℕ → ℕ) (entry : Instr) (f : Form) → length (form_code held dims address entry f) + length (form_last f) ≡ form_words f
  unfolding form_last form_words
  form_length address entry (assign t e) = let h = expr_length e in simp length-append (omega arith)
  form_length address entry (go_to n) = refl
  form_length address entry (computed ns v) = refl
  form_length address entry (ifs e a b c) = let h = expr_length e in simp length-append (omega arith)
  form_length address entry (loop n v p₁ p₂ p₃) =
      let h = expr_length p₁ in
      let i = expr_length p₂ in
      let j = expr_length (third p₃) in
      simp length-append (omega arith)
  form_length address entry continue = refl
  form_length address entry stop = refl
  form_length address entry end = refl
  form_length address entry (dimension arrays) = refl

quiet_entry : (deck : List Statement) (q : ℕ) (f : Form) → Quiet (enter_code deck q f)
quiet_entry deck q f = go (parts_of f).opens
  where
    go : (ds : List Range) → Quiet (doi_for deck q ds)
    go [] = sign
    go (d ∷ ds) = doi

ends_bring : (deck : List Statement) (ds : List Do) → Brings (map (do_instr deck DOE) ds) [] 0 0
ends_bring deck [] = brings_none
ends_bring deck (d ∷ ds) = brings_both (brings_quiet doe) (ends_bring deck ds)

-- a DO's ends bring nothing
pub statement_brings : (deck : List Statement) (q : ℕ) (s : Statement) → Brings (statement_code deck q s) (form_pooled s.form) (length (form_references s.form)) (form_exit_words s.form)
statement_brings deck q s =
    brings_as (form_pooled s.form) (length (form_references s.form)) (form_exit_words s.form)
    (brings_both (form_brings (held_of deck) (dims_of deck) (address_of deck) (enter_code deck q s.form) (quiet_entry deck q s.form) s.form) (ends_bring deck (endings deck s.number)))
    (append-nil (form_pooled s.form)) (omega arith) (omega arith)
