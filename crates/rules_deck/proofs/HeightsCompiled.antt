-- Every instruction of a deck's code stands at its height in the deck's table, and each of its successors at the height after it.
-- Assumes nothing.
use mathlib.Core.Path.{◌≡◌, refl, sym, ◌∙◌, subst}
use mathlib.Core.Logic.{◌⊎◌, inl, inr}
use Prim.Native.Nat.{ℕ, zero, suc, ◌+◌, ◌-◌, ◌*◌, ◌≤◌, ◌<◌}
use native.Mathlib.Nat.{zero-add, add-zero}
use native.Mathlib.Omega.{arith}
use mathlib.Core.List.{List, [], ◌∷◌, ◌++◌, map}
use mathlib.Core.Option.{Option, none, some}
use lib.ListN.{length, get_elem?, replicate, length-append, length-map}
use Rattle.rules_object.specs.Operations.{Instr, OP, NEG, DOI, DOE, pops, pushes, successors}
use Rattle.number.specs.Number.{Op, add, sub, mul, div}
use Rattle.rules_object.specs.Flow.{height_at}
use Rattle.rules_text.specs.Trees.{Name, Digits, value_of, Expr, con, var, elm, neg, par, bin, Target, cell, element, Form, assign, go_to, computed, ifs, loop, continue, stop, end, dimension, Statement, form_exits, form_levels}
use Rattle.rules_deck.specs.Deck.{Dims, dims_of, position_of, Do, endings}
use Rattle.rules_deck.specs.Meaning.{third}
use Rattle.rules_deck.specs.Translation.{Held, held_of, expr_code, store_code, form_code, words, address_in, address_at, address_of, do_instr, enter_code, statement_code, code_from, code_of}
use Rattle.rules_deck.specs.Seen.{levels_in}
use Rattle.rules_deck.specs.Accepted.{Among, here, there}
use Rattle.rules_text.specs.Shaped.{IsParameter, OptionalParameter, Shaped}
use Rattle.rules_deck.proofs.Addresses.{At, at_some, at_head, at_tail, at_left, at_right, words_code, address_suc, address_grows, address_most}
use Rattle.rules_deck.proofs.Tables.{get_d_at}
use Rattle.rules_deck.proofs.Needs.{need, need_some, sum_need, parameter_need, levels_deck, expr_heights, form_heights, length_expr, length_form, deck_heights, height_zero, heights_at}

-- What a deck has so that its code stands: the grammar's shapes, exits that are statements, a body after each DO, and END alone at the end.
pub record Stands (deck : List Statement) : Type 0 where
  pub shaped : (j : ℕ) (s : Statement) → get_elem? deck j ≡ some s → Shaped s.form
  pub exits : (j : ℕ) (s : Statement) → get_elem? deck j ≡ some s → (n : Digits) → Among n (form_exits s.form) → position_of deck (value_of n) < length deck
  pub bodies : (n : ℕ) (d : Do) → Among d (endings deck n) → suc d.position < length deck
  pub follows : (j : ℕ) (s : Statement) → get_elem? deck j ≡ some s → (suc j < length deck) ⊎ ((s.form ≡ end) × (endings deck s.number ≡ []))
  pub some : 0 < length deck

-- ---- code that stands at its heights

-- each of these is an instruction and has the height v
pub data Leads (n : ℕ) (H : List ℕ) (v : ℕ) : List ℕ → Type 0 where
  nowhere : Leads n H v []
  to : {t : ℕ} {ts : List ℕ} → t < n → height_at H t ≡ v → Leads n H v ts → Leads n H v (t ∷ ts)

pub data Ok (top n : ℕ) (H : List ℕ) : ℕ → List Instr → Type 0 where
  ok_none : {a : ℕ} → Ok top n H a []
  ok_more : {a : ℕ} {i : Instr} {is : List Instr} → height_at H a ≤ top → pops i ≤ height_at H a → Leads n H (height_at H a - pops i + pushes i) (successors a i) → Ok top n H (suc a) is
      → Ok top n H a (i ∷ is)

height : {H : List ℕ} {a h : ℕ} {r : List ℕ} → At H a (h ∷ r) → height_at H a ≡ h
height {H} {a} {h} s = get_d_at H a h 0 (at_head s)

expr_starts : {H : List ℕ} {a : ℕ} (h : ℕ) (e : Expr) → At H a (expr_heights h e) → height_at H a ≡ h
expr_starts h (con c) s = height s
expr_starts h (var v) s = height s
expr_starts h (elm v x) s = height s
expr_starts h (neg e) s = expr_starts h e (at_left (expr_heights h e) _ s)
expr_starts h (par e) s = expr_starts h e s
expr_starts h (bin o a b) s = expr_starts h a (at_left (expr_heights h a) _ s)

next : {n a h : ℕ} {H : List ℕ} (g : ℕ) → suc a < n → height_at H (suc a) ≡ g → g ≡ h → Leads n H h (suc a ∷ [])
next g l e q = to l (e ∙ q) nowhere

module _ {top n : ℕ} {H : List ℕ} where
  ok_step : {a : ℕ} {i : Instr} {is : List Instr} (h : ℕ) → height_at H a ≡ h → h ≤ top → pops i ≤ h → Leads n H (h - pops i + pushes i) (successors a i)
      → Ok top n H (suc a) is → Ok top n H a (i ∷ is)
  ok_step {a} {i} h e t p l r = ok_more {a = a} {i = i} (omega arith) (omega arith) (subst (λ x. Leads n H (x - pops i + pushes i) (successors a i)) (sym e) l) r

  ok_append : {a : ℕ} {is js : List Instr} → Ok top n H a is → Ok top n H (a + length is) js → Ok top n H a (is ++ js)
  ok_append {a} ok_none q = let e : a + zero ≡ a = omega arith in rw e at q
  ok_append {a} (ok_more {is = is} t p l r) q = ok_more t p l (ok_append r (let e : a + suc (length is) ≡ suc a + length is = omega arith in rw e at q))

  op_ok : (o : Op) (h a : ℕ) → height_at H a ≡ suc (suc h) → suc (suc h) ≤ top → suc a < n → height_at H (suc a) ≡ suc h → Ok top n H a (OP o ∷ [])
  op_ok add h a e t l z = ok_step (suc (suc h)) e t (omega arith) (next (suc h) l z (omega arith)) ok_none
  op_ok sub h a e t l z = ok_step (suc (suc h)) e t (omega arith) (next (suc h) l z (omega arith)) ok_none
  op_ok mul h a e t l z = ok_step (suc (suc h)) e t (omega arith) (next (suc h) l z (omega arith)) ok_none
  op_ok div h a e t l z = ok_step (suc (suc h)) e t (omega arith) (next (suc h) l z (omega arith)) ok_none

module _ (held : List Held) (dims : Name → Dims) where
  abbrev code : Expr → List Instr
  code e = expr_code held dims e

  module _ {top n : ℕ} {H : List ℕ} where
    expr_ok : (e : Expr) (h a : ℕ) → h + need e ≤ top → At H a (expr_heights h e) → a + length (code e) < n → height_at H (a + length (code e)) ≡ suc h → Ok top n H a (code e)
    expr_ok (con c) h a t s l z = let q : a + 1 ≡ suc a = omega arith in ok_step h (height s) (omega arith) (omega arith) (next (suc h) (omega arith) (rw q at z) (omega arith)) ok_none
    expr_ok (var v) h a t s l z = let q : a + 1 ≡ suc a = omega arith in ok_step h (height s) (omega arith) (omega arith) (next (suc h) (omega arith) (rw q at z) (omega arith)) ok_none
    expr_ok (elm v x) h a t s l z = let q : a + 1 ≡ suc a = omega arith in ok_step h (height s) (omega arith) (omega arith) (next (suc h) (omega arith) (rw q at z) (omega arith)) ok_none
    expr_ok (neg e) h a t s l z =
        let k = length_expr held dims h e in
        let q : a + length (code e ++ (NEG ∷ [])) ≡ suc (a + length (code e)) = simp length-append (omega arith) in
        let s' : At H (a + length (code e)) (suc h ∷ []) = rw k at (at_right (expr_heights h e) s) in
        ok_append (expr_ok e h a (omega arith) (at_left (expr_heights h e) _ s) (omega arith) (height s'))
        (ok_step (suc h) (height s') (omega (arith, need_some e)) (omega arith) (next (suc h) (omega arith) (rw q at z) (omega arith)) ok_none)
    expr_ok (par e) h a t s l z = expr_ok e h a t s l z
    expr_ok (bin o e₁ e₂) h a t s l z =
        let k₁ = length_expr held dims h e₁ in
        let k₂ = length_expr held dims (suc h) e₂ in
        let q : a + length (code e₁ ++ (code e₂ ++ (OP o ∷ []))) ≡ suc (a + length (code e₁) + length (code e₂)) = simp length-append (omega arith) in
        let s₁ : At H (a + length (code e₁)) (expr_heights (suc h) e₂ ++ (suc (suc h) ∷ [])) = rw k₁ at (at_right (expr_heights h e₁) s) in
        let s₂ : At H (a + length (code e₁) + length (code e₂)) (suc (suc h) ∷ []) = rw k₂ at (at_right (expr_heights (suc h) e₂) s₁) in
        ok_append (expr_ok e₁ h a (omega arith) (at_left (expr_heights h e₁) _ s) (omega arith) (expr_starts (suc h) e₂ (at_left (expr_heights (suc h) e₂) _ s₁)))
        (ok_append (expr_ok e₂ (suc h) _ (omega arith) (at_left (expr_heights (suc h) e₂) _ s₁) (omega arith) (height s₂))
        (op_ok o h _ (height s₂) (omega (arith, need_some e₂)) (omega arith) (rw q at z)))

    -- an expression and the instruction that takes it
    taken_ok : (e : Expr) (i : Instr) (a : ℕ) → need e ≤ top → At H a (expr_heights 0 e ++ (1 ∷ [])) → a + length (code e) < n → pops i ≡ 1
        → Leads n H (1 - pops i + pushes i) (successors (a + length (code e)) i) → Ok top n H a (code e ++ (i ∷ []))
    taken_ok e i a t s l p f =
        let s' : At H (a + length (code e)) (1 ∷ []) = rw (length_expr held dims 0 e) at (at_right (expr_heights 0 e) s) in
        ok_append (expr_ok e 0 a (omega arith) (at_left (expr_heights 0 e) _ s) l (height s'))
        (ok_step 1 (height s') (omega (arith, need_some e)) (omega arith) f ok_none)

    -- a DO's parameters and its DOI
    loop_ok : (p₁ p₂ p₃ : Expr) (i : ℕ) (d : Rattle.rules_object.specs.Object.Loop) (a : ℕ) → 3 ≤ top → IsParameter p₁ → IsParameter p₂ → IsParameter p₃
        → At H a (expr_heights 0 p₁ ++ (expr_heights 1 p₂ ++ (expr_heights 2 p₃ ++ (3 ∷ [])))) → a + length (code p₁ ++ (code p₂ ++ (code p₃ ++ (DOI i d ∷ [])))) < n
        → height_at H (a + length (code p₁ ++ (code p₂ ++ (code p₃ ++ (DOI i d ∷ []))))) ≡ 0 → Ok top n H a (code p₁ ++ (code p₂ ++ (code p₃ ++ (DOI i d ∷ []))))
    loop_ok p₁ p₂ p₃ i d a three h₁ h₂ h₃ s l z =
        let k₁ = length_expr held dims 0 p₁ in
        let k₂ = length_expr held dims 1 p₂ in
        let k₃ = length_expr held dims 2 p₃ in
        let q : a + length (code p₁ ++ (code p₂ ++ (code p₃ ++ (DOI i d ∷ [])))) ≡ suc (a + length (code p₁) + length (code p₂) + length (code p₃)) = simp length-append (omega arith) in
        let s₁ : At H (a + length (code p₁)) (expr_heights 1 p₂ ++ (expr_heights 2 p₃ ++ (3 ∷ []))) = rw k₁ at (at_right (expr_heights 0 p₁) s) in
        let s₂ : At H (a + length (code p₁) + length (code p₂)) (expr_heights 2 p₃ ++ (3 ∷ [])) = rw k₂ at (at_right (expr_heights 1 p₂) s₁) in
        let s₃ : At H (a + length (code p₁) + length (code p₂) + length (code p₃)) (3 ∷ []) = rw k₃ at (at_right (expr_heights 2 p₃) s₂) in
        ok_append (expr_ok p₁ 0 a (omega (arith, parameter_need h₁)) (at_left (expr_heights 0 p₁) _ s) (omega arith) (expr_starts 1 p₂ (at_left (expr_heights 1 p₂) _ s₁)))
        (ok_append (expr_ok p₂ 1 _ (omega (arith, parameter_need h₂)) (at_left (expr_heights 1 p₂) _ s₁) (omega arith) (expr_starts 2 p₃ (at_left (expr_heights 2 p₃) _ s₂)))
        (ok_append (expr_ok p₃ 2 _ (omega (arith, parameter_need h₃)) (at_left (expr_heights 2 p₃) _ s₂) (omega arith) (height s₃))
        (ok_step 3 (height s₃) three (omega arith) (next 0 (omega arith) (rw q at z) refl) ok_none)))

-- ---- statements

zeros_start : {H : List ℕ} (m a : ℕ) → At H a (replicate m 0) → height_at H (a + m) ≡ 0 → height_at H a ≡ 0
zeros_start zero a s z = let e : a + zero ≡ a = omega arith in rw e at z
zeros_start (suc m) a s z = height s

third_parameter : (p : Option Expr) → OptionalParameter p → IsParameter (third p)
third_parameter none h = IsParameter.constant
third_parameter (some e) h = h

module _ (deck : List Statement) (good : Stands deck) where
  end_words : (s : Statement) → s.form ≡ end → 1 ≤ words deck s
  end_words s e =
      let l = words_code deck (address_of deck) NEG s in
      let c : 1 ≤ length (form_code (held_of deck) (dims_of deck) (address_of deck) NEG s.form) = rw e (omega arith) in
      omega (arith, simp length-append at l)

  -- every statement's address is in the code
  pub below : (j : ℕ) → j < length deck → address_at deck j < length (code_of deck)
  below j h = go (at_some deck (length deck - 1) (omega (arith, good.some)))
    where
      go : (x : Statement) × (get_elem? deck (length deck - 1) ≡ some x) → address_at deck j < length (code_of deck)
      go x = finish (good.follows (length deck - 1) x.0 x.1)
        where
          finish : (suc (length deck - 1) < length deck) ⊎ ((x.0.form ≡ end) × (endings deck x.0.number ≡ [])) → address_at deck j < length (code_of deck)
          finish (inl l) = absurd (omega arith)
          finish (inr e) =
              omega (arith, end_words x.0 e.0, address_suc deck (length deck - 1) x.0 x.1, address_grows deck j (length deck - 1) (omega arith), address_most deck (suc (length deck - 1)))

  module _ (top : ℕ) (enough : 2 * levels_in deck + 3 ≤ top) where
    abbrev Fits : ℕ → List Instr → Type 0
    Fits a is = Ok top (length (code_of deck)) (deck_heights deck) a is

    abbrev code_for : ℕ → Form → List Instr
    code_for q f = form_code (held_of deck) (dims_of deck) (address_of deck) (enter_code deck q f) f

    exits_lead : (ns : List Digits) → ((n : Digits) → Among n ns → position_of deck (value_of n) < length deck)
        → Leads (length (code_of deck)) (deck_heights deck) 0 (map (λ n. address_of deck (value_of n)) ns)
    exits_lead [] h = nowhere
    exits_lead (n ∷ ns) h =
        to (below (position_of deck (value_of n)) (h n here)) (height_zero deck (position_of deck (value_of n))) (exits_lead ns (λ m r. h m (there r)))

    store_ok : (t : Target) (e : Expr) (a : ℕ) → need e ≤ top → At (deck_heights deck) a (expr_heights 0 e ++ (1 ∷ []))
        → suc (a + length (expr_code (held_of deck) (dims_of deck) e)) < length (code_of deck) → height_at (deck_heights deck) (suc (a + length (expr_code (held_of deck) (dims_of deck) e))) ≡ 0
        → Fits a (expr_code (held_of deck) (dims_of deck) e ++ (store_code (held_of deck) (dims_of deck) t ∷ []))
    store_ok (cell v) e a h s l z = taken_ok (held_of deck) (dims_of deck) e _ a h s (omega arith) refl (next 0 l z refl)
    store_ok (element v x) e a h s l z = taken_ok (held_of deck) (dims_of deck) e _ a h s (omega arith) refl (next 0 l z refl)

    form_ok : (q : ℕ) (f : Form) (a : ℕ) → Shaped f → 2 * form_levels f + 3 ≤ top → ((n : Digits) → Among n (form_exits f) → position_of deck (value_of n) < length deck)
        → At (deck_heights deck) a (form_heights f) → a + length (code_for q f) < length (code_of deck) → height_at (deck_heights deck) (a + length (code_for q f)) ≡ 0 → Fits a (code_for q f)
    unfolding form_levels form_exits
    form_ok q (assign t e) a h v x s l z =
        let k : a + length (code_for q (assign t e)) ≡ suc (a + length (expr_code (held_of deck) (dims_of deck) e)) = simp length-append (omega arith) in
        store_ok t e a (omega (arith, sum_need h)) s (omega arith) (rw k at z)
    form_ok q (go_to n) a h v x s l z = ok_step 0 (height s) (omega arith) (omega arith) (exits_lead (n ∷ []) x) ok_none
    form_ok q (computed ns w) a h v x s l z =
        ok_step 0 (height s) (omega arith) (omega arith) (next 1 (omega arith) (height (at_tail s)) refl)
        (ok_step 1 (height (at_tail s)) (omega arith) (omega arith) (exits_lead ns x) ok_none)
    form_ok q (ifs e b c d) a h v x s l z =
        let k : a + length (code_for q (ifs e b c d)) ≡ suc (a + length (expr_code (held_of deck) (dims_of deck) e)) = simp length-append (omega arith) in
        taken_ok (held_of deck) (dims_of deck) e _ a (omega (arith, sum_need h)) s (omega arith) refl (exits_lead (b ∷ c ∷ d ∷ []) x)
    form_ok q (loop n w p₁ p₂ p₃) a h v x s l z =
        loop_ok (held_of deck) (dims_of deck) p₁ p₂ (third p₃) _ _ a (omega arith) h.0 h.1 (third_parameter p₃ h.2) s l z
    form_ok q continue a h v x s l z = ok_none
    form_ok q stop a h v x s l z = ok_step 0 (height s) (omega arith) (omega arith) nowhere ok_none
    form_ok q end a h v x s l z = ok_step 0 (height s) (omega arith) (omega arith) nowhere ok_none
    form_ok q (dimension arrays) a h v x s l z = ok_none

    ends_ok : (es : List Do) (a : ℕ) → ((d : Do) → Among d es → suc d.position < length deck) → At (deck_heights deck) a (replicate (length es) 0)
        → a + length es < length (code_of deck) → height_at (deck_heights deck) (a + length es) ≡ 0 → Fits a (map (do_instr deck DOE) es)
    ends_ok [] a b s l z = ok_none
    ends_ok (d ∷ es) a b s l z =
        let e : a + suc (length es) ≡ suc a + length es = omega arith in
        let z' : height_at (deck_heights deck) (suc a + length es) ≡ 0 = rw e at z in
        ok_step 0 (height s) (omega arith) (omega arith)
        (to (below (suc d.position) (b d here)) (height_zero deck (suc d.position)) (next 0 (omega arith) (zeros_start (length es) (suc a) (at_tail s) z') refl))
        (ends_ok es (suc a) (λ c r. b c (there r)) (at_tail s) (omega arith) z')

    statement_ok : (j : ℕ) (s : Statement) → get_elem? deck j ≡ some s → Fits (address_at deck j) (statement_code deck j s)
    statement_ok j s e = go (good.follows j s e)
      where
        go : (suc j < length deck) ⊎ ((s.form ≡ end) × (endings deck s.number ≡ [])) → Fits (address_at deck j) (statement_code deck j s)
        go (inl l) =
            let a : ℕ = address_at deck j in
            let w = words_code deck (address_of deck) (enter_code deck j s.form) s in
            let w' = simp (length-append, length-map) at w in
            let t = heights_at deck j s e in
            let k = length_form (held_of deck) (dims_of deck) (address_of deck) (enter_code deck j s.form) s.form in
            let q : address_at deck (suc j) ≡ a + length (code_for j s.form) + length (endings deck s.number) = omega (arith, address_suc deck j s e) in
            let t₂ : At (deck_heights deck) (a + length (code_for j s.form)) (replicate (length (endings deck s.number)) 0) = rw k at (at_right (form_heights s.form) t) in
            let n : a + length (code_for j s.form) + length (endings deck s.number) < length (code_of deck) = omega (arith, below (suc j) l) in
            let z : height_at (deck_heights deck) (a + length (code_for j s.form) + length (endings deck s.number)) ≡ 0 = rw q at (height_zero deck (suc j)) in
            ok_append (form_ok j s.form a (good.shaped j s e) (omega (arith, levels_deck deck j s e)) (good.exits j s e) (at_left (form_heights s.form) _ t) (omega arith) (zeros_start (length (endings deck s.number)) _ t₂ z))
            (ends_ok (endings deck s.number) _ (good.bodies s.number) t₂ n z)
        go (inr r) = rw (r.0, r.1) (ok_step 0 (height_zero deck j) (omega arith) (omega arith) nowhere ok_none)

    from_ok : (q : ℕ) (more : List Statement) (a : ℕ) → ((j : ℕ) (s : Statement) → get_elem? more j ≡ some s → Fits (a + address_in deck more j) (statement_code deck (q + j) s))
        → Fits a (code_from deck q more)
    from_ok q [] a h = ok_none
    from_ok q (s ∷ more) a h =
        let w = words_code deck (address_of deck) (enter_code deck q s.form) s in
        ok_append (rw (add-zero a, add-zero q) at (h 0 s refl))
        (from_ok (suc q) more (a + length (statement_code deck q s)) (λ j t e.
        let p : a + address_in deck (s ∷ more) (suc j) ≡ a + length (statement_code deck q s) + address_in deck more j = omega arith in
        let p' : q + suc j ≡ suc q + j = omega arith in
        rw (p, p') at (h (suc j) t e)))

    pub code_ok : Ok top (length (code_of deck)) (deck_heights deck) 0 (code_of deck)
    unfolding code_of address_at
    code_ok = from_ok 0 deck 0 (λ j s e. rw (zero-add (address_in deck deck j), zero-add j) (statement_ok j s e))
