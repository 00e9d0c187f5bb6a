-- Expressions: the postfix code, anywhere in a deck's code, pushes the value or halts alike.
-- Assumes nothing.
use mathlib.Core.Path.{◌≡◌, refl, ap, ◌∙◌, subst}
use Prim.Native.Nat.{ℕ, suc, ◌+◌, ◌≤◌}
use native.Mathlib.Omega.{arith}
use mathlib.Core.List.{List, ◌∷◌, ◌++◌}
use mathlib.Core.Option.{Option, none, some}
use lib.ListN.{length, get_elem?, length-append}
use lib.IntN.{ℤ, pos}
use Rattle.number.specs.Number.{Op, Result, value, by_zero, apply, Loss, trouble}
use Rattle.rules_shared.specs.House.{House}
use Rattle.rules_shared.specs.Runs.{go, halt}
use Rattle.rules_shared.specs.Choose.{right}
use Rattle.rules_shared.proofs.Places.{right_constant_lem, place_same}
use Rattle.rules_formats.specs.Walk.{Devices}
use Rattle.rules_object.specs.Operations.{Instr, LDE, OP, NEG}
use Rattle.rules_object.specs.Machine.{cell, subscript_of, place_of, element_loaded, operated}
use Rattle.rules_object.proofs.States.{state}
use Rattle.rules_text.specs.Trees.{Name, value_of, Subscript, constant, linear, Subscripts, one, two, subscript_names, subscripts_names, Expr, con, var, elm, neg, par, bin, Statement}
use Rattle.rules_deck.specs.Deck.{dims_of}
use Rattle.rules_deck.specs.Meaning.{Cause, plain, element_at, Values, Evaluated, val, bad, subscript, place_in, element_value, after, negated, joined, eval}
use Rattle.rules_deck.specs.Cost.{and_one, joined_steps, expr_steps}
use Rattle.rules_deck.specs.Translation.{Held, base_of, held_of, expr_plain, subscript_entry, element_entry, expr_code, code_of}
use Rattle.rules_deck.specs.Accepted.{Among, here, Fitting}
use Rattle.rules_deck.specs.Cells.{key, Has, Holds}
use Rattle.rules_deck.specs.Seen.{halt_of}
use Rattle.rules_deck.proofs.Addresses.{At, at_head, at_left, at_right}
use Rattle.rules_deck.proofs.DeckCells.{among_left, among_right, element_has}
use Rattle.rules_deck.proofs.Marks.{Marked, quiet, widen, marked_then, marked_one}
use Rattle.rules_deck.proofs.MachineRuns.{ruled, Runs, stay, and_then, on, out}

-- every name of the list has a cell
pub record Known (held : List Held) (vs : List Name) : Type 0 where
  pub has : (v : Name) → Among v vs → Has held (key (plain v))

pub known_left : {held : List Held} {l : List Name} (m : List Name) → Known held (l ++ m) → Known held l
known_left m k = record { has = λ v a. k.has v (among_left m a) }

pub known_right : {held : List Held} (l : List Name) {m : List Name} → Known held (l ++ m) → Known held m
known_right l k = record { has = λ v a. k.has v (among_right l a) }

-- The code from `pc` up to `pc'` pushes the value, in as many steps as it has words; or some of it leads to the halt, at the last word reached. In n steps.
pub data Gives (house : House) (deck : List Statement) (devices : Devices) (pc pc' : ℕ) (s c : List ℤ) (m n : ℕ) : Evaluated → Type 0 where
  gives : {v : ℤ} {b : Loss} {m' : ℕ} → Runs house deck n (state pc s c m devices) (go (state pc' (v ∷ s) c m' devices)) → pc + n ≡ pc' → Marked pc pc' m m' b → Gives house deck devices pc pc' s c m n (val v b)
  stops : {h : Cause} {b : Loss} {p m' : ℕ} {s' : List ℤ} → Runs house deck n (state pc s c m devices) (halt (halt_of h) (state p s' c m' devices)) → pc + n ≤ pc' → suc p ≡ pc + n → Marked pc pc' m m' b → Gives house deck devices pc pc' s c m n (bad h b)

module _ {house : House} {deck : List Statement} (fit : Fitting deck) {devices : Devices} {pc p₂ m : ℕ} {s c : List ℤ} where
  op_gives : (r : Result) {n m₂ : ℕ} {v w : ℤ} {d : Loss} → pc ≤ p₂ → Runs house deck n (state pc s c m devices) (go (state p₂ (w ∷ v ∷ s) c m₂ devices)) → pc + n ≡ p₂ → Marked pc p₂ m m₂ d
      → {o : Op} → get_elem? (code_of deck) p₂ ≡ some (OP o) → apply (ruled house) o v w ≡ r → Gives house deck devices pc (suc p₂) s c m (n + 1) (after d r)
  op_gives (value x e) {m₂ = m₂} {v = v} {w = w} l p z q f a =
      gives (and_then p (on fit f (ap (λ r. operated r (state p₂ (w ∷ v ∷ s) c m₂ devices) s) a) stay)) (omega arith)
      (marked_then (widen (omega arith) (omega arith) q) (widen l (omega arith) (marked_one e m₂ p₂)))
  op_gives (trouble by_zero) {m₂ = m₂} {v = v} {w = w} l p z q f a =
      stops {p = p₂} (and_then p (out fit f (ap (λ r. operated r (state p₂ (w ∷ v ∷ s) c m₂ devices) s) a))) (omega arith) (omega arith) (widen (omega arith) (omega arith) q)

  -- the first operand has run, the second has run or halts
  second_gives : {p₁ n n₂ m₁ : ℕ} {v : ℤ} {d : Loss} {rb : Evaluated} {o : Op} → pc ≤ p₁ → p₁ ≤ p₂ → Runs house deck n (state pc s c m devices) (go (state p₁ (v ∷ s) c m₁ devices)) → pc + n ≡ p₁
      → Marked pc p₁ m m₁ d → Gives house deck devices p₁ p₂ (v ∷ s) c m₁ n₂ rb → get_elem? (code_of deck) p₂ ≡ some (OP o)
      → Gives house deck devices pc (suc p₂) s c m (joined_steps (val v d) rb n n₂) (joined (ruled house) o (val v d) rb)
  second_gives l₁ l₂ p z q (gives p' z' q') f =
      op_gives (apply (ruled house) _ _ _) (omega arith) (and_then p p') (omega arith) (marked_then (widen (omega arith) l₂ q) (widen l₁ (omega arith) q')) f refl
  second_gives l₁ l₂ p z q (stops {p = i} p' z' y' q') f =
      stops {p = i} (and_then p p') (omega arith) (omega arith) (marked_then (widen (omega arith) (omega arith) q) (widen l₁ (omega arith) q'))

  join_gives : {p₁ n n₂ : ℕ} {ra rb : Evaluated} {o : Op} → pc ≤ p₁ → p₁ ≤ p₂ → Gives house deck devices pc p₁ s c m n ra → ((v : ℤ) (m' : ℕ) → Gives house deck devices p₁ p₂ (v ∷ s) c m' n₂ rb)
      → get_elem? (code_of deck) p₂ ≡ some (OP o) → Gives house deck devices pc (suc p₂) s c m (joined_steps ra rb n n₂) (joined (ruled house) o ra rb)
  join_gives l₁ l₂ (stops p z y q) g f = stops p (omega arith) y (widen (omega arith) (omega arith) q)
  join_gives l₁ l₂ (gives p z q) g f = second_gives l₁ l₂ p z q (g _ _) f

  neg_gives : {n : ℕ} {r : Evaluated} → Gives house deck devices pc p₂ s c m n r → get_elem? (code_of deck) p₂ ≡ some NEG → Gives house deck devices pc (suc p₂) s c m (and_one r n) (negated r)
  neg_gives (gives p z q) f = gives (and_then p (on fit f refl stay)) (omega arith) (widen (omega arith) (omega arith) q)
  neg_gives (stops p z y q) f = stops p (omega arith) y (widen (omega arith) (omega arith) q)

-- ---- elements: the entry finds the place that the subscripts find

module _ (deck : List Statement) {env : Values} {c : List ℤ} (h : Holds (held_of deck) env c) where
  -- a constant is entered with the multiplier 0 and a cell
  same_right : (d : ℕ) (s : Subscript) → Known (held_of deck) (subscript_names s) → right d (subscript_of c (subscript_entry (held_of deck) (dims_of deck) s)) ≡ right d (subscript env s)
  same_right d (constant n) f = right_constant_lem d (cell c 0) (pos 0) (pos (value_of n))
  same_right d (linear m v a) f = rw (h.same (plain v) (f.has v here))

  pub place_value : (v : Name) (s : Subscripts) → Known (held_of deck) (subscripts_names s) → place_of c (element_entry (held_of deck) (dims_of deck) v s) ≡ place_in env (dims_of deck v) s
  place_value v (one s) f = place_same _ _ _ _ _ _ (same_right _ s f) (right_constant_lem _ (cell c 0) (pos 0) (pos 1))
  place_value v (two s t) f = place_same _ _ _ _ _ _ (same_right _ s (known_left (subscript_names t) f)) (same_right _ t (known_right (subscript_names s) f))

  elem_sim : {house : House} {devices : Devices} {pc m : ℕ} {s : List ℤ} → Fitting deck → (v : Name) (ss : Subscripts) → get_elem? (code_of deck) pc ≡ some (LDE (element_entry (held_of deck) (dims_of deck) v ss))
      → (o : Option ℕ) → place_of c (element_entry (held_of deck) (dims_of deck) v ss) ≡ o → place_in env (dims_of deck v) ss ≡ o → Gives house deck devices pc (suc pc) s c m 1 (element_value env v o)
  elem_sim {devices = devices} {pc = pc} {m = m} {s = s} fit v ss a none e i =
      stops {p = pc} (out fit a (ap (λ o. element_loaded o (element_entry (held_of deck) (dims_of deck) v ss) (state pc s c m devices)) e)) (omega arith) (omega arith) (quiet refl refl)
  elem_sim {devices = devices} {pc = pc} {m = m} {s = s} fit v ss a (some p) e i =
      let q : cell c (base_of (held_of deck) v + p) ≡ env (element_at v p) = h.same (element_at v p) (element_has deck env v ss p i) in
      gives (on fit a (ap (λ o. element_loaded o (element_entry (held_of deck) (dims_of deck) v ss) (state pc s c m devices)) e ∙ ap (λ x. go (state (suc pc) (x ∷ s) c m devices)) q) stay) (omega arith) (quiet refl refl)

-- moved to an end that is written in another way
moved : {house : House} {deck : List Statement} {devices : Devices} {pc p p' m n : ℕ} {s c : List ℤ} {r : Evaluated} → p ≡ p' → Gives house deck devices pc p s c m n r → Gives house deck devices pc p' s c m n r
moved {house} {deck} {devices} {pc} {m = m} {n = n} {s = s} {c = c} {r = r} e g = subst (λ p. Gives house deck devices pc p s c m n r) e g

abbrev code : List Statement → Expr → List Instr
code deck e = expr_code (held_of deck) (dims_of deck) e

module _ {house : House} {deck : List Statement} {devices : Devices} {env : Values} {c : List ℤ} (fit : Fitting deck) (h : Holds (held_of deck) env c) where
  pub expr_sim : (e : Expr) → Known (held_of deck) (expr_plain e) → (pc : ℕ) → At (code_of deck) pc (expr_code (held_of deck) (dims_of deck) e)
      → (s : List ℤ) (m : ℕ) → Gives house deck devices pc (pc + length (expr_code (held_of deck) (dims_of deck) e)) s c m (expr_steps (ruled house) deck env e) (eval (ruled house) deck env e)
  expr_sim (con z) f pc a s m = moved (omega arith) (gives (on fit (at_head a) refl stay) (omega arith) (quiet refl refl))
  expr_sim (var x) f pc a s m =
      rw (← h.same (plain x) (f.has x here)) (moved (omega arith) (gives (on fit (at_head a) refl stay) (omega arith) (quiet refl refl)))
  expr_sim (elm v ss) f pc a s m = moved (omega arith) (elem_sim deck h fit v ss (at_head a) (place_in env (dims_of deck v) ss) (place_value deck h v ss f) refl)
  expr_sim (neg e) f pc a s m =
      moved (simp length-append (omega arith)) (neg_gives fit (expr_sim e f pc (at_left (code deck e) _ a) s m) (at_head (at_right (code deck e) a)))
  expr_sim (par e) f pc a s m = expr_sim e f pc a s m
  expr_sim (bin o e₁ e₂) f pc a s m =
      let a₂ = at_right (code deck e₁) a in
      moved (simp length-append (omega arith)) (join_gives fit (omega arith) (omega arith) (expr_sim e₁ (known_left (expr_plain e₂) f) pc (at_left (code deck e₁) _ a) s m)
      (λ v m'. expr_sim e₂ (known_right (expr_plain e₁) f) _ (at_left (code deck e₂) _ a₂) (v ∷ s) m') (at_head (at_right (code deck e₂) a₂)))
