-- The heights of a deck's code, a height an instruction; how high an expression goes; every statement begins at height 0.
-- Assumes nothing.
use mathlib.Core.Path.{◌≡◌, refl, ◌∙◌}
use Prim.Native.Nat.{ℕ, zero, suc, ◌+◌, ◌*◌, ◌≤◌, max}
use native.Mathlib.Omega.{arith}
use mathlib.Core.List.{List, [], ◌∷◌, ◌++◌, append_assoc}
use mathlib.Core.Option.{some}
use lib.ListN.{length, get_elem?, replicate, length-append, length-replicate}
use lib.Seq.{get_or-append-add}
use Rattle.rules_object.specs.Operations.{Instr, NEG}
use Rattle.rules_object.specs.Flow.{height_at}
use Rattle.rules_text.specs.Trees.{Name, Expr, con, var, elm, neg, par, bin, levels, Form, assign, go_to, computed, ifs, loop, continue, stop, end, dimension, Statement, form_levels}
use Rattle.rules_deck.specs.Deck.{Dims, dims_of, endings}
use Rattle.rules_deck.specs.Seen.{levels_in}
use Rattle.rules_deck.specs.Meaning.{third}
use Rattle.rules_deck.specs.Translation.{Held, held_of, expr_code, form_code, words, address_in, address_at, address_of, enter_code, code_from, code_of}
use Rattle.rules_text.specs.Shaped.{IsSum, first, minus, plus, less, IsProduct, only, times, over, IsFactor, parens, IsParameter}
use Rattle.rules_deck.proofs.Addresses.{At, at_shift, at_front, words_code}

-- ---- how high an expression goes above where it starts

abbrev pub need : Expr → ℕ
need (con c) = 1
need (var v) = 1
need (elm v s) = 1
need (neg e) = need e
need (par e) = need e
need (bin o a b) = max (need a) (suc (need b))

pub need_some : (e : Expr) → 1 ≤ need e
need_some (con c) = omega arith
need_some (var v) = omega arith
need_some (elm v s) = omega arith
need_some (neg e) = need_some e
need_some (par e) = need_some e
need_some (bin o a b) = omega (arith, need_some b)

mutual
  pub sum_need : {e : Expr} → IsSum e → need e ≤ 2 * levels e + 3
  sum_need (first f) = omega (arith, product_need f)
  sum_need (minus f) = omega (arith, product_need f)
  sum_need (plus f g) = omega (arith, sum_need f, product_need g)
  sum_need (less f g) = omega (arith, sum_need f, product_need g)

  product_need : {e : Expr} → IsProduct e → need e ≤ 2 * levels e + 2
  product_need (only f) = omega (arith, factor_need f)
  product_need (times f g) = omega (arith, product_need f, factor_need g)
  product_need (over f g) = omega (arith, product_need f, factor_need g)

  factor_need : {e : Expr} → IsFactor e → need e ≤ 2 * levels e + 1
  factor_need IsFactor.constant = omega arith
  factor_need IsFactor.name = omega arith
  factor_need IsFactor.element = omega arith
  factor_need (parens f) = omega (arith, sum_need f)

pub parameter_need : {e : Expr} → IsParameter e → need e ≡ 1
parameter_need IsParameter.constant = refl
parameter_need IsParameter.name = refl

pub levels_deck : (deck : List Statement) (j : ℕ) (s : Statement) → get_elem? deck j ≡ some s → form_levels s.form ≤ levels_in deck
levels_deck [] j s e = let z : ◌≡◌ {A = ℕ} 0 1 = cc in absurd (omega arith)
levels_deck (t ∷ deck) zero s e = let same : t ≡ s = cc in rw (← same) (omega arith)
levels_deck (t ∷ deck) (suc j) s e = omega (arith, levels_deck deck j s e)

pub deck_levels_lem : (top : ℕ) (deck : List Statement) → ((j : ℕ) (s : Statement) → get_elem? deck j ≡ some s → form_levels s.form ≤ top) → levels_in deck ≤ top
deck_levels_lem top [] h = omega arith
deck_levels_lem top (t ∷ deck) h = omega (arith, h 0 t refl, deck_levels_lem top deck (λ j s e. h (suc j) s e))

-- ---- the heights

-- an expression's, from height h
abbrev pub expr_heights : ℕ → Expr → List ℕ
expr_heights h (con c) = h ∷ []
expr_heights h (var v) = h ∷ []
expr_heights h (elm v s) = h ∷ []
expr_heights h (neg e) = expr_heights h e ++ (suc h ∷ [])
expr_heights h (par e) = expr_heights h e
expr_heights h (bin o a b) = expr_heights h a ++ (expr_heights (suc h) b ++ (suc (suc h) ∷ []))

abbrev pub form_heights : Form → List ℕ
form_heights (assign t e) = expr_heights 0 e ++ (1 ∷ [])
form_heights (go_to n) = 0 ∷ []
form_heights (computed ns v) = 0 ∷ 1 ∷ []
form_heights (ifs e a b c) = expr_heights 0 e ++ (1 ∷ [])
form_heights (loop n v p₁ p₂ p₃) = expr_heights 0 p₁ ++ (expr_heights 1 p₂ ++ (expr_heights 2 (third p₃) ++ (3 ∷ [])))
form_heights continue = []
form_heights stop = 0 ∷ []
form_heights end = 0 ∷ []
form_heights (dimension arrays) = []

pub length_expr : (held : List Held) (dims : Name → Dims) (h : ℕ) (e : Expr) → length (expr_heights h e) ≡ length (expr_code held dims e)
length_expr held dims h (con c) = refl
length_expr held dims h (var v) = refl
length_expr held dims h (elm v s) = refl
length_expr held dims h (neg e) = simp length-append (omega (arith, length_expr held dims h e))
length_expr held dims h (par e) = length_expr held dims h e
length_expr held dims h (bin o a b) = simp length-append (omega (arith, length_expr held dims h a, length_expr held dims (suc h) b))

pub length_form : (held : List Held) (dims : Name → Dims) (address : ℕ → ℕ) (entry : Instr) (f : Form)
    → length (form_heights f) ≡ length (form_code held dims address entry f)
length_form held dims address entry (assign t e) = simp length-append (omega (arith, length_expr held dims 0 e))
length_form held dims address entry (go_to n) = refl
length_form held dims address entry (computed ns v) = refl
length_form held dims address entry (ifs e a b c) = simp length-append (omega (arith, length_expr held dims 0 e))
length_form held dims address entry (loop n v p₁ p₂ p₃) =
    simp length-append (omega (arith, length_expr held dims 0 p₁, length_expr held dims 1 p₂, length_expr held dims 2 (third p₃)))
length_form held dims address entry continue = refl
length_form held dims address entry stop = refl
length_form held dims address entry end = refl
length_form held dims address entry (dimension arrays) = refl

expr_first : (h : ℕ) (e : Expr) (rest : List ℕ) → height_at (expr_heights h e ++ rest) 0 ≡ h
expr_first h (con c) rest = refl
expr_first h (var v) rest = refl
expr_first h (elm v s) rest = refl
expr_first h (neg e) rest = rw append_assoc (expr_first h e ((suc h ∷ []) ++ rest))
expr_first h (par e) rest = expr_first h e rest
expr_first h (bin o a b) rest = rw append_assoc (expr_first h a ((expr_heights (suc h) b ++ (suc (suc h) ∷ [])) ++ rest))

-- the first height is 0, whatever comes first
form_first_lem : (f : Form) (rest : List ℕ) → height_at rest 0 ≡ 0 → height_at (form_heights f ++ rest) 0 ≡ 0
form_first_lem (assign t e) rest z = rw append_assoc (expr_first 0 e ((1 ∷ []) ++ rest))
form_first_lem (go_to n) rest z = refl
form_first_lem (computed ns v) rest z = refl
form_first_lem (ifs e a b c) rest z = rw append_assoc (expr_first 0 e ((1 ∷ []) ++ rest))
form_first_lem (loop n v p₁ p₂ p₃) rest z = rw append_assoc (expr_first 0 p₁ ((expr_heights 1 p₂ ++ (expr_heights 2 (third p₃) ++ (3 ∷ []))) ++ rest))
form_first_lem continue rest z = z
form_first_lem stop rest z = refl
form_first_lem end rest z = refl
form_first_lem (dimension arrays) rest z = z

zeros_first : (n : ℕ) (rest : List ℕ) → height_at rest 0 ≡ 0 → height_at (replicate n 0 ++ rest) 0 ≡ 0
zeros_first zero rest z = z
zeros_first (suc n) rest z = refl

module _ (deck : List Statement) where
  -- DOEs stand at 0
  abbrev pub statement_heights : Statement → List ℕ
  statement_heights s = form_heights s.form ++ replicate (length (endings deck s.number)) 0

  abbrev pub heights_from : List Statement → List ℕ
  heights_from [] = []
  heights_from (s ∷ more) = statement_heights s ++ heights_from more

  unfoldable pub deck_heights : List ℕ
  deck_heights = heights_from deck

  length_statement : (s : Statement) → length (statement_heights s) ≡ words deck s
  unfolding words
  length_statement s = simp (length-append, length-replicate, length_form (held_of deck) (dims_of deck) (λ n. 0) NEG s.form)

  from_first : (more : List Statement) → height_at (heights_from more) 0 ≡ 0
  from_first [] = refl
  from_first (s ∷ more) =
      rw append_assoc (form_first_lem s.form (replicate (length (endings deck s.number)) 0 ++ heights_from more)
      (zeros_first (length (endings deck s.number)) (heights_from more) (from_first more)))

  from_zero : (more : List Statement) (j : ℕ) → height_at (heights_from more) (address_in deck more j) ≡ 0
  from_zero [] j = refl
  from_zero (s ∷ more) zero = from_first (s ∷ more)
  from_zero (s ∷ more) (suc j) = rw (← length_statement s) (get_or-append-add (statement_heights s) (heights_from more) (address_in deck more j) 0 ∙ from_zero more j)

  from_at : (more : List Statement) (j : ℕ) (s : Statement) → get_elem? more j ≡ some s → At (heights_from more) (address_in deck more j) (statement_heights s)
  from_at [] j s e = let z : ◌≡◌ {A = ℕ} 0 1 = cc in absurd (omega arith)
  from_at (t ∷ more) zero s e = let same : t ≡ s = cc in rw (← same) (at_front (statement_heights t) (heights_from more))
  from_at (t ∷ more) (suc j) s e = rw (← length_statement t) (at_shift (statement_heights t) (from_at more j s e))

  from_length : (q : ℕ) (more : List Statement) → length (heights_from more) ≡ length (code_from deck q more)
  from_length q [] = refl
  from_length q (s ∷ more) =
      let w = words_code deck (address_of deck) (enter_code deck q s.form) s in
      simp length-append (omega (arith, simp length-append at w, simp length-append at (length_statement s), from_length (suc q) more))

  pub heights_length : length deck_heights ≡ length (code_of deck)
  unfolding deck_heights code_of
  heights_length = from_length 0 deck

  pub height_zero : (j : ℕ) → height_at deck_heights (address_at deck j) ≡ 0
  unfolding deck_heights address_at
  height_zero j = from_zero deck j

  pub heights_at : (j : ℕ) (s : Statement) → get_elem? deck j ≡ some s → At deck_heights (address_at deck j) (statement_heights s)
  unfolding deck_heights address_at
  heights_at j s e = from_at deck j s e
