-- Code that differs in addresses and in DOs' entries only has the same words, but for its jumps.
-- Assumes nothing.
use mathlib.Core.Path.{◌≡◌, refl, sym, ap, ◌∙◌}
use Prim.Native.Nat.{ℕ, suc, ◌+◌, ◌*◌, ◌^◌}
use native.Mathlib.Omega.{arith}
use mathlib.Core.List.{List, [], ◌∷◌, ◌++◌}
use lib.ListN.{length, length-append, length-map}
use Rattle.rules_object.specs.Object.{Element, Loop}
use Rattle.rules_object.specs.Operations.{Listed, Instr, HLT, CON, LOD, STO, LDE, STE, OP, NEG, JMP, BR3, BRC, DOI, DOE, READ, PRINT, operation_number}
use Rattle.rules_text.specs.Trees.{Name, value_of, Form, assign, go_to, computed, ifs, loop, continue, stop, end, dimension}
use Rattle.rules_deck.specs.Deck.{Dims}
use Rattle.rules_deck.specs.Meaning.{third}
use Rattle.rules_deck.specs.Translation.{Held, expr_code, form_code, Tables, pool, pool_at, add_element, add_exits, list_elements, add_transfer, tables_after, word_of, emit, tables_of}
use Rattle.take_draft.specs.Draft.{kind_of}

-- ---- tables

pub record Alike (T U : Tables) : Type 0 where
  pub constants : T.constants ≡ U.constants
  pub elements : length T.elements ≡ length U.elements
  pub exits : length T.exits ≡ length U.exits
  pub transfers : length T.transfers ≡ length U.transfers

pub alike_self : (T : Tables) → Alike T T
alike_self T = record { constants = refl; elements = refl; exits = refl; transfers = refl }

-- ---- instructions

pub data Like : Instr → Instr → Type 0 where
  same : (i : Instr) → Like i i
  three : {a b c d e f : ℕ} → Like (BR3 a b c) (BR3 d e f)
  many : {ts us : List ℕ} → length ts ≡ length us → Like (BRC ts) (BRC us)
  enter : {n m : ℕ} {d e : Loop} → n ≡ m → Like (DOI n d) (DOI m e)

word_same : {T U : Tables} → Alike T U → (i : Instr) → word_of T i ≡ word_of U i
unfolding word_of
word_same a (HLT x) = refl
word_same a (CON c) = ap (λ (l : List ℕ). operation_number (CON c) * 2 ^ 24 + pool_at l c) a.constants
word_same a (LOD x) = refl
word_same a (STO x) = refl
word_same a (LDE e) = ap (λ (n : ℕ). operation_number (LDE e) * 2 ^ 24 + n) a.elements
word_same a (STE e) = ap (λ (n : ℕ). operation_number (STE e) * 2 ^ 24 + n) a.elements
word_same a (OP o) = refl
word_same a NEG = refl
word_same a (JMP x) = refl
word_same a (BR3 x y z) = ap (λ (n : ℕ). operation_number (BR3 x y z) * 2 ^ 24 + n) a.exits
word_same a (BRC ts) = ap (λ (n : ℕ). operation_number (BRC ts) * 2 ^ 24 + n) a.exits
word_same a (DOI n d) = refl
word_same a (DOE n d) = refl
word_same a (READ n f list) = ap (λ (x : ℕ). operation_number (READ n f list) * 2 ^ 24 + x) a.transfers
word_same a (PRINT n f list) = ap (λ (x : ℕ). operation_number (PRINT n f list) * 2 ^ 24 + x) a.transfers

word_like : {T U : Tables} {i j : Instr} → Alike T U → Like i j → word_of T i ≡ word_of U j
unfolding word_of
word_like a (same i) = word_same a i
word_like h (three {a} {b} {c}) = ap (λ (n : ℕ). operation_number (BR3 a b c) * 2 ^ 24 + n) h.exits
word_like a (many {ts} e) = ap (λ (n : ℕ). operation_number (BRC ts) * 2 ^ 24 + n) a.exits
word_like a (enter {n} {m} {d} {e} p) = ap (λ (x : ℕ). operation_number (DOI n d) * 2 ^ 24 + x) p

longer : {A : Type 0} (k l xs ys : List A) → length k ≡ length l → length xs ≡ length ys → length (k ++ xs) ≡ length (l ++ ys)
longer k l xs ys e f = omega (arith, e, f, length-append k xs, length-append l ys)

module _ {T U : Tables} (a : Alike T U) where
  with_element : (e : Element) → Alike (add_element T e) (add_element U e)
  with_element e = record { constants = a.constants; elements = longer T.elements U.elements (e ∷ []) (e ∷ []) a.elements refl; exits = a.exits; transfers = a.transfers }

  with_exits_lem : (xs ys : List ℕ) → length xs ≡ length ys → Alike (add_exits T xs) (add_exits U ys)
  with_exits_lem xs ys e = record { constants = a.constants; elements = a.elements; exits = longer T.exits U.exits xs ys a.exits e; transfers = a.transfers }

  with_transfer : (n : ℕ) (list : List Listed) → Alike (add_transfer T n list) (add_transfer U n list)
  with_transfer n list =
      record {
        constants = a.constants;
        elements = longer T.elements U.elements (list_elements list) (list_elements list) a.elements refl;
        exits = a.exits;
        transfers = longer T.transfers U.transfers _ _ a.transfers refl;
      }

after_same : {T U : Tables} → Alike T U → (i : Instr) → Alike (tables_after T i) (tables_after U i)
after_same a (HLT x) = a
after_same a (CON c) = record { constants = ap (λ (l : List ℕ). pool l c) a.constants; elements = a.elements; exits = a.exits; transfers = a.transfers }
after_same a (LOD x) = a
after_same a (STO x) = a
after_same a (LDE e) = with_element a e
after_same a (STE e) = with_element a e
after_same a (OP o) = a
after_same a NEG = a
after_same a (JMP x) = a
after_same a (BR3 x y z) = with_exits_lem a (x ∷ y ∷ z ∷ []) (x ∷ y ∷ z ∷ []) refl
after_same a (BRC ts) = with_exits_lem a (length ts ∷ ts) (length ts ∷ ts) refl
after_same a (DOI n d) = a
after_same a (DOE n d) = a
after_same a (READ n f list) = with_transfer a n list
after_same a (PRINT n f list) = with_transfer a n list

after_like : {T U : Tables} {i j : Instr} → Alike T U → Like i j → Alike (tables_after T i) (tables_after U j)
after_like a (same i) = after_same a i
after_like h (three {a} {b} {c} {d} {e} {f}) = with_exits_lem h (a ∷ b ∷ c ∷ []) (d ∷ e ∷ f ∷ []) refl
after_like a (many {ts} {us} e) = with_exits_lem a (length ts ∷ ts) (length us ∷ us) (ap suc e)
after_like a (enter p) = a

-- ---- code

pub data Likes : List Instr → List Instr → Type 0 where
  no_more : Likes [] []
  more : {i j : Instr} {is js : List Instr} → Like i j → Likes is js → Likes (i ∷ is) (j ∷ js)

likes_self : (is : List Instr) → Likes is is
likes_self [] = no_more
likes_self (i ∷ is) = more (same i) (likes_self is)

likes_after : (is : List Instr) {js ks : List Instr} → Likes js ks → Likes (is ++ js) (is ++ ks)
likes_after [] l = l
likes_after (i ∷ is) l = more (same i) (likes_after is l)

pub emit_like : {T U : Tables} {is js : List Instr} → Alike T U → Likes is js → emit T is ≡ emit U js
emit_like a no_more = refl
emit_like {T} {U} a (more {i} {j} {is} {js} l ls) =
    ap (λ (w : ℕ). w ∷ emit (tables_after T i) is) (word_like a l) ∙ ap (λ (ws : List ℕ). word_of U j ∷ ws) (emit_like {T = tables_after T i} {U = tables_after U j} (after_like a l) ls)

pub tables_like : {T U : Tables} {is js : List Instr} → Alike T U → Likes is js → Alike (tables_of T is) (tables_of U js)
tables_like a no_more = a
tables_like {T = T} {U = U} a (more {i = i} {j = j} l ls) = tables_like {T = tables_after T i} {U = tables_after U j} (after_like a l) ls

pub emit_append : (T : Tables) (is js : List Instr) → emit T (is ++ js) ≡ emit T is ++ emit (tables_of T is) js
emit_append T [] js = refl
emit_append T (i ∷ is) js = ap (λ (ws : List ℕ). word_of T i ∷ ws) (emit_append (tables_after T i) is js)

-- ---- forms

module _ (held : List Held) (dims : Name → Dims) (address other : ℕ → ℕ) (entry plain : Instr) where
  -- every form but a GO TO
  pub form_likes : (f : Form) → (kind_of f ≡ 1 → ⊥) → (kind_of f ≡ 4 → Like entry plain) → Likes (form_code held dims address entry f) (form_code held dims other plain f)
  form_likes (assign t e) other_kind enters = likes_self _
  form_likes (go_to n) other_kind enters = absurd (other_kind refl)
  form_likes (computed ns v) other_kind enters = more (same _) (more (many (length-map ns (λ n. address (value_of n)) ∙ sym (length-map ns (λ n. other (value_of n))))) no_more)
  form_likes (ifs e a b c) other_kind enters = likes_after (expr_code held dims e) (more three no_more)
  form_likes (loop n v p₁ p₂ p₃) other_kind enters =
      likes_after (expr_code held dims p₁) (likes_after (expr_code held dims p₂) (likes_after (expr_code held dims (third p₃)) (more (enters refl) no_more)))
  form_likes continue other_kind enters = no_more
  form_likes stop other_kind enters = likes_self _
  form_likes end other_kind enters = likes_self _
  form_likes (dimension arrays) other_kind enters = no_more

  -- the tables, of every form
  pub form_tables : (f : Form) → (kind_of f ≡ 4 → Like entry plain) → {T U : Tables} → Alike T U → Alike (tables_of T (form_code held dims address entry f)) (tables_of U (form_code held dims other plain f))
  form_tables (assign t e) enters a = tables_like a (form_likes (assign t e) (λ z. omega arith) enters)
  form_tables (go_to n) enters a = a
  form_tables (computed ns v) enters a = tables_like a (form_likes (computed ns v) (λ z. omega arith) enters)
  form_tables (ifs e x b c) enters a = tables_like a (form_likes (ifs e x b c) (λ z. omega arith) enters)
  form_tables (loop n v p₁ p₂ p₃) enters a = tables_like a (form_likes (loop n v p₁ p₂ p₃) (λ z. omega arith) enters)
  form_tables continue enters a = a
  form_tables stop enters a = a
  form_tables end enters a = a
  form_tables (dimension arrays) enters a = a
