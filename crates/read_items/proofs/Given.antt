-- A reader's answer, taken apart and made, over plain lists; and the operands.
-- Assumes nothing.
use mathlib.Core.Path.{◌≡◌, refl, sym, ap, ◌∙◌, subst}
use mathlib.Core.List.{List, [], ◌∷◌, ◌++◌}
use Prim.Native.Nat.{ℕ, ◌+◌, ◌*◌, ◌≤◌}
use native.Mathlib.Omega.{arith}
use lib.ListN.{length, take}
use lib.Seq.{take-take, take-append-le, length-take-le}
use Rattle.rules_text.specs.Trees.{Expr, con, levels, cell, element}
use Rattle.rules_text.specs.Trees as trees
use Rattle.rules_text.specs.Tokens.{Found, found, bad, give, and_then, starts_digit, number}
use Rattle.rules_text.specs.Grammar.{place, operand_of, operand}
use Rattle.std.proofs.Common.{Option, Some, None}
use Rattle.read_tokens.specs.declared.Name.{Name}
use Rattle.read_tokens.specs.declared.Read.{Read}
use Rattle.read_tokens.specs.declared.Sizes.{Sizes}
use Rattle.read_tokens.specs.Words.{capped, name_words}
use Rattle.read_tokens.specs.Reading.{constant_size}
use Rattle.read_tokens.specs.Reading as reading
use Rattle.read_tokens.proofs.Tokens.{number_digit, digit_number}
use Rattle.read_tokens.proofs.Chains.{Upto, give_upto, choose_yes, choose_no, upto_as, then_upto, then_bad}
use Rattle.read_tokens.proofs.Chains as chains
use Rattle.read_elements.specs.declared.Element.{Element}
use Rattle.read_elements.specs.declared.Target.{Target}
use Rattle.read_elements.specs.declared.Target.TheVariants as target
use Rattle.read_elements.specs.Values.{target_value, target_sizes, target_weight}
use Rattle.read_items.specs.Items.{target_words, flat, expr_sizes}
use Rattle.read_items.specs.Parsed.{Put, items, count, depth, answer, Parsed}

-- it read a tree
pub record Took (s a b : List ℕ) (n : ℕ) (o : Found Expr) (at m : ℕ) (z : Sizes) : Type 0 where
  pub tree : Expr
  pub is : o ≡ found tree at
  pub top : m ≡ n + length (flat tree)
  pub table : take m b ≡ take n a ++ flat tree
  pub within : at ≤ length s
  pub few : length (flat tree) ≤ 5 * at
  pub sizes_is : z ≡ expr_sizes tree
  pub low : levels tree ≤ at

pub took : {s a b : List ℕ} {n : ℕ} {o : Found Expr} {r : Option (Read ℕ)} {x : Read ℕ} → Parsed s a b n o r → r ≡ Some x → Took s a b n o x.at x.value x.sizes
unfolding answer items count depth
took {s} {a} {b} {n} {o} {r} {x} h q = go o h
  where
    go : (p : Found Expr) → Parsed s a b n p r → Took s a b n p x.at x.value x.sizes
    go (found e k) h =
        let same : x ≡ record { at = k; value = n + length (flat e); sizes = expr_sizes e } = let says = h.says in cc in
        let place : k ≡ x.at = sym (ap (λ (y : Read ℕ). y.at) same) in
        let top : x.value ≡ n + length (flat e) = ap (λ (y : Read ℕ). y.value) same in
        record {
          tree = e;
          is = ap (found e) place;
          top = top;
          table = rw top h.table;
          within = omega (arith, h.within);
          few = omega (arith, h.few);
          sizes_is = ap (λ (y : Read ℕ). y.sizes) same;
          low = omega (arith, h.low);
        }
    go bad h = let says : r ≡ None = h.says in let z : ◌≡◌ {A = ℕ} 0 1 = cc in absurd (omega arith)

-- it refused: so does the book
pub refused : {s a b : List ℕ} {n : ℕ} {o : Found Expr} {r : Option (Read ℕ)} → Parsed s a b n o r → r ≡ None → o ≡ bad
unfolding answer
refused {s} {a} {b} {n} {o} {r} h q = go o h.says
  where
    go : (p : Found Expr) → r ≡ answer n p → p ≡ bad
    go (found e k) w = let z : ◌≡◌ {A = ℕ} 0 1 = cc in absurd (omega arith)
    go bad w = refl

-- the words that were there stay
pub front : {s a b : List ℕ} {n : ℕ} {o : Found Expr} {r : Option (Read ℕ)} → Parsed s a b n o r → n ≤ length a → take n b ≡ take n a
front {s} {a} {b} {n} {o} {r} h l =
    sym (take-take n (n + length (items o)) b (omega arith))
    ∙ ap (take n) h.table
    ∙ take-append-le n (take n a) (items o) (omega (arith, length-take-le n a l))
    ∙ take-take n n a (omega arith)

pub refuse : {s a b : List ℕ} {n : ℕ} {o : Found Expr} → o ≡ bad → take n b ≡ take n a → Parsed s a b n o None
unfolding answer items count depth
refuse {s} {a} {b} {n} {o} p q = subst (λ (x : Found Expr). Parsed s a b n x None) (sym p)
    (record { says = refl; table = simp (add_zero', append_nil') q; within = omega arith; few = omega arith; low = omega arith })
  where
    add_zero' : (x : ℕ) → x + 0 ≡ x
    add_zero' x = omega arith

    append_nil' : (x : List ℕ) → x ++ [] ≡ x
    append_nil' [] = refl
    append_nil' (y ∷ x) = ap (λ (l : List ℕ). y ∷ l) (append_nil' x)

pub accept : {s a b : List ℕ} {n : ℕ} {o : Found Expr} {at m : ℕ} {z : Sizes} → Took s a b n o at m z → Parsed s a b n o (Some (record { at = at; value = m; sizes = z }))
unfolding answer items count depth
accept {s} {a} {b} {n} {o} {at} {m} {z} h = subst (λ (x : Found Expr). Parsed s a b n x (Some (record { at = at; value = m; sizes = z }))) (sym h.is)
    (record { says = rw (← h.top, h.sizes_is); table = subst (λ (k : ℕ). take k b ≡ take n a ++ flat h.tree) h.top h.table; within = h.within; few = h.few; low = h.low })

pub parsed_as : {s a b : List ℕ} {n : ℕ} {o p : Found Expr} {r : Option (Read ℕ)} → p ≡ o → Parsed s a b n o r → Parsed s a b n p r
parsed_as {s} {a} {b} {n} {o} {p} {r} e h = subst (λ (x : Found Expr). Parsed s a b n x r) (sym e) h

-- ---- operands

-- one tree of no levels
leaf : {s a b : List ℕ} {n : ℕ} {o : Found Expr} {at m : ℕ} {z : Sizes} (e : Expr) (ws : List ℕ) → Upto s 0 o at e → Put a b n ws m → flat e ≡ ws
    → levels e ≡ 0 → z ≡ expr_sizes e → length ws ≤ 5 * at → Parsed s a b n o (Some (record { at = at; value = m; sizes = z }))
leaf {s} {a} {b} {n} {o} {at} {m} {z} e ws u p fe le ze few =
    let same : u.count ≡ at = omega (arith, u.ends) in
    accept (record {
      tree = e;
      is = u.is ∙ ap (found e) same;
      top = p.top ∙ ap (λ (l : List ℕ). n + length l) (sym fe);
      table = p.table ∙ ap (λ (l : List ℕ). take n a ++ l) (sym fe);
      within = u.within;
      few = subst (λ (l : List ℕ). length l ≤ 5 * at) (sym fe) few;
      sizes_is = ze;
      low = omega (arith, le);
    })

abbrev TookPlace : List ℕ → ℕ → Target → Sizes → Type 0
TookPlace s at t z = chains.Took target_value target_sizes target_weight s 0 (place s) at t z

target_words_lem : (t : trees.Target) → length (target_words (target_value t)) ≡ target_weight t
unfolding target_words target_value target_weight
target_words_lem (cell v) = refl
target_words_lem (element v s) = refl

pub place_room : {s : List ℕ} {at : ℕ} {t : Target} {z : Sizes} → TookPlace s at t z → length (target_words t) ≤ 5 * at
place_room {s} {at} {t} {z} k =
    let e : length (target_words t) ≡ target_weight k.tree = ap (λ (x : Target). length (target_words x)) k.value_is ∙ target_words_lem k.tree in
    omega (arith, k.few)

operand_words : (t : trees.Target) → flat (operand_of t) ≡ target_words (target_value t)
unfolding operand_of flat target_words target_value
operand_words (cell v) = refl
operand_words (element v s) = refl

operand_levels : (t : trees.Target) → levels (operand_of t) ≡ 0
unfolding operand_of
operand_levels (cell v) = refl
operand_levels (element v s) = refl

operand_sizes : (t : trees.Target) → target_sizes t ≡ expr_sizes (operand_of t)
unfolding operand_of target_sizes expr_sizes
operand_sizes (cell v) = refl
operand_sizes (element v s) = refl

operand_place : (s : List ℕ) → number s ≡ bad → operand s ≡ and_then place (λ t. give (operand_of t)) s
unfolding operand
operand_place s e = choose_no s 0 starts_digit _ _ (number_digit s e)

pub place_refused : {s a : List ℕ} {n : ℕ} → number s ≡ bad → place s ≡ bad → Parsed s a a n (operand s) None
place_refused {s} n e = refuse (operand_place s n ∙ then_bad s 0 place _ e) refl

pub place_read : {s a b : List ℕ} {n at m : ℕ} {t : Target} {z : Sizes} → number s ≡ bad → TookPlace s at t z → Put a b n (target_words t) m
    → Parsed s a b n (operand s) (Some (record { at = at; value = m; sizes = z }))
place_read {s} {a} {b} {n} {at} {m} {t} {z} none_here k p =
    parsed_as (operand_place s none_here)
    (leaf (operand_of k.tree) (target_words t)
    (then_upto s 0 place _ k.upto (give_upto s at (operand_of k.tree) k.upto.within)) p
    (operand_words k.tree ∙ ap target_words (sym k.value_is)) (operand_levels k.tree) (k.sizes_is ∙ operand_sizes k.tree) (place_room k))

abbrev TookNumber : List ℕ → ℕ → ℕ → Sizes → Type 0
TookNumber s at w z = chains.Took capped constant_size reading.two s 0 (number s) at w z

pub number_room : {s : List ℕ} {at w : ℕ} {z : Sizes} → TookNumber s at w z → 2 ≤ 5 * at
unfolding reading.two
number_room k = omega (arith, k.few)

pub operand_number : {s a b : List ℕ} {n at m w : ℕ} {z : Sizes} → TookNumber s at w z → Put a b n (1 ∷ w ∷ []) m → Parsed s a b n (operand s) (Some (record { at = at; value = m; sizes = z }))
unfolding operand flat expr_sizes constant_size
operand_number {s} {a} {b} {n} {at} {m} {w} {z} k p =
    leaf (con k.tree) (1 ∷ w ∷ [])
    (upto_as s 0 (choose_yes s 0 starts_digit _ _ (digit_number s k.upto.is)) (then_upto s 0 number _ k.upto (give_upto s at (con k.tree) k.upto.within)))
    p (ap (λ (x : ℕ). 1 ∷ x ∷ []) (sym k.value_is)) refl k.sizes_is (number_room k)

-- ---- a target as an item

module _ {t : Target} {n : Name} (e : t ≡ target.Cell n) where
  pub cell_room : length (target_words t) ≡ 5
  unfolding target_words
  cell_room = ap (λ (x : Target). length (target_words x)) e

  pub put_cell : {a b : List ℕ} {m r : ℕ} → Put a b m (2 ∷ name_words n) r → Put a b m (target_words t) r
  unfolding target_words
  put_cell {a} {b} {m} {r} p = subst (λ (x : Target). Put a b m (target_words x) r) (sym e) p

module _ {t : Target} {x : Element} (e : t ≡ target.Element x) where
  pub element_room : length (target_words t) ≡ 20
  unfolding target_words
  element_room = ap (λ (x : Target). length (target_words x)) e

  pub put_element : {a b : List ℕ} {n r : ℕ} → Put a b n (target_words (target.Element x)) r → Put a b n (target_words t) r
  put_element {a} {b} {n} {r} p = subst (λ (x : Target). Put a b n (target_words x) r) (sym e) p
