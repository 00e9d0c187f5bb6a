-- What a loop of a reader keeps: the loop that reads more terms, or more factors.
-- Assumes nothing.
use mathlib.Core.Path.{◌≡◌, refl, sym, ap, ◌∙◌, subst}
use mathlib.Core.List.{List, [], ◌∷◌, ◌++◌, append_assoc}
use mathlib.Core.Bool.{Bool, true, false}
use mathlib.Core.Option.{Option, some, none}
use Prim.Native.Nat.{ℕ, ◌+◌, ◌*◌, ◌-◌, ◌≤◌, ◌<◌}
use native.Mathlib.Omega.{arith}
use native.Mathlib.Numerals.{add-one}
use lib.ListN.{length, take, drop, get_or, set, length-append, length-drop, length-set, drop_of_length-le, get_or-eq_default}
use lib.Dec.{ltb}
use borrow.Author.Tests.{ltb-true, ltb-false}
use lib.Seq.{drop-cons, drop-drop, take-suc-set}
use Rattle.number.specs.Number.{Op}
use Rattle.rules_text.specs.Trees.{Expr, bin, levels, expr_names, expr_constants}
use Rattle.rules_text.specs.Tokens.{Found, found, bad, ahead, follow, and_then}
use Rattle.rules_text.specs.Grammar.{Mode, joined, more, parse}
use Rattle.rules_text.proofs.Found.{ahead_ahead}
use Rattle.std.proofs.Common.{Option as Maybe, Some, None}
use Rattle.read_tokens.specs.declared.Read.{Read}
use Rattle.read_tokens.specs.declared.Sizes.{Sizes}
use Rattle.read_tokens.specs.Sizes.{both}
use Rattle.read_tokens.proofs.Measured.{sizes_join}
use Rattle.read_tokens.proofs.Tokens.{part_all}
use Rattle.read_items.specs.Items.{op_item, flat, expr_sizes}
use Rattle.read_items.specs.Parsed.{Parsed}
use Rattle.read_items.proofs.Given.{Took}
use Rattle.read_operators.specs.Signs.{op_number}

pub on_rest : (m : Mode) (s : List ℕ) (k : ℕ) {a b : List ℕ} {n : ℕ} {r : Maybe (Read ℕ)}
    → Parsed (take (length s - k) (drop k s)) a b n (parse m (take (length s - k) (drop k s))) r → Parsed (drop k s) a b n (parse m (drop k s)) r
on_rest m s k {a} {b} {n} {r} h = subst (λ (x : List ℕ). Parsed x a b n (parse m x) r) (part_all s k) h

-- s the text, of which `at` bytes are read; a the table at first, with n words; b the table now, with `top` words
pub record Going (whole : Mode) (again : Expr → Mode) (s a b : List ℕ) (n at top : ℕ) (z : Sizes) : Type 0 where
  pub acc : Expr
  pub left : parse whole s ≡ ahead at (parse (again acc) (drop at s))
  pub table : take top b ≡ take n a ++ flat acc
  pub top_is : top ≡ n + length (flat acc)
  pub few : length (flat acc) ≤ 5 * at
  pub within : at ≤ length s
  pub kept : length b ≡ length a
  pub sizes_is : z ≡ expr_sizes acc
  pub low : levels acc ≤ at

op_none : (o : Option Op) → op_number o ≡ None → o ≡ none
unfolding op_number
op_none none e = refl
op_none (some p) e = let z : ◌≡◌ {A = ℕ} 0 1 = cc in absurd (omega arith)

op_some : (o : Option Op) {w : ℕ} → op_number o ≡ Some w → (p : Op) × (o ≡ some p) × (w ≡ op_item p)
unfolding op_number
op_some none e = let z : ◌≡◌ {A = ℕ} 0 1 = cc in absurd (omega arith)
op_some (some p) e = (p, refl, cc)

join_sizes : (o : Op) (a b : Expr) → both (expr_sizes a) (expr_sizes b) ≡ expr_sizes (bin o a b)
unfolding expr_sizes
join_sizes o a b = sizes_join (expr_names a) (expr_names b) (expr_constants a) (expr_constants b) (levels a) (levels b)

module _ (whole : Mode) (again : Expr → Mode) (op : ℕ → Option Op) (part : Mode)
    (next : (acc : Expr) (s : List ℕ) → parse (again acc) s ≡ more parse op part again acc s) (nothing : op 0 ≡ none)
    (s a b : List ℕ) (n at top : ℕ) (z : Sizes) (g : Going whole again s a b n at top z) where
  zero_more : at + 0 ≡ at
  zero_more = omega arith

  all_read : length s ≤ at → parse whole s ≡ found g.acc at
  unfolding more ahead
  all_read h =
      g.left ∙ ap (ahead at) (next g.acc (drop at s) ∙ ap (more parse op part again g.acc) (drop_of_length-le s h))
      ∙ ap (found g.acc) zero_more

  at_op : at < length s → parse whole s ≡ ahead at (joined parse part again g.acc (op (get_or s at 0)) (drop (at + 1) s))
  unfolding more
  at_op h =
      g.left ∙ ap (ahead at) (next g.acc (drop at s) ∙ ap (more parse op part again g.acc) (drop-cons s at 0 h)
      ∙ ap (λ (x : ℕ). joined parse part again g.acc (op (get_or s at 0)) (drop x s)) (sym (add-one at)))

  no_op : at < length s → op_number (op (get_or s at 0)) ≡ None → parse whole s ≡ found g.acc at
  unfolding joined ahead
  no_op h e =
      at_op h ∙ ap (λ (o : Option Op). ahead at (joined parse part again g.acc o (drop (at + 1) s))) (op_none (op (get_or s at 0)) e)
      ∙ ap (found g.acc) zero_more

  an_op : at < length s → (p : Op) → op (get_or s at 0) ≡ some p
      → parse whole s ≡ ahead (at + 1) (follow (parse part (drop (at + 1) s)) (λ right. parse (again (bin p g.acc right))) (drop (at + 1) s))
  unfolding joined and_then
  an_op h p e =
      at_op h ∙ ap (λ (o : Option Op). ahead at (joined parse part again g.acc o (drop (at + 1) s))) e
      ∙ ahead_ahead at 1 (follow (parse part (drop (at + 1) s)) (λ right. parse (again (bin p g.acc right))) (drop (at + 1) s))

  done : parse whole s ≡ found g.acc at → Took s a b n (parse whole s) at top z
  done e = record { tree = g.acc; is = e; top = g.top_is; table = g.table; within = g.within; few = g.few; sizes_is = g.sizes_is; low = g.low }

  -- at a byte that is no operation, or at the end of the text
  pub stop : op_number (op (get_or s at 0)) ≡ None → Took s a b n (parse whole s) at top z
  stop e = go (ltb at (length s)) refl
    where
      go : (x : Bool) → ltb at (length s) ≡ x → Took s a b n (parse whole s) at top z
      go true h = done (no_op (ltb-true at (length s) h) e)
      go false h = done (all_read (ltb-false at (length s) h))

  module _ {w : ℕ} (we : op_number (op (get_or s at 0)) ≡ Some w) where
    -- an operation stands in the text
    pub op_inside : at < length s
    op_inside = go (ltb at (length s)) refl
      where
        go : (x : Bool) → ltb at (length s) ≡ x → at < length s
        go true h = ltb-true at (length s) h
        go false h =
            let p = op_some (op (get_or s at 0)) we in
            let past : op (get_or s at 0) ≡ none = ap op (get_or-eq_default s 0 (ltb-false at (length s) h)) ∙ nothing in
            let one : op (get_or s at 0) ≡ some p.0 = p.1 in
            let z : ◌≡◌ {A = ℕ} 0 1 = cc in
            absurd (omega arith)

    -- at an operation with no operand after it
    pub stop_bad : parse part (drop (at + 1) s) ≡ bad → parse whole s ≡ bad
    unfolding follow ahead
    stop_bad e =
        let p = op_some (op (get_or s at 0)) we in
        an_op op_inside p.0 p.1 ∙ ap (λ (o : Found Expr). ahead (at + 1) (follow o (λ right. parse (again (bin p.0 g.acc right))) (drop (at + 1) s))) e

    -- one more
    pub go_on_lem : {b' : List ℕ} {j m : ℕ} {y x : Sizes}
        → Took (drop (at + 1) s) b b' top (parse part (drop (at + 1) s)) j m y → m < length b' → length b' ≡ length b → x ≡ both z y
        → Going whole again s a (set b' m w) n (at + 1 + j) (m + 1) x
    unfolding follow flat op_number
    go_on_lem {b'} {j} {m} {y} {x} t room same xe =
        let p = op_some (op (get_or s at 0)) we in
        let tr : Expr = bin p.0 g.acc t.tree in
        let size : length (flat tr) ≡ length (flat g.acc) + length (flat t.tree) + 1 = simp length-append in
        let wo : w ≡ op_item p.0 = p.2 in
        record {
          acc = tr;
          left = an_op op_inside p.0 p.1
              ∙ ap (λ (o : Found Expr). ahead (at + 1) (follow o (λ right. parse (again (bin p.0 g.acc right))) (drop (at + 1) s))) t.is
              ∙ ahead_ahead (at + 1) j (parse (again tr) (drop j (drop (at + 1) s)))
              ∙ ap (λ (l : List ℕ). ahead (at + 1 + j) (parse (again tr) l)) (drop-drop j (at + 1) s);
          table = ap (λ (k : ℕ). take k (set b' m w)) (add-one m) ∙ take-suc-set b' m w room
              ∙ ap (λ (l : List ℕ). l ++ w ∷ []) (t.table ∙ ap (λ (l : List ℕ). l ++ flat t.tree) g.table ∙ append_assoc (take n a) (flat g.acc) (flat t.tree))
              ∙ ap (λ (x : ℕ). (take n a ++ (flat g.acc ++ flat t.tree)) ++ x ∷ []) wo
              ∙ append_assoc (take n a) (flat g.acc ++ flat t.tree) (op_item p.0 ∷ []);
          top_is = omega (arith, t.top, g.top_is);
          few = omega (arith, t.few, g.few);
          within = omega (arith, t.within, g.within, length-drop (at + 1) s, op_inside);
          kept = length-set b' m w ∙ same ∙ g.kept;
          sizes_is = xe ∙ ap (λ (v : Sizes). both v y) g.sizes_is ∙ ap (both (expr_sizes g.acc)) t.sizes_is ∙ join_sizes p.0 g.acc t.tree;
          low = omega (arith, g.low, t.low);
        }
