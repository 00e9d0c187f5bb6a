-- No text is of two statement forms, so the order in which forms are tried does not matter.
-- An assignment and a DO are told apart by what follows the first =, the others have no = and start each in its own way.
-- Assumes nothing.
use mathlib.Core.Path.{◌≡◌, refl, sym, ap, ◌∙◌, subst}
use mathlib.Core.List.{List, [], ◌∷◌, ◌++◌}
use mathlib.Core.Bool.{Bool, true, false, cond}
use mathlib.Core.Option.{Option, some, none}
use Prim.Native.Nat.{ℕ, zero, suc, ◌+◌, ◌<◌}
use native.Mathlib.Omega.{arith}
use lib.ListN.{length, take, drop, get_or, get_elem?, length-drop}
use lib.Seq.{drop-length}
use lib.Dec.{eqb}
use borrow.Author.Tests.{ne_eqb}
use Rattle.rules_shared.specs.Lists.{Each, each_more}
use Rattle.rules_text.specs.Trees.{Name, Expr, Form, go_to, continue, stop, end}
use Rattle.rules_text.specs.Tokens.{left_paren, plus_sign, comma, equals, word_go_to, word_if, word_do, word_continue, word_stop, word_end, word_dimension, found, bad, Reader, give, give_if, and_then, after, after_word, choose, starts, whole, number, name}
use Rattle.rules_text.specs.Grammar.{place, more, expression, assignment, plain_go_to, computed_go_to, arithmetic_if, is_parameter, parameter, do_loop, dimensions, read_assignment, read_go_to, read_computed, read_if, read_do, read_continue, read_stop, read_end, read_dimension, present, readings, first_of, form_of}
use Rattle.rules_text.proofs.Readers.{NotEquals, digit_bounds, Good, good_number, good_name}
use Rattle.rules_text.proofs.ReadTrees.{good_place}
use Rattle.rules_text.proofs.ReadForms.{whole_found, whole_good, sound_is, good_go_to, good_computed, good_if, good_continue, good_stop, good_end, good_dimension}
use Rattle.rules_text.proofs.Found.{not_found, then_found, after_found, word_found, number_starts}

-- ---- what follows the first =

after_equals : List ℕ → Option (List ℕ)
after_equals [] = none
after_equals (x ∷ s) = cond (eqb x equals) (some s) (after_equals s)

skip : (k : ℕ) (s : List ℕ) → Each NotEquals (take k s) → after_equals s ≡ after_equals (drop k s)
unfolding after_equals
skip zero s p = refl
skip (suc k) [] p = refl
skip (suc k) (x ∷ s) (each_more p ps) = ap (λ (b : Bool). cond b (some s) (after_equals s)) p ∙ skip k s ps

skip_read : {A : Type 0} {Q : A → Type 0} (r : Reader A) (s : List ℕ) (a : A) (k : ℕ) → Good NotEquals Q r → r s ≡ found a k
    → after_equals s ≡ after_equals (drop k s)
skip_read r s a k g e = skip k s (sound_is s (r s) a k (g.on s) e).1

no_equals : {A : Type 0} {Q : A → Type 0} (r : Reader A) (s : List ℕ) (a : A) → Good NotEquals Q r → whole r s ≡ some a → after_equals s ≡ none
unfolding after_equals
no_equals r s a g e = skip (length s) s (whole_good r s a g e).1 ∙ ap after_equals (drop-length s)

-- an assignment has a whole expression there
record Assigns (s : List ℕ) : Type 0 where
  right : List ℕ
  tree : Expr
  is : after_equals s ≡ some right
  reads : expression right ≡ found tree (length right)

assigns : (s : List ℕ) (f : Form) → read_assignment s ≡ some f → Assigns s
unfolding read_assignment assignment after_equals give
assigns s f e =
    let one = then_found place _ s f (length s) (whole_found assignment s f e) in
    let two = after_found equals _ (drop one.took s) f one.more one.other in
    let three = then_found expression _ two.rest f two.more two.other in
    let none_more : three.more ≡ 0 = cc in
    let long : length two.rest ≡ three.took = omega (arith, one.adds, two.adds, three.adds, length-drop one.took s, ap length two.is) in
    record {
      right = two.rest;
      tree = three.first;
      is = skip_read place s one.first one.took good_place one.one ∙ ap after_equals two.is;
      reads = three.one ∙ ap (found three.first) (sym long);
    }

-- a DO has a parameter and a comma
record Opens (right : List ℕ) : Type 0 where
  rest : List ℕ
  tree : Expr
  took : ℕ
  reads : parameter right ≡ found tree took
  ends : drop took right ≡ comma ∷ rest

opens : (h : Expr → Reader Form) (u : List ℕ) (f : Form) (n : ℕ) → and_then parameter (λ first. after comma (h first)) u ≡ found f n → Opens u
opens h u f n e =
    let one = then_found parameter (λ first. after comma (h first)) u f n e in
    let two = after_found comma (h one.first) (drop one.took u) f one.more one.other in
    record { rest = two.rest; tree = one.first; took = one.took; reads = one.one; ends = two.is }

-- a name and =, and h after them
record Named (h : Name → Reader Form) (s : List ℕ) (f : Form) : Type 0 where
  variable : Name
  right : List ℕ
  more : ℕ
  is : after_equals s ≡ some right
  other : h variable right ≡ found f more

named : (h : Name → Reader Form) (s : List ℕ) (f : Form) (n : ℕ) → and_then name (λ v. after equals (h v)) s ≡ found f n → Named h s f
unfolding after_equals
named h s f n e =
    let one = then_found name (λ v. after equals (h v)) s f n e in
    let two = after_found equals (h one.first) (drop one.took s) f one.more one.other in
    record {
      variable = one.first;
      right = two.rest;
      more = two.more;
      is = skip_read name s one.first one.took good_name one.one ∙ ap after_equals two.is;
      other = two.other;
    }

record Loops (s : List ℕ) : Type 0 where
  right : List ℕ
  is : after_equals s ≡ some right
  opened : Opens right

loops : (s : List ℕ) (f : Form) → read_do s ≡ some f → Loops s
unfolding read_do do_loop after_equals
loops s f e =
    let word = word_found word_do _ s f (length s) (whole_found do_loop s f e) in
    let one = then_found number _ word.rest f word.more word.other in
    let two = named _ (drop one.took word.rest) f one.more one.other in
    record {
      right = two.right;
      is = ap after_equals word.is ∙ skip_read number word.rest one.first one.took good_number one.one ∙ two.is;
      opened = opens _ two.right f two.more two.other;
    }

-- ---- a parameter is what an expression reads there

parameter_reads : (s : List ℕ) (e : Expr) (k : ℕ) → parameter s ≡ found e k → expression s ≡ found e k
unfolding parameter choose give_if
parameter_reads s e k p = go (starts plus_sign s) p
  where
    given : (b : Bool) (x : Expr) (j i : ℕ) → expression s ≡ found x j → give_if b x (drop j s) ≡ found e i → k ≡ j + i → expression s ≡ found e k
    given true x j i r g a =
        let tree : x ≡ e = cc in
        let nothing : i ≡ 0 = cc in
        let same : j ≡ k = omega arith in
        r ∙ ap (λ (y : Expr). found y j) tree ∙ ap (found e) same
    given false x j i r g a = absurd (not_found g)

    go : (b : Bool) → cond b bad (and_then expression (λ x. give_if (is_parameter x) x) s) ≡ found e k → expression s ≡ found e k
    go true q = absurd (not_found q)
    go false q =
        let one = then_found expression (λ x. give_if (is_parameter x) x) s e k q in
        given (is_parameter one.first) one.first one.took one.more one.one one.other one.adds

not_both : (s : List ℕ) → Assigns s → Loops s → ⊥
not_both s a l =
    let same : a.right ≡ l.right = cc in
    let o = l.opened in
    let alone = parameter_reads l.right o.tree o.took o.reads in
    let reads : expression l.right ≡ found a.tree (length l.right) = subst (λ (r : List ℕ). expression r ≡ found a.tree (length r)) same a.reads in
    let long : o.took ≡ length l.right = cc in
    let after-it = ap length o.ends in
    omega (arith, length-drop o.took l.right)

-- ---- which form it can be, by number in 01's order: from what follows the first =, else from the first bytes

word_place : ℕ → ℕ → ℕ
word_place first fifth =
    cond (eqb first 71) (cond (eqb fifth left_paren) 2 1)
    (cond (eqb first 73) 3 (cond (eqb first 67) 5 (cond (eqb first 83) 6 (cond (eqb first 69) 7 8))))

place_by : Option (List ℕ) → Option Form → ℕ → ℕ
place_by (some right) none word = 0
place_by (some right) (some f) word = 4
place_by none asDo word = word

form_place : List ℕ → ℕ
form_place s = place_by (after_equals s) (read_do s) (word_place (get_or s 0 0) (get_or s 4 0))

at_assignment : (s : List ℕ) (f : Form) → read_assignment s ≡ some f → form_place s ≡ 0
unfolding form_place place_by
at_assignment s f e =
    let a = assigns s f e in
    ap (λ (o : Option (List ℕ)). place_by o (read_do s) (word_place (get_or s 0 0) (get_or s 4 0))) a.is ∙ go a (read_do s) refl
  where
    go : (a : Assigns s) (o : Option Form) → read_do s ≡ o → place_by (some a.right) o (word_place (get_or s 0 0) (get_or s 4 0)) ≡ 0
    go a none q = refl
    go a (some g) q = absurd (not_both s a (loops s g q))

at_do : (s : List ℕ) (f : Form) → read_do s ≡ some f → form_place s ≡ 4
unfolding form_place place_by
at_do s f e =
    let l = loops s f e in
    ap (λ (o : Option (List ℕ)). place_by o (read_do s) (word_place (get_or s 0 0) (get_or s 4 0))) l.is
    ∙ ap (λ (o : Option Form). place_by (some l.right) o (word_place (get_or s 0 0) (get_or s 4 0))) e

-- a form with a word and no =
at_word : {Q : Form → Type 0} (w : List ℕ) (r : Reader Form) (s : List ℕ) (f : Form) (n : ℕ) → Good NotEquals Q (after_word w r) → whole (after_word w r) s ≡ some f
    → ((rest : List ℕ) (k : ℕ) → r rest ≡ found f k → word_place (get_or (w ++ rest) 0 0) (get_or (w ++ rest) 4 0) ≡ n) → form_place s ≡ n
unfolding form_place place_by
at_word w r s f n g e p =
    let word = word_found w r s f (length s) (whole_found (after_word w r) s f e) in
    ap (λ (o : Option (List ℕ)). place_by o (read_do s) (word_place (get_or s 0 0) (get_or s 4 0))) (no_equals (after_word w r) s f g e)
    ∙ ap (λ (t : List ℕ). word_place (get_or t 0 0) (get_or t 4 0)) word.is
    ∙ p word.rest word.more word.other

at_go_to : (s : List ℕ) (f : Form) → read_go_to s ≡ some f → form_place s ≡ 1
unfolding read_go_to plain_go_to word_place
at_go_to s f e = at_word word_go_to (and_then number (λ n. give (go_to n))) s f 1 good_go_to e digit
  where
    digit : (rest : List ℕ) (k : ℕ) → and_then number (λ n. give (go_to n)) rest ≡ found f k → word_place 71 (get_or rest 0 0) ≡ 1
    digit rest k q =
        let one = then_found number (λ n. give (go_to n)) rest f k q in
        let first = number_starts rest one.first one.took one.one in
        let bounds = digit_bounds first.byte first.passes in
        ap (λ (t : List ℕ). word_place 71 (get_or t 0 0)) first.is
        ∙ ap {B = ℕ} (λ (b : Bool). cond b 2 1) (ne_eqb first.byte left_paren (λ x. omega (arith, bounds.0)))

at_computed : (s : List ℕ) (f : Form) → read_computed s ≡ some f → form_place s ≡ 2
unfolding read_computed computed_go_to word_place
at_computed s f e =
    at_word word_go_to _ s f 2 good_computed e (λ rest k q.
    ap (λ (t : List ℕ). word_place 71 (get_or t 0 0)) (after_found left_paren _ rest f k q).is)

at_if : (s : List ℕ) (f : Form) → read_if s ≡ some f → form_place s ≡ 3
unfolding read_if arithmetic_if word_place
at_if s f e = at_word word_if _ s f 3 good_if e (λ rest k q. refl)

at_continue : (s : List ℕ) (f : Form) → read_continue s ≡ some f → form_place s ≡ 5
unfolding read_continue word_place
at_continue s f e = at_word word_continue (give continue) s f 5 good_continue e (λ rest k q. refl)

at_stop_lem : (s : List ℕ) (f : Form) → read_stop s ≡ some f → form_place s ≡ 6
unfolding read_stop word_place
at_stop_lem s f e = at_word word_stop (give stop) s f 6 good_stop e (λ rest k q. refl)

at_end_lem : (s : List ℕ) (f : Form) → read_end s ≡ some f → form_place s ≡ 7
unfolding read_end word_place
at_end_lem s f e = at_word word_end (give end) s f 7 good_end e (λ rest k q. refl)

at_dimension : (s : List ℕ) (f : Form) → read_dimension s ≡ some f → form_place s ≡ 8
unfolding read_dimension dimensions word_place
at_dimension s f e = at_word word_dimension _ s f 8 good_dimension e (λ rest k q. refl)

-- ---- at most one

-- of options numbered from i, only the one at place n can be there
data OnlyAt (n : ℕ) : ℕ → List (Option Form) → Type 0 where
  only_none : {i : ℕ} → OnlyAt n i []
  only_more : {i : ℕ} {o : Option Form} {os : List (Option Form)} → ((f : Form) → o ≡ some f → n ≡ i) → OnlyAt n (suc i) os → OnlyAt n i (o ∷ os)

none_after : (n i : ℕ) (os : List (Option Form)) → n < i → OnlyAt n i os → length (present os) ≡ 0
unfolding present
none_after n i [] l only_none = refl
none_after n i (none ∷ os) l (only_more p ps) = none_after n (suc i) os (omega arith) ps
none_after n i (some f ∷ os) l (only_more p ps) =
    let same : n ≡ i = p f refl in
    absurd (omega arith)

first_is : (n i j : ℕ) (os : List (Option Form)) (f : Form) → OnlyAt n i os → get_elem? os j ≡ some (some f) → first_of (present os) ≡ some f
unfolding first_of present
first_is n i j [] f only_none e = cc
first_is n i zero (none ∷ os) f (only_more p ps) e = cc
first_is n i zero (some g ∷ os) f (only_more p ps) e = cc
first_is n i (suc j) (none ∷ os) f (only_more p ps) e = first_is n (suc i) j os f ps e
first_is n i (suc j) (some g ∷ os) f (only_more p ps) e =
    let same : n ≡ i = p g refl in
    absurd (nothing_there os j (none_after n (suc i) os (omega arith) ps) e)
  where
    nothing_there : (os : List (Option Form)) (j : ℕ) → length (present os) ≡ 0 → get_elem? os j ≡ some (some f) → ⊥
    nothing_there [] j l q =
        let clash : ◌≡◌ {A = ℕ} 0 1 = cc in
        omega arith
    nothing_there (none ∷ os) zero l q =
        let clash : ◌≡◌ {A = ℕ} 0 1 = cc in
        omega arith
    nothing_there (none ∷ os) (suc j) l q = nothing_there os j l q
    nothing_there (some g ∷ os) j l q = omega arith

-- the readers of the forms, in 01's order
abbrev pub candidates : List ℕ → List (Option Form)
candidates s =
    read_assignment s ∷ read_go_to s ∷ read_computed s ∷ read_if s ∷ read_do s ∷ read_continue s ∷ read_stop s ∷ read_end s ∷ read_dimension s ∷ []

only_one : (s : List ℕ) → OnlyAt (form_place s) 0 (candidates s)
only_one s =
    only_more (at_assignment s) (only_more (at_go_to s) (only_more (at_computed s) (only_more (at_if s) (only_more (at_do s)
    (only_more (at_continue s) (only_more (at_stop_lem s) (only_more (at_end_lem s) (only_more (at_dimension s) only_none))))))))

-- WHICHEVER READER FINDS A FORM, THAT IS THE TEXT'S FORM
pub form_is : (s : List ℕ) (j : ℕ) (f : Form) → get_elem? (candidates s) j ≡ some (some f) → form_of s ≡ some f
unfolding form_of readings
form_is s j f e = first_is (form_place s) 0 j (candidates s) f (only_one s) e
