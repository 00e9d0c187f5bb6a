-- READ takes as many cards as PRINT with the same FORMAT and a list as long puts out lines.
-- Assumes nothing.
use mathlib.Core.Path.{◌≡◌, refl}
use mathlib.Core.Bool.{Bool, true, false}
use mathlib.Core.List.{List, [], ◌∷◌, ◌++◌}
use mathlib.Core.Option.{Option, none, some}
use Prim.Native.Nat.{ℕ, zero, suc, ◌+◌}
use native.Mathlib.Omega.{arith}
use lib.Dec.{leb}
use lib.ListN.{length, take, drop, replicate}
use lib.IntN.{ℤ}
use Rattle.rules_formats.specs.Format.{Field, I, X, H, new_record}
use Rattle.rules_formats.specs.Fields.{blank, printed, field_read}
use Rattle.rules_formats.specs.Walk.{Trouble, bad_subscript, ran_out, bad_field, Outcome, fine, trouble, given, provided, Columns, room_on, put_out, on_line, lines, Taken, taken, on_card, cards}
use Rattle.rules_formats.proofs.Simulation.{Both, no_more, and}

-- where neither has trouble, the lines and the cards left are so many together
abbrev pub Count : {S : Type 0} → ℕ → Outcome (List Columns) → Outcome (Taken S) → Type 0
Count n (trouble t) o = Unit {0}
Count n (fine ls) (trouble t) = Unit {0}
Count n (fine ls) (fine t) = length ls + length t.cards ≡ n

pub record Together {S : Type 0} (n : ℕ) (l : Outcome (List Columns)) (o : Outcome (Taken S)) : Type 0 where
  pub are : Count n l o

-- lists as long as each other
abbrev AsLong : {A B : Type 0} → List A → List B → Type 0
AsLong xs ys = Both (λ a b. Unit {0}) xs ys

pub as_long : {A B : Type 0} (xs : List A) (ys : List B) → length xs ≡ length ys → AsLong xs ys
as_long [] [] e = no_more
as_long [] (y ∷ ys) e = absurd (omega arith)
as_long (x ∷ xs) [] e = absurd (omega arith)
as_long (x ∷ xs) (y ∷ ys) e = and tt (as_long xs ys (omega arith))

module _ {S : Type 0} {n : ℕ} where
  no_cards : {l : Outcome (List Columns)} {t : Trouble} → Together {S = S} n l (trouble t)
  no_cards {l} {t} = record { are = go l }
    where
      go : (x : Outcome (List Columns)) → Count {S = S} n x (trouble t)
      go (trouble u) = tt
      go (fine ls) = tt

  left_given : {A : Type 0} (t : Trouble) (x : Option A) {f : A → Outcome (List Columns)} {o : Outcome (Taken S)} → ((v : A) → Together n (f v) o) → Together n (given t x f) o
  left_given t none h = record { are = tt }
  left_given t (some v) h = h v

  left_provided : (t : Trouble) (b : Bool) {l : Outcome (List Columns)} {o : Outcome (Taken S)} → Together n l o → Together n (provided t b l) o
  left_provided t false h = record { are = tt }
  left_provided t true h = h

  right_given : {A : Type 0} (t : Trouble) (x : Option A) {l : Outcome (List Columns)} {g : A → Outcome (Taken S)} → ((v : A) → Together n l (g v)) → Together n l (given t x g)
  right_given t none h = no_cards
  right_given t (some v) h = h v

  right_provided : (t : Trouble) (b : Bool) {l : Outcome (List Columns)} {o : Outcome (Taken S)} → Together n l o → Together n l (provided t b o)
  right_provided t false h = no_cards
  right_provided t true h = h

  put_together : (room : ℕ) (line : Columns) {l : Outcome (List Columns)} {o : Outcome (Taken S)} → Together n l o → Together (suc n) (put_out room line l) o
  put_together zero line h = record { are = tt }
  put_together (suc room) line {l} {o} h = record { are = go l o h.are }
    where
      go : (x : Outcome (List Columns)) (y : Outcome (Taken S)) → Count n x y → Count (suc n) (put_out (suc room) line x) y
      go (trouble t) y e = tt
      go (fine ls) (trouble t) e = tt
      go (fine ls) (fine t) e = omega arith

-- no line, and all the cards
alone : {T : Type 0} (cs : List Columns) (t : T) → Together (length cs) (fine []) (fine (taken t cs))
alone cs t = record { are = omega arith }

module _ {S T A B : Type 0} (getS : S → A → Option ℤ) (s : S) (ceiling : ℕ) (getT : T → B → Option ℤ) (set_t : T → B → ℤ → Option T) (scan : List Field) where
  on_both : (room : ℕ) (cs : List Columns) (next : List Field → List A → Outcome (List Columns)) (next' : List Field → List B → T → Outcome (Taken T))
      → ((fs : List Field) (xs : List A) (ys : List B) (t : T) → AsLong xs ys → Together (length cs) (next fs xs) (next' fs ys t))
      → (fs : List Field) (xs : List A) (ys : List B) (t : T)
      → AsLong xs ys
      → (line columns : Columns)
      → Together (suc (length cs)) (on_line getS scan s room next fs xs line) (on_card ceiling getT set_t scan cs next' fs ys t columns)
  on_both room cs next next' h [] _ _ t no_more line columns = put_together room line (alone cs t)
  on_both room cs next next' h [] (x ∷ xs) (y ∷ ys) t (and q qs) line columns = put_together room line (h scan (x ∷ xs) (y ∷ ys) t (and q qs))
  on_both room cs next next' h (I w ∷ fs) _ _ t no_more line columns = put_together room line (alone cs t)
  on_both room cs next next' h (I w ∷ fs) (x ∷ xs) (y ∷ ys) t (and q qs) line columns =
      left_given bad_subscript (getS s x) (λ u. left_provided bad_field (room_on line w) (
      right_given bad_subscript (getT t y) (λ old. right_provided bad_field (leb w (length columns)) (
      right_given bad_field (field_read ceiling (take w columns)) (λ v.
      right_given bad_subscript (set_t t y v) (λ t'. on_both room cs next next' h fs xs ys t' qs (line ++ printed w u) (drop w columns)))))))
  on_both room cs next next' h (X m ∷ fs) xs ys t qs line columns =
      left_provided bad_field (room_on line m) (right_provided bad_field (leb m (length columns)) (on_both room cs next next' h fs xs ys t qs (line ++ replicate m blank) (drop m columns)))
  on_both room cs next next' h (H c ∷ fs) xs ys t qs line columns =
      left_provided bad_field (room_on line 1) (right_provided bad_field (leb 1 (length columns)) (on_both room cs next next' h fs xs ys t qs (line ++ (c ∷ [])) (drop 1 columns)))
  on_both room cs next next' h (new_record ∷ fs) xs ys t qs line columns = put_together room line (h fs xs ys t qs)

  -- the lines put out and the cards left are together the cards lent: whatever the two stores and lists hold
  pub lines_and_cards : (room : ℕ) (cs : List Columns) (fs : List Field) (xs : List A) (ys : List B) (t : T)
      → AsLong xs ys
      → Together (length cs) (lines getS scan s room fs xs) (cards ceiling getT set_t scan cs fs ys t)
  lines_and_cards room [] fs xs ys t q = no_cards
  lines_and_cards zero (c ∷ cs) fs xs ys t q = on_both zero cs (λ gs js. trouble ran_out) (cards ceiling getT set_t scan cs) (λ gs js ks u r. record { are = tt }) fs xs ys t q [] c
  lines_and_cards (suc room) (c ∷ cs) fs xs ys t q = on_both (suc room) cs (lines getS scan s room) (cards ceiling getT set_t scan cs) (lines_and_cards room cs) fs xs ys t q [] c
