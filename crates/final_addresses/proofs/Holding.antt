-- Words that a table begins with, and more after them.
-- Assumes nothing.
use mathlib.Core.Path.{◌≡◌, refl, sym, ap, ◌∙◌}
use Prim.Native.Nat.{ℕ}
use native.Mathlib.Omega.{arith}
use mathlib.Core.List.{List, [], ◌∷◌, ◌++◌, map}
use lib.ListN.{take, length-append}
use Rattle.rules_object.specs.Bytes.{concat}
use Rattle.read_items.specs.Parsed.{Put}
use Rattle.final_addresses.specs.Given.{Holds}

pub holds_none : (a : List ℕ) → Holds a 0 []
holds_none a = record { count = refl; words = refl }

pub holds_more : {a b : List ℕ} {n r : ℕ} {ws vs : List ℕ} → Holds a n ws → Put a b n vs r → Holds b r (ws ++ vs)
holds_more {a} {b} {n} {r} {ws} {vs} h p =
    record {
      count = omega (arith, h.count, p.top, length-append ws vs);
      words = p.table ∙ ap (λ (l : List ℕ). l ++ vs) h.words;
    }

pub holds_as : {a : List ℕ} {n : ℕ} {ws vs : List ℕ} → ws ≡ vs → Holds a n ws → Holds a n vs
holds_as e h = rw (← e) h

pub concat_append : (a b : List (List ℕ)) → concat (a ++ b) ≡ concat a ++ concat b
concat_append [] b = refl
concat_append (x ∷ a) b = ap (λ (l : List ℕ). x ++ l) (concat_append a b) ∙ sym (mathlib.Core.List.append_assoc x (concat a) (concat b))

pub map_append : {A B : Type 0} (f : A → B) (a b : List A) → map f (a ++ b) ≡ map f a ++ map f b
map_append f [] b = refl
map_append f (x ∷ a) b = ap (λ l. f x ∷ l) (map_append f a b)

pub put_none : (a : List ℕ) (n : ℕ) → Put a a n [] n
put_none a n = record { top = omega arith; table = sym (mathlib.Core.List.append-nil (take n a)) }

pub put_as : {a b : List ℕ} {n r : ℕ} {ws vs : List ℕ} → ws ≡ vs → Put a b n ws r → Put a b n vs r
put_as e p = rw (← e) p
