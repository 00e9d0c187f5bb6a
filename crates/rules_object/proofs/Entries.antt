-- Entries as words: entries of one size in a row, and each kind of entry both ways.
-- Assumes nothing.
use mathlib.Core.Path.{◌≡◌, refl, sym, ap, ◌∙◌}
use Prim.Native.Nat.{ℕ, zero, suc, ◌+◌, ◌*◌, ◌/◌, ◌<◌}
use native.Mathlib.Nat.{mul-div_cancel}
use native.Mathlib.Omega.{arith}
use mathlib.Core.List.{List, [], ◌∷◌, ◌++◌, map}
use lib.ListN.{length, take, drop, length-append, length-drop, length-map, take-append-drop}
use lib.Seq.{take_at, drop_at, drop-cons, drop-length, length-take-le}
use Rattle.rules_object.specs.Object.{Element, Loop, Line, Named, ListItem, Transfer}
use Rattle.rules_object.specs.Bytes.{bytes_of, words_of, concat, one_word, element_words, loop_words, line_words, name_words, item_words, transfer_words, word, element_of, loop_of, line_of, named_of, item_of, transfer_of, entries, body}
use Rattle.rules_object.specs.Writable.{IsWord, WritableElement, WritableLoop, WritableLine, WritableNamed, WritableItem, WritableTransfer}
use Rattle.rules_shared.specs.Lists.{Each, each_none, each_more}
use Rattle.rules_shared.proofs.EachLaws.{each_one, each_map, each_append, each_take, each_drop}
use Rattle.rules_object.proofs.Words.{digits_of_lem, each_byte, bytes_words, each_word, length_words, signed_word_lem, word_signed, signed_is, signed_is_word}

-- ---- entries of one size, for each kind of entry

pub length_entries : (z : ℕ) (b : List (List ℕ)) → Each (λ e. length e ≡ z) b → length (concat b) ≡ length b * z
length_entries z [] h = omega arith
length_entries z (e ∷ b) (each_more d h) =
    let r = length_entries z b h in
    simp length-append (omega arith)

pub each_entry : {A : Type 0} (z : ℕ) (f : A → List ℕ) (xs : List A) → Each (λ x. length (f x) ≡ z) xs → Each (λ e. length e ≡ z) (map f xs)
each_entry z f [] h = each_none
each_entry z f (x ∷ xs) (each_more d h) = each_more d (each_entry z f xs h)

length_flat : {A : Type 0} (z : ℕ) (f : A → List ℕ) (xs : List A) → Each (λ x. length (f x) ≡ z) xs → length (concat (map f xs)) ≡ length xs * z
length_flat z f xs h = length_entries z (map f xs) (each_entry z f xs h) ∙ ap (λ (n : ℕ). n * z) (length-map xs f)

-- entries of one word each
pub ones : (ws : List ℕ) → concat (map one_word ws) ≡ ws
ones [] = refl
ones (w ∷ ws) = ap (λ (l : List ℕ). w ∷ l) (ones ws)

-- P: what an entry must be for its words to keep it
module _ {A : Type 0} (P : A → Type 0) (z : ℕ) (f : A → List ℕ) (g : List ℕ → A) where
  pub entries_flat : ((x : A) → P x → length (f x) ≡ z) → ((x : A) → P x → g (f x) ≡ x) → (xs : List A) → Each P xs
      → map g (entries (length xs) z (concat (map f xs))) ≡ xs
  entries_flat size back [] h = refl
  entries_flat size back (x ∷ xs) (each_more h hs) =
      let d = size x h in
      let e = entries_flat size back xs hs in
      let t : take z (f x ++ concat (map f xs)) ≡ f x = take_at (f x) (concat (map f xs)) z d in
      let r : drop z (f x ++ concat (map f xs)) ≡ concat (map f xs) = drop_at (f x) (concat (map f xs)) z d in
      rw (t, r, back x h) (ap (λ l. x ∷ l) e)

  -- the entries read are those written
  pub read_flat : 0 < z → ((x : A) → P x → length (f x) ≡ z) → ((x : A) → P x → g (f x) ≡ x) → (xs : List A) → Each P xs
      → map g (entries (length (concat (map f xs)) / z) z (concat (map f xs))) ≡ xs
  read_flat p size back xs h = rw (length_flat z f xs (each_map size h), mul-div_cancel (length xs) p) (entries_flat size back xs h)

-- and the other way: words in whole entries
module _ {A : Type 0} (z : ℕ) (f : A → List ℕ) (g : List ℕ → A) where
  pub flat_entries : ((e : List ℕ) → length e ≡ z → Each IsWord e → f (g e) ≡ e) → (n : ℕ) (ws : List ℕ) → length ws ≡ n * z → Each IsWord ws
      → concat (map f (map g (entries n z ws))) ≡ ws
  flat_entries forth zero [] e h = refl
  flat_entries forth zero (w ∷ ws) e h = absurd (omega arith)
  flat_entries forth (suc n) ws e h =
      let t : length (take z ws) ≡ z = length-take-le z ws (omega arith) in
      let r : length (drop z ws) ≡ n * z = length-drop z ws ∙ (omega arith) in
      let k = flat_entries forth n (drop z ws) r (each_drop z ws h) in
      rw (forth (take z ws) t (each_take z ws h), k) (take-append-drop z ws)

module _ {A : Type 0} (P : A → Type 0) (z : ℕ) (g : List ℕ → A) where
  pub each_entries : ((e : List ℕ) → length e ≡ z → Each IsWord e → P (g e)) → (n : ℕ) (ws : List ℕ) → length ws ≡ n * z → Each IsWord ws
      → Each P (map g (entries n z ws))
  each_entries fine zero ws e h = each_none
  each_entries fine (suc n) ws e h =
      let t : length (take z ws) ≡ z = length-take-le z ws (omega arith) in
      let r : length (drop z ws) ≡ n * z = length-drop z ws ∙ (omega arith) in
      each_more (fine (take z ws) t (each_take z ws h)) (each_entries fine n (drop z ws) r (each_drop z ws h))

-- ---- the entries of more than one word

-- the words of an entry from word i on
abbrev from : ℕ → ℕ → List ℕ → List ℕ
from i zero e = []
from i (suc n) e = word e i ∷ from (suc i) n e

from_is : (n i : ℕ) (e : List ℕ) → length e ≡ i + n → from i n e ≡ drop i e
from_is zero i e l = sym (ap (λ k. drop k e) q ∙ drop-length e)
  where
    q : i ≡ length e
    q = omega arith
from_is (suc n) i e l = ap (λ r. word e i ∷ r) (from_is n (suc i) e (omega arith)) ∙ sym (drop-cons e i 0 (omega arith))

pub is_word : (e : List ℕ) (i : ℕ) → Each IsWord e → IsWord (word e i)
is_word [] i h = omega arith
is_word (w ∷ e) zero (each_more h hs) = h
is_word (w ∷ e) (suc i) (each_more h hs) = is_word e i hs

pub element_back : (e : Element) → WritableElement e → element_of (element_words e) ≡ e
element_back e h = rw (signed_word_lem e.first.plus h.first.plus, signed_word_lem e.second.plus h.second.plus)

pub element_forth : (e : List ℕ) → length e ≡ 9 → Each IsWord e → element_words (element_of e) ≡ e
element_forth e l h = rw (word_signed (word e 5) (is_word e 5 h), word_signed (word e 8) (is_word e 8 h)) (from_is 9 0 e l)

pub loop_forth : (e : List ℕ) → length e ≡ 4 → loop_words (loop_of e) ≡ e
loop_forth e l = from_is 4 0 e l

pub line_forth : (e : List ℕ) → length e ≡ 3 → line_words (line_of e) ≡ e
line_forth e l = from_is 3 0 e l

pub item_forth : (e : List ℕ) → length e ≡ 2 → item_words (item_of e) ≡ e
item_forth e l = from_is 2 0 e l

pub transfer_forth : (e : List ℕ) → length e ≡ 3 → transfer_words (transfer_of e) ≡ e
transfer_forth e l = from_is 3 0 e l

pub name_size_lem : (n : Named) → length n.name ≡ 8 → length (name_words n) ≡ 5
name_size_lem n h = simp length-append (omega (arith, length_words n.name))

name_two : (ws : List ℕ) (n : Named) → length ws ≡ 2 → bytes_of ws ≡ n.name → named_of (ws ++ (n.first ∷ n.rows ∷ n.columns ∷ [])) ≡ n
name_two [] n l e = absurd (omega arith)
name_two (a ∷ []) n l e = absurd (omega arith)
name_two (a ∷ b ∷ []) n l e = ap (λ (s : List ℕ). record { name = s; first = n.first; rows = n.rows; columns = n.columns }) e
name_two (a ∷ b ∷ c ∷ ws) n l e = absurd (omega arith)

pub name_back : (n : Named) → WritableNamed n → named_of (name_words n) ≡ n
name_back n h =
    let l : length (words_of n.name) ≡ 2 = omega (arith, length_words n.name, h.eight) in
    name_two (words_of n.name) n l (bytes_words n.name h.bytes (omega (arith, h.eight)))

pub name_forth : (e : List ℕ) → length e ≡ 5 → Each IsWord e → name_words (named_of e) ≡ e
name_forth e l h = rw (digits_of_lem (word e 0) (is_word e 0 h), digits_of_lem (word e 1) (is_word e 1 h)) (from_is 5 0 e l)

-- ---- what may be written is words

pub each_flat : {A : Type 0} (P : A → Type 0) (f : A → List ℕ) → ((x : A) → P x → Each IsWord (f x)) → (xs : List A) → Each P xs → Each IsWord (concat (map f xs))
each_flat P f h [] a = each_none
each_flat P f h (x ∷ xs) (each_more p ps) = each_append (h x p) (each_flat P f h xs ps)

pub element_words_lem : (e : Element) → WritableElement e → Each IsWord (element_words e)
element_words_lem e h = let a = signed_is_word e.first.plus h.first.plus in let b = signed_is_word e.second.plus h.second.plus in
    each_more h.base (each_more h.rows (each_more h.columns (each_more h.first.times (each_more h.first.cell (each_more a
    (each_more h.second.times (each_more h.second.cell (each_one b))))))))

pub loop_words_lem : (d : Loop) → WritableLoop d → Each IsWord (loop_words d)
loop_words_lem d h = each_more h.variable (each_more h.limit (each_more h.step (each_one h.body)))

pub line_words_lem : (l : Line) → WritableLine l → Each IsWord (line_words l)
line_words_lem l h = each_more h.sequence (each_more h.number (each_one h.address))

pub item_words_lem : (i : ListItem) → WritableItem i → Each IsWord (item_words i)
item_words_lem i h = each_more h.first (each_one h.count)

pub transfer_words_lem : (t : Transfer) → WritableTransfer t → Each IsWord (transfer_words t)
transfer_words_lem t h = each_more h.format (each_more h.first (each_one h.count))

pub name_words_lem : (n : Named) → WritableNamed n → Each IsWord (name_words n)
name_words_lem n h = each_append (each_word n.name h.bytes) (each_more h.first (each_more h.rows (each_one h.columns)))

-- ---- and words may be written

pub element_fine : (e : List ℕ) → length e ≡ 9 → Each IsWord e → WritableElement (element_of e)
element_fine e l h =
    record {
      base = is_word e 0 h;
      rows = is_word e 1 h;
      columns = is_word e 2 h;
      first = record { times = is_word e 3 h; cell = is_word e 4 h; plus = signed_is (word e 5) (is_word e 5 h) };
      second = record { times = is_word e 6 h; cell = is_word e 7 h; plus = signed_is (word e 8) (is_word e 8 h) };
    }

pub loop_fine : (e : List ℕ) → length e ≡ 4 → Each IsWord e → WritableLoop (loop_of e)
loop_fine e l h = record { variable = is_word e 0 h; limit = is_word e 1 h; step = is_word e 2 h; body = is_word e 3 h }

pub line_fine : (e : List ℕ) → length e ≡ 3 → Each IsWord e → WritableLine (line_of e)
line_fine e l h = record { sequence = is_word e 0 h; number = is_word e 1 h; address = is_word e 2 h }

pub name_fine : (e : List ℕ) → length e ≡ 5 → Each IsWord e → WritableNamed (named_of e)
name_fine e l h =
    record { eight = refl; bytes = each_byte (word e 0 ∷ word e 1 ∷ []); first = is_word e 2 h; rows = is_word e 3 h; columns = is_word e 4 h }

pub item_fine : (e : List ℕ) → length e ≡ 2 → Each IsWord e → WritableItem (item_of e)
item_fine e l h = record { first = is_word e 0 h; count = is_word e 1 h }

pub transfer_fine : (e : List ℕ) → length e ≡ 3 → Each IsWord e → WritableTransfer (transfer_of e)
transfer_fine e l h = record { format = is_word e 0 h; first = is_word e 1 h; count = is_word e 2 h }
