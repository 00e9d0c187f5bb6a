-- Words and entries that the book reads, by their places in the bytes.
-- Assumes nothing.
use mathlib.Core.Path.{◌≡◌, refl, sym, ap, ◌∙◌}
use Prim.Native.Nat.{ℕ, zero, suc, ◌+◌, ◌*◌, ◌/◌, ◌%◌, ◌≤◌, ◌<◌}
use native.Mathlib.Nat.{add_assoc, div-add-mod', div-div-eq-div-mul}
use native.Mathlib.Omega.{arith}
use mathlib.Core.List.{List, [], ◌∷◌, ◌++◌, map}
use lib.ListN.{length, get_or, take, drop, length-drop}
use lib.Seq.{get_or-drop, get_or-take, length-take-le, ext_get_or}
use Rattle.rules_object.specs.Bytes.{word, word_bytes, element_of, loop_of, line_of, named_of, item_of, transfer_of, entries}
use Rattle.rules_object.proofs.Words.{bytes_cons}
use Rattle.object_words.specs.Word.{word_at}
use Rattle.object_contents.specs.Layout.{list_from, element_at, loop_at, line_at, named_at, item_at, transfer_at}
use Rattle.object_contents.proofs.Lists.{length_from, get_d_all}

-- the first n words of W are those at byte b
abbrev pub Agrees : List ℕ → ℕ → List ℕ → ℕ → Type 0
Agrees W n s b = (i : ℕ) → i < n → get_or W i 0 ≡ word_at s (b + 4 * i)

pub all_words_lem : (W : List ℕ) (n : ℕ) (s : List ℕ) (b : ℕ) → length W ≡ n → Agrees W n s b → W ≡ list_from n 0 (λ i. word_at s (b + 4 * i))
all_words_lem W n s b l h =
    let f : ℕ → ℕ = λ i. word_at s (b + 4 * i) in
    ext_get_or 0 W (list_from n 0 f) (l ∙ sym (length_from f n 0)) (λ i k. h i (omega arith) ∙ sym (get_d_all f n i 0 (omega arith)))

-- entries of z words, read by g as f says
module _ {A : Type 0} (g : List ℕ → A) (f : ℕ → A) (z : ℕ) (s : List ℕ) (one : (W : List ℕ) (b : ℕ) → Agrees W z s b → b + 4 * z ≤ length s → g (take z W) ≡ f b) where
  entries_from : (n : ℕ) (W : List ℕ) (b j : ℕ) → Agrees W (n * z) s (b + 4 * z * j) → b + 4 * z * (j + n) ≤ length s
      → map g (entries n z W) ≡ list_from n j (λ i. f (b + 4 * z * i))
  entries_from zero W b j h l = refl
  entries_from (suc n) W b j h l =
      let e : suc n * z ≡ z + n * z = omega arith in
      let p : b + 4 * z * (j + suc n) ≡ b + 4 * z * j + 4 * z + 4 * z * n = omega arith in
      let q : b + 4 * z * (suc j + n) ≡ b + 4 * z * (j + suc n) = omega arith in
      let here : g (take z W) ≡ f (b + 4 * z * j) = one W (b + 4 * z * j) (λ i k. h i (omega arith)) (omega arith) in
      let next : Agrees (drop z W) (n * z) s (b + 4 * z * suc j) = λ i k.
      let r : b + 4 * z * j + 4 * (z + i) ≡ b + 4 * z * suc j + 4 * i = omega arith in
      get_or-drop z W i 0 ∙ h (z + i) (omega arith) ∙ ap (word_at s) r in
      let rest = entries_from n (drop z W) b (suc j) next (omega arith) in
      ap (λ x. x ∷ map g (entries n z (drop z W))) here ∙ ap (λ r. f (b + 4 * z * j) ∷ r) rest

  pub all_entries : (W : List ℕ) (L b : ℕ) → length W ≡ L / 4 → Agrees W (L / 4) s b → L % (4 * z) ≡ 0 → b + L ≤ length s
      → map g (entries (length W / z) z W) ≡ list_from (L / (4 * z)) 0 (λ i. f (b + 4 * z * i))
  all_entries W L b l h w k =
      let n : ℕ = L / (4 * z) in
      let c : length W / z ≡ n = ap (λ m. m / z) l ∙ div-div-eq-div-mul L 4 z in
      let d : n * (4 * z) + L % (4 * z) ≡ L = div-add-mod' L (4 * z) in
      let m : L ≡ 4 * (n * z) = omega arith in
      let o : b + 4 * z * 0 ≡ b = omega arith in
      let p : b + 4 * z * (0 + n) ≡ b + L = omega arith in
      let a : Agrees W (n * z) s (b + 4 * z * 0) = λ i q. h i (omega arith) ∙ sym (ap (λ x. word_at s (x + 4 * i)) o) in
      ap (λ m. map g (entries m z W)) c ∙ entries_from n W b 0 a (omega arith)

-- ---- each kind of entry

pub element_one : (s : List ℕ) (W : List ℕ) (b : ℕ) → Agrees W 9 s b → b + 36 ≤ length s → element_of (take 9 W) ≡ element_at s b
unfolding element_at
element_one s W b h l =
    let z : b + 0 ≡ b = omega arith in
    let w : (i : ℕ) → i < 9 → word (take 9 W) i ≡ word_at s (b + 4 * i) = λ i k. get_or-take 9 W i 0 k ∙ h i k in
    rw (w 0 (omega arith), w 1 (omega arith), w 2 (omega arith), w 3 (omega arith), w 4 (omega arith), w 5 (omega arith), w 6 (omega arith), w 7 (omega arith), w 8 (omega arith), z)

pub loop_one : (s : List ℕ) (W : List ℕ) (b : ℕ) → Agrees W 4 s b → b + 16 ≤ length s → loop_of (take 4 W) ≡ loop_at s b
unfolding loop_at
loop_one s W b h l =
    let z : b + 0 ≡ b = omega arith in
    let w : (i : ℕ) → i < 4 → word (take 4 W) i ≡ word_at s (b + 4 * i) = λ i k. get_or-take 4 W i 0 k ∙ h i k in
    rw (w 0 (omega arith), w 1 (omega arith), w 2 (omega arith), w 3 (omega arith), z)

pub line_one : (s : List ℕ) (W : List ℕ) (b : ℕ) → Agrees W 3 s b → b + 12 ≤ length s → line_of (take 3 W) ≡ line_at s b
unfolding line_at
line_one s W b h l =
    let z : b + 0 ≡ b = omega arith in
    let w : (i : ℕ) → i < 3 → word (take 3 W) i ≡ word_at s (b + 4 * i) = λ i k. get_or-take 3 W i 0 k ∙ h i k in
    rw (w 0 (omega arith), w 1 (omega arith), w 2 (omega arith), z)

pub item_one : (s : List ℕ) (W : List ℕ) (b : ℕ) → Agrees W 2 s b → b + 8 ≤ length s → item_of (take 2 W) ≡ item_at s b
unfolding item_at
item_one s W b h l =
    let z : b + 0 ≡ b = omega arith in
    let w : (i : ℕ) → i < 2 → word (take 2 W) i ≡ word_at s (b + 4 * i) = λ i k. get_or-take 2 W i 0 k ∙ h i k in
    rw (w 0 (omega arith), w 1 (omega arith), z)

pub transfer_one : (s : List ℕ) (W : List ℕ) (b : ℕ) → Agrees W 3 s b → b + 12 ≤ length s → transfer_of (take 3 W) ≡ transfer_at s b
unfolding transfer_at
transfer_one s W b h l =
    let z : b + 0 ≡ b = omega arith in
    let w : (i : ℕ) → i < 3 → word (take 3 W) i ≡ word_at s (b + 4 * i) = λ i k. get_or-take 3 W i 0 k ∙ h i k in
    rw (w 0 (omega arith), w 1 (omega arith), w 2 (omega arith), z)

part_at : (n : ℕ) (s : List ℕ) (b : ℕ) → b + n ≤ length s → take n (drop b s) ≡ list_from n 0 (λ i. get_or s (b + i) 0)
part_at n s b h =
    let f : ℕ → ℕ = λ i. get_or s (b + i) 0 in
    let l : length (take n (drop b s)) ≡ n = length-take-le n (drop b s) (omega (arith, length-drop b s)) in
    ext_get_or 0 (take n (drop b s)) (list_from n 0 f) (l ∙ sym (length_from f n 0))
    (λ i k. get_or-take n (drop b s) i 0 (omega arith) ∙ get_or-drop b s i 0 ∙ sym (get_d_all f n i 0 (omega arith)))

word_bytes_lem : (s : List ℕ) → ((i : ℕ) → get_or s i 0 < 256) → (b : ℕ) → word_bytes (word_at s b) ≡ get_or s b 0 ∷ get_or s (b + 1) 0 ∷ get_or s (b + 2) 0 ∷ get_or s (b + 3) 0 ∷ []
unfolding word_at
word_bytes_lem s h b = bytes_cons (get_or s b 0) (get_or s (b + 1) 0) (get_or s (b + 2) 0) (get_or s (b + 3) 0) (h b) (h (b + 1)) (h (b + 2)) (h (b + 3))

-- two words of a name are its eight bytes
name_bytes : (s : List ℕ) → ((i : ℕ) → get_or s i 0 < 256) → (b : ℕ) → b + 8 ≤ length s → word_bytes (word_at s b) ++ word_bytes (word_at s (b + 4)) ≡ take 8 (drop b s)
name_bytes s bytes b l =
    let z : b ≡ b + 0 = omega arith in
    ap (λ r. r ++ word_bytes (word_at s (b + 4))) (word_bytes_lem s bytes b)
    ∙ ap (λ r. (get_or s b 0 ∷ get_or s (b + 1) 0 ∷ get_or s (b + 2) 0 ∷ get_or s (b + 3) 0 ∷ []) ++ r) (word_bytes_lem s bytes (b + 4))
    ∙ rw (add_assoc b 4 1, add_assoc b 4 2, add_assoc b 4 3)
    (ap (λ a. get_or s a 0 ∷ get_or s (b + 1) 0 ∷ get_or s (b + 2) 0 ∷ get_or s (b + 3) 0 ∷ get_or s (b + 4) 0 ∷ get_or s (b + 5) 0 ∷ get_or s (b + 6) 0 ∷ get_or s (b + 7) 0 ∷ []) z ∙ sym (part_at 8 s b l))

pub named_one : (s : List ℕ) → ((i : ℕ) → get_or s i 0 < 256) → (W : List ℕ) (b : ℕ) → Agrees W 5 s b → b + 20 ≤ length s → named_of (take 5 W) ≡ named_at s b
unfolding named_at
named_one s bytes W b h l =
    let z : b + 0 ≡ b = omega arith in
    let w : (i : ℕ) → i < 5 → word (take 5 W) i ≡ word_at s (b + 4 * i) = λ i k. get_or-take 5 W i 0 k ∙ h i k in
    rw (w 0 (omega arith), w 1 (omega arith), w 2 (omega arith), w 3 (omega arith), w 4 (omega arith), z)
    (ap (λ (n : List ℕ). record { name = n; first = word_at s (b + 8); rows = word_at s (b + 12); columns = word_at s (b + 16) }) (name_bytes s bytes b (omega arith)))
