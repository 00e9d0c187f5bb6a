-- One entry tested, the search for an entry, an entry written, and an item's length: laws over plain lists and numbers.
-- Assumes nothing.
use mathlib.Core.Path.{◌≡◌, sym, ap, ◌∙◌, subst}
use Prim.Native.Nat.{ℕ, suc, ◌+◌, ◌-◌, ◌*◌, ◌≤◌, ◌<◌}
use native.Mathlib.Omega.{arith}
use mathlib.Core.Bool.{Bool, true, false, cond}
use mathlib.Core.List.{List, [], ◌∷◌, ◌++◌}
use lib.ListN.{length, drop, set}
use lib.Seq.{drop-drop}
use Rattle.read_tokens.specs.declared.Name.{Name}
use Rattle.read_tokens.specs.Words.{name_words}
use Rattle.read_items.specs.Parsed.{Put}
use Rattle.read_items.proofs.Tables.{put_one, put_more}
use Rattle.take_name_table.specs.Find.{is_entry, first_entry}

-- ---- the search, at entry i

pub record Seeking (k : Bool) (w : Name) (n : ℕ) (t : List ℕ) (i : ℕ) : Type 0 where
  pub within : i ≤ n
  pub is : first_entry k w n t ≡ i + first_entry k w (n - i) (drop (7 * i) t)

module _ (k : Bool) (w : Name) (n : ℕ) (t : List ℕ) where
  pub seek_start : Seeking k w n t 0
  seek_start = record { within = omega arith; is = let e : n - 0 ≡ n = omega arith in ap (λ (m : ℕ). first_entry k w m t) (sym e) ∙ (omega arith) }

  first_step : (i m : ℕ) → m ≡ suc (n - (i + 1))
      → first_entry k w m (drop (7 * i) t) ≡ cond (is_entry k w (drop (7 * i) t)) 0 (suc (first_entry k w (n - (i + 1)) (drop (7 * (i + 1)) t)))
  unfolding first_entry
  first_step i m e =
      ap (λ (x : ℕ). first_entry k w x (drop (7 * i) t)) e
      ∙ ap (λ (l : List ℕ). cond (is_entry k w (drop (7 * i) t)) 0 (suc (first_entry k w (n - (i + 1)) l))) (drop-drop 7 (7 * i) t)
      ∙ (let f : 7 * i + 7 ≡ 7 * (i + 1) = omega arith in ap (λ (j : ℕ). cond (is_entry k w (drop (7 * i) t)) 0 (suc (first_entry k w (n - (i + 1)) (drop j t)))) f)

  pub seek_found : (i : ℕ) → Seeking k w n t i → i < n → is_entry k w (drop (7 * i) t) ≡ true → i ≡ first_entry k w n t
  seek_found i s l e =
      let f = first_step i (n - i) (omega arith) in
      let g = ap (λ (b : Bool). cond b 0 (suc (first_entry k w (n - (i + 1)) (drop (7 * (i + 1)) t)))) e in
      let z : first_entry k w (n - i) (drop (7 * i) t) ≡ 0 = f ∙ g in
      let h = s.is in
      omega (arith, h, z)

  pub seek_next : (i : ℕ) → Seeking k w n t i → i < n → is_entry k w (drop (7 * i) t) ≡ false → Seeking k w n t (i + 1)
  seek_next i s l e =
      let f = first_step i (n - i) (omega arith) in
      let g = ap (λ (b : Bool). cond b 0 (suc (first_entry k w (n - (i + 1)) (drop (7 * (i + 1)) t)))) e in
      let z : first_entry k w (n - i) (drop (7 * i) t) ≡ suc (first_entry k w (n - (i + 1)) (drop (7 * (i + 1)) t)) = f ∙ g in
      let h = s.is in
      record { within = omega arith; is = omega (arith, h, z) }

  pub seek_end : (i : ℕ) → Seeking k w n t i → n ≤ i → n ≡ first_entry k w n t
  unfolding first_entry
  seek_end i s l =
      let e : n - i ≡ 0 = omega arith in
      let z : first_entry k w (n - i) (drop (7 * i) t) ≡ 0 = ap (λ (m : ℕ). first_entry k w m (drop (7 * i) t)) e in
      let h = s.is in
      let b = s.within in
      omega (arith, h, z, b)

-- ---- an entry written

pub put_last : {a b : List ℕ} {n m k w : ℕ} {x : Name} {y z : ℕ} {c : List ℕ} → Put a b n (name_words x) m → Put b c m (y ∷ z ∷ []) k → k < length c
    → Put a (set c k w) n (name_words x ++ (y ∷ z ∷ w ∷ [])) (n + 7)
put_last {a} {b} {n} {m} {k} {w} {x} {y} {z} {c} p q l =
    let all = put_more p (put_more q (put_one c k w l)) in
    subst (λ (r : ℕ). Put a (set c k w) n (name_words x ++ (y ∷ z ∷ w ∷ [])) r) all.top all
