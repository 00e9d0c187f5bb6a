-- A line in place: it is blank when it begins, and a field put at its column is the line with that field, blank after it.
-- Assumes nothing.
use mathlib.Core.Path.{◌≡◌, refl, sym, ap, ◌∙◌}
use mathlib.Core.List.{List, ◌++◌, append_assoc}
use Prim.Native.Nat.{ℕ, zero, suc, ◌+◌, ◌-◌, ◌≤◌}
use native.Mathlib.Omega.{arith}
use lib.ListN.{length, take, drop, replicate, length-append, length-replicate}
use lib.Seq.{sets-eq, take_at, drop_at, drop-drop}
use borrow.Rule.Slice.PartMut.{put_mid}
use Rattle.rules_formats.specs.Fields.{blank}
use Rattle.rules_formats.specs.Walk.{Columns, line_width, whole}
use Rattle.run_fields.specs.Put.{over}

-- a part lent and given back with xs in it
pub part_over : (at width : ℕ) (line xs : List ℕ) → at + width ≤ length line → length xs ≡ width → put_mid at (at + width - at) line xs ≡ over at xs line
unfolding over
part_over at width line xs h e =
    let room : at + length xs ≤ length line = omega arith in
    let n : at + (at + width - at) ≡ at + length xs = omega arith in
    ap (λ (r : List ℕ). take at line ++ (xs ++ r)) (drop-drop (at + width - at) at line ∙ ap (λ (k : ℕ). drop k line) n)
    ∙ sym (append_assoc (take at line) xs (drop (at + length xs) line))
    ∙ sym (sets-eq xs line at room)

blanks_left : (n m c : ℕ) → drop n (replicate m c) ≡ replicate (m - n) c
blanks_left zero m c = let all : m ≡ m - 0 = omega arith in ap (λ (k : ℕ). replicate k c) all
blanks_left (suc n) zero c = let none : 0 ≡ 0 - suc n = omega arith in ap (λ (k : ℕ). replicate k c) none
blanks_left (suc n) (suc m) c = blanks_left n m c ∙ ap (λ (k : ℕ). replicate k c) same
  where
    same : m - n ≡ suc m - suc n
    same = omega arith

-- a field put on a line right after what it holds
pub put_on_lem : (line field : Columns) → length line + length field ≤ line_width → over (length line) field (whole line) ≡ whole (line ++ field)
unfolding over
put_on_lem line field h =
    let rest : Columns = replicate (line_width - length line) blank in
    let room : length line + length field ≤ length (whole line) = omega (arith, length-append line rest, length-replicate (line_width - length line) blank) in
    let left : line_width - length line - length field ≡ line_width - length (line ++ field) = omega (arith, length-append line field) in
    sets-eq field (whole line) (length line) room
    ∙ ap (λ (l : Columns). l ++ field ++ drop (length line + length field) (whole line)) (take_at line rest (length line) refl)
    ∙ ap (λ (l : Columns). line ++ field ++ l)
    (sym (drop-drop (length field) (length line) (whole line)) ∙ ap (drop (length field)) (drop_at line rest (length line) refl) ∙ blanks_left (length field) (line_width - length line) blank)
    ∙ ap (λ (k : ℕ). line ++ field ++ replicate k blank) left
