-- The machine's drop mark over a stretch of code: kept, or set at an instruction of the stretch; and the meaning's mark beside it.
-- Assumes nothing.
use mathlib.Core.Path.{◌≡◌, refl, sym, ap, ◌∙◌, subst}
use Prim.Native.Nat.{ℕ, zero, suc, ◌≤◌, ◌<◌}
use native.Mathlib.Omega.{arith}
use mathlib.Core.Bool.{Bool, true, false, cond}
use mathlib.Core.List.{List}
use Rattle.number.specs.Number.{Loss, is_loss, first}
use Rattle.number.proofs.Laws.{first_yes, first_no}
use Rattle.rules_shared.specs.Choose.{first_mark, marked}
use Rattle.rules_shared.proofs.ChooseLaws.{marked_yes, marked_no}
use Rattle.rules_text.specs.Trees.{Statement}
use Rattle.rules_deck.specs.Translation.{address_at}
use Rattle.rules_deck.specs.Cells.{SameMark, unmarked}
use Rattle.rules_deck.specs.Cells

-- From mark m to mark m' by instructions at lo up to hi, which lost this. All numbers are parameters,
-- so that `omega` knows its goal under a constructor.
pub data Marked (lo hi m m' : ℕ) (l : Loss) : Type 0 where
  quiet : is_loss l ≡ false → m' ≡ m → Marked lo hi m m' l
  old : is_loss l ≡ true → zero < m → m' ≡ m → Marked lo hi m m' l
  new : is_loss l ≡ true → m ≡ zero → lo < m' → m' ≤ hi → Marked lo hi m m' l

pub widen : {lo hi lo' hi' m m' : ℕ} {l : Loss} → lo ≤ lo' → hi' ≤ hi → Marked lo' hi' m m' l → Marked lo hi m m' l
widen p q (quiet f e) = quiet f e
widen p q (old f z e) = old f z e
widen p q (new f z l u) = new f z (omega arith) (omega arith)

-- a loss stays the first one
first_stays : (l more : Loss) → is_loss l ≡ true → is_loss (first l more) ≡ true
first_stays l more f = ap is_loss (first_yes l more f) ∙ f

first_comes : (l more : Loss) {b : Bool} → is_loss l ≡ false → is_loss more ≡ b → is_loss (first l more) ≡ b
first_comes l more f g = ap is_loss (first_no l more f) ∙ g

pub marked_then : {lo hi m m' m'' : ℕ} {l more : Loss} → Marked lo hi m m' l → Marked lo hi m' m'' more → Marked lo hi m m'' (first l more)
marked_then {l = l} {more} (quiet f e) (quiet f' e') = quiet (first_comes l more f f') (omega arith)
marked_then {l = l} {more} (quiet f e) (old f' z e') = old (first_comes l more f f') (omega arith) (omega arith)
marked_then {l = l} {more} (quiet f e) (new f' z p u) = new (first_comes l more f f') (omega arith) p u
marked_then {l = l} {more} (old f z e) (quiet f' e') = old (first_stays l more f) z (omega arith)
marked_then {l = l} {more} (old f z e) (old f' z' e') = old (first_stays l more f) z (omega arith)
marked_then {l = l} {more} (old f z e) (new f' z' p u) = absurd (omega arith)
marked_then {l = l} {more} (new f z p u) (quiet f' e') = new (first_stays l more f) z (omega arith) (omega arith)
marked_then {l = l} {more} (new f z p u) (old f' z' e') = new (first_stays l more f) z (omega arith) (omega arith)
marked_then {l = l} {more} (new f z p u) (new f' z' p' u') = absurd (omega arith)

-- one instruction
pub marked_one : (l : Loss) (m pc : ℕ) → Marked pc (suc pc) m (marked m l pc) l
marked_one l m pc = by m (is_loss l) refl
  where
    by : (m : ℕ) (b : Bool) → is_loss l ≡ b → Marked pc (suc pc) m (cond b (first_mark m pc) m) l
    by m false f = quiet f refl
    by zero true f = new f refl (omega arith) (omega arith)
    by (suc m) true f = old f (omega arith) refl

-- a stretch inside the statement at j
module _ {deck : List Statement} {lo hi m m' : ℕ} (j : ℕ) (l : address_at deck j ≤ lo) (h : hi ≤ address_at deck (suc j)) where
  same_kept : {d : ℕ} → m' ≡ m → SameMark deck d m → SameMark deck d m'
  same_kept e (unmarked p q) = unmarked p (omega arith)
  same_kept e (Cells.marked i p q r) = Cells.marked i p (omega arith) (omega arith)

  same_old : (d : ℕ) → zero < m → m' ≡ m → SameMark deck d m → SameMark deck (first_mark d j) m'
  same_old zero z e (unmarked p q) = absurd (omega arith)
  same_old zero z e (Cells.marked i p q r) = absurd (omega arith)
  same_old (suc d) z e (unmarked p q) = absurd (omega arith)
  same_old (suc d) z e (Cells.marked i p q r) = Cells.marked i p (omega arith) (omega arith)

  same_new : (d : ℕ) → m ≡ zero → lo < m' → m' ≤ hi → SameMark deck d m → SameMark deck (first_mark d j) m'
  same_new zero z e u s = Cells.marked j refl (omega arith) (omega arith)
  same_new (suc d) z e u (unmarked p q) = absurd (omega arith)
  same_new (suc d) z e u (Cells.marked i p q r) = absurd (omega arith)

  pub same_mark : {d : ℕ} {lost : Loss} → Marked lo hi m m' lost → SameMark deck d m → SameMark deck (marked d lost j) m'
  same_mark {d} {lost} (quiet f e) s = subst (λ n. SameMark deck n m') (sym (marked_no d lost j f)) (same_kept e s)
  same_mark {d} {lost} (old f z e) s = subst (λ n. SameMark deck n m') (sym (marked_yes d lost j f)) (same_old d z e s)
  same_mark {d} {lost} (new f z e u) s = subst (λ n. SameMark deck n m') (sym (marked_yes d lost j f)) (same_new d z e u s)
