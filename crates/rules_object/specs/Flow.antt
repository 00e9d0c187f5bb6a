-- Rule 44 over any flow of control: tables of heights, and the same in terms of paths. 01 "44".
-- Assumes nothing.
use Rattle.std.specs.Prelude.{◌≡◌, ◌⊎◌, List, ℕ, ◌+◌, ◌-◌, ◌≤◌, ◌<◌, length, get_or}
use Rattle.std.proofs.Math.Option.{Option, none, some}
use Rattle.rules_shared.specs.Limits.{limits}

-- n instructions; what each pops and pushes; how many successors it has, and each of them
pub record Flow : Type 0 where
  pub n : ℕ
  pub takes : ℕ → ℕ
  pub gives : ℕ → ℕ
  pub width : ℕ → ℕ
  pub next : ℕ → ℕ → ℕ

-- ---- tables

-- A table is a list of bytes: 0 to 40, or this one.
abbrev pub never : ℕ
never = 255

-- an instruction's height in a table; read at instructions only, so the default says nothing
abbrev pub height_at : List ℕ → ℕ → ℕ
height_at H a = get_or H a 0

-- the height after the instruction a
abbrev pub after : Flow → List ℕ → ℕ → ℕ
after F H a = height_at H a - F.takes a + F.gives a

-- The kth successor of a exists and has the resulting height, which is one: 255 would read as never.
pub record Lead (F : Flow) (H : List ℕ) (a k : ℕ) : Type 0 where
  pub inside : F.next a k < F.n
  pub low : after F H a ≤ limits.stack
  pub is : height_at H (F.next a k) ≡ after F H a

-- a, which has a height, can pop what it pops, and each of its successors exists and has the resulting height
pub record Fine (F : Flow) (H : List ℕ) (a : ℕ) : Type 0 where
  pub room : F.takes a ≤ height_at H a
  pub leads : (k : ℕ) → k < F.width a → Lead F H a k

-- a table: it gives each instruction 0 to 40 or never, instruction 0 has 0, and each one with a height is fine
pub record Valid (F : Flow) (H : List ℕ) : Type 0 where
  pub sized : F.n ≤ length H
  pub begins : (0 < F.n) × (height_at H 0 ≡ 0)
  pub low : (a : ℕ) → a < F.n → (height_at H a ≤ limits.stack) ⊎ (height_at H a ≡ never)
  pub each : (a : ℕ) → a < F.n → height_at H a ≤ limits.stack → Fine F H a

pub record NoTable (F : Flow) : Type 0 where
  pub none : (U : List ℕ) → Valid F U → ⊥

-- ---- paths

-- a path from instruction 0 and an empty stack comes to a with h numbers on the stack
pub data Reached (F : Flow) : ℕ → ℕ → Type 0 where
  first : Reached F 0 0
  onward : {a h : ℕ} (k : ℕ) → Reached F a h → k < F.width a → Reached F (F.next a k) (h - F.takes a + F.gives a)

-- there is an instruction 0; every path stays inside the code, covers what each instruction takes and stays within the stack;
-- and any two paths to one instruction agree in height
pub record PathsAgree (F : Flow) : Type 0 where
  pub starts : 0 < F.n
  pub inside : {a h : ℕ} → Reached F a h → a < F.n
  pub covers : {a h : ℕ} → Reached F a h → F.takes a ≤ h
  pub within : {a h : ℕ} → Reached F a h → h ≤ limits.stack
  pub agree : {a g h : ℕ} → Reached F a g → Reached F a h → g ≡ h

-- ---- the least table

-- U has every height that H has
pub record Below (F : Flow) (H U : List ℕ) : Type 0 where
  pub has : (a : ℕ) → a < F.n → height_at H a ≤ limits.stack → height_at U a ≡ height_at H a

-- its heights are those that paths come with, so every table has them
pub record Least (F : Flow) (H : List ℕ) : Type 0 where
  pub valid : Valid F H
  pub least : (U : List ℕ) → Valid F U → Below F H U
  pub reach : (a : ℕ) → a < F.n → height_at H a ≤ limits.stack → Reached F a (height_at H a)

-- The answer is exact: the least table, with an entry for each instruction; or none, and then there is no table, and paths do not agree.
pub data Exact (F : Flow) : Option (List ℕ) → Type 0 where
  table : {H : List ℕ} → Least F H → length H ≡ F.n → Exact F (some H)
  refused : NoTable F → (PathsAgree F → ⊥) → Exact F none
