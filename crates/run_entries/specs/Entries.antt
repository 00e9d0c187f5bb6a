-- What the entries of exits and DOs give the code of an instruction.
-- Assumes nothing.
use Rattle.std.specs.Prelude.{Bool, true, false, List, ℕ, zero, suc, ◌+◌, ◌*◌, ◌≤◌, ltb, length, ℤ, pos, negsuc}
use Rattle.std.proofs.Math.Option.{Option, none, some}
use Rattle.rules_shared.specs.Choose.{sign3}
use Rattle.object_words.specs.Word.{word_at}
use Rattle.run_subscripts.specs.Elements.{Cell}

-- the entry of a DO at byte b
pub record LoopIn (s : List ℕ) (b : ℕ) (so : List ℤ) : Type 0 where
  pub whole : b + 16 ≤ length s
  pub variable : Cell so (word_at s b)
  pub limit : Cell so (word_at s (b + 4))
  pub step : Cell so (word_at s (b + 8))

-- the exit that z names, of the n that stand after byte b
abbrev pub exit_if : Bool → ℕ → Option ℕ
exit_if true a = some a
exit_if false a = none

abbrev pub chosen : List ℕ → ℕ → ℕ → ℤ → Option ℕ
chosen s b n (pos zero) = none
chosen s b n (pos (suc k)) = exit_if (ltb k n) (word_at s (b + 4 * suc k))
chosen s b n (negsuc k) = none

-- 0 below zero, 1 at zero, 2 above
abbrev pub sign_of : ℤ → ℕ
sign_of z = sign3 z 0 1 2
