-- What the tests of a bench run give, and what is remembered of them.
-- Assumes nothing.
use Rattle.std.specs.Prelude.{◌≡◌, ℕ, suc, ◌+◌, ◌-◌, ◌&&◌, cond, List, leb, get_or, Result, Ok, Err}
use Rattle.object_opcodes.specs.declared.Halt.{Halt}
use Rattle.object_opcodes.specs.declared.Halt.TheVariants.{BadStack, BadInstruction}
use Rattle.rules_object.specs.Object.{Object}
use Rattle.rules_object.specs.Check.{in_code}
use Rattle.rules_object.specs.Operations.{right43, entry_right, pops, pushes, instruction}

-- 7 where the stack has too few numbers or too little room
unfoldable pub room_for : ℕ → ℕ → ℕ → Result Unit Halt
room_for pops pushes h = cond (leb pops h && leb (h - pops + pushes) 40) (Ok tt) (Err BadStack)

abbrev pub word_of : Object → ℕ → ℕ
word_of o i = get_or o.code i 0

-- 8, then 7
unfoldable pub guard_of : Object → ℕ → ℕ → Result Unit Halt
guard_of o i h = cond (in_code o i && (right43 o (word_of o i) && entry_right o (word_of o i))) (room_for (pops (instruction o i)) (pushes (instruction o i)) h) (Err BadInstruction)

-- Where all was right: 1 more than such a height for an instruction, or 0.
pub record Sees (o : Object) (seen : List ℕ) : Type 0 where
  pub right : (i h : ℕ) → get_or seen i 0 ≡ suc h → guard_of o i h ≡ Ok tt
