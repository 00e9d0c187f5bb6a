-- The machine's halts and their numbers. 01 "Running", 2026-01.
-- Assumes nothing.
use Rattle.std.specs.Prelude.{ℕ}
use Rattle.rules_shared.specs.Runs.{Outcome}

pub data Halt : Type 0 where
  at_stop at_end divide_by_zero bad_subscript bad_exit bad_parameter bad_stack bad_instruction ran_out bad_field : Halt

-- 2 is for an allowance that is used up
unfoldable pub halt_number : Halt → ℕ
halt_number at_stop = 0
halt_number at_end = 1
halt_number divide_by_zero = 3
halt_number bad_subscript = 4
halt_number bad_exit = 5
halt_number bad_parameter = 6
halt_number bad_stack = 7
halt_number bad_instruction = 8
halt_number ran_out = 9
halt_number bad_field = 10

-- what a run of the machine comes to
abbrev pub Out : Type 0 → Type 0
Out S = Outcome Halt S
