-- `read_cards::digits` meets its contract. Assumes nothing.
use mathlib.Core.Path.{◌≡◌}
use Prim.Native.Nat.{◌<◌, ◌^◌}
use lib.ListN.{take, drop}
use Rattle.read_cards.specs.Columns.{digits_of}
use Rattle.read_cards.proofs.CardLaws.{from}
use Rattle.read_cards.proofs.digits.Given as goal

abbrev pub invariant-loop-c : goal.invariant-loop-c
invariant-loop-c l = record { low : l.value < 10 ^ l.c-index; same : digits_of l.card ≡ from l.value (drop l.c-index (take 5 l.card)) }
