-- `read_lists::read_numbers` meets its contract. Assumes nothing.
use mathlib.Core.List.{[]}
use Prim.Native.Nat.{◌+◌, ◌-◌}
use lib.ListN.{length}
use Rattle.rules_text.specs.Tokens.{number}
use Rattle.read_tokens.specs.Sizes.{sizes_of}
use Rattle.read_lists.specs.Lists.{numbers_words, numbers_sizes}
use Rattle.read_lists.proofs.Listing.{Listing}
use Rattle.read_lists.proofs.read_numbers.Given as goal

abbrev pub invariant-loop-number : goal.invariant-loop-number
invariant-loop-number l = Listing number numbers_words numbers_sizes l.text l.from l.initial.items l.items l.at l.n l.n (sizes_of [] [] 0)

abbrev pub decreases-loop-number : goal.decreases-loop-number
decreases-loop-number l = length l.text + 1 - l.at
