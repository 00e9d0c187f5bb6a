-- `read_lists::read_arrays` meets its contract. Assumes nothing.
use Prim.Native.Nat.{◌+◌, ◌-◌}
use lib.ListN.{length}
use Rattle.rules_text.specs.Grammar.{array_shape}
use Rattle.read_forms.specs.Statements.{all_words}
use Rattle.read_lists.specs.Lists.{arrays_sizes}
use Rattle.read_lists.proofs.Listing.{Listing}
use Rattle.read_lists.proofs.read_arrays.Given as goal

abbrev pub invariant-loop-array : goal.invariant-loop-array
invariant-loop-array l = Listing array_shape all_words arrays_sizes l.text l.from l.initial.items l.items l.at l.n l.count l.sizes

abbrev pub decreases-loop-array : goal.decreases-loop-array
decreases-loop-array l = length l.text + 1 - l.at
