use lib.ListN.{length}
use Rattle.read_formats.proofs.ListLaws.{Reading}
use Prim.Native.Nat.{◌-◌}
use Rattle.read_formats.proofs.+read_list.Given as goal

abbrev pub decreases-read_list : goal.decreases-read_list
decreases-read_list l = length l.columns.now - l.s.at

abbrev pub invariant-loop-u : goal.invariant-loop-u
invariant-loop-u l = Reading l.columns l.initial.words l.initial.t l.initial.p l.words l.t l.p

abbrev pub decreases-loop-u : goal.decreases-loop-u
decreases-loop-u l = length l.columns - l.t.at
