-- `take_name_table::listed::Names::find` meets its contract. Assumes nothing.
use Rattle.take_name_table.proofs.Leaves.{Seeking}
use Rattle.take_name_table.proofs.listed.Names.find.Given as goal

abbrev pub invariant-loop-i : goal.invariant-loop-i
invariant-loop-i l = Seeking l.arrays l.name l.self.count l.self.words.now l.i
