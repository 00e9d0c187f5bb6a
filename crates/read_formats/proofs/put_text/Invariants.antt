-- `read_formats::put_text` meets its contract. Assumes nothing.
use Prim.Native.Nat.{◌≤◌}
use lib.ListN.{take, drop}
use Rattle.read_formats.specs.Puts.{text_words, Puts}
use Rattle.read_formats.proofs.put_text.Given as goal

abbrev pub invariant-loop-j : goal.invariant-loop-j
invariant-loop-j l = Puts (text_words (take l.j (drop l.at l.columns))) l.initial.words l.words l.top l.t × (l.j ≤ l.n)
