-- `read_tokens::name_word` meets its contract. Assumes nothing.
use mathlib.Core.Path.{◌≡◌}
use Prim.Native.Nat.{◌^◌, ◌<◌}
use lib.ListN.{drop}
use Rattle.rules_deck.specs.Translation.{filled}
use Rattle.read_tokens.specs.Words.{bytes_from, name_word}
use Rattle.read_tokens.proofs.name_word.Given as goal

abbrev pub invariant-loop-i : goal.invariant-loop-i
invariant-loop-i l = (name_word (drop l.skip l.name) ≡ bytes_from l.w (drop l.i (filled 8 (drop l.skip l.name)))) × (l.w < 256 ^ l.i)
