-- P1 to P8 of 01 as decks, and beside them two divisions with a negative number: what each means, and what compiling and running it answers.
-- Assumes nothing.
use Rattle.std.specs.Prelude.{◌≡◌, ℕ, List, [], ◌∷◌, ℤ, pos, negsuc}
use Prim.Native.String.{String}
use Rattle.rules_shared.specs.House.{house1401}
use Rattle.rules_deck.specs.Meaning.{Key, plain}
use Rattle.rules_text.specs.Punch.{bytes, deck}
use Rattle.rules_deck.specs.Answers.{ran, answered, meant}

pub record Worked : Type 0 where
  pub digits : ℕ
  pub cards : List String
  pub names : List Key
  pub halt : ℕ
  pub steps : ℕ
  pub lost : ℕ
  pub values : List ℤ

abbrev pub worked : ℕ → List String → List Key → ℕ → ℕ → ℕ → List ℤ → Worked
worked k cards names h n lost values = record { digits = k; cards = cards; names = names; halt = h; steps = n; lost = lost; values = values }

-- digits, cards, names; then halt, steps, the first statement that lost digits, and the names' values
abbrev pub decks : List Worked
decks =
    -- P1: 99999+1 is 0, dropped
    worked 5 ("      I=99999+1" ∷ "      END" ∷ []) (plain (bytes "I") ∷ []) 1 5 1 (pos 0 ∷ []) ∷
    -- P2: -99999-2 is -1
    worked 5 ("      I=-99999-2" ∷ "      END" ∷ []) (plain (bytes "I") ∷ []) 1 6 1 (negsuc 0 ∷ []) ∷
    -- P3: -7/2 is -3
    worked 5 ("      I=-7/2" ∷ "      END" ∷ []) (plain (bytes "I") ∷ []) 1 6 0 (negsuc 2 ∷ []) ∷
    -- P4: 300*400/100 is 200
    worked 5 ("      I=300*400/100" ∷ "      END" ∷ []) (plain (bytes "I") ∷ []) 1 7 1 (pos 200 ∷ []) ∷
    -- P5: DO I=5,3 runs once, I stays 5
    worked 5 ("      DO7I=5,3" ∷ "    7 J=J+1" ∷ "      END" ∷ []) (plain (bytes "I") ∷ plain (bytes "J") ∷ []) 1 10 0 (pos 5 ∷ pos 1 ∷ []) ∷
    -- P6: DO I=1,10,4 takes 1, 5, 9
    worked 5 ("      DO7I=1,10,4" ∷ "    7 J=J*10+I" ∷ "      END" ∷ []) (plain (bytes "I") ∷ plain (bytes "J") ∷ []) 1 26 0 (pos 9 ∷ pos 159 ∷ []) ∷
    -- P7: DO I=99999,99999 runs once, no drop
    worked 5 ("      DO7I=99999,99999" ∷ "    7 J=J+1" ∷ "      END" ∷ []) (plain (bytes "I") ∷ plain (bytes "J") ∷ []) 1 10 0 (pos 99999 ∷ pos 1 ∷ []) ∷
    -- P8: k=9: 999999999 squared is 1
    worked 9 ("      I=999999999*999999999" ∷ "      END" ∷ []) (plain (bytes "I") ∷ []) 1 5 1 (pos 1 ∷ []) ∷
    -- beside 01's table: a negative number divided, and one that divides
    worked 5 ("      I=-7" ∷ "      J=I/2" ∷ "      END" ∷ []) (plain (bytes "I") ∷ plain (bytes "J") ∷ []) 1 8 0 (negsuc 6 ∷ negsuc 2 ∷ []) ∷
    worked 5 ("      I=-2" ∷ "      J=7/I" ∷ "      END" ∷ []) (plain (bytes "I") ∷ plain (bytes "J") ∷ []) 1 8 0 (negsuc 1 ∷ negsuc 2 ∷ []) ∷
    []

pub record MeansAndRuns (w : Worked) : Type 0 where
  pub means : meant (house1401 w.digits) (deck w.cards) w.names ≡ ran w.halt 0 w.lost w.values
  pub runs : answered (house1401 w.digits) (deck w.cards) 400 w.names ≡ ran w.halt w.steps w.lost w.values

abbrev pub DecksRight : List Worked → Type 0
DecksRight [] = Unit {0}
DecksRight (w ∷ more) = MeansAndRuns w × DecksRight more
