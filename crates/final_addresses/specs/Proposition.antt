-- That each DO's last statement stands in the tables is so in one way.
-- Assumes nothing.
use Rattle.std.specs.Prelude.{ℕ, List}
use Rattle.std.proofs.Props.{props}
use Rattle.final_addresses.specs.Ends.{Lasts}

pub lasts_prop : (loops : List ℕ) (n : ℕ) (jumps : List ℕ) → IsProp (Lasts loops n jumps)
lasts_prop loops n jumps = Prim.hlevel props
