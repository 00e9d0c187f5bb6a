-- `check_entries::constant_right` meets its contract. Assumes nothing.
use mathlib.Core.Path.{◌∙◌}
use Rattle.check_entries.proofs.Says.{constant_says}
use Rattle.check_entries.proofs.constant_right.Goals as goal

pub returns : goal.returns
returns c =
    c.fits.ensures ∙ constant_says _ _ c.args.i _ c.args.o.now.ruled c.requires
