-- `read_items::put_named` meets its contract. Assumes nothing.
use native.Mathlib.Omega.{arith}
use Rattle.read_items.proofs.Tables.{put_one, put_more}
use Rattle.read_items.proofs.put_named.Goals as goal

pub returns : goal.returns
returns c = put_more (put_one c.args.items.now c.args.n c.args.word (omega (arith, c.requires))) c.put_name.ensures
