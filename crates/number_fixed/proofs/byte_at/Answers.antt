use mathlib.Core.Path.{refl}
use Rattle.number_fixed.proofs.byte_at.Goals as goal

pub returns : goal.returns
returns c = (refl, (c.type_inv.s c.args.at).fits)
