use mathlib.Core.Path.{refl}
use Prim.Native.Nat.{◌*◌}
use Rattle.index_image.proofs.Reading.{begins}
use Rattle.index_image.proofs.stored.monomial_from.Goals as goal

pub returns : goal.returns
returns c = begins c.args.image.now c.args.s.variables c.args.g (4 * c.args.g) refl c.requires.fact
