use Rattle.kd_leaf.proofs.Packing.{packed-first}
use Rattle.kd_leaf.proofs.step.first.Goals as goal

pub returns : goal.returns
returns c = packed-first _
