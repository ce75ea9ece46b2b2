use Rattle.kd_leaf.proofs.Packing.{packed-going}
use Rattle.kd_leaf.proofs.step.going.Goals as goal

pub returns : goal.returns
returns c = packed-going _ _ c.requires
