use Rattle.kd_leaf.proofs.Packing.{packed-stopped}
use Rattle.kd_leaf.proofs.step.stopped.Goals as goal

pub returns : goal.returns
returns c = packed-stopped _ _ c.requires
