use Rattle.kd_leaf.proofs.Packing.{packed-rows}
use Rattle.kd_leaf.proofs.step.with_rows.Goals as goal

pub returns : goal.returns
returns c = packed-rows _ _
