use Rattle.std.proofs.Common.{Some, None, arith}
use Rattle.kd_sides.proofs.Parting.{mark-plain, mark-power, mark-entry}
use Rattle.kd_sides.proofs.mark.Goals.{then-image-eq0-via-then-image-eq0, then-image-eq0-via-else-image-eq0+then-average-ne0}
use Rattle.kd_sides.proofs.mark.Goals as goal

pub returns-then-image-eq0 : goal.returns-then-image-eq0
returns-then-image-eq0 c = elim c.then-image-eq0.branch [
  | then-image-eq0-via-then-image-eq0 w ↦ mark-plain _ _ _ _ _ w.if-image-eq0.true
  | then-image-eq0-via-else-image-eq0+then-average-ne0 w ↦ mark-power _ _ _ _ _ (omega arith) w.if-average-ne0.true
]

pub returns-in-Some : goal.returns-in-Some
returns-in-Some c = mark-entry _ _ _ _ _ _ (Some c.in-Some.e) (omega arith) c.if-average-ne0.false c.in-Some.ensures.value

pub returns-in-None : goal.returns-in-None
returns-in-None c = mark-entry _ _ _ _ _ _ None (omega arith) c.if-average-ne0.false c.in-None.ensures.value
