use Rattle.std.proofs.Common.{arith, ◌∙◌}
use Rattle.kd_dimension.proofs.Choosing.{key-plain, key-label, key-power}
use Rattle.kd_dimension.proofs.key_in.Goals as goal

pub returns-then-image-eq0 : goal.returns-then-image-eq0
returns-then-image-eq0 c = key-plain _ _ _ _ _ c.if-image-eq0.true (c.from.ensures ∙ c.power_in.ensures)

pub returns-then-d-eq0 : goal.returns-then-d-eq0
returns-then-d-eq0 c = key-label _ _ _ _ _ (omega arith) c.if-d-eq0.true c.label.ensures

pub returns : goal.returns
returns c = key-power _ _ _ _ _ (omega arith) c.if-d-eq0.false (c.from-2.ensures ∙ c.power_in-2.ensures)
