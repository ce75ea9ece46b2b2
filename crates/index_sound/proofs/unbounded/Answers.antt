use native.Mathlib.Omega.{arith}
use mathlib.Core.Path.{◌∙◌}
use Rattle.index_sound.proofs.Steps.{bound-more}
use Rattle.index_sound.proofs.unbounded.Goals as goal

pub loop-i-preserved : goal.loop-i-preserved
loop-i-preserved c = (c.put.auto.s ∙ c.loop-i.invariant.0, bound-more c.loop-i.hi _ c.loop-i.i (omega arith) c.put.ensures c.loop-i.invariant.1)
