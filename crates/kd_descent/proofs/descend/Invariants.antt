use Prim.Native.Nat.{◌-◌}
use Rattle.words.specs.Words.{words}
use Rattle.kd_slots.specs.Slots.{Mapped}
use Rattle.kd_descent.specs.Growing.{Growth}
use Rattle.kd_descent.proofs.Going.{Going}
use Rattle.kd_descent.proofs.descend.Given as goal

abbrev pub invariant-loop-places : goal.invariant-loop-places
invariant-loop-places l = (M : Mapped l.initial.image l.s) (g : Growth (words l.initial.image) l.s (words l.lm.monomial.now) l.label 0) → Going M g l.image l.k l.lo

abbrev pub decreases-loop-places : goal.decreases-loop-places
decreases-loop-places l = l.s.nodes - l.k
