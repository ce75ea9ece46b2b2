use Rattle.words.specs.Words.{words}
use Rattle.kd_sides.proofs.Parting.{Lowest}
use Rattle.kd_sides.proofs.first_least.Given as goal

abbrev pub invariant-loop-i : goal.invariant-loop-i
invariant-loop-i l = Lowest (words l.image.bytes.now) l.image.shape l.x l.lo l.i l.best
