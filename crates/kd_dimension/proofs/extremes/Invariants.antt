use Rattle.words.specs.Words.{words}
use Rattle.kd_dimension.proofs.Choosing.{Extremes}
use Rattle.kd_dimension.proofs.extremes.Given as goal

abbrev pub invariant-loop-i : goal.invariant-loop-i
invariant-loop-i l = Extremes (words l.image.bytes.now) l.image.shape l.v l.lo l.i l.least l.greatest
