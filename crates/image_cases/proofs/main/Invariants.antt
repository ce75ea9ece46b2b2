use Rattle.std.proofs.Common.{length}
use Rattle.image_cases.proofs.main.Given as goal

abbrev pub decreases-loop-image : goal.decreases-loop-image
decreases-loop-image l = length l.rest
