use Rattle.std.proofs.Common.{length}
use Rattle.call_replay.proofs.Tally.job.Given as goal

abbrev pub decreases-loop-list : goal.decreases-loop-list
decreases-loop-list l = length l.rest
