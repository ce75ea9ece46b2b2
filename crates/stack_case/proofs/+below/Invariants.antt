use Rattle.stack_case.proofs.+below.Given as goal

abbrev pub decreases-below : goal.decreases-below
decreases-below g l = l.frames
