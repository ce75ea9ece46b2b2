use Rattle.monomial.specs.Monomial.{first}
use lib.ListN.{length}
use Rattle.words.specs.Words.{words}
use Rattle.divmask.proofs.Growth.{Updating}
use Rattle.divmask.proofs.tracker.update.Given as goal

abbrev pub invariant-loop-w : goal.invariant-loop-w
invariant-loop-w l = Updating l.variables (first 1 (words l.monomial)) l.initial.maxima l.maxima (length l.yielded)
