use lib.ListN.{length}
use Rattle.words.specs.Words.{words}
use Rattle.monomial.specs.Monomial.{first}
use Rattle.divmask.proofs.Sums.{Adding}
use Rattle.divmask.proofs.DivMap.map_pair.Given as goal

abbrev pub invariant-loop-w : goal.invariant-loop-w
invariant-loop-w l = Adding l.self.variables (words l.self.maxima.now) (first 1 (words l.monomial)) (length l.yielded) l.masks
