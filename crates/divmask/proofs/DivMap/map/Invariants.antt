use lib.ListN.{length}
use Rattle.words.specs.Words.{words}
use Rattle.divmask.proofs.Masks.{Mapping}
use Rattle.monomial.specs.Monomial.{first}
use Rattle.divmask.proofs.DivMap.map.Given as goal

abbrev pub invariant-loop-w : goal.invariant-loop-w
invariant-loop-w l = Mapping l.self.variables (words l.self.maxima.now) (first 1 (words l.monomial)) (length l.yielded) l.mask
