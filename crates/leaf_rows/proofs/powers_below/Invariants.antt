use lib.ListN.{length}
use Rattle.words.specs.Words.{words}
use Rattle.monomial.specs.Monomial.{first}
use Rattle.leaf_rows.proofs.Bounding.{Passing}
use Rattle.leaf_rows.proofs.powers_below.Given as goal

abbrev pub invariant-loop-w : goal.invariant-loop-w
invariant-loop-w l = Passing l.variables (first 1 (words l.lm)) (words l.hi) (length l.yielded)
