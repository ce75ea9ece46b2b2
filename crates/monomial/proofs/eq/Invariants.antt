use mathlib.Core.Path.{◌≡◌}
use lib.ListN.{drop}
use Rattle.words.specs.Words.{words}
use Rattle.monomial.specs.Operations.{equal}
use Rattle.monomial.proofs.eq.Given as goal

abbrev pub invariant-loop-i : goal.invariant-loop-i
invariant-loop-i l = equal (words l.a) (words l.b) ≡ equal (drop l.i (words l.a)) (drop l.i (words l.b))
