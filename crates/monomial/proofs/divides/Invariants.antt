use Rattle.monomial.specs.Monomial.{first}
use Prim.Native.Nat.{◌-◌}
use lib.ListN.{length}
use Rattle.words.specs.Words.{words}
use Rattle.monomial.proofs.Divisions.{Dividing}
use Rattle.monomial.proofs.divides.Given as goal

abbrev pub invariant-loop-i : goal.invariant-loop-i
invariant-loop-i l = Dividing (first 1 (words l.a)) (first 1 (words l.b)) l.i l.j

abbrev pub decreases-loop-i : goal.decreases-loop-i
decreases-loop-i l = length (first 1 (words l.b)) - l.j
