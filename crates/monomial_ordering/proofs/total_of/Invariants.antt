use Prim.Native.Nat.{◌-◌}
use lib.ListN.{length}
use Rattle.words.specs.Words.{words}
use Rattle.monomial.specs.Monomial.{number, first}
use Rattle.monomial_ordering.proofs.Orders.{Totalling}
use Rattle.monomial_ordering.proofs.total_of.Given as goal

abbrev pub invariant-loop-absent : goal.invariant-loop-absent
invariant-loop-absent l = Totalling (number l.fn.kind) (first (number l.fn.kind) (words l.s)) l.sum l.i

abbrev pub decreases-loop-absent : goal.decreases-loop-absent
decreases-loop-absent l = length (first (number l.fn.kind) (words l.s)) - l.i
