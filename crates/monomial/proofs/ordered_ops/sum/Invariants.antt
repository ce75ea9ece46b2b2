use Rattle.monomial.specs.Monomial.{first}
use Prim.Native.Nat.{◌+◌, ◌-◌}
use lib.ListN.{length}
use Rattle.words.specs.Words.{words}
use Rattle.monomial.proofs.Sums.{Summing}
use Rattle.monomial.proofs.ordered_ops.sum.Given as goal

abbrev pub invariant-loop-op : goal.invariant-loop-op
invariant-loop-op l = Summing l.op (first 1 (words l.a)) (first 1 (words l.b)) l.initial.out l.out l.i l.j l.n

abbrev pub decreases-loop-op : goal.decreases-loop-op
decreases-loop-op l = (length (first 1 (words l.a)) - l.i) + (length (first 1 (words l.b)) - l.j)
