use Prim.Native.Nat.{◌-◌}
use Rattle.words.specs.Words.{words}
use Rattle.monomial.specs.Monomial.{number, first}
use Rattle.monomial_ordering.proofs.Orders.{Matching}
use Rattle.monomial_ordering.proofs.revlex.Given as goal

abbrev pub invariant-loop-k : goal.invariant-loop-k
invariant-loop-k l = Matching (number l.fn.kind) (first (number l.fn.kind) (words l.a)) (first (number l.fn.kind) (words l.b)) (l.i - l.k) (l.j - l.k)
