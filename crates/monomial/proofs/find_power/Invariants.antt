use Rattle.words.specs.Words.{words}
use Rattle.monomial.specs.Monomial.{number, first}
use Rattle.monomial.proofs.Divisions.{Finding}
use Rattle.monomial.proofs.find_power.Given as goal

abbrev pub invariant-loop-i : goal.invariant-loop-i
invariant-loop-i l = Finding (number l.fn.kind) (first (number l.fn.kind) (words l.m)) l.v l.i
