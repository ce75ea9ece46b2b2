use Rattle.monomial.specs.Monomial.{first}
use lib.ListN.{length}
use Rattle.words.specs.Words.{words}
use Rattle.power_table.proofs.Tabling.{Passing}
use Rattle.power_table.proofs.divides.Given as goal

abbrev pub invariant-loop-w : goal.invariant-loop-w
invariant-loop-w l = Passing (words l.table) (first 1 (words l.a)) (length l.yielded)
