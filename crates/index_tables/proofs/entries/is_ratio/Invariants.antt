use Prim.Native.Nat.{◌+◌, ◌-◌}
use lib.ListN.{length}
use Rattle.words.specs.Words.{words}
use Rattle.monomial.specs.Monomial.{first}
use Rattle.index_tables.proofs.Merging.{Merging}
use Rattle.index_tables.proofs.entries.is_ratio.Given as goal

abbrev pub invariant-loop-i : goal.invariant-loop-i
invariant-loop-i l = Merging (first 1 (words l.a)) (first 1 (words l.b)) (words l.c) l.i l.j l.n

abbrev pub decreases-loop-i : goal.decreases-loop-i
decreases-loop-i l = (length (first 1 (words l.a)) - l.i) + (length (first 1 (words l.b)) - l.j)
