use lib.ListN.{length}
use mathlib.Core.Path.{◌≡◌}
use Rattle.words.specs.Words.{words}
use Rattle.power_table.proofs.Tabling.{Laying}
use Rattle.power_table.proofs.lay.Given as goal

abbrev pub invariant-loop-w : goal.invariant-loop-w
invariant-loop-w l = (length l.table ≡ 256) × Laying l.table (words l.m) (length l.yielded)
