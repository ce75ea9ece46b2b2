use Rattle.std.proofs.Common.{◌≡◌, length}
use Rattle.words.specs.Words.{words}
use Rattle.divmask_table.proofs.Tabling.{Filled}
use Rattle.divmask_table.proofs.fill.Given as goal

abbrev pub invariant-loop-k : goal.invariant-loop-k
invariant-loop-k l = (length l.table ≡ 8192) × Filled l.map.variables (words l.map.maxima.now) (words l.table) l.k
