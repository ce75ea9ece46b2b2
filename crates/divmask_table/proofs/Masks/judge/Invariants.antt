use Rattle.words.specs.Words.{words}
use Rattle.divmask_table.proofs.Tabling.{Going}
use Rattle.divmask_table.proofs.Masks.judge.Given as goal

abbrev pub invariant-loop-i : goal.invariant-loop-i
invariant-loop-i l = Going l.self.map.variables (words l.self.map.maxima.now) (words l.s) l.at l.i l.bound l.masks
