use mathlib.Core.Logic.{◌↔◌}
use mathlib.Core.Path.{◌≡◌}
use Rattle.words.specs.Words.{words}
use Rattle.words.specs.Tables.{part, zeros}
use Rattle.words.proofs.runs.bits_of.Given as goal

abbrev pub invariant-loop-i : goal.invariant-loop-i
invariant-loop-i l = (l.bits ≡ 0) ↔ (part (words l.s) l.at l.i ≡ zeros l.i)
