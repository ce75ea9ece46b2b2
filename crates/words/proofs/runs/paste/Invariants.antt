use mathlib.Core.Path.{◌≡◌}
use lib.ListN.{take}
use Rattle.words.specs.Words.{words, paste_w}
use Rattle.words.proofs.runs.paste.Given as goal

abbrev pub invariant-loop-i : goal.invariant-loop-i
invariant-loop-i l = l.s ≡ paste_w l.initial.s l.at (take l.i (words l.row))
