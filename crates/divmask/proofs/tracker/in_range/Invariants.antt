use lib.ListN.{drop}
use mathlib.Core.Path.{◌≡◌}
use Rattle.words.specs.Words.{words}
use Rattle.divmask.specs.Tracker.{all_in_range}
use Rattle.divmask.proofs.tracker.in_range.Given as goal

abbrev pub invariant-loop-i : goal.invariant-loop-i
invariant-loop-i l = all_in_range (words l.s) ≡ all_in_range (drop l.i (words l.s))
