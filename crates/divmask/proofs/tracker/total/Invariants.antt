use lib.ListN.{drop}
use Prim.Native.Nat.{◌+◌}
use mathlib.Core.Path.{◌≡◌}
use Rattle.words.specs.Words.{words}
use Rattle.divmask.specs.Tracker.{total}
use Rattle.divmask.proofs.tracker.total.Given as goal

abbrev pub invariant-loop-i : goal.invariant-loop-i
invariant-loop-i l = l.sum + total (drop l.i (words l.maxima)) ≡ total (words l.maxima)
