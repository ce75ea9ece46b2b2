use mathlib.Core.Path.{◌≡◌}
use Prim.Native.Nat.{◌≤◌, ◌+◌}
use lib.ListN.{length, drop}
use Rattle.words.specs.Words.{words}
use Rattle.index_theory.specs.Calls.{calls}
use Rattle.call_list.proofs.count.Given as goal

abbrev pub invariant-loop-i : goal.invariant-loop-i
invariant-loop-i l = (l.n ≤ l.i) × (length (calls (words l.list)) ≡ l.n + length (calls (drop l.i (words l.list))))
