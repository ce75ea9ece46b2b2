use mathlib.Core.Path.{◌≡◌}
use Prim.Native.Nat.{◌-◌, ◌≤◌}
use lib.ListN.{drop}
use Rattle.words.specs.Words.{words}
use Rattle.monomial.specs.Monomial.{to_end}
use Rattle.monomial.proofs.words_to_end.Given as goal

abbrev pub invariant-loop-i : goal.invariant-loop-i
invariant-loop-i l = (l.at ≤ l.i) × (to_end 0 (drop l.at (words l.s)) ≡ to_end (l.i - l.at) (drop l.i (words l.s)))
