use mathlib.Core.Path.{◌≡◌}
use Prim.Native.Nat.{◌+◌}
use lib.ListN.{length, drop}
use Rattle.words.specs.Words.{words}
use Rattle.index_theory.specs.Calls.{body_of}
use Rattle.call_list.proofs.body_words.Given as goal

abbrev pub invariant-loop-i : goal.invariant-loop-i
invariant-loop-i l = length (body_of (words l.list)) ≡ l.i + length (body_of (drop l.i (words l.list)))
