use mathlib.Core.Path.{◌≡◌}
use Prim.Native.Nat.{ℕ, ◌<◌}
use lib.ListN.{length, get_or}
use Rattle.words.specs.Words.{words}
use Rattle.index_sound.proofs.unbounded.Given as goal

abbrev pub invariant-loop-i : goal.invariant-loop-i
invariant-loop-i l = ((length l.hi ≡ length l.initial.hi) × ((v : ℕ) → v < l.i → get_or (words l.hi) v 0 ≡ 32768))
