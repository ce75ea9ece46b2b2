use Prim.Native.Nat.{ℕ, ◌+◌, ◌<◌}
use lib.ListN.{get_or}
use Rattle.words.specs.Words.{words}
use Rattle.label_sound.proofs.numbers_ok.Given as goal

abbrev pub invariant-loop-i : goal.invariant-loop-i
invariant-loop-i l = (k : ℕ) → k < l.i → get_or (words l.bytes) (l.at + k) 0 < l.n
