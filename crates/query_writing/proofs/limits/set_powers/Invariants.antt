use lib.ListN.{length}
use mathlib.Core.Path.{◌≡◌}
use Rattle.words.specs.Words.{words}
use Rattle.query_writing.proofs.Limiting.{Setting}
use Rattle.query_writing.proofs.limits.set_powers.Given as goal

abbrev pub invariant-loop-w : goal.invariant-loop-w
invariant-loop-w l = (length l.q ≡ length l.initial.q) × Setting l.q l.s (words l.m) (length l.yielded)
