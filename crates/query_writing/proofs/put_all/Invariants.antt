use mathlib.Core.Path.{◌≡◌}
use lib.ListN.{length, take}
use Rattle.words.specs.Words.{paste_w}
use Rattle.query_writing.proofs.put_all.Given as goal

abbrev pub invariant-loop-i : goal.invariant-loop-i
invariant-loop-i l = (length l.q ≡ length l.initial.q) × (l.q ≡ paste_w l.initial.q l.at (take l.i l.xs))
