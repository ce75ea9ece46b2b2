use Prim.Native.Nat.{◌+◌}
use Rattle.words.specs.Words.{words}
use Rattle.index_image.specs.Shape as at
use Rattle.index_image.proofs.Reading.{Folding}
use Rattle.index_image.proofs.image.ReadyImage.gcd_of.Given as goal

abbrev pub invariant-loop-i : goal.invariant-loop-i
invariant-loop-i l = Folding (words l.self.bytes.now) l.self.shape (at.permutation_at l.self.shape + l.lo) l.c l.acc l.n l.i
