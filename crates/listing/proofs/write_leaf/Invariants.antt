use Prim.Native.Nat.{◌≤◌}
use Rattle.words.specs.Words.{words}
use Rattle.listing.proofs.Monomials.{Written}
use Rattle.listing.proofs.write_leaf.Given as goal

abbrev pub invariant-loop-i : goal.invariant-loop-i
invariant-loop-i l = (l.i ≤ l.c) × Written (words l.image.bytes.now) l.image.shape l.lo l.initial.out l.out l.n l.i
