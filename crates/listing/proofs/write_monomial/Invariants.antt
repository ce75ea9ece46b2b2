use Prim.Native.Nat.{◌-◌}
use Rattle.words.specs.Words.{words}
use Rattle.listing.proofs.Copying.{length_at, Copied}
use Rattle.listing.proofs.write_monomial.Given as goal

abbrev pub invariant-loop-e : goal.invariant-loop-e
invariant-loop-e l = Copied (words l.image.bytes.now) l.at l.initial.out l.out l.i

abbrev pub decreases-loop-e : goal.decreases-loop-e
decreases-loop-e l = length_at (words l.image.bytes.now) l.at - l.i
