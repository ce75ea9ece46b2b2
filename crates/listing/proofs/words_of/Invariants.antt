use mathlib.Core.Path.{◌≡◌}
use Prim.Native.Nat.{◌≤◌, ◌*◌}
use lib.ListN.{length}
use Rattle.words.specs.Words.{words}
use Rattle.index_image.specs.Rows.{entries_from}
use Rattle.listing.specs.Listed.{lms}
use Rattle.listing.proofs.words_of.Given as goal

abbrev pub invariant-loop-i : goal.invariant-loop-i
invariant-loop-i l = (l.i ≤ l.image.shape.entries) × ((l.n ≡ length (lms (words l.image.bytes.now) l.image.shape (entries_from (words l.image.bytes.now) l.image.shape 0 l.i))) × (l.n ≤ 65 * l.i))
