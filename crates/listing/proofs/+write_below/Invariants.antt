use lib.ListN.{get_or}
use Rattle.words.specs.Words.{words}
use Rattle.index_image.specs.Shape as at
use Rattle.listing.proofs.+write_below.Given as goal

abbrev pub decreases-write_below : goal.decreases-write_below
decreases-write_below l = get_or (words l.image.now.bytes.now) (at.count_at (at.node_at l.image.now.shape l.k)) 0
